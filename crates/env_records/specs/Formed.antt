-- Records whose numbers rise inwards.
use Rattle.std.specs.Prelude.{List}
use Rattle.std.specs.Option.{option_map}
use Rattle.js_values.specs.Chains.{LeadBack}
use Rattle.js_values.specs.Records.{Record}

-- the record outside has a smaller number
abbrev pub LeadOutwards : {V : Type 0} → List (Record V) → Type 0
LeadOutwards records = LeadBack (λ r. option_map (λ e. e.0) r.outer) records

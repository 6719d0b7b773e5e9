-- Names are looked up record by record.
use Rattle.std.proofs.Common.{◌≡◌, ℕ, ◌<◌, List, length, Option, Some, None, is_some, IsSome, refl, sym, ap, ◌∙◌, arith}
use Rattle.std.specs.List.{slice_get}
use Rattle.std.specs.Option.{option_map}
use Rattle.std.proofs.lemmas.Bool.{false≢true}
use Rattle.std.proofs.lemmas.Option.{slice_get_within}
use Rattle.js_values.specs.declared.ids.EnvId.{EnvId}
use Rattle.js_values.specs.Chains.{onwards}
use Rattle.js_values.specs.Records.{Binding, Record, found, if_has, first_with, records_round, lookup, bound_in}
use Rattle.js_values.proofs.ChainLaws.{chain_step}
use Rattle.env_records.specs.Formed.{LeadOutwards}

module _ {V : Type 0} (name : List ℕ) (records : List (Record V)) (back : LeadOutwards records) (i : ℕ) (r : Record V) (here : slice_get records i ≡ Some r) where
  -- this record, and then those round it
  lookup_step : lookup name records i ≡ if_has i (found name r.bindings) (first_with name (onwards (option_map (λ e. e.0) r.outer) (records_round records)))
  lookup_step = ap (first_with name) (chain_step (λ (x : Record V). option_map (λ e. e.0) x.outer) records back i r here)

  has_some : (b : Option (Binding V)) (rest : Option ℕ) → IsSome b → if_has i b rest ≡ Some i
  has_some None rest some = absurd (false≢true some)
  has_some (Some b) rest some = refl

  pub lookup_here : IsSome (found name r.bindings) → lookup name records i ≡ Some i
  lookup_here some = lookup_step ∙ has_some (found name r.bindings) (first_with name (onwards (option_map (λ e. e.0) r.outer) (records_round records))) some

  pub bound_here : IsSome (found name r.bindings) → IsSome (bound_in name (slice_get records i))
  bound_here some = ap (λ x. is_some (bound_in name x)) here ∙ some

  lookup_outside : found name r.bindings ≡ None → lookup name records i ≡ first_with name (onwards (option_map (λ e. e.0) r.outer) (records_round records))
  lookup_outside none = lookup_step ∙ ap (λ b. if_has i b (first_with name (onwards (option_map (λ e. e.0) r.outer) (records_round records)))) none

  pub lookup_ends : found name r.bindings ≡ None → r.outer ≡ None → lookup name records i ≡ None
  lookup_ends none outermost = lookup_outside none ∙ ap (λ o. first_with name (onwards (option_map (λ e. e.0) o) (records_round records))) outermost

  pub lookup_on : (e : EnvId) → found name r.bindings ≡ None → r.outer ≡ Some e → lookup name records e.0 ≡ lookup name records i
  lookup_on e none outer = sym (lookup_outside none ∙ ap (λ o. first_with name (onwards (option_map (λ x. x.0) o) (records_round records))) outer)

  pub outside_below : (e : EnvId) → r.outer ≡ Some e → e.0 < i
  outside_below e outer = back i e.0 r here (ap (option_map (λ x. x.0)) outer)

  pub outside_within : (e : EnvId) → r.outer ≡ Some e → e.0 < length records
  outside_within e outer = let lt = outside_below e outer in let below = slice_get_within records i r here in omega (arith, lt, below)

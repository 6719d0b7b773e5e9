-- Records of variables (ECMA-262 10.2.1.1): bindings of names, in the order in which they were made, and the record outside.
use Rattle.std.specs.Prelude.{ℕ, Bool, List, [], ◌∷◌, Option, Some, None, if◌then◌else◌}
use Rattle.std.specs.Option.{option_map}
use Rattle.origin_labels.specs.Names.{same_name}
use Rattle.js_values.specs.declared.ids.EnvId.{EnvId}
use Rattle.js_values.specs.Chains.{chain}

pub record Binding (V : Type 0) : Type 0 where
  pub name : List ℕ
  pub mutable : Bool
  pub value : V

abbrev pub Bindings : Type 0 → Type 0
Bindings V = List (Binding V)

pub record Record (V : Type 0) : Type 0 where
  pub outer : Option EnvId
  pub bindings : Bindings V

-- the binding of a name
abbrev pub found : {V : Type 0} → List ℕ → Bindings V → Option (Binding V)
found name [] = None
found name (b ∷ bindings) = if same_name b.name name then Some b else found name bindings

-- the bindings, with another value of the name
abbrev pub rebound : {V : Type 0} → List ℕ → V → Bindings V → Bindings V
rebound name v [] = []
rebound name v (b ∷ bindings) = if same_name b.name name then record b { value = v } ∷ bindings else b ∷ rebound name v bindings

-- the record with this number and those round it, the innermost first
abbrev pub records_round : {V : Type 0} → List (Record V) → ℕ → List (ℕ × Record V)
records_round records i = chain (λ r. option_map (λ e. e.0) r.outer) records i

abbrev pub if_has : {V : Type 0} → ℕ → Option (Binding V) → Option ℕ → Option ℕ
if_has i None rest = rest
if_has i (Some b) rest = Some i

-- the first of the records that has the name
abbrev pub first_with : {V : Type 0} → List ℕ → List (ℕ × Record V) → Option ℕ
first_with name [] = None
first_with name (e ∷ records) = if_has e.0 (found name e.1.bindings) (first_with name records)

-- the innermost record, from this one on outwards, that has the name (ECMA-262 10.2.2.1)
abbrev pub lookup : {V : Type 0} → List ℕ → List (Record V) → ℕ → Option ℕ
lookup name records i = first_with name (records_round records i)

-- the binding of a name in a record that there may be
abbrev pub bound_in : {V : Type 0} → List ℕ → Option (Record V) → Option (Binding V)
bound_in name None = None
bound_in name (Some r) = found name r.bindings

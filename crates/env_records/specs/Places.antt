-- The place of a name among bindings, which the code looks for once.
use Rattle.std.specs.Prelude.{◌≡◌, ℕ, zero, suc, ◌<◌, List, [], ◌∷◌, Option, Some, None, IsSome, length, slice_get}
use Rattle.js_values.specs.Records.{Binding, Bindings, Record, found, rebound, bound_in}
use Rattle.env_records.specs.declared.binding_place.BindingPlace.{BindingPlace}

-- the bindings with another value at a place
abbrev pub with_value_at : {V : Type 0} → ℕ → V → Bindings V → Bindings V
with_value_at place v [] = []
with_value_at zero v (b ∷ bindings) = record b { value = v } ∷ bindings
with_value_at (suc place) v (b ∷ bindings) = b ∷ with_value_at place v bindings

-- the name has its binding at this place: there it is found, and there it gets another value
pub record StandsAt {V : Type 0} (name : List ℕ) (bindings : Bindings V) (place : ℕ) : Type 0 where
  pub within : place < length bindings
  pub here : slice_get bindings place ≡ found name bindings
  pub changes : (v : V) → with_value_at place v bindings ≡ rebound name v bindings

abbrev pub IsPlace : {V : Type 0} → List ℕ → Bindings V → Option ℕ → Type 0
IsPlace name bindings None = found name bindings ≡ None
IsPlace name bindings (Some place) = StandsAt name bindings place

-- ---- a place in one of the records

-- the binding at a place of a record that there may be
abbrev pub binding_of : {V : Type 0} → ℕ → Option (Record V) → Option (Binding V)
binding_of place None = None
binding_of place (Some r) = slice_get r.bindings place

-- the binding at a place
abbrev pub binding_at : {V : Type 0} → List (Record V) → BindingPlace → Option (Binding V)
binding_at records p = binding_of p.place (slice_get records p.record.0)

abbrev pub IsThere : {V : Type 0} → List (Record V) → BindingPlace → Type 0
IsThere records p = IsSome (binding_at records p)

-- in the record of the place, the name is bound there
abbrev pub IsFoundAt : {V : Type 0} → List ℕ → List (Record V) → BindingPlace → Type 0
IsFoundAt name records p = binding_at records p ≡ bound_in name (slice_get records p.record.0)

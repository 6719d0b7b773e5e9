-- Places of names among bindings, and lists of records.
use Rattle.std.proofs.Common.{◌≡◌, ℕ, zero, suc, ◌<◌, ◌⊎◌, inl, inr, true, List, [], ◌∷◌, ◌++◌, length, Option, Some, None, is_some, IsSome, IfSome, refl, sym, ap, ◌∙◌, arith}
use Rattle.std.specs.List.{slice_get}
use Rattle.std.specs.Option.{option_map}
use Rattle.std.proofs.lemmas.Bool.{false≢true}
use Rattle.std.proofs.lemmas.Option.{none-some, same_Some, slice_get_within}
use Rattle.js_values.specs.declared.ids.EnvId.{EnvId}
use Rattle.js_values.specs.Chains.{LeadBack}
use Rattle.js_values.specs.Records.{Binding, Record, bound_in}
use Rattle.env_records.specs.declared.binding_place.BindingPlace.{BindingPlace}
use Rattle.env_records.specs.Places.{StandsAt, binding_of, binding_at, IsThere, IsFoundAt}
use Rattle.env_records.specs.Formed.{LeadOutwards}

-- an element of a list with one more is one of the list, or the last
snoc_cases : {X : Type 0} (xs : List X) (x : X) (i : ℕ) (y : X) → slice_get (xs ++ x ∷ []) i ≡ Some y → (slice_get xs i ≡ Some y) ⊎ ((i ≡ length xs) × (x ≡ y))
snoc_cases [] x zero y e = inr (refl, same_Some x y e)
snoc_cases [] x (suc i) y e = absurd (none-some y e)
snoc_cases (z ∷ xs) x zero y e = inl e
snoc_cases (z ∷ xs) x (suc i) y e = elim (snoc_cases xs x i y e) as (λ _. (slice_get xs i ≡ Some y) ⊎ ((suc i ≡ suc (length xs)) × (x ≡ y))) [
  | inl there ↦ inl there
  | inr last ↦ inr (ap suc last.0, last.1)
]

-- a new element that leads to one before it
pub LeadBack-push : {A : Type 0} (next : A → Option ℕ) (xs : List A) (a : A) → LeadBack next xs → ((j : ℕ) → next a ≡ Some j → j < length xs) → LeadBack next (xs ++ a ∷ [])
LeadBack-push next xs a back new i j x here leads = elim (snoc_cases xs a i x here) as (λ _. j < i) [
  | inl there ↦ back i j x there leads
  | inr last ↦ let lt = new j (ap next last.1 ∙ leads) in omega (arith, lt, last.0)
]

-- a new record, inside one of the list
pub LeadOutwards-push : {V : Type 0} (items records : List (Record V)) → items ≡ records → (r : Record V) (outer : Option EnvId) → r.outer ≡ outer → LeadOutwards items → IfSome outer (λ o. o.0 < length records) → LeadOutwards (items ++ r ∷ [])
LeadOutwards-push items records same r outer is back inside =
    LeadBack-push (λ x. option_map (λ e. e.0) x.outer) items r back
    (λ j leads. let lt = number_below outer j inside (ap (option_map (λ e. e.0)) (sym is) ∙ leads) in omega (arith, lt, ap length same))
  where
    number_below : (o : Option EnvId) (j : ℕ) → IfSome o (λ e. e.0 < length records) → option_map (λ e. e.0) o ≡ Some j → j < length records
    number_below None j inside leads = absurd (none-some j leads)
    number_below (Some e) j inside leads = let same = same_Some e.0 j leads in omega (arith, inside, same)

-- what is read of an element that there may be, is read of one of the list
pub some_within : {A X : Type 0} (f : Option A → Option X) → f None ≡ None → (xs : List A) (i : ℕ) → IsSome (f (slice_get xs i)) → i < length xs
some_within f none xs i some = within (slice_get xs i) refl some
  where
    within : (o : Option _) → slice_get xs i ≡ o → IsSome (f o) → i < length xs
    within None here some = absurd (false≢true (ap is_some (sym none) ∙ some))
    within (Some x) here some = slice_get_within xs i x here

is_some-within : {X : Type 0} (xs : List X) (i : ℕ) → i < length xs → is_some (slice_get xs i) ≡ true
is_some-within [] i lt = absurd (omega arith)
is_some-within (x ∷ xs) zero lt = refl
is_some-within (x ∷ xs) (suc i) lt = is_some-within xs i (omega arith)

-- the element that there is
pub some_of : {X : Type 0} (o : Option X) → IsSome o → X
some_of None some = absurd (false≢true some)
some_of (Some x) some = x

pub some_is : {X : Type 0} (o : Option X) (some : IsSome o) → o ≡ Some (some_of o some)
unfolding some_of
some_is None some = absurd (false≢true some)
some_is (Some x) some = refl

-- a binding is where its name stands
pub stands_there : {V : Type 0} (name : List ℕ) (records : List (Record V)) (i : ℕ) (r : Record V) (place : ℕ) (b : Binding V) → slice_get records i ≡ Some r → StandsAt name r.bindings place → bound_in name (slice_get records i) ≡ Some b → slice_get r.bindings place ≡ Some b
stands_there name records i r place b here stands bound = stands.here ∙ sym (ap (bound_in name) here) ∙ bound

-- a name that is bound in a record, is bound in one of the list
pub bound_within : {V : Type 0} (name : List ℕ) (records : List (Record V)) (i : ℕ) → IsSome (bound_in name (slice_get records i)) → i < length records
bound_within name records i bound = some_within (bound_in name) refl records i bound

-- ---- a place in one of the records

module _ {V : Type 0} (records : List (Record V)) (p : BindingPlace) where
  pub record_within : IsThere records p → p.record.0 < length records
  record_within there = some_within (binding_of p.place) refl records p.record.0 there

  module _ (r : Record V) (here : slice_get records p.record.0 ≡ Some r) where
    pub binding_is : binding_at records p ≡ slice_get r.bindings p.place
    binding_is = ap (binding_of p.place) here

    pub place_within : IsThere records p → p.place < length r.bindings
    place_within there = some_within (λ o. o) refl r.bindings p.place (ap is_some (sym binding_is) ∙ there)

    module _ (name : List ℕ) (stands : StandsAt name r.bindings p.place) where
      pub is_found : IsFoundAt name records p
      is_found = binding_is ∙ stands.here ∙ sym (ap (bound_in name) here)

      pub is_there : IsThere records p
      is_there = ap is_some binding_is ∙ is_some-within r.bindings p.place stands.within

      pub is_bound : IsSome (bound_in name (slice_get records p.record.0))
      is_bound = ap is_some (sym is_found) ∙ is_there

-- What leads from one element of a list to another: an object to its prototype, and a record to the one outside it.
use Rattle.std.specs.Prelude.{◌≡◌, ℕ, zero, suc, ◌<◌, List, [], ◌∷◌, Option, Some, None, slice_get}

-- the element, if it is there, with its number and what it leads to
abbrev pub beginning : {A : Type 0} → ℕ → Option A → (A → List (ℕ × A)) → List (ℕ × A)
beginning i None behind = []
beginning i (Some a) behind = (i, a) ∷ behind a

abbrev pub onwards : {X : Type 0} → Option ℕ → (ℕ → List X) → List X
onwards None behind = []
onwards (Some i) behind = behind i

-- the element with this number and those that it leads to, so many at most
abbrev pub chain_within : {A : Type 0} → (A → Option ℕ) → List A → ℕ → ℕ → List (ℕ × A)
chain_within next xs zero i = []
chain_within next xs (suc n) i = beginning i (slice_get xs i) (λ a. onwards (next a) (chain_within next xs n))

-- each leads to a smaller number, so that this is all of them
abbrev pub chain : {A : Type 0} → (A → Option ℕ) → List A → ℕ → List (ℕ × A)
chain next xs i = chain_within next xs (suc i) i

-- each element leads to one that stands before it, if to any
abbrev pub LeadBack : {A : Type 0} → (A → Option ℕ) → List A → Type 0
LeadBack next xs = (i j : ℕ) (a : _) → slice_get xs i ≡ Some a → next a ≡ Some j → j < i

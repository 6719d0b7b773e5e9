-- A store of labels as numbers of distinct sets.
use Rattle.std.specs.Prelude.{◌≡◌, ℕ, Bool, ◌<◌, ◌==◌, ◌&&◌, ◌||◌, ◌↔◌, List, Option, Some, length, slice_index_or, if◌then◌else◌}
use Rattle.std.specs.Map.{lookup}
use Rattle.origin_labels.specs.Label.{Label, IsLabel, bottom, union}
use Rattle.interned_labels.specs.declared.interned.InternedLabel.{InternedLabel}

-- what contracts see of the store
pub record InternedSets : Type 0 where
  -- the sets by number
  pub sets : List Label
  -- the unions that were computed: the numbers of two sets, with the number of their union
  pub unions : List ((ℕ × ℕ) × ℕ)
  -- origin numbers are below it
  pub room : ℕ

-- the set with a number
abbrev pub set_at : List Label → ℕ → Label
set_at sets n = slice_index_or sets n bottom

-- the store made the label: it has a set with that number
pub record IsMade (store : InternedSets) (label : InternedLabel) : Type 0 where
  pub known : label.0 < length store.sets
  pub rises : IsLabel (set_at store.sets label.0)

-- two labels of the store are equal exactly where their sets are
abbrev pub HasDistinctLabels : InternedSets → Type 0
HasDistinctLabels store = (a b : InternedLabel) → IsMade store a → IsMade store b → (a ≡ b) ↔ (set_at store.sets a.0 ≡ set_at store.sets b.0)

-- no set has two numbers
abbrev pub AreDistinct : List Label → Type 0
AreDistinct sets = (m n : ℕ) → m < length sets → n < length sets → set_at sets m ≡ set_at sets n → m ≡ n

-- two pairs of numbers are equal
abbrev pub same_pair : ℕ × ℕ → ℕ × ℕ → Bool
same_pair p q = (p.0 == q.0) && (p.1 == q.1)

-- the number of the union of two sets, where nothing has to be computed: they are one set, one is empty, or it was computed before
unfoldable pub known_union : List ((ℕ × ℕ) × ℕ) → ℕ → ℕ → Option ℕ
known_union unions a b = if (a == b) || (b == 0) then Some a else (if a == 0 then Some b else lookup (same_pair (a, b)) unions)

-- what needed no computation needs none later, and has the same number
abbrev pub KeepsUnions : List ((ℕ × ℕ) × ℕ) → List ((ℕ × ℕ) × ℕ) → Type 0
KeepsUnions old new = (a b n : ℕ) → known_union old a b ≡ Some n → known_union new a b ≡ Some n

-- n is the number of the union of the sets a and b
pub record IsUnion (sets : List Label) (a b n : ℕ) : Type 0 where
  pub first : a < length sets
  pub second : b < length sets
  pub known : n < length sets
  pub is : set_at sets n ≡ union (set_at sets a) (set_at sets b)

-- number 0 is the empty set, and each number that was kept is that of a union
pub record IsFormed (store : InternedSets) : Type 0 where
  pub known : 0 < length store.sets
  pub empty : set_at store.sets 0 ≡ bottom
  pub unions : (a b n : ℕ) → lookup (same_pair (a, b)) store.unions ≡ Some n → IsUnion store.sets a b n

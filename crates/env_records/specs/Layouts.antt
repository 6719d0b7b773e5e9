-- The names that a record begins with, each with whether it can be assigned to.
use Rattle.std.specs.Prelude.{ℕ, suc, Bool, List, [], ◌∷◌, Option, Some, None, map, if◌then◌else◌}
use Rattle.std.specs.Option.{option_map}
use Rattle.std.specs.declared.boxed.Box.{Box}
use Rattle.indexmap.specs.IndexSet.{IndexSet}
use Rattle.origin_labels.specs.Names.{same_name}
use Rattle.js_values.specs.Records.{Bindings}

pub record LaidName : Type 0 where
  pub name : List ℕ
  pub mutable : Bool

-- the first place that has the name
abbrev pub first_place : List ℕ → List LaidName → Option ℕ
first_place name [] = None
first_place name (n ∷ names) = if same_name n.name name then Some 0 else option_map suc (first_place name names)

-- the names with their values, as long as there are both
abbrev pub laid : {V : Type 0} → List LaidName → List V → Bindings V
laid [] values = []
laid (n ∷ names) [] = []
laid (n ∷ names) (v ∷ values) = record { name = n.name; mutable = n.mutable; value = v } ∷ laid names values

-- ---- the index of a layout

abbrev pub texts_of : List LaidName → List (List ℕ)
texts_of names = map (λ n. n.name) names

-- the texts of the index, and these where there is none
abbrev pub indexed : {S Z : Type 0} → Option (Box (IndexSet (List ℕ) S) Z) → List (List ℕ) → List (List ℕ)
indexed None texts = texts
indexed (Some index) texts = index.value.keys

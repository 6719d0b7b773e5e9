-- The keys that `for in` takes (ECMA-262 12.6.4): the enumerable ones in order of insertion, the object's own first, then those of each prototype. A key
-- that was met nearer to the object, enumerable or not, is not taken again.
use Rattle.std.specs.Prelude.{ℕ, Bool, ◌&&◌, ◌||◌, not, List, [], ◌∷◌, ◌++◌, Option, Some, None, if◌then◌else◌}
use Rattle.origin_labels.specs.Label.{Label, bottom, union}
use Rattle.origin_labels.specs.Names.{has_name}
use Rattle.js_values.specs.declared.property.Slot.{Slot}
use Rattle.js_values.specs.Objects.{Rows, Object, keys_of}

-- the enumerable keys that weren't met
abbrev pub fresh_keys : {T : Type 0} → List (List ℕ) → Rows (Slot T) → List (List ℕ)
fresh_keys met [] = []
fresh_keys met (r ∷ rows) = if r.1.marks.enumerable && not (has_name r.0 met) then r.0 ∷ fresh_keys met rows else fresh_keys met rows

-- the label on which the being there of all properties depends
abbrev pub existences : Rows (Slot Label) → Label
existences [] = bottom
existences (r ∷ rows) = union r.1.existence (existences rows)

-- keys, and the label on which they depend
pub record Keys : Type 0 where
  pub keys : List (List ℕ)
  pub walk : Label

-- the keys of an object and its prototypes, but those that were met
abbrev pub keys_after : List (List ℕ) → List (ℕ × Object Label) → Keys
keys_after met [] = record { keys = []; walk = bottom }
keys_after met (e ∷ objects) = record {
  keys = fresh_keys met e.1.rows ++ (keys_after (met ++ keys_of e.1.rows) objects).keys;
  walk = union e.1.structure (union e.1.link (union (existences e.1.rows) (keys_after (met ++ keys_of e.1.rows) objects).walk));
}

-- the keys that `for in` takes
abbrev pub keys : List (ℕ × Object Label) → Keys
keys objects = keys_after [] objects

-- the own keys in their order: all, or the enumerable ones (15.2.3.4, 15.2.3.14)
abbrev pub listed_keys : {T : Type 0} → Bool → Rows (Slot T) → List (List ℕ)
listed_keys all [] = []
listed_keys all (r ∷ rows) = if all || r.1.marks.enumerable then r.0 ∷ listed_keys all rows else listed_keys all rows

-- the properties of an object that there may be
abbrev pub rows_in : {T : Type 0} → Option (Object T) → Rows (Slot T)
rows_in None = []
rows_in (Some p) = p.rows

-- ---- the own keys of an object

-- they depend on which there are, and on the being there of each
abbrev pub own_keys_label : Option (Object Label) → Label
own_keys_label None = bottom
own_keys_label (Some p) = union p.structure (existences p.rows)

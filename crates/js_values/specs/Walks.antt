-- An object and its prototypes, and what is found along them (ECMA-262 8.12.2).
use Rattle.std.specs.Prelude.{ℕ, List, [], ◌∷◌, Option, Some, None}
use Rattle.origin_labels.specs.Label.{Label, bottom, union}
use Rattle.js_values.specs.declared.property.Slot.{Slot}
use Rattle.js_values.specs.Chains.{chain}
use Rattle.js_values.specs.Objects.{Property, PlainObject, Object, number_of, own}

-- an object with its number, and its prototypes
abbrev pub plain_chain : List PlainObject → ℕ → List (ℕ × PlainObject)
plain_chain heap o = chain (λ p. number_of p.proto) heap o

abbrev pub object_chain : {T : Type 0} → List (Object T) → ℕ → List (ℕ × Object T)
object_chain heap o = chain (λ p. number_of p.proto) heap o

-- ---- without labels: the property that the key names, and the object that has it

abbrev pub plain_found_at : ℕ → Option Property → Option (ℕ × Property) → Option (ℕ × Property)
plain_found_at o None rest = rest
plain_found_at o (Some p) rest = Some (o, p)

abbrev pub plain_find : List ℕ → List (ℕ × PlainObject) → Option (ℕ × Property)
plain_find key [] = None
plain_find key (e ∷ objects) = plain_found_at e.0 (own key e.1.rows) (plain_find key objects)

-- ---- with labels: the walk to a property depends on the structure and the link of each object that hasn't it, and on its existence

pub record Found : Type 0 where
  pub at : Option (ℕ × Slot Label)
  pub walk : Label

abbrev pub found_at : ℕ → Object Label → Option (Slot Label) → Found → Found
found_at o p None rest = record { at = rest.at; walk = union p.structure (union p.link rest.walk) }
found_at o p (Some s) rest = record { at = Some (o, s); walk = s.existence }

abbrev pub find : List ℕ → List (ℕ × Object Label) → Found
find key [] = record { at = None; walk = bottom }
find key (e ∷ objects) = found_at e.0 e.1 (own key e.1.rows) (find key objects)

-- The elements of an array literal.
use Rattle.std.specs.Prelude.{◌≡◌, ℕ, suc, Bool, true, false, List, [], ◌∷◌}
use Rattle.js_ast.specs.declared.trees.Item as node
use Rattle.js_values.specs.declared.value.Labelled.{Labelled}
use Rattle.property_requests.specs.declared.arrays.Element.{Element}

abbrev pub is_hole : node.Item → Bool
is_hole node.Hole = true
is_hole (node.Value' a p e) = false

-- these are the elements of items from a number on, which have these values in turn, as far as both go
abbrev pub element_with : {T : Type 0} → ℕ → List (Labelled T) → (List (Labelled T) → List (Element T)) → List (Element T)
element_with n [] more = []
element_with n (v ∷ vs) more = record { place = n; value = v } ∷ more vs

abbrev pub elements_from : {T : Type 0} → ℕ → List node.Item → List (Labelled T) → List (Element T)
elements_from n [] vs = []
elements_from n (node.Hole ∷ items) vs = elements_from (suc n) items vs
elements_from n (node.Value' a p e ∷ items) vs = element_with n vs (λ rest. elements_from (suc n) items rest)

abbrev pub are_elements : {T : Type 0} → List node.Item → List (Labelled T) → List (Element T) → Type 0
are_elements items vs elements = elements ≡ elements_from 0 items vs

-- An element that is added to an array, and the `length` of the array.
use Rattle.std.specs.Prelude.{◌≡◌, ℕ, suc, true, false, List, Option, Some, None, IsSome, Ok}
use Rattle.origin_labels.specs.Label.{Label}
use Rattle.flow_frames.specs.declared.faults.Rule.TheVariants.{W2}
use Rattle.js_values.specs.declared.property.Marks.{Marks}
use Rattle.js_values.specs.declared.property.Body.{Body}
use Rattle.js_values.specs.declared.property.Slot.{Slot}
use Rattle.js_values.specs.Objects.{Object, own, changed, with_row}
use Rattle.object_heap.specs.Acts.{Act, on_slot, under, with_rows, value_have, added, lengthened}
use Rattle.js_values.specs.Arrays.{length_key, length_body, element_of, is_past}

-- ---- whether the element that a key names stands at or above the `length`

pub record StandsPast {T : Type 0} (key : List ℕ) (p : Object T) (i : ℕ) : Type 0 where
  pub element : element_of p.class key ≡ Some i
  pub there : IsSome (own length_key p.rows)
  pub past : (s : Slot T) → own length_key p.rows ≡ Some s → is_past i s.body ≡ true

-- the key names no element, or one below the `length`, or there is none
abbrev pub IsBelow : {T : Type 0} → Option ℕ → Option (Slot T) → Type 0
IsBelow None length = Unit {0}
IsBelow (Some i) None = Unit {0}
IsBelow (Some i) (Some s) = is_past i s.body ≡ false

abbrev pub IsPast : {T : Type 0} → List ℕ → Object T → Option ℕ → Type 0
IsPast key p None = IsBelow (element_of p.class key) (own length_key p.rows)
IsPast key p (Some i) = StandsPast key p i

-- ---- the parts of an addition

-- a property more
abbrev pub append_own : List ℕ → Label → Body → Label → Marks → Object Label → Object Label
append_own key need body label marks p = with_rows p (with_row key (added need body label marks p.structure) p.rows)

-- the `length` is asked by rule W2
abbrev pub ask_length : Label → Act
ask_length need p = on_slot (own length_key p.rows) p (λ s. under W2 need (value_have s) (Ok p))

-- an element more, and another `length`
abbrev pub lengthen_own : ℕ → List ℕ → Label → Body → Label → Marks → Object Label → Object Label
lengthen_own i key need body label marks p = with_rows p (changed length_key (lengthened i need) (with_row key (added need body label marks p.structure) p.rows))

-- an element at or above the `length`, by rule W2
abbrev pub add_past : ℕ → List ℕ → Label → Body → Label → Marks → Act
add_past i key need body label marks p = on_slot (own length_key p.rows) p (λ s. under W2 need (value_have s) (Ok (lengthen_own i key need body label marks p)))

-- the `length` becomes the element's number and 1, with this label
abbrev pub length_set : {T : Type 0} → ℕ → T → Object T → Object T
length_set i label p = with_rows p (changed length_key (λ s. record s { body = length_body (suc i); label = label }) p.rows)

-- what keys named before, they name still
abbrev pub Keeps : {T : Type 0} → Object T → Object T → Type 0
Keeps old new = (key : List ℕ) (s : Slot _) → own key old.rows ≡ Some s → own key new.rows ≡ Some s

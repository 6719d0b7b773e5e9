-- What is done with objects (ECMA-262 8.12), and the flow rules W1 to W8. The labels are sets of origins here. `need` is the union that the rule's row
-- names: whoever calls makes it. Of an absent key or object nothing is done.
use Rattle.std.specs.Prelude.{ℕ, suc, false, List, [], ◌∷◌, ◌++◌, Option, Some, None, Result, Ok, Err, slice_get, set, insert, if◌then◌else◌}
use Rattle.origin_labels.specs.Label.{Label, union, within}
use Rattle.origin_labels.specs.Names.{same_name}
use Rattle.flow_frames.specs.declared.faults.Rule.{Rule}
use Rattle.flow_frames.specs.declared.faults.Rule.TheVariants.{W2, W3, W4, W5, W6, W7, W8}
use Rattle.flow_frames.specs.declared.faults.FlowStop.{FlowStop}
use Rattle.js_values.specs.declared.ids.ObjId.{ObjId}
use Rattle.js_values.specs.declared.value.Labelled.{Labelled}
use Rattle.js_values.specs.declared.property.Marks.{Marks}
use Rattle.js_values.specs.declared.property.Body.{Body}
use Rattle.js_values.specs.declared.property.Body.TheVariants.{Data}
use Rattle.js_values.specs.declared.property.Slot.{Slot}
use Rattle.js_values.specs.declared.inner.Class.{Class}
use Rattle.js_values.specs.declared.inner.Inner.{Inner}
use Rattle.js_values.specs.Objects.{Rows, Object, own, changed, without, with_row, fresh_object}
use Rattle.js_values.specs.Arrays.{length_key, element_of, length_body, is_past}

-- what is done comes to this, or it is stopped by a rule, with what the rule needs and has
abbrev pub Acted : Type 0 → Type 0
Acted X = Result X (FlowStop Label)

-- goes on where need is included in have
abbrev pub under : {X : Type 0} → Rule → Label → Label → Acted X → Acted X
under rule need have go_on = if within need have then go_on else Err (record { rule = rule; need = need; have = have })

-- ---- one object

abbrev pub Act : Type 0
Act = Object Label → Acted (Object Label)

abbrev pub with_rows : {T : Type 0} → Object T → Rows (Slot T) → Object T
with_rows p rows = record p { rows = rows }

abbrev pub on_slot : Option (Slot Label) → Object Label → (Slot Label → Acted (Object Label)) → Acted (Object Label)
on_slot None p act = Ok p
on_slot (Some s) p act = act s

-- a property is changed, by a rule that asks for `have` of it
abbrev pub change : Rule → (Slot Label → Label) → (Slot Label → Slot Label) → List ℕ → Label → Act
change rule have new key need p = on_slot (own key p.rows) p (λ s. under rule need (have s) (Ok (with_rows p (changed key new p.rows))))

abbrev pub value_have : Slot Label → Label
value_have s = union s.label s.existence

abbrev pub existence_have : Slot Label → Label
existence_have s = s.existence

-- another body, whose label has the need besides
abbrev pub with_body : Label → Body → Label → Slot Label → Slot Label
with_body need body label s = record s { body = body; label = union label need }

abbrev pub with_marks : Marks → Slot Label → Slot Label
with_marks marks s = record s { marks = marks }

abbrev pub with_existence : Label → Slot Label → Slot Label
with_existence label s = record s { existence = union s.existence label }

abbrev pub overwrite_own : Rule → List ℕ → Label → Body → Label → Act
overwrite_own rule key need body label = change rule value_have (with_body need body label) key need

abbrev pub set_own_attributes : List ℕ → Label → Marks → Act
set_own_attributes key need marks = change W6 existence_have (with_marks marks) key need

abbrev pub raise_own_existence : List ℕ → Label → Label → Act
raise_own_existence key need label = change W8 existence_have (with_existence label) key need

-- an added property exists as its object has its structure
abbrev pub added : Label → Body → Label → Marks → Label → Slot Label
added need body label marks structure = record { body = body; label = union label need; existence = structure; marks = marks }

-- the `length` of an array with a further element: the number has the label of the old one, and the need
abbrev pub lengthened : ℕ → Label → Slot Label → Slot Label
lengthened i need s = record s { body = length_body (suc i); label = union s.label need }

-- the object with further rows, and with a `length` above the element, by rule W2
abbrev pub stretched : Option ℕ → Option (Slot Label) → Label → Object Label → Rows (Slot Label) → Acted (Object Label)
stretched None length need p rows = Ok (with_rows p rows)
stretched (Some i) None need p rows = Ok (with_rows p rows)
stretched (Some i) (Some s) need p rows = if is_past i s.body then under W2 need (value_have s) (Ok (with_rows p (changed length_key (lengthened i need) rows))) else Ok (with_rows p rows)

abbrev pub add_absent : Option (Slot Label) → List ℕ → Label → Body → Label → Marks → Act
add_absent (Some s) key need body label marks p = Ok p
add_absent None key need body label marks p = under W3 need p.structure (stretched (element_of p.class key) (own length_key p.rows) need p (with_row key (added need body label marks p.structure) p.rows))

abbrev pub add_own : List ℕ → Label → Body → Label → Marks → Act
add_own key need body label marks p = add_absent (own key p.rows) key need body label marks p

abbrev pub remove_own : List ℕ → Label → Act
remove_own key need p = on_slot (own key p.rows) p (λ s. under W4 need s.existence (under W5 need p.structure (Ok (with_rows p (without key p.rows)))))

abbrev pub raise_own_structure : Label → Label → Act
raise_own_structure need label p = under W7 need p.structure (Ok (record p { structure = union p.structure label }))

abbrev pub prevent_own_extensions : Label → Act
prevent_own_extensions need p = under W7 need p.structure (Ok (record p { extensible = false }))

-- ---- the object with a number, in a heap

abbrev pub put_back : {T E : Type 0} → List (Object T) → ℕ → Result (Object T) E → Result (List (Object T)) E
put_back heap o (Ok p) = Ok (set heap o p)
put_back heap o (Err stop) = Err stop

abbrev pub on_object : Option (Object Label) → List (Object Label) → ℕ → Act → Acted (List (Object Label))
on_object None heap o act = Ok heap
on_object (Some p) heap o act = put_back heap o (act p)

abbrev pub act_on : ℕ → Act → List (Object Label) → Acted (List (Object Label))
act_on o act heap = on_object (slice_get heap o) heap o act

-- W2, and W1 for a global name: over a present property that is data
abbrev pub write : Rule → ℕ → List ℕ → Label → Labelled Label → List (Object Label) → Acted (List (Object Label))
write rule o key need v = act_on o (overwrite_own rule key need (Data v.value) v.label)

-- W2, for a present key
abbrev pub set_body : ℕ → List ℕ → Label → Body → Label → List (Object Label) → Acted (List (Object Label))
set_body o key need body label = act_on o (overwrite_own W2 key need body label)

-- W6, for a present key
abbrev pub set_attributes : ℕ → List ℕ → Label → Marks → List (Object Label) → Acted (List (Object Label))
set_attributes o key need marks = act_on o (set_own_attributes key need marks)

-- W8, for a present key
abbrev pub raise_existence : ℕ → List ℕ → Label → Label → List (Object Label) → Acted (List (Object Label))
raise_existence o key need label = act_on o (raise_own_existence key need label)

-- W3, for an absent key, and then W2 for the `length` of an array
abbrev pub add : ℕ → List ℕ → Label → Body → Label → Marks → List (Object Label) → Acted (List (Object Label))
add o key need body label marks = act_on o (add_own key need body label marks)

-- W4, then W5
abbrev pub remove : ℕ → List ℕ → Label → List (Object Label) → Acted (List (Object Label))
remove o key need = act_on o (remove_own key need)

-- W7
abbrev pub raise_structure : ℕ → Label → Label → List (Object Label) → Acted (List (Object Label))
raise_structure o need label = act_on o (raise_own_structure need label)

abbrev pub prevent_extensions : ℕ → Label → List (Object Label) → Acted (List (Object Label))
prevent_extensions o need = act_on o (prevent_own_extensions need)

-- a key is given a property with its labels, whether it had one or not. This is before a run begins, and no rule is asked
abbrev pub given_over : {S : Type 0} → Option S → List ℕ → S → Rows S → Rows S
given_over None key s rows = with_row key s rows
given_over (Some t) key s rows = changed key (λ u. s) rows

abbrev pub given : {S : Type 0} → List ℕ → S → Rows S → Rows S
given key s rows = given_over (own key rows) key s rows

abbrev pub given_to : {T : Type 0} → Option (Object T) → ℕ → List ℕ → Slot T → List (Object T) → List (Object T)
given_to None o key s heap = heap
given_to (Some p) o key s heap = set heap o (with_rows p (given key s p.rows))

abbrev pub give : {T : Type 0} → ℕ → List ℕ → Slot T → List (Object T) → List (Object T)
give o key s heap = given_to (slice_get heap o) o key s heap

-- the same, but a property more stands in front of all but a `length` that is first
abbrev pub behind_length : {S : Type 0} → Option (List ℕ × S) → ℕ
behind_length None = 0
behind_length (Some r) = if same_name r.0 length_key then 1 else 0

abbrev pub first_place : {S : Type 0} → Rows S → ℕ
first_place rows = behind_length (slice_get rows 0)

abbrev pub given_first_over : {S : Type 0} → Option S → List ℕ → S → Rows S → Rows S
given_first_over None key s rows = insert rows (first_place rows) (key, s)
given_first_over (Some t) key s rows = changed key (λ u. s) rows

abbrev pub given_first : {S : Type 0} → List ℕ → S → Rows S → Rows S
given_first key s rows = given_first_over (own key rows) key s rows

abbrev pub given_first_to : {T : Type 0} → Option (Object T) → ℕ → List ℕ → Slot T → List (Object T) → List (Object T)
given_first_to None o key s heap = heap
given_first_to (Some p) o key s heap = set heap o (with_rows p (given_first key s p.rows))

abbrev pub give_first : {T : Type 0} → ℕ → List ℕ → Slot T → List (Object T) → List (Object T)
give_first o key s heap = given_first_to (slice_get heap o) o key s heap

-- a further object: its structure label is the context, and its link label is the context with the label of what gave the prototype
abbrev pub new_object : {T : Type 0} → Class → Option ObjId → T → T → Inner T → List (Object T) → List (Object T)
new_object class proto link structure inner heap = heap ++ fresh_object class inner proto link structure ∷ []

-- What is done for each part of an object literal.
use Rattle.std.specs.Prelude.{◌≡◌, ℕ, Bool, true, false, List, [], ◌∷◌, ◌++◌, map, Option, Some, None, Result, Ok, Err, OnOk, IfErr, slice_get}
use Rattle.origin_labels.specs.Label.{Label, union}
use Rattle.flow_frames.specs.declared.faults.FlowFault.{FlowFault}
use Rattle.flow_frames.specs.Stops.{IfStop}
use Rattle.js_values.specs.declared.property.Body.{Body}
use Rattle.js_values.specs.declared.property.Marks.{Marks}
use Rattle.js_values.specs.declared.property.Slot.{Slot}
use Rattle.js_values.specs.declared.value.Value.{Value}
use Rattle.js_values.specs.Objects.{Object}
use Rattle.js_values.specs.Readings.{IsReading, read_value, read_heap}
use Rattle.object_heap.specs.Acts.{Acted, set_attributes, set_body, add}
use Rattle.object_heap.specs.Formed.{own_in}
use Rattle.es_meaning.specs.Objects.{made_by_script}
use Rattle.es_meaning.specs.Operations as operations
use Rattle.es_meaning.specs.Operations.{as_value, as_getter, as_setter}
use Rattle.es_meaning.specs.Requested.{part_body, part_marks}
use Rattle.flow_meaning.specs.Scopes.{Val}
use Rattle.flow_meaning.specs.Requested.{literal_object}
use Rattle.step_objects.specs.declared.literals.Part.{Part}
use Rattle.step_objects.specs.declared.literals.Part.TheVariants as part
use Rattle.step_objects.specs.declared.literals.LiteralPart.{LiteralPart}

-- the kinds of parts, as the meaning has them
abbrev pub kind_of : Part → operations.Part
kind_of part.Value = as_value
kind_of part.Getter = as_getter
kind_of part.Setter = as_setter

-- what the key has behind a part, of a property with this body
abbrev pub body_over : operations.Part → Body → Value → Body
body_over kind old v = part_body kind (Some (record { body = old; marks = made_by_script })) v

-- a getter or a setter that joins the other half of its property has the label of that besides
abbrev pub label_over : operations.Part → Label → Label → Label
label_over as_value given old = given
label_over as_getter given old = union given old
label_over as_setter given old = union given old

-- a property that is there has other attributes and another body
abbrev pub then_acted : {X : Type 0} → Acted X → (X → Acted X) → Acted X
then_acted (Ok x) next = next x
then_acted (Err stop) next = Err stop

abbrev pub redefined : ℕ → List ℕ → Label → Marks → Body → Label → List (Object Label) → Acted (List (Object Label))
redefined o key need marks body label heap = then_acted (set_attributes o key need marks heap) (set_body o key need body label)

-- that is done, or the property is added
abbrev pub defined_over : Option (Slot Label) → ℕ → operations.Part → List ℕ → Label → Val → List (Object Label) → Acted (List (Object Label))
defined_over (Some s) o kind key need v heap = redefined o key need (part_marks kind) (body_over kind s.body v.value) (label_over kind v.label s.label) heap
defined_over None o kind key need v heap = add o key need (part_body kind None v.value) v.label (part_marks kind) heap

abbrev pub defined_on : ℕ → operations.Part → List ℕ → Label → Val → List (Object Label) → Acted (List (Object Label))
defined_on o kind key need v heap = defined_over (own_in key (slice_get heap o)) o kind key need v heap

-- a call does that, or is stopped as that is, or wants memory
abbrev pub is_done : Acted (List (Object Label)) → Bool
is_done (Ok h) = true
is_done (Err stop) = false

pub record Does {S T : Type 0} (made : S → T → Type 0) (meaning : S → T → Label) (store : S) (act : (T → Label) → List (Object Label) → Acted (List (Object Label))) (old new : List (Object T)) (result : Result (Unit {0}) (FlowFault T)) : Type 0 where
  pub does : OnOk result ((reading : T → Label) → IsReading made meaning store reading → act reading (read_heap reading old) ≡ Ok (read_heap reading new))
  pub stops : IfErr result (IfStop (λ stop. (reading : T → Label) → IsReading made meaning store reading → is_done (act reading (read_heap reading old)) ≡ false))

-- the object of a literal with these parts, and what they are in a reading
abbrev pub keys_in : {T : Type 0} → List (LiteralPart T) → List (operations.Part × List ℕ)
keys_in parts = map (λ p. (kind_of p.part, p.key)) parts

abbrev pub values_in : {T : Type 0} → (T → Label) → List (LiteralPart T) → List Val
values_in reading parts = map (λ p. read_value reading p.value) parts

abbrev pub literal_in : {T : Type 0} → (T → Label) → List (LiteralPart T) → T → Object Label
literal_in reading parts context = literal_object (keys_in parts) (values_in reading parts) (reading context)

-- it stands behind the objects that there were before, in each reading that agrees with the store
pub record IsLiteral {S T : Type 0} (made : S → T → Type 0) (meaning : S → T → Label) (store : S) (before heap : List (Object T)) (context : T) (parts : List (LiteralPart T)) : Type 0 where
  pub is : (reading : T → Label) → IsReading made meaning store reading → read_heap reading heap ≡ read_heap reading before ++ literal_in reading parts context ∷ []

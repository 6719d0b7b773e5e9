-- ToPropertyDescriptor and FromPropertyDescriptor (ECMA-262 8.10.5, 8.10.4).
use Rattle.std.specs.Prelude.{true, ◌||◌, if◌then◌else◌, List, [], ◌∷◌, Option, Some, None}
use Rattle.js_number.specs.declared.primitive.Primitive.TheVariants as prims
use Rattle.js_values.specs.declared.inner.Class.TheVariants as class
use Rattle.native_protocol.specs.declared.registers.Reg.{Reg}
use Rattle.native_protocol.specs.declared.request.Request.{Request}
use Rattle.native_protocol.specs.declared.request.Request.TheVariants.{Make, Get, Has, Define, New}
use Rattle.native_protocol.specs.Steps.{Steps, ask, look, throws_type_error, is_object, is_function}
use Rattle.descriptor_pieces.specs.declared.fields.Field.{Field}
use Rattle.descriptor_pieces.specs.declared.fields.Field.TheVariants as field
use Rattle.descriptor_pieces.specs.declared.fields.Half.{Half}
use Rattle.descriptor_pieces.specs.declared.fields.Half.TheVariants as half
use Rattle.descriptor_pieces.specs.declared.fields.Mark.{Mark}
use Rattle.descriptor_pieces.specs.declared.fields.Mark.TheVariants.{Writable, Enumerable, Configurable}
use Rattle.descriptor_pieces.specs.declared.property.Description.{Description}
use Rattle.descriptor_pieces.specs.declared.property.OwnMarks.{OwnMarks}
use Rattle.descriptor_pieces.specs.declared.property.PropertyRegisters.{PropertyRegisters}
use Rattle.descriptor_pieces.specs.Fields.{field_name, fields_read}
use Rattle.descriptor_pieces.specs.Looks.{is_undefined, is_true, truth_of}
use Rattle.descriptor_pieces.specs.Properties.{half_place, place, marks_in, mark_of, given_marks, nothing, with_mark, with_value, with_half, is_mixed}

-- ---- ToPropertyDescriptor, of the object in a register, with four registers: whether there is a field, and its mark, are looked at in the one
-- of marks, and what else the description names stays in the others

-- step 3.b, 4.b or 6.b: a mark is what ToBoolean makes of the value
abbrev pub mark_taken : Mark → PropertyRegisters → Description → (Description → Steps) → Steps
mark_taken m r d next = look r.marks (λ s. next (with_mark m (truth_of s) d))

-- steps 7.b and 7.c, or 8.b and 8.c: undefined, or what can be called
abbrev pub half_taken : Half → PropertyRegisters → Description → (Description → Steps) → Steps
half_taken h r d next =
    look (half_place r h) (λ s. if is_undefined s || is_function s then next (with_half h (half_place r h) d) else throws_type_error)

abbrev pub field_taken : Field → PropertyRegisters → Description → (Description → Steps) → Steps
field_taken (field.Mark m) r d next = mark_taken m r d next
field_taken field.Value r d next = next (with_value r.value d)
field_taken (field.Half h) r d next = half_taken h r d next

abbrev pub field_got : Field → Reg → PropertyRegisters → Description → (Description → Steps) → Steps
field_got f object r d next = ask (Get object (field_name f) (place r f)) (field_taken f r d next)

abbrev pub field_found : Field → Reg → PropertyRegisters → Description → (Description → Steps) → Steps
field_found f object r d next = look r.marks (λ s. if is_true s then field_got f object r d next else next d)

-- one of steps 3 to 8: the field is read where the object has the property, its own or not
abbrev pub field_read : Field → Reg → PropertyRegisters → Description → (Description → Steps) → Steps
field_read f object r d next = ask (Has object (field_name f) r.marks) (field_found f object r d next)

unfoldable pub read_in_turn : List Field → Reg → PropertyRegisters → Description → (Description → Steps) → Steps
read_in_turn [] object r d next = next d
read_in_turn (f ∷ others) object r d next = field_read f object r d (λ now. read_in_turn others object r now next)

-- steps 9 and 10
abbrev pub checked : (Description → Steps) → Description → Steps
checked next d = if is_mixed d then throws_type_error else next d

abbrev pub to_descriptor : Reg → PropertyRegisters → (Description → Steps) → Steps
to_descriptor object r next =
    look object (λ s. if is_object s then read_in_turn fields_read object r nothing (checked next) else throws_type_error)

-- ---- FromPropertyDescriptor, of the own property of which an `Own` told in four registers, with one more for the object.
-- It gives the register that holds the result; that of the marks is free once they are known

-- a property of the new object is writable, enumerable and configurable
abbrev pub defined_as : Reg → Field → Reg → Request
defined_as to f from = Define to (field_name f) (given_marks (Some true) (Some true) (Some true)) (Some from) None None

-- in 8.10.4's order: steps 3.a and 3.b or 4.a and 4.b, then 5 and 6
abbrev pub fields_told : OwnMarks → List Field
fields_told m =
    if m.accessor then field.Half half.Get ∷ field.Half half.Set ∷ field.Mark Enumerable ∷ field.Mark Configurable ∷ []
    else field.Value ∷ field.Mark Writable ∷ field.Mark Enumerable ∷ field.Mark Configurable ∷ []

abbrev pub field_told : OwnMarks → PropertyRegisters → Reg → Field → Steps → Steps
field_told m own to (field.Mark k) next = ask (Make (prims.Bool (mark_of m k)) own.marks) (ask (defined_as to (field.Mark k) own.marks) next)
field_told m own to field.Value next = ask (defined_as to field.Value own.value) next
field_told m own to (field.Half h) next = ask (defined_as to (field.Half h) (half_place own h)) next

unfoldable pub told_in_turn : List Field → OwnMarks → PropertyRegisters → Reg → Steps → Steps
told_in_turn [] m own to next = next
told_in_turn (f ∷ others) m own to next = field_told m own to f (told_in_turn others m own to next)

abbrev pub told : Option OwnMarks → PropertyRegisters → Reg → (Reg → Steps) → Steps
told None own to next = next own.marks
told (Some m) own to next = ask (New class.Object None to) (told_in_turn (fields_told m) m own to (next to))

abbrev pub from_descriptor : PropertyRegisters → Reg → (Reg → Steps) → Steps
from_descriptor own to next = look own.marks (λ s. told (marks_in s) own to next)

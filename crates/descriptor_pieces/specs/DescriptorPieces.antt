-- The machine of ToPropertyDescriptor: what each of its states asks for, where an answer leads, and which steps are still to take.
use Rattle.std.specs.Prelude.{◌||◌, if◌then◌else◌, List, [], ◌∷◌, Option, Some, None}
use Rattle.native_protocol.specs.declared.progress.Progress.{Progress}
use Rattle.native_protocol.specs.declared.progress.Progress.TheVariants.{Going, Ready}
use Rattle.native_protocol.specs.declared.registers.Reg.{Reg}
use Rattle.native_protocol.specs.declared.request.Answer.{Answer}
use Rattle.native_protocol.specs.declared.request.ErrorKind.TheVariants as error
use Rattle.native_protocol.specs.declared.request.Request.{Request}
use Rattle.native_protocol.specs.declared.request.Request.TheVariants.{Look, Get, Has, ThrowNew}
use Rattle.native_protocol.specs.declared.request.Seen.{Seen}
use Rattle.native_protocol.specs.Steps.{Steps, look, seen_in, is_object, is_function, throws_type_error}
use Rattle.descriptor_pieces.specs.declared.fields.Field.{Field}
use Rattle.descriptor_pieces.specs.declared.fields.Field.TheVariants as field
use Rattle.descriptor_pieces.specs.declared.fields.Half.TheVariants as half
use Rattle.descriptor_pieces.specs.declared.fields.Half.{Half}
use Rattle.descriptor_pieces.specs.declared.fields.Mark.TheVariants.{Writable, Enumerable, Configurable}
use Rattle.descriptor_pieces.specs.declared.property.Description.{Description}
use Rattle.descriptor_pieces.specs.declared.property.PropertyRegisters.{PropertyRegisters}
use Rattle.descriptor_pieces.specs.declared.to_descriptor.DescriptorStage.{DescriptorStage}
use Rattle.descriptor_pieces.specs.declared.to_descriptor.DescriptorStage.TheVariants as stage
use Rattle.descriptor_pieces.specs.declared.to_descriptor.ToDescriptor.{ToDescriptor}
use Rattle.descriptor_pieces.specs.Descriptors.{mark_taken, half_taken, field_got, field_found, field_read, read_in_turn, checked}
use Rattle.descriptor_pieces.specs.Fields.{field_name, fields_read, next_field}
use Rattle.descriptor_pieces.specs.Looks.{is_undefined, is_true, truth_of}
use Rattle.descriptor_pieces.specs.Properties.{half_place, place, nothing, with_mark, with_value, with_half, is_mixed}

abbrev pub describing : Reg → PropertyRegisters → Description → DescriptorStage → ToDescriptor
describing object r found s = record { object = object; registers = r; found = found; stage = s }

abbrev pub descriptor_begin : Reg → PropertyRegisters → ToDescriptor
descriptor_begin object r = describing object r nothing stage.Look

abbrev pub in_stage : ToDescriptor → DescriptorStage → ToDescriptor
in_stage t s = record t { stage = s }

abbrev pub asks_in : ToDescriptor → DescriptorStage → Request
asks_in t stage.Look = Look t.object
asks_in t (stage.Has f) = Has t.object (field_name f) t.registers.marks
asks_in t (stage.LookHas f) = Look t.registers.marks
asks_in t (stage.Get f) = Get t.object (field_name f) (place t.registers f)
asks_in t (stage.LookMark m) = Look t.registers.marks
asks_in t (stage.LookHalf h) = Look (half_place t.registers h)
asks_in t stage.Failed = ThrowNew error.TypeError

abbrev pub descriptor_asks : ToDescriptor → Request
descriptor_asks t = asks_in t t.stage

-- the next field, or the end
abbrev pub field_or_end : ToDescriptor → Description → Option Field → Progress ToDescriptor Description
field_or_end t d (Some f) = Going (describing t.object t.registers d (stage.Has f))
field_or_end t d None = if is_mixed d then Going (in_stage t stage.Failed) else Ready d

abbrev pub behind_field : ToDescriptor → Field → Description → Progress ToDescriptor Description
behind_field t f d = field_or_end t d (next_field f)

abbrev pub behind_got : ToDescriptor → Field → Progress ToDescriptor Description
behind_got t (field.Mark m) = Going (in_stage t (stage.LookMark m))
behind_got t field.Value = behind_field t field.Value (with_value t.registers.value t.found)
behind_got t (field.Half h) = Going (in_stage t (stage.LookHalf h))

abbrev pub behind_half : ToDescriptor → Half → Seen → Progress ToDescriptor Description
behind_half t h s =
    if is_undefined s || is_function s then behind_field t (field.Half h) (with_half h (half_place t.registers h) t.found)
    else Going (in_stage t stage.Failed)

abbrev pub after_in : ToDescriptor → DescriptorStage → Answer → Progress ToDescriptor Description
after_in t stage.Look a = Going (in_stage t (if is_object (seen_in a) then stage.Has (field.Mark Enumerable) else stage.Failed))
after_in t (stage.Has f) a = Going (in_stage t (stage.LookHas f))
after_in t (stage.LookHas f) a = if is_true (seen_in a) then Going (in_stage t (stage.Get f)) else behind_field t f t.found
after_in t (stage.Get f) a = behind_got t f
after_in t (stage.LookMark m) a = behind_field t (field.Mark m) (with_mark m (truth_of (seen_in a)) t.found)
after_in t (stage.LookHalf h) a = behind_half t h (seen_in a)
after_in t stage.Failed a = Going (in_stage t stage.Failed)

abbrev pub descriptor_after : ToDescriptor → Answer → Progress ToDescriptor Description
descriptor_after t a = after_in t t.stage a

-- ---- what is still to do

-- the fields that are read behind one
abbrev pub fields_behind : Field → List Field
fields_behind (field.Mark Enumerable) =
    field.Mark Configurable ∷ field.Value ∷ field.Mark Writable ∷ field.Half half.Get ∷ field.Half half.Set ∷ []
fields_behind (field.Mark Configurable) = field.Value ∷ field.Mark Writable ∷ field.Half half.Get ∷ field.Half half.Set ∷ []
fields_behind field.Value = field.Mark Writable ∷ field.Half half.Get ∷ field.Half half.Set ∷ []
fields_behind (field.Mark Writable) = field.Half half.Get ∷ field.Half half.Set ∷ []
fields_behind (field.Half half.Get) = field.Half half.Set ∷ []
fields_behind (field.Half half.Set) = []

abbrev pub read_behind : ToDescriptor → Field → (Description → Steps) → Description → Steps
read_behind t f next d = read_in_turn (fields_behind f) t.object t.registers d (checked next)

abbrev pub rest_in : ToDescriptor → DescriptorStage → (Description → Steps) → Steps
rest_in t stage.Look next =
    look t.object (λ s. if is_object s then read_in_turn fields_read t.object t.registers t.found (checked next) else throws_type_error)
rest_in t (stage.Has f) next = field_read f t.object t.registers t.found (read_behind t f next)
rest_in t (stage.LookHas f) next = field_found f t.object t.registers t.found (read_behind t f next)
rest_in t (stage.Get f) next = field_got f t.object t.registers t.found (read_behind t f next)
rest_in t (stage.LookMark m) next = mark_taken m t.registers t.found (read_behind t (field.Mark m) next)
rest_in t (stage.LookHalf h) next = half_taken h t.registers t.found (read_behind t (field.Half h) next)
rest_in t stage.Failed next = throws_type_error

abbrev pub descriptor_rest : ToDescriptor → (Description → Steps) → Steps
descriptor_rest t next = rest_in t t.stage next

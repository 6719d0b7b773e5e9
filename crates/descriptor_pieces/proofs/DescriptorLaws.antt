-- The machine of ToPropertyDescriptor takes its steps.
use Rattle.std.proofs.Common.{◌≡◌, Bool, true, false, ◌||◌, if◌then◌else◌, List, [], ◌∷◌, refl}
use Rattle.native_protocol.specs.declared.progress.Progress.TheVariants.{Going, Ready}
use Rattle.native_protocol.specs.declared.request.Answer.{Answer}
use Rattle.native_protocol.specs.Running.{carried_on, IsPiece}
use Rattle.native_protocol.specs.Steps.{Steps, seen_in, is_object, is_function, throws_type_error}
use Rattle.descriptor_pieces.specs.declared.fields.Field.{Field}
use Rattle.descriptor_pieces.specs.declared.fields.Field.TheVariants as field
use Rattle.descriptor_pieces.specs.declared.fields.Half.{Half}
use Rattle.descriptor_pieces.specs.declared.fields.Half.TheVariants as half
use Rattle.descriptor_pieces.specs.declared.fields.Mark.TheVariants.{Writable, Enumerable, Configurable}
use Rattle.descriptor_pieces.specs.declared.property.Description.{Description}
use Rattle.descriptor_pieces.specs.declared.to_descriptor.DescriptorStage.{DescriptorStage}
use Rattle.descriptor_pieces.specs.declared.to_descriptor.DescriptorStage.TheVariants as stage
use Rattle.descriptor_pieces.specs.declared.to_descriptor.ToDescriptor.{ToDescriptor}
use Rattle.descriptor_pieces.specs.DescriptorPieces.{in_stage, asks_in, descriptor_asks, behind_field, behind_got, after_in, descriptor_after, read_behind, rest_in, descriptor_rest}
use Rattle.descriptor_pieces.specs.Descriptors.{field_taken, field_got, read_in_turn, checked}
use Rattle.descriptor_pieces.specs.Fields.{fields_read}
use Rattle.descriptor_pieces.specs.Looks.{is_undefined, is_true, truth_of}
use Rattle.descriptor_pieces.specs.Properties.{half_place, with_mark, with_value, with_half, is_mixed}

first_in : (t : ToDescriptor) (s : DescriptorStage) (next : Description → Steps) → rest_in t s next [] ≡ asks_in t s
first_in t stage.Look next = refl
first_in t (stage.Has f) next = refl
first_in t (stage.LookHas f) next = refl
first_in t (stage.Get f) next = refl
first_in t (stage.LookMark m) next = refl
first_in t (stage.LookHalf h) next = refl
first_in t stage.Failed next = refl

-- behind the last field, and behind each
ended : (t : ToDescriptor) (mixed : Bool) (d : Description) (next : Description → Steps) (answers : List Answer) → (if mixed then throws_type_error else next d) answers ≡ carried_on descriptor_rest (if mixed then Going (in_stage t stage.Failed) else Ready d) next answers
ended t true d next answers = refl
ended t false d next answers = refl

behind : (t : ToDescriptor) (f : Field) (d : Description) (next : Description → Steps) (answers : List Answer) → read_behind t f next d answers ≡ carried_on descriptor_rest (behind_field t f d) next answers
unfolding read_in_turn
behind t (field.Mark Enumerable) d next answers = refl
behind t (field.Mark Configurable) d next answers = refl
behind t field.Value d next answers = refl
behind t (field.Mark Writable) d next answers = refl
behind t (field.Half half.Get) d next answers = refl
behind t (field.Half half.Set) d next answers = ended t (is_mixed d) d next answers

-- behind each look
behind_look : (t : ToDescriptor) (is : Bool) (next : Description → Steps) (answers : List Answer) → (if is then read_in_turn fields_read t.object t.registers t.found (checked next) else throws_type_error) answers ≡ descriptor_rest (in_stage t (if is then stage.Has (field.Mark Enumerable) else stage.Failed)) next answers
unfolding read_in_turn
behind_look t true next answers = refl
behind_look t false next answers = refl

behind_found : (t : ToDescriptor) (f : Field) (is : Bool) (next : Description → Steps) (answers : List Answer) → (if is then field_got f t.object t.registers t.found (read_behind t f next) else read_behind t f next t.found) answers ≡ carried_on descriptor_rest (if is then Going (in_stage t (stage.Get f)) else behind_field t f t.found) next answers
behind_found t f true next answers = refl
behind_found t f false next answers = behind t f t.found next answers

behind_get : (t : ToDescriptor) (f : Field) (next : Description → Steps) (answers : List Answer) → field_taken f t.registers t.found (read_behind t f next) answers ≡ carried_on descriptor_rest (behind_got t f) next answers
behind_get t (field.Mark m) next answers = refl
behind_get t field.Value next answers = behind t field.Value (with_value t.registers.value t.found) next answers
behind_get t (field.Half h) next answers = refl

behind_test : (t : ToDescriptor) (h : Half) (is : Bool) (next : Description → Steps) (answers : List Answer) → (if is then read_behind t (field.Half h) next (with_half h (half_place t.registers h) t.found) else throws_type_error) answers ≡ carried_on descriptor_rest (if is then behind_field t (field.Half h) (with_half h (half_place t.registers h) t.found) else Going (in_stage t stage.Failed)) next answers
behind_test t h true next answers = behind t (field.Half h) (with_half h (half_place t.registers h) t.found) next answers
behind_test t h false next answers = refl

others_in : (t : ToDescriptor) (s : DescriptorStage) (next : Description → Steps) (a : Answer) (answers : List Answer) → rest_in t s next (a ∷ answers) ≡ carried_on descriptor_rest (after_in t s a) next answers
others_in t stage.Look next a answers = behind_look t (is_object (seen_in a)) next answers
others_in t (stage.Has f) next a answers = refl
others_in t (stage.LookHas f) next a answers = behind_found t f (is_true (seen_in a)) next answers
others_in t (stage.Get f) next a answers = behind_get t f next answers
others_in t (stage.LookMark m) next a answers = behind t (field.Mark m) (with_mark m (truth_of (seen_in a)) t.found) next answers
others_in t (stage.LookHalf h) next a answers = behind_test t h (is_undefined (seen_in a) || is_function (seen_in a)) next answers
others_in t stage.Failed next a answers = refl

pub descriptor_is : IsPiece descriptor_asks descriptor_after descriptor_rest
descriptor_is = record { first = λ t next. first_in t t.stage next; others = λ t next a answers. others_in t t.stage next a answers }

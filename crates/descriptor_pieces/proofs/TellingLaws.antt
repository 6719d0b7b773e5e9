-- The machine of FromPropertyDescriptor takes its steps.
use Rattle.std.proofs.Common.{◌≡◌, Bool, true, false, if◌then◌else◌, List, [], ◌∷◌, Option, Some, None, refl}
use Rattle.native_protocol.specs.declared.registers.Reg.{Reg}
use Rattle.native_protocol.specs.declared.request.Answer.{Answer}
use Rattle.native_protocol.specs.Running.{carried_on, IsPiece}
use Rattle.native_protocol.specs.Steps.{Steps, seen_in}
use Rattle.descriptor_pieces.specs.declared.fields.Field.{Field}
use Rattle.descriptor_pieces.specs.declared.fields.Field.TheVariants as field
use Rattle.descriptor_pieces.specs.declared.fields.Half.TheVariants as half
use Rattle.descriptor_pieces.specs.declared.fields.Mark.TheVariants.{Writable, Enumerable, Configurable}
use Rattle.descriptor_pieces.specs.declared.from_descriptor.FromDescriptor.{FromDescriptor}
use Rattle.descriptor_pieces.specs.declared.from_descriptor.TellingStage.{TellingStage}
use Rattle.descriptor_pieces.specs.declared.from_descriptor.TellingStage.TheVariants as stage
use Rattle.descriptor_pieces.specs.declared.property.OwnMarks.{OwnMarks}
use Rattle.descriptor_pieces.specs.Descriptors.{told_in_turn, told}
use Rattle.descriptor_pieces.specs.Properties.{marks_in}
use Rattle.descriptor_pieces.specs.TellingPieces.{in_stage, asks_in, telling_asks, telling_stage, next_told, new_or_none, field_or_end, after_in, telling_after, told_behind, rest_in, telling_rest}

first_in : (t : FromDescriptor) (s : TellingStage) (next : Reg → Steps) → rest_in t s next [] ≡ asks_in t s
first_in t stage.Look next = refl
first_in t (stage.New m) next = refl
first_in t (stage.Make m k) next = refl
first_in t (stage.Define m f) next = refl

behind_look : (t : FromDescriptor) (found : Option OwnMarks) (next : Reg → Steps) (answers : List Answer) → told found t.own t.to next answers ≡ carried_on telling_rest (new_or_none t found) next answers
behind_look t None next answers = refl
behind_look t (Some m) next answers = refl

-- the first field of an accessor, or of data
behind_new : (t : FromDescriptor) (m : OwnMarks) (accessor : Bool) (next : Reg → Steps) (answers : List Answer)
    → told_in_turn (if accessor then field.Half half.Get ∷ field.Half half.Set ∷ field.Mark Enumerable ∷ field.Mark Configurable ∷ []
    else field.Value ∷ field.Mark Writable ∷ field.Mark Enumerable ∷ field.Mark Configurable ∷ []) m t.own t.to (next t.to) answers
    ≡ telling_rest (in_stage t (telling_stage m (if accessor then field.Half half.Get else field.Value))) next answers
unfolding told_in_turn
behind_new t m true next answers = refl
behind_new t m false next answers = refl

behind : (t : FromDescriptor) (m : OwnMarks) (f : Field) (next : Reg → Steps) (answers : List Answer) → told_in_turn (told_behind f) m t.own t.to (next t.to) answers ≡ carried_on telling_rest (field_or_end t m (next_told f)) next answers
unfolding told_in_turn
behind t m field.Value next answers = refl
behind t m (field.Half half.Get) next answers = refl
behind t m (field.Mark Writable) next answers = refl
behind t m (field.Half half.Set) next answers = refl
behind t m (field.Mark Enumerable) next answers = refl
behind t m (field.Mark Configurable) next answers = refl

others_in : (t : FromDescriptor) (s : TellingStage) (next : Reg → Steps) (a : Answer) (answers : List Answer) → rest_in t s next (a ∷ answers) ≡ carried_on telling_rest (after_in t s a) next answers
others_in t stage.Look next a answers = behind_look t (marks_in (seen_in a)) next answers
others_in t (stage.New m) next a answers = behind_new t m m.accessor next answers
others_in t (stage.Make m k) next a answers = refl
others_in t (stage.Define m f) next a answers = behind t m f next answers

pub telling_is : IsPiece telling_asks telling_after telling_rest
telling_is = record { first = λ t next. first_in t t.stage next; others = λ t next a answers. others_in t t.stage next a answers }

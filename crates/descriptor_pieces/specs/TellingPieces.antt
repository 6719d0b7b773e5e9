-- The machine of FromPropertyDescriptor: what each of its states asks for, where an answer leads, and which steps are still to take.
use Rattle.std.specs.Prelude.{if◌then◌else◌, List, [], ◌∷◌, Option, Some, None}
use Rattle.js_number.specs.declared.primitive.Primitive.TheVariants as prims
use Rattle.js_values.specs.declared.inner.Class.TheVariants as class
use Rattle.native_protocol.specs.declared.progress.Progress.{Progress}
use Rattle.native_protocol.specs.declared.progress.Progress.TheVariants.{Going, Ready}
use Rattle.native_protocol.specs.declared.registers.Reg.{Reg}
use Rattle.native_protocol.specs.declared.request.Answer.{Answer}
use Rattle.native_protocol.specs.declared.request.Request.{Request}
use Rattle.native_protocol.specs.declared.request.Request.TheVariants.{Look, Make, New}
use Rattle.native_protocol.specs.Steps.{Steps, ask, seen_in}
use Rattle.descriptor_pieces.specs.declared.fields.Field.{Field}
use Rattle.descriptor_pieces.specs.declared.fields.Field.TheVariants as field
use Rattle.descriptor_pieces.specs.declared.fields.Half.TheVariants as half
use Rattle.descriptor_pieces.specs.declared.fields.Mark.TheVariants.{Writable, Enumerable, Configurable}
use Rattle.descriptor_pieces.specs.declared.from_descriptor.FromDescriptor.{FromDescriptor}
use Rattle.descriptor_pieces.specs.declared.from_descriptor.TellingStage.{TellingStage}
use Rattle.descriptor_pieces.specs.declared.from_descriptor.TellingStage.TheVariants as stage
use Rattle.descriptor_pieces.specs.declared.property.OwnMarks.{OwnMarks}
use Rattle.descriptor_pieces.specs.declared.property.PropertyRegisters.{PropertyRegisters}
use Rattle.descriptor_pieces.specs.Descriptors.{defined_as, fields_told, told_in_turn, from_descriptor}
use Rattle.descriptor_pieces.specs.Properties.{place, marks_in, mark_of}

abbrev pub telling : PropertyRegisters → Reg → TellingStage → FromDescriptor
telling own to s = record { own = own; to = to; stage = s }

abbrev pub telling_begin : PropertyRegisters → Reg → FromDescriptor
telling_begin own to = telling own to stage.Look

abbrev pub in_stage : FromDescriptor → TellingStage → FromDescriptor
in_stage t s = record t { stage = s }

abbrev pub asks_in : FromDescriptor → TellingStage → Request
asks_in t stage.Look = Look t.own.marks
asks_in t (stage.New m) = New class.Object None t.to
asks_in t (stage.Make m k) = Make (prims.Bool (mark_of m k)) t.own.marks
asks_in t (stage.Define m f) = defined_as t.to f (place t.own f)

abbrev pub telling_asks : FromDescriptor → Request
telling_asks t = asks_in t t.stage

-- a mark is made first, and any other field is in a register already
abbrev pub telling_stage : OwnMarks → Field → TellingStage
telling_stage m (field.Mark k) = stage.Make m k
telling_stage m field.Value = stage.Define m field.Value
telling_stage m (field.Half h) = stage.Define m (field.Half h)

abbrev pub first_told : OwnMarks → Field
first_told m = if m.accessor then field.Half half.Get else field.Value

abbrev pub next_told : Field → Option Field
next_told field.Value = Some (field.Mark Writable)
next_told (field.Half half.Get) = Some (field.Half half.Set)
next_told (field.Mark Writable) = Some (field.Mark Enumerable)
next_told (field.Half half.Set) = Some (field.Mark Enumerable)
next_told (field.Mark Enumerable) = Some (field.Mark Configurable)
next_told (field.Mark Configurable) = None

abbrev pub new_or_none : FromDescriptor → Option OwnMarks → Progress FromDescriptor Reg
new_or_none t (Some m) = Going (in_stage t (stage.New m))
new_or_none t None = Ready t.own.marks

abbrev pub field_or_end : FromDescriptor → OwnMarks → Option Field → Progress FromDescriptor Reg
field_or_end t m (Some f) = Going (in_stage t (telling_stage m f))
field_or_end t m None = Ready t.to

abbrev pub after_in : FromDescriptor → TellingStage → Answer → Progress FromDescriptor Reg
after_in t stage.Look a = new_or_none t (marks_in (seen_in a))
after_in t (stage.New m) a = Going (in_stage t (telling_stage m (first_told m)))
after_in t (stage.Make m k) a = Going (in_stage t (stage.Define m (field.Mark k)))
after_in t (stage.Define m f) a = field_or_end t m (next_told f)

abbrev pub telling_after : FromDescriptor → Answer → Progress FromDescriptor Reg
telling_after t a = after_in t t.stage a

-- ---- what is still to do

-- the fields that are told behind one
abbrev pub told_behind : Field → List Field
told_behind field.Value = field.Mark Writable ∷ field.Mark Enumerable ∷ field.Mark Configurable ∷ []
told_behind (field.Half half.Get) = field.Half half.Set ∷ field.Mark Enumerable ∷ field.Mark Configurable ∷ []
told_behind (field.Mark Writable) = field.Mark Enumerable ∷ field.Mark Configurable ∷ []
told_behind (field.Half half.Set) = field.Mark Enumerable ∷ field.Mark Configurable ∷ []
told_behind (field.Mark Enumerable) = field.Mark Configurable ∷ []
told_behind (field.Mark Configurable) = []

abbrev pub defined_and_on : FromDescriptor → OwnMarks → Field → (Reg → Steps) → Steps
defined_and_on t m f next = ask (defined_as t.to f (place t.own f)) (told_in_turn (told_behind f) m t.own t.to (next t.to))

abbrev pub rest_in : FromDescriptor → TellingStage → (Reg → Steps) → Steps
rest_in t stage.Look next = from_descriptor t.own t.to next
rest_in t (stage.New m) next = ask (New class.Object None t.to) (told_in_turn (fields_told m) m t.own t.to (next t.to))
rest_in t (stage.Make m k) next = ask (Make (prims.Bool (mark_of m k)) t.own.marks) (defined_and_on t m (field.Mark k) next)
rest_in t (stage.Define m f) next = defined_and_on t m f next

abbrev pub telling_rest : FromDescriptor → (Reg → Steps) → Steps
telling_rest t next = rest_in t t.stage next

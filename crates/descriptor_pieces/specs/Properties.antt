-- Properties as built-ins see them: marks that were looked at, and registers.
use Rattle.std.specs.Prelude.{ℕ, ◌+◌, ◌/◌, ◌%◌, ◌==◌, Bool, false, not, ◌&&◌, ◌||◌, is_some, if◌then◌else◌, List, unsigned_abs, Option, Some, None}
use Rattle.js_number.specs.declared.primitive.Primitive.TheVariants as prims
use Rattle.js_number.specs.Number.{integer_of}
use Rattle.native_protocol.specs.declared.registers.Reg.{Reg}
use Rattle.native_protocol.specs.declared.request.GivenMarks.{GivenMarks}
use Rattle.native_protocol.specs.declared.request.Request.{Request}
use Rattle.native_protocol.specs.declared.request.Request.TheVariants.{Define}
use Rattle.native_protocol.specs.declared.request.Seen.{Seen}
use Rattle.native_protocol.specs.declared.request.Seen.TheVariants.{Prim}
use Rattle.native_protocol.specs.Steps.{reg}
use Rattle.descriptor_pieces.specs.declared.fields.Field.{Field}
use Rattle.descriptor_pieces.specs.declared.fields.Field.TheVariants as field
use Rattle.descriptor_pieces.specs.declared.fields.Half.{Half}
use Rattle.descriptor_pieces.specs.declared.fields.Half.TheVariants as half
use Rattle.descriptor_pieces.specs.declared.fields.Mark.{Mark}
use Rattle.descriptor_pieces.specs.declared.fields.Mark.TheVariants.{Writable, Enumerable, Configurable}
use Rattle.descriptor_pieces.specs.declared.property.Description.{Description}
use Rattle.descriptor_pieces.specs.declared.property.Integrity.{Integrity}
use Rattle.descriptor_pieces.specs.declared.property.Integrity.TheVariants.{Sealed, Frozen}
use Rattle.descriptor_pieces.specs.declared.property.OwnMarks.{OwnMarks}
use Rattle.descriptor_pieces.specs.declared.property.PropertyRegisters.{PropertyRegisters}

-- ---- registers

-- four registers in a row
abbrev pub registers_from : ℕ → PropertyRegisters
registers_from n = record { marks = reg n; value = reg (n + 1); get = reg (n + 2); set = reg (n + 3) }

abbrev pub half_place : PropertyRegisters → Half → Reg
half_place r half.Get = r.get
half_place r half.Set = r.set

-- where a field is; the marks are looked at in one register
abbrev pub place : PropertyRegisters → Field → Reg
place r (field.Mark m) = r.marks
place r field.Value = r.value
place r (field.Half h) = half_place r h

-- ---- the marks of an own property

-- the sum of 1 for writable, 2 for enumerable, 4 for configurable and 8 for an accessor
abbrev pub marks_of_sum : ℕ → OwnMarks
marks_of_sum n = record { writable = n % 2 == 1; enumerable = n / 2 % 2 == 1; configurable = n / 4 % 2 == 1; accessor = n / 8 % 2 == 1 }

-- what the request `Own` put into the register of marks: undefined where there is no such property
abbrev pub marks_in : Seen → Option OwnMarks
marks_in (Prim (prims.Num n)) = Some (marks_of_sum (unsigned_abs (integer_of n)))
marks_in other = None

abbrev pub mark_of : OwnMarks → Mark → Bool
mark_of m Writable = m.writable
mark_of m Enumerable = m.enumerable
mark_of m Configurable = m.configurable

-- what `seal` and `freeze` make of them (15.2.3.8 step 2.b, 15.2.3.9 steps 2.b and 2.c)
abbrev pub fixed : Integrity → OwnMarks → OwnMarks
fixed Sealed m = record m { configurable = false }
fixed Frozen m = record m { configurable = false; writable = false }

-- where `isSealed` and `isFrozen` give false (15.2.3.11 step 2.b, 15.2.3.12 steps 2.b and 2.c)
abbrev pub is_open : Integrity → OwnMarks → Bool
is_open Sealed m = m.configurable
is_open Frozen m = not m.accessor && m.writable || m.configurable

-- ---- descriptions: the descriptors that a built-in hands to a definition

abbrev pub given_marks : Option Bool → Option Bool → Option Bool → GivenMarks
given_marks w e c = record { writable = w; enumerable = e; configurable = c }

abbrev pub description : GivenMarks → Option Reg → Option Reg → Option Reg → Description
description marks value get set = record { marks = marks; value = value; get = get; set = set }

abbrev pub nothing : Description
nothing = description (given_marks None None None) None None None

-- that of an own property, whole (8.12.1): an accessor has no mark for writable
abbrev pub description_of : PropertyRegisters → OwnMarks → Description
description_of own m =
    if m.accessor then description (given_marks None (Some m.enumerable) (Some m.configurable)) None (Some own.get) (Some own.set)
    else description (given_marks (Some m.writable) (Some m.enumerable) (Some m.configurable)) (Some own.value) None None

abbrev pub with_mark : Mark → Bool → Description → Description
with_mark Writable b d = record d { marks = record d.marks { writable = Some b } }
with_mark Enumerable b d = record d { marks = record d.marks { enumerable = Some b } }
with_mark Configurable b d = record d { marks = record d.marks { configurable = Some b } }

abbrev pub with_value : Reg → Description → Description
with_value at d = record d { value = Some at }

abbrev pub with_half : Half → Reg → Description → Description
with_half half.Get at d = record d { get = Some at }
with_half half.Set at d = record d { set = Some at }

-- a getter or setter beside what only data has (8.10.5 step 9)
abbrev pub is_mixed : Description → Bool
is_mixed d = (is_some d.get || is_some d.set) && (is_some d.value || is_some d.marks.writable)

abbrev pub define : Reg → List ℕ → Description → Request
define base key d = Define base key d.marks d.value d.get d.set

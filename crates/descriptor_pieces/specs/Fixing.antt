-- How `seal`, `freeze`, `isSealed` and `isFrozen` go over an object's properties (ECMA-262 15.2.3.8, 15.2.3.9, 15.2.3.11, 15.2.3.12).
use Rattle.std.specs.Prelude.{ℕ, Bool, true, false, if◌then◌else◌, List, Option, Some, None}
use Rattle.native_protocol.specs.declared.registers.Reg.{Reg}
use Rattle.native_protocol.specs.declared.request.Request.{Request}
use Rattle.native_protocol.specs.declared.request.Request.TheVariants.{Own, Prevent, Extensible}
use Rattle.native_protocol.specs.Steps.{Steps, ask, look}
use Rattle.descriptor_pieces.specs.declared.property.Integrity.{Integrity}
use Rattle.descriptor_pieces.specs.declared.property.OwnMarks.{OwnMarks}
use Rattle.descriptor_pieces.specs.declared.property.PropertyRegisters.{PropertyRegisters}
use Rattle.descriptor_pieces.specs.Looks.{is_false}
use Rattle.descriptor_pieces.specs.Loops.{for_each_key}
use Rattle.descriptor_pieces.specs.Properties.{marks_in, fixed, is_open, description_of, define}

abbrev pub own_asked : Reg → List ℕ → PropertyRegisters → Request
own_asked object key own = Own object key own.marks own.value own.get own.set

abbrev pub marks_seen : PropertyRegisters → (Option OwnMarks → Steps) → Steps
marks_seen own next = look own.marks (λ s. next (marks_in s))

-- step 2.a of each: [[GetOwnProperty]], whose answer is known by a look at the marks
abbrev pub own_marks : Reg → List ℕ → PropertyRegisters → (Option OwnMarks → Steps) → Steps
own_marks object key own next = ask (own_asked object key own) (marks_seen own next)

-- the rest of step 2 of `seal` and `freeze`: the whole descriptor is defined again, with other marks
abbrev pub fix : Integrity → Reg → List ℕ → PropertyRegisters → Steps → Option OwnMarks → Steps
fix i object key own next None = next
fix i object key own next (Some m) = ask (define object key (description_of own (fixed i m))) next

-- step 2 for one property
abbrev pub property_fixed : Integrity → Reg → PropertyRegisters → List ℕ → Steps → Steps
property_fixed i object own key go_on = own_marks object key own (fix i object key own go_on)

-- steps 2 and 3
abbrev pub set_integrity : Integrity → Reg → Reg → Reg → PropertyRegisters → Steps → Steps
set_integrity i object list item own next = for_each_key object true list item (property_fixed i object own) (ask (Prevent object) next)

-- the rest of step 2 of `isSealed` and `isFrozen`
abbrev pub open_in : Integrity → Option OwnMarks → Bool
open_in i None = false
open_in i (Some m) = is_open i m

abbrev pub unless_open : Integrity → Steps → Steps → Option OwnMarks → Steps
unless_open i otherwise next found = if open_in i found then otherwise else next

-- step 2 for one property
abbrev pub property_tested : Integrity → Reg → PropertyRegisters → Steps → List ℕ → Steps → Steps
property_tested i object own otherwise key go_on = own_marks object key own (unless_open i otherwise go_on)

abbrev pub closed_seen : Reg → (Bool → Steps) → Steps
closed_seen at next = look at (λ s. next (is_false s))

-- steps 3 and 4: an object that can be extended is neither
abbrev pub closed : Reg → Reg → (Bool → Steps) → Steps
closed object at next = ask (Extensible object at) (closed_seen at next)

abbrev pub test_integrity : Integrity → Reg → Reg → Reg → PropertyRegisters → (Bool → Steps) → Steps
test_integrity i object list item own next =
    for_each_key object true list item (property_tested i object own (next false)) (closed object own.marks next)

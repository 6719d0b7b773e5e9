-- The machines of `seal` and `freeze`, and of `isSealed` and `isFrozen`: what each of their states asks for, where an answer leads, and which
-- steps are still to take.
use Rattle.std.specs.Prelude.{ℕ, Bool, true, false, if◌then◌else◌, List, Option, Some, None}
use Rattle.native_protocol.specs.declared.progress.Progress.{Progress}
use Rattle.native_protocol.specs.declared.progress.Progress.TheVariants.{Going, Ready}
use Rattle.native_protocol.specs.declared.registers.Reg.{Reg}
use Rattle.native_protocol.specs.declared.request.Answer.{Answer}
use Rattle.native_protocol.specs.declared.request.Request.{Request}
use Rattle.native_protocol.specs.declared.request.Request.TheVariants.{Look, Prevent, Extensible}
use Rattle.native_protocol.specs.Steps.{Steps, ask, seen_in}
use Rattle.descriptor_pieces.specs.declared.key_loop.KeyTurn.{KeyTurn}
use Rattle.descriptor_pieces.specs.declared.key_loop.KeyTurn.TheVariants as turn
use Rattle.descriptor_pieces.specs.declared.key_loop.LastKeys.{LastKeys}
use Rattle.descriptor_pieces.specs.declared.property.Integrity.{Integrity}
use Rattle.descriptor_pieces.specs.declared.property.OwnMarks.{OwnMarks}
use Rattle.descriptor_pieces.specs.declared.property.PropertyRegisters.{PropertyRegisters}
use Rattle.descriptor_pieces.specs.declared.set_integrity.FixingStage.{FixingStage}
use Rattle.descriptor_pieces.specs.declared.set_integrity.FixingStage.TheVariants as fixing
use Rattle.descriptor_pieces.specs.declared.set_integrity.SetIntegrity.{SetIntegrity}
use Rattle.descriptor_pieces.specs.declared.test_integrity.TestIntegrity.{TestIntegrity}
use Rattle.descriptor_pieces.specs.declared.test_integrity.TestingStage.{TestingStage}
use Rattle.descriptor_pieces.specs.declared.test_integrity.TestingStage.TheVariants as testing
use Rattle.descriptor_pieces.specs.Fixing.{own_asked, marks_seen, own_marks, fix, property_fixed, open_in, unless_open, property_tested, closed, closed_seen}
use Rattle.descriptor_pieces.specs.LoopPieces.{keys_begin, keys_asks, keys_after, last_turn, last_rest, keys_rest}
use Rattle.descriptor_pieces.specs.Loops.{Body, plainly}
use Rattle.descriptor_pieces.specs.Looks.{is_false}
use Rattle.descriptor_pieces.specs.Properties.{marks_in, fixed, description_of, define}

-- ---- `seal` and `freeze`

abbrev pub fixing_at : Integrity → Reg → PropertyRegisters → FixingStage → SetIntegrity
fixing_at i object own s = record { integrity = i; object = object; own = own; stage = s }

abbrev pub fixing_begin : Integrity → Reg → Reg → Reg → PropertyRegisters → SetIntegrity
fixing_begin i object list item own = fixing_at i object own (fixing.Keys (keys_begin object true list item))

abbrev pub asks_fixing : SetIntegrity → FixingStage → Request
asks_fixing f (fixing.Keys k) = keys_asks k
asks_fixing f (fixing.Own key last) = own_asked f.object key f.own
asks_fixing f (fixing.LookMarks key last) = Look f.own.marks
asks_fixing f (fixing.Define key m last) = define f.object key (description_of f.own (fixed f.integrity m))
asks_fixing f fixing.Prevent = Prevent f.object

abbrev pub fixing_asks : SetIntegrity → Request
fixing_asks f = asks_fixing f f.stage

-- the next key, or the end
abbrev pub fixing_turn : KeyTurn → FixingStage
fixing_turn (turn.Asks k) = fixing.Keys k
fixing_turn (turn.Has key last) = fixing.Own key last
fixing_turn turn.Over = fixing.Prevent

abbrev pub defined_or_on : List ℕ → LastKeys → Option OwnMarks → FixingStage
defined_or_on key last (Some m) = fixing.Define key m last
defined_or_on key last None = fixing_turn (last_turn last)

abbrev pub in_fixing : SetIntegrity → FixingStage → SetIntegrity
in_fixing f s = fixing_at f.integrity f.object f.own s

abbrev pub after_fixing : SetIntegrity → FixingStage → Answer → Progress SetIntegrity (Unit {0})
after_fixing f (fixing.Keys k) a = Going (in_fixing f (fixing_turn (keys_after k a)))
after_fixing f (fixing.Own key last) a = Going (in_fixing f (fixing.LookMarks key last))
after_fixing f (fixing.LookMarks key last) a = Going (in_fixing f (defined_or_on key last (marks_in (seen_in a))))
after_fixing f (fixing.Define key m last) a = Going (in_fixing f (fixing_turn (last_turn last)))
after_fixing f fixing.Prevent a = Ready tt

abbrev pub fixing_after : SetIntegrity → Answer → Progress SetIntegrity (Unit {0})
fixing_after f a = after_fixing f f.stage a

-- what is still to do: with a property, at the end, and behind a property
abbrev pub fixing_body : SetIntegrity → Body (Unit {0})
fixing_body f = plainly (property_fixed f.integrity f.object f.own)

abbrev pub fixing_end : SetIntegrity → (Unit {0} → Steps) → Unit {0} → Steps
fixing_end f next u = ask (Prevent f.object) (next tt)

abbrev pub fixing_on : SetIntegrity → LastKeys → (Unit {0} → Steps) → Steps
fixing_on f last next = last_rest last (fixing_body f) (fixing_end f next) tt

abbrev pub rest_fixing : SetIntegrity → FixingStage → (Unit {0} → Steps) → Steps
rest_fixing f (fixing.Keys k) next = keys_rest k (fixing_body f) tt (fixing_end f next)
rest_fixing f (fixing.Own key last) next = own_marks f.object key f.own (fix f.integrity f.object key f.own (fixing_on f last next))
rest_fixing f (fixing.LookMarks key last) next = marks_seen f.own (fix f.integrity f.object key f.own (fixing_on f last next))
rest_fixing f (fixing.Define key m last) next =
    ask (define f.object key (description_of f.own (fixed f.integrity m))) (fixing_on f last next)
rest_fixing f fixing.Prevent next = ask (Prevent f.object) (next tt)

abbrev pub fixing_rest : SetIntegrity → (Unit {0} → Steps) → Steps
fixing_rest f next = rest_fixing f f.stage next

-- ---- `isSealed` and `isFrozen`

abbrev pub testing_at : Integrity → Reg → PropertyRegisters → TestingStage → TestIntegrity
testing_at i object own s = record { integrity = i; object = object; own = own; stage = s }

abbrev pub testing_begin : Integrity → Reg → Reg → Reg → PropertyRegisters → TestIntegrity
testing_begin i object list item own = testing_at i object own (testing.Keys (keys_begin object true list item))

abbrev pub asks_testing : TestIntegrity → TestingStage → Request
asks_testing t (testing.Keys k) = keys_asks k
asks_testing t (testing.Own key last) = own_asked t.object key t.own
asks_testing t (testing.LookMarks last) = Look t.own.marks
asks_testing t testing.Extensible = Extensible t.object t.own.marks
asks_testing t testing.LookExtensible = Look t.own.marks

abbrev pub testing_asks : TestIntegrity → Request
testing_asks t = asks_testing t t.stage

abbrev pub in_testing : TestIntegrity → TestingStage → TestIntegrity
in_testing t s = testing_at t.integrity t.object t.own s

-- the next key, or the end
abbrev pub testing_turn : KeyTurn → TestingStage
testing_turn (turn.Asks k) = testing.Keys k
testing_turn (turn.Has key last) = testing.Own key last
testing_turn turn.Over = testing.Extensible

abbrev pub tested_or_on : TestIntegrity → LastKeys → Bool → Progress TestIntegrity Bool
tested_or_on t last open_found = if open_found then Ready false else Going (in_testing t (testing_turn (last_turn last)))

abbrev pub after_testing : TestIntegrity → TestingStage → Answer → Progress TestIntegrity Bool
after_testing t (testing.Keys k) a = Going (in_testing t (testing_turn (keys_after k a)))
after_testing t (testing.Own key last) a = Going (in_testing t (testing.LookMarks last))
after_testing t (testing.LookMarks last) a = tested_or_on t last (open_in t.integrity (marks_in (seen_in a)))
after_testing t testing.Extensible a = Going (in_testing t testing.LookExtensible)
after_testing t testing.LookExtensible a = Ready (is_false (seen_in a))

abbrev pub testing_after : TestIntegrity → Answer → Progress TestIntegrity Bool
testing_after t a = after_testing t t.stage a

-- what is still to do: with a property, at the end, and behind a property
abbrev pub testing_body : TestIntegrity → (Bool → Steps) → Body (Unit {0})
testing_body t next = plainly (property_tested t.integrity t.object t.own (next false))

abbrev pub testing_end : TestIntegrity → (Bool → Steps) → Unit {0} → Steps
testing_end t next u = closed t.object t.own.marks next

abbrev pub testing_on : TestIntegrity → LastKeys → (Bool → Steps) → Steps
testing_on t last next = last_rest last (testing_body t next) (testing_end t next) tt

abbrev pub rest_testing : TestIntegrity → TestingStage → (Bool → Steps) → Steps
rest_testing t (testing.Keys k) next = keys_rest k (testing_body t next) tt (testing_end t next)
rest_testing t (testing.Own key last) next = own_marks t.object key t.own (unless_open t.integrity (next false) (testing_on t last next))
rest_testing t (testing.LookMarks last) next = marks_seen t.own (unless_open t.integrity (next false) (testing_on t last next))
rest_testing t testing.Extensible next = closed t.object t.own.marks next
rest_testing t testing.LookExtensible next = closed_seen t.own.marks next

abbrev pub testing_rest : TestIntegrity → (Bool → Steps) → Steps
testing_rest t next = rest_testing t t.stage next

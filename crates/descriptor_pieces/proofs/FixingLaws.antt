-- The machines of `seal` and `freeze`, and of `isSealed` and `isFrozen`, take their steps.
use Rattle.std.proofs.Common.{◌≡◌, Bool, true, false, if◌then◌else◌, List, [], ◌∷◌, ℕ, Option, Some, None, refl, ◌∙◌}
use Rattle.native_protocol.specs.declared.request.Answer.{Answer}
use Rattle.native_protocol.specs.Running.{carried_on, IsPiece}
use Rattle.native_protocol.specs.Steps.{Steps, seen_in}
use Rattle.descriptor_pieces.proofs.LoopLaws.{keys_first, keys_others, turned}
use Rattle.descriptor_pieces.specs.declared.key_loop.KeyTurn.{KeyTurn}
use Rattle.descriptor_pieces.specs.declared.key_loop.KeyTurn.TheVariants as turn
use Rattle.descriptor_pieces.specs.declared.key_loop.LastKeys.{LastKeys}
use Rattle.descriptor_pieces.specs.declared.property.OwnMarks.{OwnMarks}
use Rattle.descriptor_pieces.specs.declared.set_integrity.FixingStage.{FixingStage}
use Rattle.descriptor_pieces.specs.declared.set_integrity.FixingStage.TheVariants as fixing
use Rattle.descriptor_pieces.specs.declared.set_integrity.SetIntegrity.{SetIntegrity}
use Rattle.descriptor_pieces.specs.declared.test_integrity.TestIntegrity.{TestIntegrity}
use Rattle.descriptor_pieces.specs.declared.test_integrity.TestingStage.{TestingStage}
use Rattle.descriptor_pieces.specs.declared.test_integrity.TestingStage.TheVariants as testing
use Rattle.descriptor_pieces.specs.Fixing.{fix, open_in}
use Rattle.descriptor_pieces.specs.FixingPieces.{asks_fixing, fixing_asks, fixing_turn, defined_or_on, in_fixing, after_fixing, fixing_after, fixing_body, fixing_end, fixing_on, rest_fixing, fixing_rest, asks_testing, testing_asks, in_testing, testing_turn, tested_or_on, after_testing, testing_after, testing_body, testing_end, testing_on, rest_testing, testing_rest}
use Rattle.descriptor_pieces.specs.LoopPieces.{keys_after, last_turn, turn_rest}
use Rattle.descriptor_pieces.specs.Properties.{marks_in}

-- ---- `seal` and `freeze`

fixing_first : (f : SetIntegrity) (s : FixingStage) (next : Unit {0} → Steps) → rest_fixing f s next [] ≡ asks_fixing f s
fixing_first f (fixing.Keys k) next = keys_first k (fixing_body f) tt (fixing_end f next)
fixing_first f (fixing.Own key last) next = refl
fixing_first f (fixing.LookMarks key last) next = refl
fixing_first f (fixing.Define key m last) next = refl
fixing_first f fixing.Prevent next = refl

fixing_turned : (f : SetIntegrity) (t : KeyTurn) (next : Unit {0} → Steps) (answers : List Answer) → turn_rest t (fixing_body f) tt (fixing_end f next) answers ≡ fixing_rest (in_fixing f (fixing_turn t)) next answers
fixing_turned f (turn.Asks k) next answers = refl
fixing_turned f (turn.Has key last) next answers = refl
fixing_turned f turn.Over next answers = refl

fixing_goes : (f : SetIntegrity) (last : LastKeys) (next : Unit {0} → Steps) (answers : List Answer) → fixing_on f last next answers ≡ fixing_rest (in_fixing f (fixing_turn (last_turn last))) next answers
fixing_goes f last next answers = turned last (fixing_body f) tt (fixing_end f next) answers ∙ fixing_turned f (last_turn last) next answers

fixing_found : (f : SetIntegrity) (key : List ℕ) (last : LastKeys) (found : Option OwnMarks) (next : Unit {0} → Steps) (answers : List Answer) → fix f.integrity f.object key f.own (fixing_on f last next) found answers ≡ fixing_rest (in_fixing f (defined_or_on key last found)) next answers
fixing_found f key last None next answers = fixing_goes f last next answers
fixing_found f key last (Some m) next answers = refl

fixing_others : (f : SetIntegrity) (s : FixingStage) (next : Unit {0} → Steps) (a : Answer) (answers : List Answer) → rest_fixing f s next (a ∷ answers) ≡ carried_on fixing_rest (after_fixing f s a) next answers
fixing_others f (fixing.Keys k) next a answers = keys_others k (fixing_body f) tt (fixing_end f next) a answers ∙ fixing_turned f (keys_after k a) next answers
fixing_others f (fixing.Own key last) next a answers = refl
fixing_others f (fixing.LookMarks key last) next a answers = fixing_found f key last (marks_in (seen_in a)) next answers
fixing_others f (fixing.Define key m last) next a answers = fixing_goes f last next answers
fixing_others f fixing.Prevent next a answers = refl

pub fixing_is : IsPiece fixing_asks fixing_after fixing_rest
fixing_is = record { first = λ f next. fixing_first f f.stage next; others = λ f next a answers. fixing_others f f.stage next a answers }

-- ---- `isSealed` and `isFrozen`

testing_first : (t : TestIntegrity) (s : TestingStage) (next : Bool → Steps) → rest_testing t s next [] ≡ asks_testing t s
testing_first t (testing.Keys k) next = keys_first k (testing_body t next) tt (testing_end t next)
testing_first t (testing.Own key last) next = refl
testing_first t (testing.LookMarks last) next = refl
testing_first t testing.Extensible next = refl
testing_first t testing.LookExtensible next = refl

testing_turned : (t : TestIntegrity) (u : KeyTurn) (next : Bool → Steps) (answers : List Answer) → turn_rest u (testing_body t next) tt (testing_end t next) answers ≡ testing_rest (in_testing t (testing_turn u)) next answers
testing_turned t (turn.Asks k) next answers = refl
testing_turned t (turn.Has key last) next answers = refl
testing_turned t turn.Over next answers = refl

testing_goes : (t : TestIntegrity) (last : LastKeys) (next : Bool → Steps) (answers : List Answer) → testing_on t last next answers ≡ testing_rest (in_testing t (testing_turn (last_turn last))) next answers
testing_goes t last next answers = turned last (testing_body t next) tt (testing_end t next) answers ∙ testing_turned t (last_turn last) next answers

testing_found : (t : TestIntegrity) (last : LastKeys) (is : Bool) (next : Bool → Steps) (answers : List Answer) → (if is then next false else testing_on t last next) answers ≡ carried_on testing_rest (tested_or_on t last is) next answers
testing_found t last true next answers = refl
testing_found t last false next answers = testing_goes t last next answers

testing_others : (t : TestIntegrity) (s : TestingStage) (next : Bool → Steps) (a : Answer) (answers : List Answer) → rest_testing t s next (a ∷ answers) ≡ carried_on testing_rest (after_testing t s a) next answers
testing_others t (testing.Keys k) next a answers = keys_others k (testing_body t next) tt (testing_end t next) a answers ∙ testing_turned t (keys_after k a) next answers
testing_others t (testing.Own key last) next a answers = refl
testing_others t (testing.LookMarks last) next a answers = testing_found t last (open_in t.integrity (marks_in (seen_in a))) next answers
testing_others t testing.Extensible next a answers = refl
testing_others t testing.LookExtensible next a answers = refl

pub testing_is : IsPiece testing_asks testing_after testing_rest
testing_is = record { first = λ t next. testing_first t t.stage next; others = λ t next a answers. testing_others t t.stage next a answers }

-- The machine of `hasOwnProperty` and `propertyIsEnumerable` takes their steps.
use Rattle.std.proofs.Common.{◌≡◌, ℕ, List, [], ◌∷◌, refl, ◌∙◌}
use Rattle.native_protocol.proofs.PieceLaws.{text_is}
use Rattle.native_protocol.specs.Pieces.{text_after, text_rest}
use Rattle.native_protocol.specs.Running.{carried_on}
use Rattle.native_protocol.specs.Steps.{seen_in}
use Rattle.native_protocol.specs.declared.progress.Progress.TheVariants.{Going, Ready}
use Rattle.native_protocol.specs.declared.progress.Progress.{Progress}
use Rattle.native_protocol.specs.declared.request.Answer.{Answer}
use Rattle.native_protocol.specs.declared.text_of.HeldText.{HeldText}
use Rattle.native_protocol.specs.declared.text_of.TextOf.{TextOf}
use Rattle.object_functions.proofs.NeedsLaws.{converted_needed}
use Rattle.object_functions.specs.OwnTestMachine.{testing, own_test_begin, own_test_asks_in, own_test_asks, name_read, own_test_after_in, own_test_after, this_tested, own_test_rest_in, own_test_rest, own_test_clause}
use Rattle.object_functions.specs.declared.own_test.OwnTest.TheVariants as test
use Rattle.object_functions.specs.declared.own_test.OwnTest.{OwnTest}
use Rattle.object_functions.specs.declared.own_test.OwnTestStage.TheVariants as stage
use Rattle.object_functions.specs.declared.own_test.OwnTestStage.{OwnTestStage}
use Rattle.object_functions.specs.declared.registers.Registers.{Registers}
use Rattle.primitive_natives.specs.Machines.{until_end, IsMachine}

first_asked : (t : OwnTest) (r : Registers) (s : OwnTestStage) → own_test_rest_in t r s [] ≡ own_test_asks_in r s
first_asked t r (stage.Name name) = text_is.first name (this_tested t r)
first_asked t r (stage.This name) = refl
first_asked t r (stage.Own name) = refl
first_asked t r stage.LookMarks = refl

name_joins : (t : OwnTest) (r : Registers) (p : Progress TextOf HeldText) (answers : List Answer) → carried_on text_rest p (this_tested t r) answers ≡ own_test_rest_in t r (name_read p) answers
name_joins t r (Going name) answers = refl
name_joins t r (Ready held) answers = refl

others_asked : (t : OwnTest) (r : Registers) (s : OwnTestStage) (a : Answer) (answers : List Answer) → own_test_rest_in t r s (a ∷ answers) ≡ until_end own_test_rest (own_test_after_in t r s a) answers
others_asked t r (stage.Name name) a answers = text_is.others name (this_tested t r) a answers ∙ name_joins t r (text_after name a) answers
others_asked t r (stage.This name) a answers = converted_needed own_test_rest (seen_in a) (testing t r (stage.Own name)) answers
others_asked t r (stage.Own name) a answers = refl
others_asked t r stage.LookMarks a answers = refl

pub own_test_machine : IsMachine own_test_asks own_test_after own_test_rest
own_test_machine = record { first = λ c. first_asked c.test c.registers c.stage; others = λ c a answers. others_asked c.test c.registers c.stage a answers }

pub own_test_begins : (f : OwnTest) (argc : ℕ) (answers : List Answer) → own_test_rest (own_test_begin f argc) answers ≡ own_test_clause f argc answers
own_test_begins test.There argc answers = refl
own_test_begins test.Enumerable argc answers = refl

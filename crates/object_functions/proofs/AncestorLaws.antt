-- The machine of `isPrototypeOf` takes its steps.
use Rattle.std.proofs.Common.{◌≡◌, ℕ, ◌<◌, Bool, true, false, if◌then◌else◌, List, [], ◌∷◌, length, refl, arith}
use Rattle.native_protocol.specs.Steps.{Steps, ask, is_object, reg, seen_in}
use Rattle.native_protocol.specs.declared.registers.Reg.{Reg}
use Rattle.native_protocol.specs.declared.request.Answer.{Answer}
use Rattle.native_protocol.specs.declared.request.Request.TheVariants.{Same}
use Rattle.object_functions.proofs.NeedsLaws.{converted_needed}
use Rattle.object_functions.proofs.RepeatingLaws.{Asks, repeats_is}
use Rattle.object_functions.specs.AncestorMachine.{ancestor, ancestor_begin, ancestor_asks_in, ancestor_asks, with_object, until_same, ancestor_after_in, ancestor_after, again, ancestor_rest_in, ancestor_rest}
use Rattle.object_functions.specs.Prototypes.{gives_truth, same_seen, next_prototype, is_prototype_of}
use Rattle.object_functions.specs.Repeating.{times, repeats}
use Rattle.object_functions.specs.declared.ancestor.AncestorStage.TheVariants as stage
use Rattle.object_functions.specs.declared.ancestor.AncestorStage.{AncestorStage}
use Rattle.primitive_natives.specs.Machines.{until_end, IsMachine}
use Rattle.descriptor_pieces.specs.Looks.{is_true}

-- ---- one turn of the loop asks for something

Shorter : Steps → Steps → List Answer → Type 0
Shorter f g answers = (shorter : List Answer) → length shorter < length answers → f shorter ≡ g shorter

same_alike : (to : Reg) (same : Bool) (f g : Steps) (answers : List Answer) → f answers ≡ g answers → (if same then gives_truth true to else f) answers ≡ (if same then gives_truth true to else g) answers
same_alike to true f g answers e = refl
same_alike to false f g answers e = e

object_alike : (to : Reg) (is : Bool) (f g : Steps) (answers : List Answer) → Shorter f g answers → (if is then ask (Same (reg 0) (reg 2) to) (same_seen to f) else gives_truth false to) answers ≡ (if is then ask (Same (reg 0) (reg 2) to) (same_seen to g) else gives_truth false to) answers
unfolding Shorter
object_alike to false f g answers h = refl
object_alike to true f g [] h = refl
object_alike to true f g (a ∷ []) h = refl
object_alike to true f g (a ∷ b ∷ answers) h = same_alike to (is_true (seen_in b)) f g answers (h answers (omega arith))

turn_alike : (to : Reg) (f g : Steps) (answers : List Answer) → Shorter f g answers → next_prototype to f answers ≡ next_prototype to g answers
unfolding Shorter
turn_alike to f g [] h = refl
turn_alike to f g (a ∷ []) h = refl
turn_alike to f g (a ∷ b ∷ answers) h = object_alike to (is_object (seen_in b)) f g answers (λ shorter less. h shorter (omega arith))

turn_asks : (to : Reg) → Asks (next_prototype to)
unfolding Shorter
turn_asks to = record { before = turn_alike to }

-- ---- the machine

first_asked : (to : Reg) (s : AncestorStage) → ancestor_rest_in to s [] ≡ ancestor_asks_in to s
unfolding times repeats
first_asked to stage.LookValue = refl
first_asked to stage.LookThis = refl
first_asked to stage.Proto = refl
first_asked to stage.LookProto = refl
first_asked to stage.Same = refl
first_asked to stage.LookSame = refl

object_joins : (to : Reg) (is : Bool) (s : AncestorStage) (answers : List Answer) → (if is then ancestor_rest_in to s else gives_truth false to) answers ≡ until_end ancestor_rest (with_object is to s) answers
object_joins to true s answers = refl
object_joins to false s answers = refl

same_joins : (to : Reg) (same : Bool) (answers : List Answer) → (if same then gives_truth true to else again to) answers ≡ until_end ancestor_rest (until_same same to) answers
same_joins to true answers = refl
same_joins to false answers = refl

others_asked : (to : Reg) (s : AncestorStage) (a : Answer) (answers : List Answer) → ancestor_rest_in to s (a ∷ answers) ≡ until_end ancestor_rest (ancestor_after_in to s a) answers
others_asked to stage.LookValue a answers = object_joins to (is_object (seen_in a)) stage.LookThis answers
others_asked to stage.LookThis a answers = converted_needed ancestor_rest (seen_in a) (ancestor to stage.Proto) answers
others_asked to stage.Proto a answers = repeats_is (turn_asks to) (a ∷ answers)
others_asked to stage.LookProto a answers = object_joins to (is_object (seen_in a)) stage.Same answers
others_asked to stage.Same a answers = refl
others_asked to stage.LookSame a answers = same_joins to (is_true (seen_in a)) answers

pub ancestor_machine : IsMachine ancestor_asks ancestor_after ancestor_rest
ancestor_machine = record { first = λ c. first_asked c.to c.stage; others = λ c a answers. others_asked c.to c.stage a answers }

pub ancestor_begins : (argc : ℕ) (answers : List Answer) → ancestor_rest (ancestor_begin argc) answers ≡ is_prototype_of argc answers
ancestor_begins argc answers = refl

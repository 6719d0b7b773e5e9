-- Laws of steps and of endings.
use Rattle.std.proofs.Common.{◌≡◌, List, [], ◌∷◌, refl}
use Rattle.native_protocol.specs.declared.registers.Reg.{Reg}
use Rattle.native_protocol.specs.declared.request.Answer.{Answer}
use Rattle.native_protocol.specs.declared.request.Seen.{Seen}
use Rattle.native_protocol.specs.Steps.{Steps, look, seen_in}
use Rattle.primitive_natives.specs.declared.ending.Ending.{Ending}
use Rattle.primitive_natives.specs.declared.ending.Ending.TheVariants as ending
use Rattle.primitive_natives.specs.Machines.{ending_asks, ending_after, ending_rest, IsEnding}

-- a look whose answers lead to the same steps
pub look_same : (r : Reg) (f g : Seen → Steps) → ((v : Seen) (answers : List Answer) → f v answers ≡ g v answers) → (answers : List Answer) → look r f answers ≡ look r g answers
look_same r f g same [] = refl
look_same r f g same (a ∷ answers) = same (seen_in a) answers

first_asked : (e : Ending) → ending_rest e [] ≡ ending_asks e
first_asked (ending.Give value to) = refl
first_asked (ending.Return from) = refl
first_asked (ending.Throw kind) = refl
first_asked (ending.Leave w) = refl

others_asked : (e : Ending) (a : Answer) (answers : List Answer) → ending_rest e (a ∷ answers) ≡ ending_rest (ending_after e) answers
others_asked (ending.Give value to) a answers = refl
others_asked (ending.Return from) a answers = refl
others_asked (ending.Throw kind) a answers = refl
others_asked (ending.Leave w) a answers = refl

pub endings : IsEnding
endings = record { first = first_asked; others = others_asked }

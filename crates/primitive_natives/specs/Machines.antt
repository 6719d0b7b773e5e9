-- Machines of built-ins that go on until they end, and the machine of an ending.
use Rattle.std.specs.Prelude.{◌≡◌, List, [], ◌∷◌, codes, ℕ}
use Rattle.native_protocol.specs.declared.progress.Progress.{Progress}
use Rattle.native_protocol.specs.declared.progress.Progress.TheVariants.{Going, Ready}
use Rattle.native_protocol.specs.declared.request.Answer.{Answer}
use Rattle.native_protocol.specs.declared.request.Request.{Request}
use Rattle.native_protocol.specs.declared.request.Request.TheVariants.{Make, Return, ThrowNew, Leave}
use Rattle.native_protocol.specs.Steps.{Steps, ends, leaves}
use Rattle.primitive_natives.specs.declared.ending.Ending.{Ending}
use Rattle.primitive_natives.specs.declared.ending.Ending.TheVariants as ending
use Rattle.primitive_natives.specs.declared.ending.Left.{Left}
use Rattle.primitive_natives.specs.declared.ending.Left.TheVariants as why
use Rattle.primitive_natives.specs.Endings.{gives}

abbrev pub left_name : Left → List ℕ
left_name why.Wrapper = codes "wrapper"
left_name why.Number = codes "number"

abbrev pub ending_asks : Ending → Request
ending_asks (ending.Give value to) = Make value to
ending_asks (ending.Return from) = Return from
ending_asks (ending.Throw kind) = ThrowNew kind
ending_asks (ending.Leave w) = Leave (left_name w)

abbrev pub ending_after : Ending → Ending
ending_after (ending.Give value to) = ending.Return to
ending_after (ending.Return from) = ending.Return from
ending_after (ending.Throw kind) = ending.Throw kind
ending_after (ending.Leave w) = ending.Leave w

abbrev pub ending_rest : Ending → Steps
ending_rest (ending.Give value to) = gives value to
ending_rest (ending.Return from) = ends (Return from)
ending_rest (ending.Throw kind) = ends (ThrowNew kind)
ending_rest (ending.Leave w) = leaves (left_name w)

-- what is still to take of a machine that may have come to its ending
abbrev pub until_end : {State : Type 0} → (State → Steps) → Progress State Ending → Steps
until_end rest (Going state) = rest state
until_end rest (Ready e) = ending_rest e

-- a machine that comes to an ending, and for each of its states the steps that are still to take
pub record IsMachine {State : Type 0} (asks : State → Request) (after : State → Answer → Progress State Ending) (rest : State → Steps) : Type 0 where
  pub first : (state : State) → rest state [] ≡ asks state
  pub others : (state : State) (a : Answer) (answers : List Answer) → rest state (a ∷ answers) ≡ until_end rest (after state a) answers

-- an ending takes the steps that are still to take of it
pub record IsEnding : Type 0 where
  pub first : (e : Ending) → ending_rest e [] ≡ ending_asks e
  pub others : (e : Ending) (a : Answer) (answers : List Answer) → ending_rest e (a ∷ answers) ≡ ending_rest (ending_after e) answers

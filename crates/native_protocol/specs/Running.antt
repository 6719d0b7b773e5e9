-- A machine that is told one answer after another, and the steps that it takes.
use Rattle.std.specs.Prelude.{◌≡◌, List, [], ◌∷◌}
use Rattle.native_protocol.specs.declared.progress.Progress.{Progress}
use Rattle.native_protocol.specs.declared.progress.Progress.TheVariants.{Going, Ready}
use Rattle.native_protocol.specs.declared.request.Answer.{Answer}
use Rattle.native_protocol.specs.declared.request.Request.{Request}
use Rattle.native_protocol.specs.Steps.{Steps}

-- the state behind a list of answers, the first of them first
abbrev pub behind : {State : Type 0} → (State → Answer → State) → State → List Answer → State
behind after state [] = state
behind after state (a ∷ answers) = behind after (after state a) answers

-- a machine, and for each of its states the steps that are still to take
pub record Follows {State : Type 0} (asks : State → Request) (after : State → Answer → State) (rest : State → Steps) : Type 0 where
  pub first : (state : State) → rest state [] ≡ asks state
  pub others : (state : State) (a : Answer) (answers : List Answer) → rest state (a ∷ answers) ≡ rest (after state a) answers

-- ---- pieces of built-ins: machines that end with a value, from which the built-in goes on

abbrev pub carried_on : {State Result : Type 0} → (State → (Result → Steps) → Steps) → Progress State Result → (Result → Steps) → Steps
carried_on rest (Going state) next = rest state next
carried_on rest (Ready result) next = next result

-- a piece, and for each of its states the steps that are still to take, before those that the built-in takes from the value on
pub record IsPiece {State Result : Type 0} (asks : State → Request) (after : State → Answer → Progress State Result) (rest : State → (Result → Steps) → Steps) : Type 0 where
  pub first : (state : State) (next : Result → Steps) → rest state next [] ≡ asks state
  pub others : (state : State) (next : Result → Steps) (a : Answer) (answers : List Answer) → rest state next (a ∷ answers) ≡ carried_on rest (after state a) next answers

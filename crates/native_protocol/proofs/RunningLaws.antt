-- A machine that follows its steps asks for them, whatever it was answered.
use Rattle.std.proofs.Common.{◌≡◌, List, [], ◌∷◌, sym, ◌∙◌}
use Rattle.native_protocol.specs.declared.request.Answer.{Answer}
use Rattle.native_protocol.specs.declared.request.Request.{Request}
use Rattle.native_protocol.specs.Running.{behind, Follows}
use Rattle.native_protocol.specs.Steps.{Steps}

pub asks_rest : {State : Type 0} {asks : State → Request} {after : State → Answer → State} {rest : State → Steps} → Follows asks after rest → (state : State) (answers : List Answer) → asks (behind after state answers) ≡ rest state answers
asks_rest follows state [] = sym (follows.first state)
asks_rest {after = after} follows state (a ∷ answers) = asks_rest follows (after state a) answers ∙ sym (follows.others state a answers)

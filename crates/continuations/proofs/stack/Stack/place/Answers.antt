use Rattle.std.proofs.Common.{ap, ◌∙◌}
use Rattle.continuations.specs.Going.{here}
use Rattle.continuations.proofs.JumpTargetLaws.{env_same}
use Rattle.continuations.proofs.stack.Stack.place.Goals as goal

pub returns : goal.returns
returns g c = rw (← c.self.view_is) (ap (λ e. e.place) (env_same c.self.inside.works c.self.inside.operands.items here) ∙ c.place.ensures)

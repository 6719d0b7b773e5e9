use Rattle.std.proofs.Common.{ap, sym, ◌∙◌}
use Rattle.continuations.specs.Going.{here}
use Rattle.continuations.specs.JumpTargets.{env_in}
use Rattle.continuations.proofs.JumpTargetLaws.{env_same}
use Rattle.continuations.proofs.stack.Stack.call.Goals as goal

pub returns : goal.returns
returns g c = rw (← c.self.view_is) (ap (λ e. e.call) (env_same c.self.inside.works c.self.inside.operands.items here) ∙ ap (λ ws. (env_in ws here).call) (sym c.items.ensures) ∙ c.innermost_call.ensures)

use Rattle.std.proofs.Common.{ap, sym, ◌∙◌}
use Rattle.es_meaning.specs.Environments.{find_around}
use Rattle.std.specs.Option.{option_map}
use Rattle.continuations.specs.Going.{here}
use Rattle.continuations.specs.JumpTargets.{env_in}
use Rattle.continuations.proofs.JumpTargetLaws.{env_same}
use Rattle.continuations.proofs.stack.Stack.reached.Goals as goal

pub returns : goal.returns
returns g c = let label = option_map (λ text. text.now) c.args.label in
    rw (← c.self.view_is) (c.reached.ensures ∙ ap (λ ws. find_around c.args.turn label (env_in ws here).around) c.items.ensures ∙ ap (λ e. find_around c.args.turn label e.around) (sym (env_same c.self.inside.works c.self.inside.operands.items here)))

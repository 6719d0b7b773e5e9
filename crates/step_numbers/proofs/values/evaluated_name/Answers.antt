use Rattle.step_numbers.proofs.EvaluationLaws.{name_evaluated}
use Rattle.step_numbers.proofs.values.evaluated_name.Goals as goal

pub returns-clause-evaluates : goal.returns-clause-evaluates
returns-clause-evaluates g c place = name_evaluated g.L.Labels.made g.L.Labels.meaning c.name_value.new.labels place c.args.at.0 c.args.world.now c.args.turns c.args.name.now c.in_ok-value.value c.if-turns-eq0.false c.in_ok-value.ensures.named

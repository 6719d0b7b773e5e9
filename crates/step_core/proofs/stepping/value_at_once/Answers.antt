use Rattle.step_core.proofs.AtOnce.{evaluated_steps}
use Rattle.step_core.proofs.stepping.value_at_once.Goals as goal

pub returns-clause-stepped : goal.returns-clause-stepped
returns-clause-stepped g c tables inputs set functions tells asks done =
    evaluated_steps g.L.Labels.made g.L.Labels.meaning g.L.Labels.room g.L.Labels.firm c.args.labels.now c.evaluate.new.labels c.evaluate.ensures.kept g.met.L.Labels.rising tables inputs set functions tells asks
    c.args.progress.now c.in_ok-place.place.0 c.in_ok-place.ensures.place c.args.e c.lay.new.self c.in-Some.found.value c.in-Some.found.turns c.requires.standing c.in_ok-lay.ensures.tasks c.in_ok-lay.ensures.laid c.in-Some.ensures.evaluates

use Rattle.step_core.proofs.AtOnce.{finished_steps}
use Rattle.step_core.proofs.stepping.stmt_at_once.Goals as goal

pub returns-clause-stepped : goal.returns-clause-stepped
returns-clause-stepped g c tables inputs set functions tells asks done =
    finished_steps g.L.Labels.made g.L.Labels.meaning g.L.Labels.room g.L.Labels.firm c.args.labels.now c.finish.new.labels c.finish.ensures.kept g.met.L.Labels.rising tables inputs set functions tells asks
    c.args.progress.now c.in_ok-place.place.0 c.in_ok-place.ensures.place c.finish.new.world c.args.s c.in-Some.left c.requires.standing c.in-Some.ensures.finishes c.finish.ensures.rebinds

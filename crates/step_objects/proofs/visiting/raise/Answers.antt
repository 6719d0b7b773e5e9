use Rattle.step_objects.proofs.VisitingLaws.{raised_if}
use Rattle.step_objects.proofs.visiting.raise.Goals as goal

pub returns-clause-raises : goal.returns-clause-raises
returns-clause-raises g c =
    raised_if g.L.Labels.made g.L.Labels.meaning g.L.Labels.room g.L.Labels.firm c.args.labels.now c.raise_last-result.new.labels c.raise_last-result.ensures.kept c.args.world.now c.args.label c.raise_last-result.new.self c.raise_last-result.result
    c.requires.belongs.frames c.raise_last-result.ensures.belongs c.requires.label c.raise_last-result.ensures.raised

use Rattle.continuations.proofs.Reading.{read_pushed}
use Rattle.step_control.proofs.scopes.enter.Goals as goal

pub returns-clause-entered : goal.returns-clause-entered
returns-clause-entered g c reading read =
    read_pushed g.L.Labels.made g.L.Labels.meaning g.L.Labels.room g.L.Labels.firm c.args.labels.now c.push.new.labels reading c.args.frames.now.frames c.push.new.self.frames c.args.kind c.args.label c.push.ensures.kept c.requires.belongs c.push.ensures.belongs c.requires.label c.in_ok-push.ensures.pushed read

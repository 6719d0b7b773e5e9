use Rattle.continuations.proofs.EndLaws.{read_raised}
use Rattle.step_statements.proofs.scopes.raise.Goals as goal

pub returns-clause-raised : goal.returns-clause-raised
returns-clause-raised g c reading s read =
    read_raised g.L.Labels.made g.L.Labels.meaning g.L.Labels.room g.L.Labels.firm c.args.labels.now c.raise_last.new.labels reading c.args.frames.now.frames c.raise_last.new.self.frames c.args.label c.raise_last.ensures.kept c.requires.belongs c.raise_last.ensures.belongs c.requires.label c.in_ok-raise_last.ensures.raised read s

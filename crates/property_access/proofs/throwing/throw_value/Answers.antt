use Rattle.property_access.proofs.ThrowLaws.{throw_goes, throw_fails}
use Rattle.property_access.proofs.throwing.throw_value.Goals as goal

pub returns-in_err-jump-clause-acts : goal.returns-in_err-jump-clause-acts
returns-in_err-jump-clause-acts g c = λ t read. throw_fails g.L.Labels.made g.L.Labels.meaning g.L.Labels.room g.L.Labels.firm c.args.labels.now c.jump.new.labels c.jump.ensures.kept c.args.world.now c.requires.belongs c.args.value c.requires.value c.target-target.result c.target-target.ensures.target read c.jump.new.self c.in_err-jump.field-0.0 c.from_residual.result c.in_err-jump.ensures.unchanged c.in_err-jump.ensures.stopped c.from_residual.ensures.1

pub returns-clause-acts : goal.returns-clause-acts
returns-clause-acts g c = λ t read. throw_goes g.L.Labels.made g.L.Labels.meaning g.L.Labels.room g.L.Labels.firm c.args.labels.now c.jump.new.labels c.jump.ensures.kept c.args.world.now c.requires.belongs c.args.value c.requires.value c.target-target.result c.target-target.ensures.target read c.jump.new.self c.in_ok-jump.ensures.frames c.in_ok-jump.ensures.allowed

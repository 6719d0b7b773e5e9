use Rattle.property_access.proofs.ThrowLaws.{error_thrown}
use Rattle.property_access.proofs.throwing.throw_error.Goals as goal

pub returns-clause-acts : goal.returns-clause-acts
returns-clause-acts g c = λ t read.
    error_thrown g.L.Labels.made g.L.Labels.meaning g.L.Labels.room g.L.Labels.firm c.args.labels.now c.throw_value.new.labels c.throw_value.ensures.kept read c.args.kind c.args.cause c.in_ok-error.error c.args.world.now c.make_error.new.world c.throw_value.new.world c.throw_value.result
    c.in_ok-error.ensures.number c.in_ok-error.ensures.acts (c.throw_value.ensures.acts t read)

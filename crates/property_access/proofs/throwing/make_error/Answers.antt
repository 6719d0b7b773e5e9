use Rattle.std.proofs.Common.{Some}
use Rattle.property_access.proofs.ThrowLaws.{error_made, error_belongs}
use Rattle.property_access.proofs.throwing.make_error.Goals as goal

pub returns-clause-acts : goal.returns-clause-acts
returns-clause-acts g c =
    error_made g.L.Labels.made g.L.Labels.meaning c.args.labels.now c.args.world.now c.requires c.args.kind c.error_prototype.result c.context-context.result c.new_object.new.self
    c.error_prototype.ensures.prototype c.context-context.ensures.made c.context-context.ensures.meaning c.in_ok-error.ensures.ok

pub returns-clause-belongs : goal.returns-clause-belongs
returns-clause-belongs g c =
    error_belongs g.L.Labels.made g.L.Labels.meaning c.args.labels.now c.args.world.now c.requires (Some c.error_prototype.result) c.context-context.result c.new_object.new.self
    c.context-context.ensures.made c.in_ok-error.ensures.ok c.in_ok-error.ensures.length

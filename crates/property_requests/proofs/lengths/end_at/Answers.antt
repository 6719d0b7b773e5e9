use Rattle.property_requests.proofs.LengthLaws.{ends_thrown, ends_well}
use Rattle.property_requests.proofs.lengths.end_at.Goals as goal

pub returns-in-None-clause-acts : goal.returns-in-None-clause-acts
returns-in-None-clause-acts g c = ends_well g.L.Labels.made g.L.Labels.meaning c.args.labels.now c.args.world.now c.args.site.now.place c.args.label c.args.stays c.undefined.result c.undefined.ensures c.in-None.is

pub returns-in-Some-clause-acts : goal.returns-in-Some-clause-acts
returns-in-Some-clause-acts g c = ends_thrown g.L.Labels.made g.L.Labels.meaning c.throw_by.new.labels c.args.world.now c.args.site.now.place c.args.label c.args.stays c.in-Some.field-0 c.in-Some.is c.throw_by.new.world c.throw_by.result c.throw_by.ensures.acts

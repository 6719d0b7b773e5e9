use Rattle.property_access.proofs.NameLaws.{asked_nowhere, asked_there}
use Rattle.property_access.proofs.naming.typeof_name.Goals as goal

pub returns-in-Nowhere-clause-acts : goal.returns-in-Nowhere-clause-acts
returns-in-Nowhere-clause-acts g c = asked_nowhere g.L.Labels.made g.L.Labels.meaning c.args.labels.now c.args.world.now c.args.named.place c.args.named.name.now c.args.named.walk c.in-Nowhere.is c.undefined.result c.undefined.ensures

pub returns-in_default-clause-acts : goal.returns-in_default-clause-acts
returns-in_default-clause-acts g c = asked_there g.L.Labels.made g.L.Labels.meaning c.get_name.new.labels c.args.world.now c.args.named.place c.args.named.name.now c.args.named.walk c.get_name.new.world c.get_name.result c.args.named.place c.in_default.not-Nowhere c.get_name.ensures.acts

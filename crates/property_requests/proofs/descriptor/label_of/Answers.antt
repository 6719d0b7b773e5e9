use Rattle.property_requests.proofs.DescriptorLaws.{given_none, given_some}
use Rattle.property_requests.proofs.descriptor.label_of.Goals as goal

pub returns-in-None : goal.returns-in-None
returns-in-None g c = given_none g.L.Labels.made g.L.Labels.meaning c.args.labels.now c.args.given.now c.in-None.is c.bottom.result c.bottom.ensures.made c.bottom.ensures.meaning

pub returns-in-Some : goal.returns-in-Some
returns-in-Some g c = given_some g.L.Labels.made g.L.Labels.meaning c.args.labels.now c.args.given.now c.in-Some.v c.in-Some.is c.requires

use Rattle.property_access.proofs.MeansLaws.{beyond_found, beyond_none}
use Rattle.property_access.proofs.primitives.find_beyond.Goals as goal

pub returns-in-Some-clause-found : goal.returns-in-Some-clause-found
returns-in-Some-clause-found g c = beyond_found g.L.Labels.made g.L.Labels.meaning c.find_property.new.labels c.args.world.now.heap c.args.key.now c.args.value.now c.in-Some.o c.in-Some.ensures c.find_property.result (λ x. x.now) c.find_property.ensures.place

pub returns-in-None-clause-found : goal.returns-in-None-clause-found
returns-in-None-clause-found g c = beyond_none g.L.Labels.made g.L.Labels.meaning c.args.labels.now c.args.world.now.heap c.args.key.now c.args.value.now c.bottom.result c.in-None.ensures c.bottom.ensures.made c.bottom.ensures.meaning

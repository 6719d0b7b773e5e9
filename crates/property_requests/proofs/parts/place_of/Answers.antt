use Rattle.property_requests.proofs.FindingLaws.{place_means}
use Rattle.property_requests.proofs.HeldLaws.{test_has}
use Rattle.property_requests.proofs.parts.place_of.Goals as goal

pub join-requires-clause-second : goal.join-requires-clause-second
join-requires-clause-second g c = test_has (g.L.Labels.made c.args.labels.now) c.args.heap.now c.args.o.0 c.args.key.now c.own_test-test.result c.requires.belongs c.own_test-test.ensures

pub returns-clause-means : goal.returns-clause-means
returns-clause-means g c = place_means g.L.Labels.made g.L.Labels.meaning c.join.new.labels c.args.heap.now c.args.o.0 c.args.key.now c.args.label c.own_test-test.result c.in_ok-place.place c.own_test-test.ensures c.in_ok-place.ensures.means

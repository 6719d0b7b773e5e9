use Rattle.std.proofs.Common.{sym}
use Rattle.std.specs.List.{slice_get}
use Rattle.property_requests.proofs.HeldLaws.{test_absent, test_present}
use Rattle.property_requests.proofs.parts.own_test.Goals as goal

pub returns-in-None : goal.returns-in-None
returns-in-None g c = test_absent c.args.key.now (slice_get c.args.heap.now c.args.o.0) c.shape.result c.shape.ensures (sym c.in-None.ensures)

pub returns-in-Some : goal.returns-in-Some
returns-in-Some g c = test_present c.args.key.now (slice_get c.args.heap.now c.args.o.0) c.in-Some.slot.now (sym c.in-Some.ensures)

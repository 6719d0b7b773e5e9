use Rattle.step_requests.proofs.Seen.{primitive_seen}
use Rattle.step_requests.proofs.doing.seen_of.Goals as goal

pub returns-in_ok-p-in-Primitive : goal.returns-in_ok-p-in-Primitive
returns-in_ok-p-in-Primitive g c = λ reading. primitive_seen reading c.args.heap.now c.args.value.now c.in-Primitive.p c.in_ok-p-in-Primitive.p c.in-Primitive.is c.in_ok-p-in-Primitive.ensures

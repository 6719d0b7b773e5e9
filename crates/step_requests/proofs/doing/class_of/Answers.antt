use Rattle.step_requests.proofs.Seen.{class_seen, none_seen}
use Rattle.step_requests.proofs.doing.class_of.Goals as goal

pub returns-then-o-len : goal.returns-then-o-len
returns-then-o-len g c = λ reading. class_seen reading c.args.heap.now c.args.o c.shape.result c.shape.ensures

pub returns-else-o-len : goal.returns-else-o-len
returns-else-o-len g c = λ reading. none_seen reading c.args.heap.now c.args.o c.len.result c.len.ensures.length c.if-o-len.false

use Rattle.std.proofs.Common.{sym, ◌∙◌}
use Rattle.plain_heap.proofs.PlainLaws.{length_is}
use Rattle.plain_heap.proofs.plain_heap.PlainHeap.len.Goals as goal

pub returns : goal.returns
returns g c = c.len.ensures.length ∙ sym (length_is c.self.inside.label c.self.inside.heap c.args.self.now c.self.view_is)

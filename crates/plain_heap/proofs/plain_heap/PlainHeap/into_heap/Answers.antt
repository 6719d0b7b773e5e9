use Rattle.std.proofs.Common.{ap, ◌∙◌}
use Rattle.plain_heap.specs.PlainObjects.{PlainObjects, objects_with}
use Rattle.plain_heap.proofs.plain_heap.PlainHeap.into_heap.Goals as goal

pub returns : goal.returns
returns g c = c.self.invariant ∙ ap (λ (h : PlainObjects g.row.T.Denot). objects_with h.label h.objects) c.self.view_is

use Rattle.std.proofs.Common.{ap, ◌∙◌, length, subst, sym, List}
use Rattle.js_values.specs.Objects.{Object}
use Rattle.js_values.specs.Readings.{HasHeap}
use Rattle.object_heap.specs.Acts.{give}
use Rattle.plain_heap.specs.PlainObjects.{slot_with}
use Rattle.plain_heap.proofs.GiveLaws.{length_give, has_give}
use Rattle.function_entry.proofs.adding.give.Goals as goal

pub returns-clause-gives : goal.returns-clause-gives
returns-clause-gives g c = c.in_ok-give.ensures.ok ∙ ap (λ k. give c.args.o.0 k (slot_with c.args.context (record { body = c.args.body; marks = c.args.marks })) c.args.heap.now) c.in_ok-key.ensures

pub returns-clause-length : goal.returns-clause-length
returns-clause-length g c = ap length c.in_ok-give.ensures.ok ∙ length_give c.args.heap.now c.args.o.0 c.in_ok-key.key (slot_with c.args.context (record { body = c.args.body; marks = c.args.marks }))

pub returns-clause-belongs : goal.returns-clause-belongs
returns-clause-belongs g c =
    subst (λ (h : List (Object g.row.T.Denot)). HasHeap (g.L.Labels.made c.args._labels.now) h) (sym c.in_ok-give.ensures.ok)
    (has_give (g.L.Labels.made c.args._labels.now) c.in_ok-key.key (slot_with c.args.context (record { body = c.args.body; marks = c.args.marks })) (c.requires.context, c.requires.context) c.args.heap.now c.args.o.0 c.requires.belongs)

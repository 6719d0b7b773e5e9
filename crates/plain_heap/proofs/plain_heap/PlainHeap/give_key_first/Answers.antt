use Rattle.std.proofs.Common.{ap, sym, subst, ◌∙◌, ◌<◌}
use Rattle.std.proofs.lemmas.Bool.{leb-true, leb-false}
use Rattle.es_meaning.specs.Holders.{with_first_of}
use Rattle.plain_heap.specs.PlainObjects.{changed}
use Rattle.plain_heap.proofs.PlainLaws.{all_with, give_first_with, length_is, none_given_first, view_with}
use Rattle.plain_heap.proofs.plain_heap.PlainHeap.give_key_first.Goals as goal

pub returns-then-is_past : goal.returns-then-is_past
returns-then-is_past g c =
    ap (λ os. record { label = c.args.self.now.label; objects = os })
    (sym (none_given_first c.args.self.now.objects c.args.o.0 c.args.key (record { body = c.args.body; marks = c.args.marks }) (leb-true _ _ (sym c.is_past.ensures ∙ c.if-is_past.true))))

pub give_first-requires : goal.give_first-requires
give_first-requires g c =
    record { there = subst (λ n. c.args.o.0 < n) (length_is c.self.inside.label c.self.inside.heap c.args.self.now c.self.view_is) (leb-false _ _ (sym c.is_past.ensures ∙ c.if-is_past.false)) }

pub invariant_of-self-2 : goal.invariant_of-self-2
invariant_of-self-2 g c =
    all_with c.self.inside.label c.give_first.new.self _
    (c.in_ok-give_first.ensures.ok ∙ give_first_with c.self.inside.label c.args.key (record { body = c.args.body; marks = c.args.marks }) c.self.inside.heap c.args.o.0 c.self.invariant)

pub returns : goal.returns
returns g c =
    view_with c.self.inside.label c.give_first.new.self _
    (c.in_ok-give_first.ensures.ok ∙ give_first_with c.self.inside.label c.args.key (record { body = c.args.body; marks = c.args.marks }) c.self.inside.heap c.args.o.0 c.self.invariant)
    ∙ ap (changed (with_first_of c.args.o.0 c.args.key (record { body = c.args.body; marks = c.args.marks }))) c.self.view_is

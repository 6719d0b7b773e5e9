use Rattle.std.proofs.Common.{ap, sym, subst, ◌∙◌, ◌<◌}
use Rattle.std.specs.List.{slice_get}
use Rattle.std.specs.Option.{option_map}
use Rattle.std.proofs.lemmas.Bool.{leb-true, leb-false}
use Rattle.std.proofs.lemmas.Option.{slice_get_past}
use Rattle.es_meaning.specs.Objects.{own_in}
use Rattle.plain_heap.specs.PlainObjects.{PlainObjects, seen_slot}
use Rattle.plain_heap.proofs.PlainLaws.{length_is, map_twice, own_seen}
use Rattle.plain_heap.proofs.plain_heap.PlainHeap.own.Goals as goal

pub returns-then-is_past : goal.returns-then-is_past
returns-then-is_past g c = sym (ap (own_in c.args.key.now) (slice_get_past c.args.self.now.objects c.args.o.0 (leb-true _ _ (sym c.is_past.ensures ∙ c.if-is_past.true))))

pub own-requires : goal.own-requires
own-requires g c =
    subst (λ n. c.args.o.0 < n) (length_is c.self.inside.label c.self.inside.heap c.args.self.now c.self.view_is) (leb-false _ _ (sym c.is_past.ensures ∙ c.if-is_past.false))

pub returns : goal.returns
returns g c =
    map_twice seen_slot (λ s. s.now) c.own.result
    ∙ ap (option_map seen_slot) c.own.ensures
    ∙ own_seen c.self.inside.label c.args.key.now c.self.inside.heap c.args.o.0 c.self.invariant
    ∙ ap (λ (h : PlainObjects g.row.T.Denot). own_in c.args.key.now (slice_get h.objects c.args.o.0)) c.self.view_is

use Rattle.std.proofs.Common.{ap, sym, subst, ◌∙◌, ◌<◌}
use Rattle.std.specs.List.{slice_get}
use Rattle.std.proofs.lemmas.Bool.{leb-true, leb-false}
use Rattle.std.proofs.lemmas.Option.{slice_get_past}
use Rattle.es_meaning.specs.Requested.{is_function_in}
use Rattle.plain_heap.specs.PlainObjects.{PlainObjects}
use Rattle.plain_heap.proofs.PlainLaws.{length_is, function_seen}
use Rattle.plain_heap.proofs.plain_heap.PlainHeap.is_function.Goals as goal

pub returns-then-is_past : goal.returns-then-is_past
returns-then-is_past g c = sym (ap is_function_in (slice_get_past c.args.self.now.objects c.args.o.0 (leb-true _ _ (sym c.is_past.ensures ∙ c.if-is_past.true))))

pub shape-requires : goal.shape-requires
shape-requires g c =
    subst (λ n. c.args.o.0 < n) (length_is c.self.inside.label c.self.inside.heap c.args.self.now c.self.view_is) (leb-false _ _ (sym c.is_past.ensures ∙ c.if-is_past.false))

pub returns : goal.returns
returns g c =
    c.is_function.ensures
    ∙ function_seen c.self.inside.heap c.args.o.0 c.shape.result c.shape.ensures
    ∙ ap (λ (h : PlainObjects g.row.T.Denot). is_function_in (slice_get h.objects c.args.o.0)) c.self.view_is

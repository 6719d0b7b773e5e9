use Rattle.std.proofs.Common.{ap, ◌∙◌, ◌++◌, [], ◌∷◌, length}
use Rattle.es_meaning.specs.Functions.{function_object, constructed_prototype}
use Rattle.plain_heap.specs.PlainObjects.{objects_with}
use Rattle.function_entry.proofs.MakingLaws.{Makes-both}
use Rattle.function_entry.proofs.objects.make_objects.Goals as goal

pub returns-clause-makes : goal.returns-clause-makes
returns-clause-makes g c =
    let n = length c.args.heap.now in
    Makes-both g.L.Labels.made g.L.Labels.meaning c.args.labels.now c.args.context (function_object n c.args.function c.args.env.0 c.args.count ∷ []) (constructed_prototype n ∷ []) c.args.heap.now c.make_itself.new.heap c.make_constructed.new.heap c.in_ok-o.ensures.makes
    (c.in_ok-make_constructed.ensures.makes ∙ ap (λ m. c.make_itself.new.heap ++ objects_with c.args.context (constructed_prototype m ∷ [])) c.in_ok-o.ensures.number)

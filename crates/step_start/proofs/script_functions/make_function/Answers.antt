use Rattle.std.proofs.Common.{[], ◌∷◌, length, ap, ◌∙◌}
use Rattle.es_meaning.specs.Functions.{function_object, constructed_prototype}
use Rattle.plain_heap.specs.PlainObjects.{with_more}
use Rattle.plain_heap.proofs.MoreLaws.{more_then}
use Rattle.step_start.proofs.DeclaredLaws.{both_started}
use Rattle.step_start.proofs.script_functions.make_function.Goals as goal

pub returns-clause-makes : goal.returns-clause-makes
returns-clause-makes g c =
    let n = length c.args.heap.now.objects in
    more_then c.args.heap.now c.make_itself.new.heap c.make_constructed.new.heap (function_object n c.args.function 0 c.args.count ∷ []) (constructed_prototype n ∷ []) c.in_ok-o.ensures.makes
    (c.in_ok-make_constructed.ensures ∙ ap (λ m. with_more (constructed_prototype m ∷ []) c.make_itself.new.heap) c.in_ok-o.ensures.number)

pub returns-clause-started : goal.returns-clause-started
returns-clause-started g c = both_started c.args.heap.now c.make_itself.new.heap c.make_constructed.new.heap _ _ c.requires.started c.in_ok-o.ensures.makes c.in_ok-make_constructed.ensures

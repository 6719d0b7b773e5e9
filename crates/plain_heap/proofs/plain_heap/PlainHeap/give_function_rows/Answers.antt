use Rattle.std.proofs.Common.{ap, ◌∙◌, codes}
use Rattle.std.proofs.lemmas.Result.{on_ok_weaker}
use Rattle.es_meaning.specs.Holders.{with_property_of}
use Rattle.es_meaning.specs.Start.{fixed_accessor, arguments_accessor}
use Rattle.plain_heap.specs.PlainObjects.{changed}
use Rattle.plain_heap.proofs.plain_heap.PlainHeap.give_function_rows.Goals as goal

pub returns : goal.returns
returns g c =
    on_ok_weaker c.give_accessor-2.result (λ more. more ∙ ap (changed (with_property_of c.args.o.0 (codes "arguments") (fixed_accessor arguments_accessor))) c.in_ok-give_accessor.ensures) c.give_accessor-2.ensures

use Rattle.std.proofs.Common.{ap, sym, ◌∙◌}
use Rattle.std.proofs.lemmas.Result.{on_ok_weaker}
use Rattle.es_meaning.specs.Holders.{with_holder_of}
use Rattle.plain_heap.specs.PlainObjects.{changed}
use Rattle.step_start.proofs.entries.give_holder.Goals as goal

pub returns-in-None : goal.returns-in-None
returns-in-None g c = ap (λ o. changed (with_holder_of c.args.entry.holder.now o) c.args.heap.now) (sym c.in-None.is ∙ c.holder_named.ensures)

pub returns-in-Some : goal.returns-in-Some
returns-in-Some g c =
    on_ok_weaker c.give_named.result (λ gives.
    gives ∙ ap (λ o. changed (with_holder_of c.args.entry.holder.now o) c.args.heap.now) (sym c.in-Some.is ∙ c.holder_named.ensures)) c.give_named.ensures

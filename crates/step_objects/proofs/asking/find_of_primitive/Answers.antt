use Rattle.std.proofs.Common.{ap, sym, is_some, ◌∙◌}
use Rattle.js_values.specs.Readings.{read_heap}
use Rattle.origin_labels.specs.Label.{Label}
use Rattle.js_values.specs.Walks.{Found, find}
use Rattle.es_meaning.specs.Primitives.{own_value_of}
use Rattle.flow_meaning.specs.Tracked.{primitive_chain}
use Rattle.step_objects.proofs.AskingLaws.{asked_by, asked_own, asked_beyond}
use Rattle.step_objects.proofs.asking.find_of_primitive.Goals as goal

pub returns-then-has_own-clause-asked : goal.returns-then-has_own-clause-asked
returns-then-has_own-clause-asked g c =
    asked_own g.L.Labels.made g.L.Labels.meaning c.args.labels.now (own_value_of c.args.value.now c.args.key.now) (λ reading. find c.args.key.now (primitive_chain (read_heap reading c.args.world.now.heap) c.args.value.now)) c.bottom-walk.result c.bottom-walk.ensures.made c.bottom-walk.ensures.meaning
    (ap (λ k. is_some (own_value_of c.args.value.now k)) (sym c.text.ensures) ∙ sym c.has_own.ensures ∙ c.if-has_own.true)

pub returns-clause-asked : goal.returns-clause-asked
returns-clause-asked g c =
    let means : (g.row.T.Denot → Label) → Found = λ reading. find c.args.key.now (primitive_chain (read_heap reading c.args.world.now.heap) c.args.value.now) in
    asked_beyond g.L.Labels.made g.L.Labels.meaning c.find_beyond.new.labels (own_value_of c.args.value.now c.args.key.now) means _
    (ap (λ k. is_some (own_value_of c.args.value.now k)) (sym c.text.ensures) ∙ sym c.has_own.ensures ∙ c.if-has_own.false)
    (asked_by g.L.Labels.made g.L.Labels.meaning c.find_beyond.new.labels means (λ f. (f.0, f.1.now)) c.in_ok-place.place c.in_ok-place.walk
    c.in_ok-place.ensures.found.belongs (λ reading read. c.in_ok-place.ensures.found.is reading read ∙ ap (λ k. find k (primitive_chain (read_heap reading c.args.world.now.heap) c.args.value.now)) c.text-2.ensures)
    c.is_some.result c.is_some.ensures)

use Rattle.std.proofs.Common.{ap, ◌∙◌}
use Rattle.js_values.specs.Readings.{read_heap}
use Rattle.js_values.specs.Walks.{find, object_chain}
use Rattle.step_objects.proofs.AskingLaws.{asked_by}
use Rattle.step_objects.proofs.asking.find_key.Goals as goal

pub returns-clause-asked : goal.returns-clause-asked
returns-clause-asked g c =
    asked_by g.L.Labels.made g.L.Labels.meaning c.find_property.new.labels (λ reading. find c.args.key.now (object_chain (read_heap reading c.args.world.now.heap) c.args.o.0)) (λ f. (f.0, f.1.now)) c.in_ok-place.place c.in_ok-place.walk
    c.in_ok-place.ensures.place.belongs (λ reading read. c.in_ok-place.ensures.place.is reading read ∙ ap (λ k. find k (object_chain (read_heap reading c.args.world.now.heap) c.args.o.0)) c.text.ensures)
    c.is_some.result c.is_some.ensures

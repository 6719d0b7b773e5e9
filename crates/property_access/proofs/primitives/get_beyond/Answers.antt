use Rattle.std.proofs.Common.{ap, subst}
use Rattle.std.specs.Option.{option_map}
use Rattle.origin_labels.specs.Label.{union}
use Rattle.origin_labels.proofs.StoreLaws.{IsKept-trans}
use Rattle.js_values.specs.declared.value.Value.TheVariants as value
use Rattle.js_values.specs.Readings.{read_heap, read_value}
use Rattle.js_values.specs.Walks.{find}
use Rattle.prototype_walk.specs.Answers.{IsFoundFor}
use Rattle.flow_meaning.specs.Tracked.{primitive_chain}
use Rattle.property_access.proofs.MeansLaws.{means_later, found_later, none_found_later}
use Rattle.property_access.proofs.PropertyLaws.{found_if, found_nothing}
use Rattle.property_access.proofs.primitives.get_beyond.Goals as goal

pub returns-in_ok-this-in-Some-clause-access : goal.returns-in_ok-this-in-Some-clause-access
returns-in_ok-this-in-Some-clause-access g c =
    let place = (subst (λ p. IsFoundFor g.L.Labels.made g.L.Labels.meaning c.find_beyond.new.labels (λ reading. find c.args.key.now (primitive_chain (read_heap reading c.args.world.now.heap) c.args.value.now)) (option_map (λ f. (f.0, f.1.now)) p) c.in_ok-place.walk) c.in-Some.is c.in_ok-place.ensures.found) in
    found_if g.L.Labels.made g.L.Labels.meaning c.held.new.labels (λ reading. find c.args.key.now (primitive_chain (read_heap reading c.args.world.now.heap) c.args.value.now)) (λ reading. record { value = value.Primitive c.args.value.now; label = reading c.args.this_label }) c.args.label c.in_ok-place.walk c.in_ok-depends.depends
    (means_later g.L.Labels.made g.L.Labels.meaning g.L.Labels.room g.L.Labels.firm c.join.new.labels c.held.new.labels c.held.ensures.kept c.in_ok-depends.depends (λ reading. union (reading c.args.label) (reading c.in_ok-place.walk)) c.in_ok-depends.ensures.means)
    (c.in-Some.field-0-0, c.in-Some.slot.now) c.in_ok-this-in-Some.this c.held.result (λ reading. ap (read_value reading) c.in_ok-this-in-Some.ensures)
    (found_later g.L.Labels.made g.L.Labels.meaning g.L.Labels.room g.L.Labels.firm c.find_beyond.new.labels c.held.new.labels (IsKept-trans _ _ _ _ _ _ _ c.join.ensures.kept c.held.ensures.kept) (λ reading. find c.args.key.now (primitive_chain (read_heap reading c.args.world.now.heap) c.args.value.now)) (c.in-Some.field-0-0, c.in-Some.slot.now) c.in_ok-place.walk place)
    c.held.ensures.access

pub returns-in-None-clause-access : goal.returns-in-None-clause-access
returns-in-None-clause-access g c =
    let place = (subst (λ p. IsFoundFor g.L.Labels.made g.L.Labels.meaning c.find_beyond.new.labels (λ reading. find c.args.key.now (primitive_chain (read_heap reading c.args.world.now.heap) c.args.value.now)) (option_map (λ f. (f.0, f.1.now)) p) c.in_ok-place.walk) c.in-None.is c.in_ok-place.ensures.found) in
    found_nothing g.L.Labels.made g.L.Labels.meaning c.join.new.labels (λ reading. find c.args.key.now (primitive_chain (read_heap reading c.args.world.now.heap) c.args.value.now)) (λ reading. record { value = value.Primitive c.args.value.now; label = reading c.args.this_label }) c.args.label c.in_ok-place.walk c.in_ok-depends.depends c.in_ok-depends.ensures.means
    c.undefined.result c.undefined.ensures
    (none_found_later g.L.Labels.made g.L.Labels.meaning g.L.Labels.room g.L.Labels.firm c.find_beyond.new.labels c.join.new.labels c.join.ensures.kept (λ reading. find c.args.key.now (primitive_chain (read_heap reading c.args.world.now.heap) c.args.value.now)) c.in_ok-place.walk place)

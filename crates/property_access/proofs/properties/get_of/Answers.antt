use Rattle.std.proofs.Common.{subst}
use Rattle.std.specs.Option.{option_map}
use Rattle.origin_labels.specs.Label.{union}
use Rattle.origin_labels.proofs.StoreLaws.{IsKept-trans}
use Rattle.prototype_walk.specs.Answers.{IsPlace}
use Rattle.property_access.proofs.MeansLaws.{means_later, place_later, no_place_later}
use Rattle.property_access.proofs.PropertyLaws.{got_if, got_nothing}
use Rattle.property_access.proofs.properties.get_of.Goals as goal

pub returns-in-Some-clause-access : goal.returns-in-Some-clause-access
returns-in-Some-clause-access g c =
    let place = (subst (λ p. IsPlace g.L.Labels.made g.L.Labels.meaning c.find_property.new.labels c.args.world.now.heap c.args.o.0 c.args.key.now (option_map (λ f. (f.0, f.1.now)) p) c.in_ok-place.walk) c.in-Some.is c.in_ok-place.ensures.place) in
    got_if g.L.Labels.made g.L.Labels.meaning c.held.new.labels c.args.world.now.heap c.args.o c.args.key.now c.args.this_label c.args.label c.in_ok-place.walk c.in_ok-depends.depends
    (means_later g.L.Labels.made g.L.Labels.meaning g.L.Labels.room g.L.Labels.firm c.join.new.labels c.held.new.labels c.held.ensures.kept c.in_ok-depends.depends (λ reading. union (reading c.args.label) (reading c.in_ok-place.walk)) c.in_ok-depends.ensures.means)
    (c.in-Some.field-0-0, c.in-Some.slot.now) c.object.result c.held.result c.object.ensures
    (place_later g.L.Labels.made g.L.Labels.meaning g.L.Labels.room g.L.Labels.firm c.find_property.new.labels c.held.new.labels (IsKept-trans _ _ _ _ _ _ _ c.join.ensures.kept c.held.ensures.kept) c.args.world.now.heap c.args.o.0 c.args.key.now (c.in-Some.field-0-0, c.in-Some.slot.now) c.in_ok-place.walk place)
    c.held.ensures.access

pub returns-in-None-clause-access : goal.returns-in-None-clause-access
returns-in-None-clause-access g c =
    let place = (subst (λ p. IsPlace g.L.Labels.made g.L.Labels.meaning c.find_property.new.labels c.args.world.now.heap c.args.o.0 c.args.key.now (option_map (λ f. (f.0, f.1.now)) p) c.in_ok-place.walk) c.in-None.is c.in_ok-place.ensures.place) in
    got_nothing g.L.Labels.made g.L.Labels.meaning c.join.new.labels c.args.world.now.heap c.args.o c.args.key.now c.args.this_label c.args.label c.in_ok-place.walk c.in_ok-depends.depends c.in_ok-depends.ensures.means
    c.undefined.result c.undefined.ensures
    (no_place_later g.L.Labels.made g.L.Labels.meaning g.L.Labels.room g.L.Labels.firm c.find_property.new.labels c.join.new.labels c.join.ensures.kept c.args.world.now.heap c.args.o.0 c.args.key.now c.in_ok-place.walk place)

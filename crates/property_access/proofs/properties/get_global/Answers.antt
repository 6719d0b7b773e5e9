use Rattle.std.proofs.Common.{subst, ◌∙◌}
use Rattle.std.specs.Option.{option_map}
use Rattle.origin_labels.specs.Label.{union}
use Rattle.origin_labels.proofs.StoreLaws.{IsKept-trans}
use Rattle.prototype_walk.specs.Answers.{IsPlace}
use Rattle.run_state.proofs.ActLaws.{Belongs-later}
use Rattle.property_access.proofs.MeansLaws.{means_later, place_later, no_place_later}
use Rattle.property_access.proofs.PropertyLaws.{got_globally, gone_globally}
use Rattle.js_values.proofs.ReadingLaws.{IsReading-earlier}
use Rattle.native_protocol.specs.declared.request.ErrorKind.TheVariants as kinds
use Rattle.es_meaning.specs.Operations.{One}
use Rattle.run_state.specs.Accesses.{read_access}
use Rattle.property_access.proofs.ThrowLaws.{error_recast}
use Rattle.es_meaning.specs.Start.{global_object}
use Rattle.property_access.proofs.properties.get_global.Goals as goal

pub returns-in_err-place-clause-belongs : goal.returns-in_err-place-clause-belongs
returns-in_err-place-clause-belongs g c = Belongs-later g.L.Labels.made g.L.Labels.meaning g.L.Labels.room g.L.Labels.firm c.args.labels.now c.find_property.new.labels c.find_property.ensures.kept g.met.L.Labels.rising c.args.world.now c.requires.belongs

pub returns-in_err-whole-clause-belongs : goal.returns-in_err-whole-clause-belongs
returns-in_err-whole-clause-belongs g c = Belongs-later g.L.Labels.made g.L.Labels.meaning g.L.Labels.room g.L.Labels.firm c.args.labels.now c.join.new.labels (IsKept-trans _ _ _ _ _ _ _ c.find_property.ensures.kept c.join.ensures.kept) g.met.L.Labels.rising c.args.world.now c.requires.belongs

pub throw_error-requires-clause-belongs : goal.throw_error-requires-clause-belongs
throw_error-requires-clause-belongs g c = Belongs-later g.L.Labels.made g.L.Labels.meaning g.L.Labels.room g.L.Labels.firm c.args.labels.now c.join.new.labels (IsKept-trans _ _ _ _ _ _ _ c.find_property.ensures.kept c.join.ensures.kept) g.met.L.Labels.rising c.args.world.now c.requires.belongs

pub returns-in_err-access-in-Some-clause-belongs : goal.returns-in_err-access-in-Some-clause-belongs
returns-in_err-access-in-Some-clause-belongs g c = Belongs-later g.L.Labels.made g.L.Labels.meaning g.L.Labels.room g.L.Labels.firm c.args.labels.now c.held.new.labels (IsKept-trans _ _ _ _ _ _ _ (IsKept-trans _ _ _ _ _ _ _ c.find_property.ensures.kept c.join.ensures.kept) c.held.ensures.kept) g.met.L.Labels.rising c.args.world.now c.requires.belongs

pub returns-in_ok-access-in-Some-clause-acts : goal.returns-in_ok-access-in-Some-clause-acts
returns-in_ok-access-in-Some-clause-acts g c =
    let place = (subst (λ p. IsPlace g.L.Labels.made g.L.Labels.meaning c.find_property.new.labels c.args.world.now.heap global_object.0 c.args.name.now (option_map (λ f. (f.0, f.1.now)) p) c.in_ok-place.here) c.in-Some.is c.in_ok-place.ensures.place) in
    let kept = (IsKept-trans _ _ _ _ _ _ _ (IsKept-trans _ _ _ _ _ _ _ c.find_property.ensures.kept c.join.ensures.kept) c.held.ensures.kept) in
    got_globally g.L.Labels.made g.L.Labels.meaning c.held.new.labels c.args.world.now c.args.name.now c.args.walk c.in_ok-place.here c.in_ok-whole.whole
    (means_later g.L.Labels.made g.L.Labels.meaning g.L.Labels.room g.L.Labels.firm c.join.new.labels c.held.new.labels c.held.ensures.kept c.in_ok-whole.whole (λ reading. union (reading c.args.walk) (reading c.in_ok-place.here)) c.in_ok-whole.ensures.means)
    (c.in-Some.field-0-0, c.in-Some.slot.now) c.bottom-none.result c.object.result c.in_ok-access-in-Some.access c.object.ensures
    (λ reading read. (IsReading-earlier g.L.Labels.made g.L.Labels.meaning g.L.Labels.room g.L.Labels.firm c.args.labels.now c.held.new.labels reading kept read).agrees c.bottom-none.result c.bottom-none.ensures.made ∙ c.bottom-none.ensures.meaning)
    (place_later g.L.Labels.made g.L.Labels.meaning g.L.Labels.room g.L.Labels.firm c.find_property.new.labels c.held.new.labels (IsKept-trans _ _ _ _ _ _ _ c.join.ensures.kept c.held.ensures.kept) c.args.world.now.heap global_object.0 c.args.name.now (c.in-Some.field-0-0, c.in-Some.slot.now) c.in_ok-place.here place)
    c.in_ok-access-in-Some.ensures.access

pub returns-in_ok-access-in-Some-clause-belongs : goal.returns-in_ok-access-in-Some-clause-belongs
returns-in_ok-access-in-Some-clause-belongs g c = Belongs-later g.L.Labels.made g.L.Labels.meaning g.L.Labels.room g.L.Labels.firm c.args.labels.now c.held.new.labels (IsKept-trans _ _ _ _ _ _ _ (IsKept-trans _ _ _ _ _ _ _ c.find_property.ensures.kept c.join.ensures.kept) c.held.ensures.kept) g.met.L.Labels.rising c.args.world.now c.requires.belongs

pub returns-in-None-clause-acts : goal.returns-in-None-clause-acts
returns-in-None-clause-acts g c =
    let place = (subst (λ p. IsPlace g.L.Labels.made g.L.Labels.meaning c.find_property.new.labels c.args.world.now.heap global_object.0 c.args.name.now (option_map (λ f. (f.0, f.1.now)) p) c.in_ok-place.here) c.in-None.is c.in_ok-place.ensures.place) in
    gone_globally g.L.Labels.made g.L.Labels.meaning c.throw_error.new.labels c.args.world.now c.args.name.now c.args.walk c.in_ok-place.here c.in_ok-whole.whole
    (means_later g.L.Labels.made g.L.Labels.meaning g.L.Labels.room g.L.Labels.firm c.join.new.labels c.throw_error.new.labels c.throw_error.ensures.kept c.in_ok-whole.whole (λ reading. union (reading c.args.walk) (reading c.in_ok-place.here)) c.in_ok-whole.ensures.means)
    c.throw_error.new.world c.throw_error.result
    (no_place_later g.L.Labels.made g.L.Labels.meaning g.L.Labels.room g.L.Labels.firm c.find_property.new.labels c.throw_error.new.labels (IsKept-trans _ _ _ _ _ _ _ c.join.ensures.kept c.throw_error.ensures.kept) c.args.world.now.heap global_object.0 c.args.name.now c.in_ok-place.here place)
    (error_recast g.L.Labels.made g.L.Labels.meaning c.throw_error.new.labels (λ reading x. tt) (λ reading. read_access reading) kinds.ReferenceError (λ reading. reading c.in_ok-whole.whole) c.args.world.now c.throw_error.new.world c.throw_error.result c.throw_error.ensures.made (c.throw_error.ensures.acts One (λ reading x. tt)))

use Rattle.std.proofs.Common.{sym, ap, ◌∙◌}
use Rattle.std.specs.Option.{option_map}
use Rattle.origin_labels.specs.Label.{union}
use Rattle.origin_labels.proofs.StoreLaws.{IsKept-trans}
use Rattle.js_values.specs.Readings.{read_heap, read_value}
use Rattle.js_values.specs.Walks.{find}
use Rattle.native_protocol.specs.declared.request.ErrorKind.TheVariants as kinds
use Rattle.es_meaning.specs.Operations.{One}
use Rattle.flow_meaning.specs.Tracked.{primitive_chain}
use Rattle.run_state.specs.Accesses.{read_putting}
use Rattle.run_state.proofs.ActLaws.{Belongs-later}
use Rattle.property_access.specs.Accessors.{accessor_in}
use Rattle.property_access.proofs.MeansLaws.{means_later, found_kept, slot_twice}
use Rattle.property_access.proofs.ObjectLaws.{put_entered, put_nowhere, accessor_has}
use Rattle.property_access.proofs.ThrowLaws.{error_recast}
use Rattle.property_access.proofs.primitives.put_beyond.Goals as goal

pub returns-in_err-place-clause-belongs : goal.returns-in_err-place-clause-belongs
returns-in_err-place-clause-belongs g c = Belongs-later g.L.Labels.made g.L.Labels.meaning g.L.Labels.room g.L.Labels.firm c.args.labels.now c.find_beyond.new.labels c.find_beyond.ensures.kept g.met.L.Labels.rising c.args.world.now c.requires.belongs

pub returns-in_err-depends-clause-belongs : goal.returns-in_err-depends-clause-belongs
returns-in_err-depends-clause-belongs g c = Belongs-later g.L.Labels.made g.L.Labels.meaning g.L.Labels.room g.L.Labels.firm c.args.labels.now c.join.new.labels (IsKept-trans _ _ _ _ _ _ _ c.find_beyond.ensures.kept c.join.ensures.kept) g.met.L.Labels.rising c.args.world.now c.requires.belongs

pub returns-in_err-this-in-Some-clause-belongs : goal.returns-in_err-this-in-Some-clause-belongs
returns-in_err-this-in-Some-clause-belongs g c = Belongs-later g.L.Labels.made g.L.Labels.meaning g.L.Labels.room g.L.Labels.firm c.args.labels.now c.join.new.labels (IsKept-trans _ _ _ _ _ _ _ c.find_beyond.ensures.kept c.join.ensures.kept) g.met.L.Labels.rising c.args.world.now c.requires.belongs

pub returns-in_err-whole-in-Some-clause-belongs : goal.returns-in_err-whole-in-Some-clause-belongs
returns-in_err-whole-in-Some-clause-belongs g c = Belongs-later g.L.Labels.made g.L.Labels.meaning g.L.Labels.room g.L.Labels.firm c.args.labels.now c.join-in-Some.new.labels (IsKept-trans _ _ _ _ _ _ _ (IsKept-trans _ _ _ _ _ _ _ c.find_beyond.ensures.kept c.join.ensures.kept) c.join-in-Some.ensures.kept) g.met.L.Labels.rising c.args.world.now c.requires.belongs

pub enter_setter-requires-clause-belongs : goal.enter_setter-requires-clause-belongs
enter_setter-requires-clause-belongs g c = Belongs-later g.L.Labels.made g.L.Labels.meaning g.L.Labels.room g.L.Labels.firm c.args.labels.now c.join-in-Some.new.labels (IsKept-trans _ _ _ _ _ _ _ (IsKept-trans _ _ _ _ _ _ _ c.find_beyond.ensures.kept c.join.ensures.kept) c.join-in-Some.ensures.kept) g.met.L.Labels.rising c.args.world.now c.requires.belongs

pub throw_error-requires-clause-belongs : goal.throw_error-requires-clause-belongs
throw_error-requires-clause-belongs g c = Belongs-later g.L.Labels.made g.L.Labels.meaning g.L.Labels.room g.L.Labels.firm c.args.labels.now c.join.new.labels (IsKept-trans _ _ _ _ _ _ _ c.find_beyond.ensures.kept c.join.ensures.kept) g.met.L.Labels.rising c.args.world.now c.requires.belongs

pub join-requires-in-Some-clause-second : goal.join-requires-in-Some-clause-second
join-requires-in-Some-clause-second g c = (c.join.ensures.kept.labels c.in-Some.found.label (accessor_has (g.L.Labels.made c.find_beyond.new.labels) (option_map (λ f. (f.0, f.1.now)) c.in_ok-place.place) c.in-Some.found c.in_ok-place.ensures.found.slot (sym c.in-Some.is ∙ c.accessor_at-found.ensures ∙ ap accessor_in (slot_twice c.in_ok-place.place (λ x. x.now))))).0

pub returns-in_ok-whole-in-Some-clause-acts : goal.returns-in_ok-whole-in-Some-clause-acts
returns-in_ok-whole-in-Some-clause-acts g c =
    let later = IsKept-trans _ _ _ _ _ _ _ c.join-in-Some.ensures.kept c.enter_setter.ensures.kept in
    put_entered g.L.Labels.made g.L.Labels.meaning c.enter_setter.new.labels c.args.world.now c.enter_setter.new.world c.args.value.now c.args.key.now c.args.label c.args.this_label c.enter_setter.result (option_map (λ f. (f.0, f.1.now)) c.in_ok-place.place) c.in_ok-place.walk c.in_ok-depends.depends
    (found_kept g.L.Labels.made g.L.Labels.meaning g.L.Labels.room g.L.Labels.firm c.find_beyond.new.labels c.enter_setter.new.labels (IsKept-trans _ _ _ _ _ _ _ c.join.ensures.kept later) (λ reading. find c.args.key.now (primitive_chain (read_heap reading c.args.world.now.heap) c.args.value.now)) (option_map (λ f. (f.0, f.1.now)) c.in_ok-place.place) c.in_ok-place.walk c.in_ok-place.ensures.found)
    (means_later g.L.Labels.made g.L.Labels.meaning g.L.Labels.room g.L.Labels.firm c.join.new.labels c.enter_setter.new.labels later c.in_ok-depends.depends (λ reading. union (reading c.args.label) (reading c.in_ok-place.walk)) c.in_ok-depends.ensures.means)
    c.in-Some.found c.in_ok-whole-in-Some.whole c.in_ok-this-in-Some.this (sym c.in-Some.is ∙ c.accessor_at-found.ensures ∙ ap accessor_in (slot_twice c.in_ok-place.place (λ x. x.now))) (λ reading. ap (read_value reading) c.in_ok-this-in-Some.ensures)
    (means_later g.L.Labels.made g.L.Labels.meaning g.L.Labels.room g.L.Labels.firm c.join-in-Some.new.labels c.enter_setter.new.labels c.enter_setter.ensures.kept c.in_ok-whole-in-Some.whole (λ reading. union (reading c.in_ok-depends.depends) (reading c.in-Some.found.label)) c.in_ok-whole-in-Some.ensures.means)
    c.enter_setter.ensures.acts

pub returns-in-None-clause-acts : goal.returns-in-None-clause-acts
returns-in-None-clause-acts g c =
    put_nowhere g.L.Labels.made g.L.Labels.meaning c.throw_error.new.labels c.args.world.now c.throw_error.new.world c.args.value.now c.args.key.now c.args.label c.args.this_label c.throw_error.result (option_map (λ f. (f.0, f.1.now)) c.in_ok-place.place) c.in_ok-place.walk c.in_ok-depends.depends
    (found_kept g.L.Labels.made g.L.Labels.meaning g.L.Labels.room g.L.Labels.firm c.find_beyond.new.labels c.throw_error.new.labels (IsKept-trans _ _ _ _ _ _ _ c.join.ensures.kept c.throw_error.ensures.kept) (λ reading. find c.args.key.now (primitive_chain (read_heap reading c.args.world.now.heap) c.args.value.now)) (option_map (λ f. (f.0, f.1.now)) c.in_ok-place.place) c.in_ok-place.walk c.in_ok-place.ensures.found)
    (means_later g.L.Labels.made g.L.Labels.meaning g.L.Labels.room g.L.Labels.firm c.join.new.labels c.throw_error.new.labels c.throw_error.ensures.kept c.in_ok-depends.depends (λ reading. union (reading c.args.label) (reading c.in_ok-place.walk)) c.in_ok-depends.ensures.means)
    (sym c.in-None.is ∙ c.accessor_at-found.ensures ∙ ap accessor_in (slot_twice c.in_ok-place.place (λ x. x.now)))
    (error_recast g.L.Labels.made g.L.Labels.meaning c.throw_error.new.labels (λ reading x. tt) (λ reading. read_putting reading) kinds.TypeError (λ reading. reading c.in_ok-depends.depends) c.args.world.now c.throw_error.new.world c.throw_error.result c.throw_error.ensures.made (c.throw_error.ensures.acts One (λ reading x. tt)))

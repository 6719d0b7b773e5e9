use Rattle.std.proofs.Common.{IsSome, sym, subst}
use Rattle.std.specs.List.{slice_get}
use Rattle.js_values.specs.Readings.{HasValue}
use Rattle.origin_labels.proofs.StoreLaws.{IsKept-trans}
use Rattle.object_heap.specs.Formed.{own_in}
use Rattle.run_state.proofs.ActLaws.{Belongs-later, Grows-trans}
use Rattle.property_access.proofs.MeansLaws.{means_later}
use Rattle.property_access.proofs.HeldLaws.{structure_has}
use Rattle.property_requests.proofs.ChangingLaws.{passed_has}
use Rattle.property_requests.proofs.LengthLaws.{shortens_on, shortens_stopped}
use Rattle.property_requests.proofs.lengths.shorten.Goals as goal

pub join-requires-clause-second : goal.join-requires-clause-second
join-requires-clause-second g c = structure_has c.args.world.now.heap c.args.site.now.object.0 (g.L.Labels.made c.args.labels.now) c.shape-structure.result c.requires.belongs.heap c.shape-structure.ensures

pub returns-in_err-label-clause-belongs : goal.returns-in_err-label-clause-belongs
returns-in_err-label-clause-belongs g c = Belongs-later g.L.Labels.made g.L.Labels.meaning g.L.Labels.room g.L.Labels.firm c.args.labels.now c.join.new.labels c.join.ensures.kept g.met.L.Labels.rising c.args.world.now c.requires.belongs

pub returns-in_err-place-clause-belongs : goal.returns-in_err-place-clause-belongs
returns-in_err-place-clause-belongs g c = Belongs-later g.L.Labels.made g.L.Labels.meaning g.L.Labels.room g.L.Labels.firm c.args.labels.now c.join-2.new.labels (IsKept-trans _ _ _ _ _ _ _ c.in_ok-label.ensures.kept c.join-2.ensures.kept) g.met.L.Labels.rising c.args.world.now c.requires.belongs

pub delete_down-requires-clause-belongs : goal.delete_down-requires-clause-belongs
delete_down-requires-clause-belongs g c = Belongs-later g.L.Labels.made g.L.Labels.meaning g.L.Labels.room g.L.Labels.firm c.args.labels.now c.join-2.new.labels (IsKept-trans _ _ _ _ _ _ _ c.in_ok-label.ensures.kept c.in_ok-place.ensures.kept) g.met.L.Labels.rising c.args.world.now c.requires.belongs

pub returns-in_err-cut-clause-acts : goal.returns-in_err-cut-clause-acts
returns-in_err-cut-clause-acts g c =
    shortens_stopped g.L.Labels.made g.L.Labels.meaning c.delete_down.new.labels c.args.world.now c.delete_down.new.world c.args.number c.args.site.now.object.0 c.args.site.now.place c.args.site.now.given c.from_residual-in_err-cut.result c.shape-structure.result c.shape-structure.ensures c.in_ok-label.label c.in_ok-place.place
    (means_later g.L.Labels.made g.L.Labels.meaning g.L.Labels.room g.L.Labels.firm c.join.new.labels c.delete_down.new.labels (IsKept-trans _ _ _ _ _ _ _ c.in_ok-place.ensures.kept c.delete_down.ensures.kept) c.in_ok-label.label _ c.in_ok-label.ensures.means)
    (means_later g.L.Labels.made g.L.Labels.meaning g.L.Labels.room g.L.Labels.firm c.join-2.new.labels c.delete_down.new.labels c.delete_down.ensures.kept c.in_ok-place.place _ c.in_ok-place.ensures.means)
    c.delete_down.result c.in_err-cut.field-0.0 c.in_err-cut.was c.from_residual-in_err-cut.ensures.1 c.delete_down.ensures.acts

pub returns-in_err-cut-clause-made : goal.returns-in_err-cut-clause-made
returns-in_err-cut-clause-made g c = passed_has (g.L.Labels.made c.delete_down.new.labels) _ (HasValue (g.L.Labels.made c.delete_down.new.labels)) c.delete_down.result c.in_err-cut.field-0.0 c.in_err-cut.was c.delete_down.ensures.made c.from_residual-in_err-cut.result c.from_residual-in_err-cut.ensures.1

pub give_length-requires-clause-present : goal.give_length-requires-clause-present
give_length-requires-clause-present g c =
    subst (λ k. IsSome (own_in k (slice_get c.delete_down.new.world.heap c.args.site.now.object.0))) (sym c.requires.key)
    (c.in_ok-cut.ensures.present (subst (λ k. IsSome (own_in k (slice_get c.args.world.now.heap c.args.site.now.object.0))) c.requires.key c.requires.present))

pub returns-clause-acts : goal.returns-clause-acts
returns-clause-acts g c =
    let last = c.give_length.ensures.kept in
    let behind = IsKept-trans _ _ _ _ _ _ _ c.delete_down.ensures.kept last in
    shortens_on g.L.Labels.made g.L.Labels.meaning c.give_length.new.labels c.args.world.now c.give_length.new.world c.args.number c.args.site.now.object.0 c.args.site.now.place c.args.site.now.given c.give_length.result c.shape-structure.result c.shape-structure.ensures c.in_ok-label.label c.in_ok-place.place
    (means_later g.L.Labels.made g.L.Labels.meaning g.L.Labels.room g.L.Labels.firm c.join.new.labels c.give_length.new.labels (IsKept-trans _ _ _ _ _ _ _ c.in_ok-place.ensures.kept behind) c.in_ok-label.label _ c.in_ok-label.ensures.means)
    (means_later g.L.Labels.made g.L.Labels.meaning g.L.Labels.room g.L.Labels.firm c.join-2.new.labels c.give_length.new.labels behind c.in_ok-place.place _ c.in_ok-place.ensures.means)
    g.L.Labels.room g.L.Labels.firm c.delete_down.new.labels last c.delete_down.new.world c.delete_down.result c.in_ok-cut.cut c.in_ok-cut.was c.delete_down.ensures.acts c.give_length.ensures.acts

pub returns-clause-grows : goal.returns-clause-grows
returns-clause-grows g c = Grows-trans c.args.world.now c.delete_down.new.world c.give_length.new.world c.delete_down.ensures.grows c.give_length.ensures.grows

pub returns-clause-kept : goal.returns-clause-kept
returns-clause-kept g c = IsKept-trans _ _ _ _ _ _ _ c.in_ok-label.ensures.kept (IsKept-trans _ _ _ _ _ _ _ c.in_ok-place.ensures.kept (IsKept-trans _ _ _ _ _ _ _ c.delete_down.ensures.kept c.give_length.ensures.kept))

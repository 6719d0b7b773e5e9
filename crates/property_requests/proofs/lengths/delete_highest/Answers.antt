use Rattle.std.proofs.Common.{refl, sym}
use Rattle.origin_labels.proofs.StoreLaws.{IsKept-trans}
use Rattle.run_state.proofs.ActLaws.{Belongs-later}
use Rattle.property_access.proofs.MeansLaws.{means_later}
use Rattle.property_requests.specs.Finding.{went}
use Rattle.property_requests.specs.Lengths.{HasDeletion}
use Rattle.property_requests.proofs.ChangingLaws.{faults_has, went_refused}
use Rattle.property_requests.proofs.LengthLaws.{deletes_none, deletes_on, deletes_stays, deletes_stopped, element_has, element_there}
use Rattle.property_requests.proofs.lengths.delete_highest.Goals as goal

pub returns-in_default-clause-acts : goal.returns-in_default-clause-acts
returns-in_default-clause-acts g c = deletes_none g.L.Labels.made g.L.Labels.meaning c.args.labels.now c.args.world.now c.args.world.now c.args.o.0 c.args.number c.args.place c.args.tested _ (sym c.in_default.ensures) (record { says = λ reading agrees told turns. refl })

pub join-requires-clause-second : goal.join-requires-clause-second
join-requires-clause-second g c = (element_has (g.L.Labels.made c.args.labels.now) c.args.number c.args.world.now.heap c.args.o.0 (c.in-Some.i, c.in-Some.slot.now) c.requires.belongs.heap (sym c.in-Some.ensures)).1

pub returns-in_err-tested-clause-belongs : goal.returns-in_err-tested-clause-belongs
returns-in_err-tested-clause-belongs g c = Belongs-later g.L.Labels.made g.L.Labels.meaning g.L.Labels.room g.L.Labels.firm c.args.labels.now c.join.new.labels c.join.ensures.kept g.met.L.Labels.rising c.args.world.now c.requires.belongs

pub returns-then-not-configurable-clause-acts : goal.returns-then-not-configurable-clause-acts
returns-then-not-configurable-clause-acts g c =
    deletes_stays g.L.Labels.made g.L.Labels.meaning c.join.new.labels c.args.world.now c.args.world.now c.args.o.0 c.args.number c.args.place c.args.tested _ c.in-Some.i c.in-Some.slot.now (sym c.in-Some.ensures) c.in_ok-tested.tested c.in_ok-tested.ensures.means c.if-not-configurable.true (record { says = λ reading agrees told turns. refl })

pub returns-then-not-configurable-clause-made : goal.returns-then-not-configurable-clause-made
returns-then-not-configurable-clause-made g c = (c.in_ok-tested.ensures.means.belongs, (element_there c.args.number c.args.world.now.heap c.args.o.0 (c.in-Some.i, c.in-Some.slot.now) (sym c.in-Some.ensures)).0)

pub returns-then-not-configurable-clause-belongs : goal.returns-then-not-configurable-clause-belongs
returns-then-not-configurable-clause-belongs g c = Belongs-later g.L.Labels.made g.L.Labels.meaning g.L.Labels.room g.L.Labels.firm c.args.labels.now c.join.new.labels c.in_ok-tested.ensures.kept g.met.L.Labels.rising c.args.world.now c.requires.belongs

pub delete_element-requires-clause-small : goal.delete_element-requires-clause-small
delete_element-requires-clause-small g c = (element_there c.args.number c.args.world.now.heap c.args.o.0 (c.in-Some.i, c.in-Some.slot.now) (sym c.in-Some.ensures)).0

pub delete_element-requires-clause-present : goal.delete_element-requires-clause-present
delete_element-requires-clause-present g c = (element_there c.args.number c.args.world.now.heap c.args.o.0 (c.in-Some.i, c.in-Some.slot.now) (sym c.in-Some.ensures)).1

pub delete_element-requires-clause-belongs : goal.delete_element-requires-clause-belongs
delete_element-requires-clause-belongs g c = Belongs-later g.L.Labels.made g.L.Labels.meaning g.L.Labels.room g.L.Labels.firm c.args.labels.now c.join.new.labels c.in_ok-tested.ensures.kept g.met.L.Labels.rising c.args.world.now c.requires.belongs

pub returns-in_err-delete_element-clause-acts : goal.returns-in_err-delete_element-clause-acts
returns-in_err-delete_element-clause-acts g c =
    deletes_stopped g.L.Labels.made g.L.Labels.meaning c.delete_element.new.labels c.args.world.now c.delete_element.new.world c.args.o.0 c.args.number c.args.place c.args.tested (went c.from_residual-in_err-delete_element.result) c.in-Some.i c.in-Some.slot.now (sym c.in-Some.ensures) c.in_ok-tested.tested
    (means_later g.L.Labels.made g.L.Labels.meaning g.L.Labels.room g.L.Labels.firm c.join.new.labels c.delete_element.new.labels c.delete_element.ensures.kept c.in_ok-tested.tested _ c.in_ok-tested.ensures.means) c.if-not-configurable.false
    c.delete_element.result c.in_err-delete_element.field-0.0 c.in_err-delete_element.was (went_refused c.in_err-delete_element.field-0.0 c.from_residual-in_err-delete_element.result c.from_residual-in_err-delete_element.ensures.1) c.delete_element.ensures.acts

pub returns-in_err-delete_element-clause-made : goal.returns-in_err-delete_element-clause-made
returns-in_err-delete_element-clause-made g c = faults_has (g.L.Labels.made c.delete_element.new.labels) (HasDeletion (g.L.Labels.made c.delete_element.new.labels)) c.delete_element.result c.in_err-delete_element.field-0.0 c.in_err-delete_element.was c.delete_element.ensures.made (went c.from_residual-in_err-delete_element.result) (went_refused c.in_err-delete_element.field-0.0 c.from_residual-in_err-delete_element.result c.from_residual-in_err-delete_element.ensures.1)

pub returns-clause-acts : goal.returns-clause-acts
returns-clause-acts g c =
    deletes_on g.L.Labels.made g.L.Labels.meaning c.delete_element.new.labels c.args.world.now c.delete_element.new.world c.args.o.0 c.args.number c.args.place c.args.tested c.in-Some.i c.in-Some.slot.now (sym c.in-Some.ensures) c.in_ok-tested.tested
    (means_later g.L.Labels.made g.L.Labels.meaning g.L.Labels.room g.L.Labels.firm c.join.new.labels c.delete_element.new.labels c.delete_element.ensures.kept c.in_ok-tested.tested _ c.in_ok-tested.ensures.means) c.if-not-configurable.false
    c.delete_element.result c.in_ok-delete_element.was c.delete_element.ensures.acts

pub returns-clause-kept : goal.returns-clause-kept
returns-clause-kept g c = IsKept-trans _ _ _ _ _ _ _ c.in_ok-tested.ensures.kept c.delete_element.ensures.kept

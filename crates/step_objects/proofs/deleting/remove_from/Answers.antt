use Rattle.std.proofs.Common.{arith, ◌≤◌, length, sym}
use Rattle.origin_labels.specs.Label.{union}
use Rattle.run_state.proofs.ActLaws.{Belongs-later}
use Rattle.property_access.proofs.MeansLaws.{means_later}
use Rattle.property_access.proofs.HeldLaws.{own_has, structure_has}
use Rattle.step_objects.proofs.DeletingLaws.{no_object, no_property, deletes_own}
use Rattle.step_objects.proofs.deleting.remove_from.Goals as goal

pub returns-then-o-len-clause-acts : goal.returns-then-o-len-clause-acts
returns-then-o-len-clause-acts g c =
    let past : length c.args.world.now.heap ≤ c.args.o.0 = omega (arith, c.len.ensures.length, c.if-o-len.true) in
    no_object g.L.Labels.made g.L.Labels.meaning c.args.labels.now c.args.world.now c.args.o c.args.key.now c.args.label c.yes.result c.yes.ensures past

pub join-requires-clause-second : goal.join-requires-clause-second
join-requires-clause-second g c = structure_has c.args.world.now.heap c.args.o.0 (g.L.Labels.made c.args.labels.now) c.shape-structure.result c.requires.belongs.heap c.shape-structure.ensures

pub returns-in_err-depends-clause-belongs : goal.returns-in_err-depends-clause-belongs
returns-in_err-depends-clause-belongs g c = Belongs-later g.L.Labels.made g.L.Labels.meaning g.L.Labels.room g.L.Labels.firm c.args.labels.now c.join.new.labels c.join.ensures.kept g.met.L.Labels.rising c.args.world.now c.requires.belongs

pub returns-in_default-clause-acts : goal.returns-in_default-clause-acts
returns-in_default-clause-acts g c =
    no_property g.L.Labels.made g.L.Labels.meaning c.join.new.labels c.args.world.now c.args.o c.args.key.now c.args.label c.shape-structure.result c.in_ok-depends.depends c.yes-in_default.result c.yes-in_default.ensures (sym c.in_default.ensures) c.shape-structure.ensures c.in_ok-depends.ensures.means

pub returns-in_default-clause-belongs : goal.returns-in_default-clause-belongs
returns-in_default-clause-belongs g c = Belongs-later g.L.Labels.made g.L.Labels.meaning g.L.Labels.room g.L.Labels.firm c.args.labels.now c.join.new.labels c.in_ok-depends.ensures.kept g.met.L.Labels.rising c.args.world.now c.requires.belongs

pub join-requires-2-clause-second : goal.join-requires-2-clause-second
join-requires-2-clause-second g c = (own_has c.args.world.now.heap c.args.o.0 (g.L.Labels.made c.args.labels.now) c.args.key.now c.in-Some.slot.now c.requires.belongs.heap (sym c.in-Some.ensures)).1

pub returns-in_err-place-clause-belongs : goal.returns-in_err-place-clause-belongs
returns-in_err-place-clause-belongs g c = Belongs-later g.L.Labels.made g.L.Labels.meaning g.L.Labels.room g.L.Labels.firm c.args.labels.now c.join-2.new.labels c.join-2.ensures.kept g.met.L.Labels.rising c.args.world.now c.requires.belongs

pub remove_present-requires-clause-belongs : goal.remove_present-requires-clause-belongs
remove_present-requires-clause-belongs g c = Belongs-later g.L.Labels.made g.L.Labels.meaning g.L.Labels.room g.L.Labels.firm c.args.labels.now c.join-2.new.labels c.in_ok-place.ensures.kept g.met.L.Labels.rising c.args.world.now c.requires.belongs

pub returns-clause-acts : goal.returns-clause-acts
returns-clause-acts g c =
    deletes_own g.L.Labels.made g.L.Labels.meaning c.remove_present.new.labels c.args.world.now c.args.o c.args.key.now c.args.label c.in-Some.slot.now c.in_ok-place.place c.remove_present.new.world c.remove_present.result (sym c.in-Some.ensures)
    (means_later g.L.Labels.made g.L.Labels.meaning g.L.Labels.room g.L.Labels.firm c.join-2.new.labels c.remove_present.new.labels c.remove_present.ensures.kept c.in_ok-place.place (λ reading. union (reading c.args.label) (reading c.in-Some.slot.now.existence)) c.in_ok-place.ensures.means)
    c.remove_present.ensures.acts

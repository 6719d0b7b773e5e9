use Rattle.es_meaning.specs.Operations.{One}
use Rattle.flow_meaning.specs.Tracked as tracked
use Rattle.native_protocol.specs.declared.request.ErrorKind.TheVariants as kinds
use Rattle.run_state.specs.Accesses.{read_defining}
use Rattle.property_access.proofs.ThrowLaws.{error_recast}
use Rattle.std.proofs.Common.{sym, ◌∙◌}
use Rattle.std.specs.List.{slice_get}
use Rattle.object_heap.specs.Formed.{own_in}
use Rattle.run_state.proofs.ActLaws.{Belongs-later}
use Rattle.property_requests.proofs.ChangingLaws.{change_later, change_has}
use Rattle.property_requests.proofs.DefiningLaws.{present_refused, present_changed}
use Rattle.property_access.proofs.HeldLaws.{own_has}
use Rattle.property_requests.proofs.HeldLaws.{unwrapped}
use Rattle.property_requests.proofs.defining.define_present.Goals as goal

pub returns-then-not-may_define_over-clause-acts : goal.returns-then-not-may_define_over-clause-acts
returns-then-not-may_define_over-clause-acts g c =
    let there = unwrapped (λ s. s.now) c.own.result _ c.unwrap-slot.result c.own.ensures c.unwrap-slot.ensures in
    present_refused g.L.Labels.made g.L.Labels.meaning c.refuse.new.labels c.args.world.now c.refuse.new.world c.refuse.result c.args.site.now.object.0 c.args.site.now.key c.args.site.now.place c.args.site.now.given c.args.definition c.unwrap-slot.result.now (own_in c.args.site.now.key (slice_get c.args.world.now.heap c.args.site.now.object.0)) there
    (sym c.may_define_over.ensures ∙ c.if-not-may_define_over.true) (error_recast {Z = tracked.Defining} g.L.Labels.made g.L.Labels.meaning c.refuse.new.labels (λ reading x. tt) (λ reading. read_defining reading) kinds.TypeError _ c.args.world.now c.refuse.new.world c.refuse.result c.refuse.ensures.made (c.refuse.ensures.acts One (λ reading x. tt)))

pub change_of-requires-clause-slot : goal.change_of-requires-clause-slot
change_of-requires-clause-slot g c = own_has c.args.world.now.heap c.args.site.now.object.0 (g.L.Labels.made c.args.labels.now) c.args.site.now.key c.unwrap-slot.result.now c.requires.belongs.heap (unwrapped (λ s. s.now) c.own.result _ c.unwrap-slot.result c.own.ensures c.unwrap-slot.ensures)

pub returns-in_err-change-clause-belongs : goal.returns-in_err-change-clause-belongs
returns-in_err-change-clause-belongs g c = Belongs-later g.L.Labels.made g.L.Labels.meaning g.L.Labels.room g.L.Labels.firm c.args.labels.now c.change_of.new.labels c.change_of.ensures.kept g.met.L.Labels.rising c.args.world.now c.requires.belongs

pub redefine-requires-clause-body : goal.redefine-requires-clause-body
redefine-requires-clause-body g c = change_has g.L.Labels.made g.L.Labels.meaning c.change_of.new.labels c.unwrap-slot.result.now c.args.definition c.args.site.now.given c.in_ok-change.change c.in_ok-change.ensures.change

pub redefine-requires-clause-belongs : goal.redefine-requires-clause-belongs
redefine-requires-clause-belongs g c = Belongs-later g.L.Labels.made g.L.Labels.meaning g.L.Labels.room g.L.Labels.firm c.args.labels.now c.change_of.new.labels c.in_ok-change.ensures.kept g.met.L.Labels.rising c.args.world.now c.requires.belongs

pub returns-clause-acts : goal.returns-clause-acts
returns-clause-acts g c =
    let there = unwrapped (λ s. s.now) c.own.result _ c.unwrap-slot.result c.own.ensures c.unwrap-slot.ensures in
    present_changed g.L.Labels.made g.L.Labels.meaning c.redefine.new.labels c.args.world.now c.redefine.new.world c.redefine.result c.args.site.now.object.0 c.args.site.now.key c.args.site.now.place c.args.site.now.given c.args.definition c.unwrap-slot.result.now (own_in c.args.site.now.key (slice_get c.args.world.now.heap c.args.site.now.object.0)) there
    (sym c.may_define_over.ensures ∙ c.if-not-may_define_over.false) c.in_ok-change.change
    (change_later g.L.Labels.made g.L.Labels.meaning g.L.Labels.room g.L.Labels.firm c.change_of.new.labels c.redefine.new.labels c.redefine.ensures.kept c.unwrap-slot.result.now c.args.definition c.args.site.now.given c.in_ok-change.change c.in_ok-change.ensures.change)
    c.redefine.ensures.acts

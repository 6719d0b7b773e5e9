use Rattle.std.proofs.Common.{subst}
use Rattle.js_values.specs.declared.value.Labelled.{Labelled}
use Rattle.js_values.specs.Readings.{read_heap, read_value}
use Rattle.js_values.specs.Walks.{object_chain}
use Rattle.prototype_walk.specs.declared.plan.PutPlan.TheVariants.{Write, Add, Setter, Refused}
use Rattle.prototype_walk.specs.Plans.{can_put}
use Rattle.flow_meaning.specs.Tracked.{put_by}
use Rattle.run_state.specs.Accesses.{read_putting}
use Rattle.run_state.specs.Acts.{Acts}
use Rattle.property_access.specs.Accessors.{object_with}
use Rattle.run_state.proofs.ActLaws.{Belongs-later}
use Rattle.property_access.proofs.MeansLaws.{plan_later}
use Rattle.property_access.proofs.PlanLaws.{written_has, added_hasnt}
use Rattle.property_access.proofs.ObjectLaws.{put_planned}
use Rattle.property_access.proofs.putting.put_on_object.Goals as goal

pub returns-in_err-plan-clause-belongs : goal.returns-in_err-plan-clause-belongs
returns-in_err-plan-clause-belongs g c = Belongs-later g.L.Labels.made g.L.Labels.meaning g.L.Labels.room g.L.Labels.firm c.args.labels.now c.plan_of.new.labels c.plan_of.ensures.kept g.met.L.Labels.rising c.args.world.now c.requires.belongs

pub write-requires-clause-present : goal.write-requires-clause-present
write-requires-clause-present g c = written_has g.L.Labels.made g.L.Labels.meaning c.plan_of.new.labels c.args.world.now.heap c.args.o.0 c.args.key.now c.in_ok-plan.plan c.in-Write.walk c.in_ok-plan.ensures.plan c.in-Write.is

pub write-requires-clause-belongs : goal.write-requires-clause-belongs
write-requires-clause-belongs g c = Belongs-later g.L.Labels.made g.L.Labels.meaning g.L.Labels.room g.L.Labels.firm c.args.labels.now c.plan_of.new.labels c.plan_of.ensures.kept g.met.L.Labels.rising c.args.world.now c.requires.belongs

pub add-requires-clause-there : goal.add-requires-clause-there
add-requires-clause-there g c = (added_hasnt g.L.Labels.made g.L.Labels.meaning c.plan_of.new.labels c.args.world.now.heap c.args.o.0 c.args.key.now c.in_ok-plan.plan c.in-Add.walk c.in_ok-plan.ensures.plan c.in-Add.is).0

pub add-requires-clause-absent : goal.add-requires-clause-absent
add-requires-clause-absent g c = (added_hasnt g.L.Labels.made g.L.Labels.meaning c.plan_of.new.labels c.args.world.now.heap c.args.o.0 c.args.key.now c.in_ok-plan.plan c.in-Add.walk c.in_ok-plan.ensures.plan c.in-Add.is).1

pub add-requires-clause-belongs : goal.add-requires-clause-belongs
add-requires-clause-belongs g c = Belongs-later g.L.Labels.made g.L.Labels.meaning g.L.Labels.room g.L.Labels.firm c.args.labels.now c.plan_of.new.labels c.plan_of.ensures.kept g.met.L.Labels.rising c.args.world.now c.requires.belongs

pub refuse-requires-clause-belongs : goal.refuse-requires-clause-belongs
refuse-requires-clause-belongs g c = Belongs-later g.L.Labels.made g.L.Labels.meaning g.L.Labels.room g.L.Labels.firm c.args.labels.now c.plan_of.new.labels c.plan_of.ensures.kept g.met.L.Labels.rising c.args.world.now c.requires.belongs

pub returns-in-Write-clause-acts : goal.returns-in-Write-clause-acts
returns-in-Write-clause-acts g c =
    put_planned g.L.Labels.made g.L.Labels.meaning c.write.new.labels c.args.world.now c.write.new.world c.args.o c.args.key.now c.args.label c.in-Write.walk c.args.label (object_with c.args.o c.args.this_label) c.args.value c.write.result c.args.rule c.in_ok-plan.plan (Write c.in-Write.walk) c.in-Write.is
    (plan_later g.L.Labels.made g.L.Labels.meaning g.L.Labels.room g.L.Labels.firm c.plan_of.new.labels c.write.new.labels c.write.ensures.kept (λ reading. can_put c.args.key.now (object_chain (read_heap reading c.args.world.now.heap) c.args.o.0)) c.in_ok-plan.plan c.in_ok-plan.ensures.plan)
    (c.write.ensures.acts (object_with c.args.o c.args.this_label))

pub returns-in-Add-clause-acts : goal.returns-in-Add-clause-acts
returns-in-Add-clause-acts g c =
    put_planned g.L.Labels.made g.L.Labels.meaning c.add.new.labels c.args.world.now c.add.new.world c.args.o c.args.key.now c.args.label c.in-Add.walk c.args.label (object_with c.args.o c.args.this_label) c.args.value c.add.result c.args.rule c.in_ok-plan.plan (Add c.in-Add.walk) c.in-Add.is
    (plan_later g.L.Labels.made g.L.Labels.meaning g.L.Labels.room g.L.Labels.firm c.plan_of.new.labels c.add.new.labels c.add.ensures.kept (λ reading. can_put c.args.key.now (object_chain (read_heap reading c.args.world.now.heap) c.args.o.0)) c.in_ok-plan.plan c.in_ok-plan.ensures.plan)
    (c.add.ensures.acts c.args.rule (object_with c.args.o c.args.this_label))

pub setter-requires-clause-this : goal.setter-requires-clause-this
setter-requires-clause-this g c = rw c.object.ensures ((c.plan_of.ensures.kept.labels c.args.this_label c.requires.this).0)

pub setter-requires-clause-belongs : goal.setter-requires-clause-belongs
setter-requires-clause-belongs g c = Belongs-later g.L.Labels.made g.L.Labels.meaning g.L.Labels.room g.L.Labels.firm c.args.labels.now c.plan_of.new.labels c.plan_of.ensures.kept g.met.L.Labels.rising c.args.world.now c.requires.belongs

pub returns-in-Setter-clause-acts : goal.returns-in-Setter-clause-acts
returns-in-Setter-clause-acts g c =
    put_planned g.L.Labels.made g.L.Labels.meaning c.setter.new.labels c.args.world.now c.setter.new.world c.args.o c.args.key.now c.args.label c.in-Setter.walk c.args.label (object_with c.args.o c.args.this_label) c.args.value c.setter.result c.args.rule c.in_ok-plan.plan (Setter c.in-Setter.at c.in-Setter.walk) c.in-Setter.is
    (plan_later g.L.Labels.made g.L.Labels.meaning g.L.Labels.room g.L.Labels.firm c.plan_of.new.labels c.setter.new.labels c.setter.ensures.kept (λ reading. can_put c.args.key.now (object_chain (read_heap reading c.args.world.now.heap) c.args.o.0)) c.in_ok-plan.plan c.in_ok-plan.ensures.plan)
    (subst (λ (b : Labelled g.row.T.Denot). Acts g.L.Labels.made g.L.Labels.meaning c.setter.new.labels (λ reading. read_putting reading) (λ reading. put_by (Setter c.in-Setter.at (reading c.in-Setter.walk)) c.args.rule c.args.o.0 c.args.key.now (reading c.args.label) (read_value reading b) (read_value reading c.args.value)) c.args.world.now c.setter.new.world c.setter.result) c.object.ensures (c.setter.ensures.acts c.args.rule c.args.o.0 c.args.value))

pub returns-in-Refused-clause-acts : goal.returns-in-Refused-clause-acts
returns-in-Refused-clause-acts g c =
    put_planned g.L.Labels.made g.L.Labels.meaning c.refuse.new.labels c.args.world.now c.refuse.new.world c.args.o c.args.key.now c.args.label c.in-Refused.walk c.args.label (object_with c.args.o c.args.this_label) c.args.value c.refuse.result c.args.rule c.in_ok-plan.plan (Refused c.in-Refused.walk) c.in-Refused.is
    (plan_later g.L.Labels.made g.L.Labels.meaning g.L.Labels.room g.L.Labels.firm c.plan_of.new.labels c.refuse.new.labels c.refuse.ensures.kept (λ reading. can_put c.args.key.now (object_chain (read_heap reading c.args.world.now.heap) c.args.o.0)) c.in_ok-plan.plan c.in_ok-plan.ensures.plan)
    (c.refuse.ensures.acts c.args.rule c.args.o.0 c.args.key.now (object_with c.args.o c.args.this_label) c.args.value)

use Rattle.std.proofs.Common.{◌∙◌}
use Rattle.origin_labels.specs.Label.{union}
use Rattle.run_state.proofs.ActLaws.{Belongs-later}
use Rattle.property_access.proofs.MeansLaws.{means_later}
use Rattle.property_access.proofs.ObjectLaws.{put_member, put_primitive}
use Rattle.property_access.proofs.members.put_property.Goals as goal

pub returns-in_err-label-clause-belongs : goal.returns-in_err-label-clause-belongs
returns-in_err-label-clause-belongs g c = Belongs-later g.L.Labels.made g.L.Labels.meaning g.L.Labels.room g.L.Labels.firm c.args.labels.now c.join.new.labels c.join.ensures.kept g.met.L.Labels.rising c.args.world.now c.requires.belongs

pub returns-in_err-name-clause-belongs : goal.returns-in_err-name-clause-belongs
returns-in_err-name-clause-belongs g c = Belongs-later g.L.Labels.made g.L.Labels.meaning g.L.Labels.room g.L.Labels.firm c.args.labels.now c.join.new.labels c.join.ensures.kept g.met.L.Labels.rising c.args.world.now c.requires.belongs

pub put_on_object-requires-clause-belongs : goal.put_on_object-requires-clause-belongs
put_on_object-requires-clause-belongs g c = Belongs-later g.L.Labels.made g.L.Labels.meaning g.L.Labels.room g.L.Labels.firm c.args.labels.now c.join.new.labels c.join.ensures.kept g.met.L.Labels.rising c.args.world.now c.requires.belongs

pub returns-in-Object-clause-acts : goal.returns-in-Object-clause-acts
returns-in-Object-clause-acts g c =
    put_member g.L.Labels.made g.L.Labels.meaning c.put_on_object.new.labels c.args.world.now c.args.base.now c.args.key.now c.in-Object.o c.in-Object.is c.text-text.result.now (c.text-text.ensures ∙ c.in_ok-name.ensures) c.in_ok-label.label
    (means_later g.L.Labels.made g.L.Labels.meaning g.L.Labels.room g.L.Labels.firm c.join.new.labels c.put_on_object.new.labels c.put_on_object.ensures.kept c.in_ok-label.label (λ reading. union (reading c.args.base.now.label) (reading c.args.key.now.label)) c.in_ok-label.ensures.means)
    c.args.value c.put_on_object.new.world c.put_on_object.result c.put_on_object.ensures.acts

pub put_on_primitive-requires-clause-belongs : goal.put_on_primitive-requires-clause-belongs
put_on_primitive-requires-clause-belongs g c = Belongs-later g.L.Labels.made g.L.Labels.meaning g.L.Labels.room g.L.Labels.firm c.args.labels.now c.join.new.labels c.join.ensures.kept g.met.L.Labels.rising c.args.world.now c.requires.belongs

pub returns-in-Primitive-clause-acts : goal.returns-in-Primitive-clause-acts
returns-in-Primitive-clause-acts g c =
    put_primitive g.L.Labels.made g.L.Labels.meaning c.put_on_primitive.new.labels c.args.world.now c.args.base.now c.args.key.now c.in-Primitive.p c.in-Primitive.is c.text-text.result.now (c.text-text.ensures ∙ c.in_ok-name.ensures) c.in_ok-label.label
    (means_later g.L.Labels.made g.L.Labels.meaning g.L.Labels.room g.L.Labels.firm c.join.new.labels c.put_on_primitive.new.labels c.put_on_primitive.ensures.kept c.in_ok-label.label (λ reading. union (reading c.args.base.now.label) (reading c.args.key.now.label)) c.in_ok-label.ensures.means)
    c.args.value c.put_on_primitive.new.world c.put_on_primitive.result c.put_on_primitive.ensures.acts

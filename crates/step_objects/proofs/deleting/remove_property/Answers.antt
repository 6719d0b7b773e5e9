use Rattle.std.proofs.Common.{ap, ◌∙◌}
use Rattle.origin_labels.specs.Label.{union}
use Rattle.es_meaning.specs.Plain.{key_text}
use Rattle.run_state.proofs.ActLaws.{Belongs-later}
use Rattle.property_access.proofs.MeansLaws.{means_later}
use Rattle.step_objects.proofs.DeletingLaws.{deletes_member, deletes_of_primitive}
use Rattle.step_objects.proofs.deleting.remove_property.Goals as goal

pub returns-in_err-label-clause-belongs : goal.returns-in_err-label-clause-belongs
returns-in_err-label-clause-belongs g c = Belongs-later g.L.Labels.made g.L.Labels.meaning g.L.Labels.room g.L.Labels.firm c.args.labels.now c.join.new.labels c.join.ensures.kept g.met.L.Labels.rising c.args.world.now c.requires.belongs

pub returns-in_err-value-clause-belongs : goal.returns-in_err-value-clause-belongs
returns-in_err-value-clause-belongs g c = Belongs-later g.L.Labels.made g.L.Labels.meaning g.L.Labels.room g.L.Labels.firm c.args.labels.now c.join.new.labels c.join.ensures.kept g.met.L.Labels.rising c.args.world.now c.requires.belongs

pub returns-in_err-name-clause-belongs : goal.returns-in_err-name-clause-belongs
returns-in_err-name-clause-belongs g c = Belongs-later g.L.Labels.made g.L.Labels.meaning g.L.Labels.room g.L.Labels.firm c.args.labels.now c.join.new.labels c.join.ensures.kept g.met.L.Labels.rising c.args.world.now c.requires.belongs

pub remove_from-requires-clause-belongs : goal.remove_from-requires-clause-belongs
remove_from-requires-clause-belongs g c = Belongs-later g.L.Labels.made g.L.Labels.meaning g.L.Labels.room g.L.Labels.firm c.args.labels.now c.join.new.labels c.join.ensures.kept g.met.L.Labels.rising c.args.world.now c.requires.belongs

pub remove_of_primitive-requires-clause-belongs : goal.remove_of_primitive-requires-clause-belongs
remove_of_primitive-requires-clause-belongs g c = Belongs-later g.L.Labels.made g.L.Labels.meaning g.L.Labels.room g.L.Labels.firm c.args.labels.now c.join.new.labels c.join.ensures.kept g.met.L.Labels.rising c.args.world.now c.requires.belongs

pub returns-in-Object-clause-acts : goal.returns-in-Object-clause-acts
returns-in-Object-clause-acts g c =
    deletes_member g.L.Labels.made g.L.Labels.meaning c.remove_from.new.labels c.args.world.now c.args.base.now c.args.key.now c.in-Object.o c.in-Object.is c.in_ok-name.name (c.in_ok-name.ensures ∙ ap key_text c.in_ok-value.ensures) c.in_ok-label.label
    (means_later g.L.Labels.made g.L.Labels.meaning g.L.Labels.room g.L.Labels.firm c.join.new.labels c.remove_from.new.labels c.remove_from.ensures.kept c.in_ok-label.label (λ reading. union (reading c.args.base.now.label) (reading c.args.key.now.label)) c.in_ok-label.ensures.means)
    c.remove_from.new.world c.remove_from.result c.remove_from.ensures.acts

pub returns-clause-acts : goal.returns-clause-acts
returns-clause-acts g c =
    deletes_of_primitive g.L.Labels.made g.L.Labels.meaning c.remove_of_primitive.new.labels c.args.world.now c.args.base.now c.args.key.now c.in-Primitive.p c.in-Primitive.is c.in_ok-name.name (c.in_ok-name.ensures ∙ ap key_text c.in_ok-value.ensures) c.in_ok-label.label
    (means_later g.L.Labels.made g.L.Labels.meaning g.L.Labels.room g.L.Labels.firm c.join.new.labels c.remove_of_primitive.new.labels c.remove_of_primitive.ensures.kept c.in_ok-label.label (λ reading. union (reading c.args.base.now.label) (reading c.args.key.now.label)) c.in_ok-label.ensures.means)
    c.remove_of_primitive.new.world c.remove_of_primitive.result c.remove_of_primitive.ensures.acts

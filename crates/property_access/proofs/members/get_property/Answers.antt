use Rattle.std.proofs.Common.{◌∙◌}
use Rattle.origin_labels.specs.Label.{union}
use Rattle.origin_labels.proofs.StoreLaws.{IsKept-trans}
use Rattle.run_state.proofs.ActLaws.{Belongs-later}
use Rattle.property_access.proofs.MeansLaws.{means_later}
use Rattle.property_access.proofs.ObjectLaws.{get_member, get_primitive}
use Rattle.property_access.proofs.members.get_property.Goals as goal

pub returns-in_err-label-clause-belongs : goal.returns-in_err-label-clause-belongs
returns-in_err-label-clause-belongs g c = Belongs-later g.L.Labels.made g.L.Labels.meaning g.L.Labels.room g.L.Labels.firm c.args.labels.now c.join.new.labels c.join.ensures.kept g.met.L.Labels.rising c.args.world.now c.requires.belongs

pub returns-in_err-name-clause-belongs : goal.returns-in_err-name-clause-belongs
returns-in_err-name-clause-belongs g c = Belongs-later g.L.Labels.made g.L.Labels.meaning g.L.Labels.room g.L.Labels.firm c.args.labels.now c.join.new.labels c.join.ensures.kept g.met.L.Labels.rising c.args.world.now c.requires.belongs

pub get_of-requires-clause-belongs : goal.get_of-requires-clause-belongs
get_of-requires-clause-belongs g c = Belongs-later g.L.Labels.made g.L.Labels.meaning g.L.Labels.room g.L.Labels.firm c.args.labels.now c.join.new.labels c.join.ensures.kept g.met.L.Labels.rising c.args.world.now c.requires.belongs

pub returns-in_err-access-in-Object-clause-belongs : goal.returns-in_err-access-in-Object-clause-belongs
returns-in_err-access-in-Object-clause-belongs g c = Belongs-later g.L.Labels.made g.L.Labels.meaning g.L.Labels.room g.L.Labels.firm c.args.labels.now c.get_of.new.labels (IsKept-trans _ _ _ _ _ _ _ c.join.ensures.kept c.get_of.ensures.kept) g.met.L.Labels.rising c.args.world.now c.requires.belongs

pub returns-in-Object-clause-acts : goal.returns-in-Object-clause-acts
returns-in-Object-clause-acts g c =
    get_member g.L.Labels.made g.L.Labels.meaning c.get_of.new.labels c.args.world.now c.args.base.now c.args.key.now c.in-Object.o c.in-Object.is c.text-text.result.now (c.text-text.ensures ∙ c.in_ok-name.ensures) c.in_ok-label.label
    (means_later g.L.Labels.made g.L.Labels.meaning g.L.Labels.room g.L.Labels.firm c.join.new.labels c.get_of.new.labels c.get_of.ensures.kept c.in_ok-label.label (λ reading. union (reading c.args.base.now.label) (reading c.args.key.now.label)) c.in_ok-label.ensures.means)
    c.in_ok-access-in-Object.access c.in_ok-access-in-Object.ensures.access

pub returns-in-Object-clause-belongs : goal.returns-in-Object-clause-belongs
returns-in-Object-clause-belongs g c = Belongs-later g.L.Labels.made g.L.Labels.meaning g.L.Labels.room g.L.Labels.firm c.args.labels.now c.get_of.new.labels (IsKept-trans _ _ _ _ _ _ _ c.join.ensures.kept c.get_of.ensures.kept) g.met.L.Labels.rising c.args.world.now c.requires.belongs

pub get_of_primitive-requires-clause-belongs : goal.get_of_primitive-requires-clause-belongs
get_of_primitive-requires-clause-belongs g c = Belongs-later g.L.Labels.made g.L.Labels.meaning g.L.Labels.room g.L.Labels.firm c.args.labels.now c.join.new.labels c.join.ensures.kept g.met.L.Labels.rising c.args.world.now c.requires.belongs

pub returns-in_err-read-in-Primitive-clause-belongs : goal.returns-in_err-read-in-Primitive-clause-belongs
returns-in_err-read-in-Primitive-clause-belongs g c = Belongs-later g.L.Labels.made g.L.Labels.meaning g.L.Labels.room g.L.Labels.firm c.args.labels.now c.get_of_primitive.new.labels (IsKept-trans _ _ _ _ _ _ _ c.join.ensures.kept c.get_of_primitive.ensures.kept) g.met.L.Labels.rising c.args.world.now c.requires.belongs

pub returns-clause-acts : goal.returns-clause-acts
returns-clause-acts g c =
    get_primitive g.L.Labels.made g.L.Labels.meaning c.get_of_primitive.new.labels c.args.world.now c.args.base.now c.args.key.now c.in-Primitive.p c.in-Primitive.is c.text-text.result.now (c.text-text.ensures ∙ c.in_ok-name.ensures) c.in_ok-label.label
    (means_later g.L.Labels.made g.L.Labels.meaning g.L.Labels.room g.L.Labels.firm c.join.new.labels c.get_of_primitive.new.labels c.get_of_primitive.ensures.kept c.in_ok-label.label (λ reading. union (reading c.args.base.now.label) (reading c.args.key.now.label)) c.in_ok-label.ensures.means)
    c.in_ok-read-in-Primitive.read c.in_ok-read-in-Primitive.ensures.access

pub returns-clause-belongs : goal.returns-clause-belongs
returns-clause-belongs g c = Belongs-later g.L.Labels.made g.L.Labels.meaning g.L.Labels.room g.L.Labels.firm c.args.labels.now c.get_of_primitive.new.labels (IsKept-trans _ _ _ _ _ _ _ c.join.ensures.kept c.get_of_primitive.ensures.kept) g.met.L.Labels.rising c.args.world.now c.requires.belongs

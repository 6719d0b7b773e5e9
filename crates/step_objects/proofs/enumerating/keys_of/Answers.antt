use Rattle.origin_labels.proofs.StoreLaws.{IsKept-trans}
use Rattle.run_state.proofs.ActLaws.{Belongs-later}
use Rattle.step_objects.proofs.TakingLaws.{taking_leaves, taking_goes, listed_later, belongs_framed}
use Rattle.step_objects.proofs.enumerating.keys_of.Goals as goal

pub returns-in_err-list-clause-belongs : goal.returns-in_err-list-clause-belongs
returns-in_err-list-clause-belongs g c = Belongs-later g.L.Labels.made g.L.Labels.meaning g.L.Labels.room g.L.Labels.firm c.args.labels.now c.list_keys.new.labels c.list_keys.ensures.kept g.met.L.Labels.rising c.args.world.now c.requires.belongs

pub returns-in_default-clause-acts : goal.returns-in_default-clause-acts
returns-in_default-clause-acts g c = taking_leaves g.L.Labels.made g.L.Labels.meaning c.args.world.now c.args.value c.list_keys.new.labels c.in_ok-list.field-0 c.in_default.is c.in_ok-list.ensures.listed

pub returns-in_default-clause-belongs : goal.returns-in_default-clause-belongs
returns-in_default-clause-belongs g c = Belongs-later g.L.Labels.made g.L.Labels.meaning g.L.Labels.room g.L.Labels.firm c.args.labels.now c.list_keys.new.labels c.in_ok-list.ensures.kept g.met.L.Labels.rising c.args.world.now c.requires.belongs

pub returns-in_err-label-clause-belongs : goal.returns-in_err-label-clause-belongs
returns-in_err-label-clause-belongs g c = Belongs-later g.L.Labels.made g.L.Labels.meaning g.L.Labels.room g.L.Labels.firm c.args.labels.now c.join.new.labels (IsKept-trans _ _ _ _ _ _ _ c.in_ok-list.ensures.kept c.join.ensures.kept) g.met.L.Labels.rising c.args.world.now c.requires.belongs

pub raise_last-requires-clause-belongs : goal.raise_last-requires-clause-belongs
raise_last-requires-clause-belongs g c = (Belongs-later g.L.Labels.made g.L.Labels.meaning g.L.Labels.room g.L.Labels.firm c.args.labels.now c.join.new.labels (IsKept-trans _ _ _ _ _ _ _ c.in_ok-list.ensures.kept c.in_ok-label.ensures.kept) g.met.L.Labels.rising c.args.world.now c.requires.belongs).frames

pub returns-clause-acts : goal.returns-clause-acts
returns-clause-acts g c =
    let before = Belongs-later g.L.Labels.made g.L.Labels.meaning g.L.Labels.room g.L.Labels.firm c.args.labels.now c.join.new.labels (IsKept-trans _ _ _ _ _ _ _ c.in_ok-list.ensures.kept c.in_ok-label.ensures.kept) g.met.L.Labels.rising c.args.world.now c.requires.belongs in
    taking_goes g.L.Labels.made g.L.Labels.meaning c.args.world.now c.args.value g.L.Labels.room g.L.Labels.firm c.join.new.labels c.raise_last.new.labels c.raise_last.ensures.kept c.in_ok-label.label c.raise_last.new.self c.in-Some.list
    c.in_ok-list.field-0 c.in-Some.is
    (listed_later g.L.Labels.made g.L.Labels.meaning g.L.Labels.room g.L.Labels.firm c.list_keys.new.labels c.join.new.labels c.in_ok-label.ensures.kept c.args.world.now.heap c.args.value.value c.in_ok-list.field-0 c.in_ok-list.ensures.listed)
    c.in_ok-label.ensures.means before.frames c.raise_last.ensures.belongs c.in_ok-raise_last.ensures.raised

pub returns-clause-belongs : goal.returns-clause-belongs
returns-clause-belongs g c =
    belongs_framed g.L.Labels.made g.L.Labels.meaning g.L.Labels.room g.L.Labels.firm c.args.labels.now c.raise_last.new.labels (IsKept-trans _ _ _ _ _ _ _ (IsKept-trans _ _ _ _ _ _ _ c.in_ok-list.ensures.kept c.in_ok-label.ensures.kept) c.raise_last.ensures.kept) c.args.world.now c.requires.belongs g.met.L.Labels.rising c.raise_last.new.self
    c.raise_last.ensures.belongs c.len-depth.ensures.catch

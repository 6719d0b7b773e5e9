use Rattle.origin_labels.specs.Label.{union}
use Rattle.origin_labels.proofs.StoreLaws.{IsKept-trans}
use Rattle.js_values.specs.Readings.{read_heap}
use Rattle.run_state.proofs.ActLaws.{Belongs-later}
use Rattle.property_access.proofs.MeansLaws.{means_later}
use Rattle.step_objects.specs.Asking.{asked_of}
use Rattle.step_objects.proofs.AskingLaws.{has_goes, asked_later}
use Rattle.step_objects.proofs.asking.has_key.Goals as goal

pub returns-in_err-label-clause-belongs : goal.returns-in_err-label-clause-belongs
returns-in_err-label-clause-belongs g c = Belongs-later g.L.Labels.made g.L.Labels.meaning g.L.Labels.room g.L.Labels.firm c.args.labels.now c.join.new.labels c.join.ensures.kept g.met.L.Labels.rising c.args.world.now c.requires.belongs

pub returns-in_err-name-clause-belongs : goal.returns-in_err-name-clause-belongs
returns-in_err-name-clause-belongs g c = Belongs-later g.L.Labels.made g.L.Labels.meaning g.L.Labels.room g.L.Labels.firm c.args.labels.now c.join.new.labels c.join.ensures.kept g.met.L.Labels.rising c.args.world.now c.requires.belongs

pub ask-requires : goal.ask-requires
ask-requires g c = Belongs-later g.L.Labels.made g.L.Labels.meaning g.L.Labels.room g.L.Labels.firm c.args.labels.now c.join.new.labels c.join.ensures.kept g.met.L.Labels.rising c.args.world.now c.requires.belongs

pub returns-in_err-asked-clause-belongs : goal.returns-in_err-asked-clause-belongs
returns-in_err-asked-clause-belongs g c = Belongs-later g.L.Labels.made g.L.Labels.meaning g.L.Labels.room g.L.Labels.firm c.args.labels.now c.ask.new.labels (IsKept-trans _ _ _ _ _ _ _ c.join.ensures.kept c.ask.ensures.kept) g.met.L.Labels.rising c.args.world.now c.requires.belongs

pub returns-in_err-depends-clause-belongs : goal.returns-in_err-depends-clause-belongs
returns-in_err-depends-clause-belongs g c = Belongs-later g.L.Labels.made g.L.Labels.meaning g.L.Labels.room g.L.Labels.firm c.args.labels.now c.join-2.new.labels (IsKept-trans _ _ _ _ _ _ _ (IsKept-trans _ _ _ _ _ _ _ c.join.ensures.kept c.ask.ensures.kept) c.join-2.ensures.kept) g.met.L.Labels.rising c.args.world.now c.requires.belongs

pub returns-clause-acts : goal.returns-clause-acts
returns-clause-acts g c = λ tables inputs.
    let kept = IsKept-trans _ _ _ _ _ _ _ c.in_ok-asked.ensures.kept c.in_ok-depends.ensures.kept in
    let kept_all = IsKept-trans _ _ _ _ _ _ _ c.in_ok-label.ensures.kept kept in
    has_goes tables inputs g.L.Labels.made g.L.Labels.meaning g.met.L.Labels.rising c.join-2.new.labels c.args.world.now c.args.key c.args.object c.in_ok-name.name c.in_ok-name.ensures c.in_ok-label.label c.in_ok-depends.depends c.in_ok-asked.asked
    (kept_all.labels c.args.object.label c.requires.object).0
    (means_later g.L.Labels.made g.L.Labels.meaning g.L.Labels.room g.L.Labels.firm c.join.new.labels c.join-2.new.labels kept c.in_ok-label.label (λ reading. union (reading c.args.key.label) (reading c.args.object.label)) c.in_ok-label.ensures.means)
    (asked_later g.L.Labels.made g.L.Labels.meaning g.L.Labels.room g.L.Labels.firm c.ask.new.labels c.join-2.new.labels c.in_ok-depends.ensures.kept (λ reading. asked_of (read_heap reading c.args.world.now.heap) c.in_ok-name.name c.args.object.value) c.in_ok-asked.asked c.in_ok-asked.ensures.asked)
    c.in_ok-depends.ensures.means

pub returns-clause-belongs : goal.returns-clause-belongs
returns-clause-belongs g c = Belongs-later g.L.Labels.made g.L.Labels.meaning g.L.Labels.room g.L.Labels.firm c.args.labels.now c.join-2.new.labels (IsKept-trans _ _ _ _ _ _ _ (IsKept-trans _ _ _ _ _ _ _ c.in_ok-label.ensures.kept c.in_ok-asked.ensures.kept) c.in_ok-depends.ensures.kept) g.met.L.Labels.rising c.args.world.now c.requires.belongs

use Rattle.js_values.specs.Readings.{HasValue}
use Rattle.origin_labels.proofs.StoreLaws.{IsKept-trans}
use Rattle.run_state.proofs.ActLaws.{Belongs-later, Grows-trans}
use Rattle.property_access.proofs.MeansLaws.{means_later}
use Rattle.property_requests.proofs.ChangingLaws.{faults_has}
use Rattle.property_requests.proofs.LengthLaws.{gives_on, gives_stopped}
use Rattle.property_requests.proofs.lengths.give_length.Goals as goal

pub returns-in_err-depends-clause-belongs : goal.returns-in_err-depends-clause-belongs
returns-in_err-depends-clause-belongs g c = Belongs-later g.L.Labels.made g.L.Labels.meaning g.L.Labels.room g.L.Labels.firm c.args.labels.now c.join.new.labels c.join.ensures.kept g.met.L.Labels.rising c.args.world.now c.requires.belongs

pub set_body-requires-clause-belongs : goal.set_body-requires-clause-belongs
set_body-requires-clause-belongs g c = Belongs-later g.L.Labels.made g.L.Labels.meaning g.L.Labels.room g.L.Labels.firm c.args.labels.now c.join.new.labels c.in_ok-depends.ensures.kept g.met.L.Labels.rising c.args.world.now c.requires.belongs

pub returns-in_err-set_body-clause-acts : goal.returns-in_err-set_body-clause-acts
returns-in_err-set_body-clause-acts g c =
    gives_stopped g.L.Labels.made g.L.Labels.meaning c.set_body.new.labels c.args.world.now c.set_body.new.world c.args.number c.args.site.now.object.0 c.args.site.now.key c.requires.key c.args.site.now.place c.args.label c.args.cut c.from_residual-in_err-set_body.result c.in_ok-depends.depends c.length_body-body.result c.length_behind.result
    (means_later g.L.Labels.made g.L.Labels.meaning g.L.Labels.room g.L.Labels.firm c.join.new.labels c.set_body.new.labels c.set_body.ensures.kept c.in_ok-depends.depends _ c.in_ok-depends.ensures.means) c.length_body-body.ensures c.length_behind.ensures
    c.set_body.result c.in_err-set_body.field-0.0 c.in_err-set_body.was c.from_residual-in_err-set_body.ensures.1 c.set_body.ensures.acts

pub returns-in_err-set_body-clause-made : goal.returns-in_err-set_body-clause-made
returns-in_err-set_body-clause-made g c = faults_has (g.L.Labels.made c.set_body.new.labels) (HasValue (g.L.Labels.made c.set_body.new.labels)) c.set_body.result c.in_err-set_body.field-0.0 c.in_err-set_body.was c.set_body.ensures.made c.from_residual-in_err-set_body.result c.from_residual-in_err-set_body.ensures.1

pub returns-clause-acts : goal.returns-clause-acts
returns-clause-acts g c =
    gives_on g.L.Labels.made g.L.Labels.meaning c.end_at.new.labels c.args.world.now c.end_at.new.world c.args.number c.args.site.now.object.0 c.args.site.now.key c.requires.key c.args.site.now.place c.args.label c.args.cut c.end_at.result c.in_ok-depends.depends c.length_body-body.result c.length_behind.result
    (means_later g.L.Labels.made g.L.Labels.meaning g.L.Labels.room g.L.Labels.firm c.join.new.labels c.end_at.new.labels (IsKept-trans _ _ _ _ _ _ _ c.set_body.ensures.kept c.end_at.ensures.kept) c.in_ok-depends.depends _ c.in_ok-depends.ensures.means) c.length_body-body.ensures c.length_behind.ensures
    g.L.Labels.room g.L.Labels.firm c.set_body.new.labels c.end_at.ensures.kept c.set_body.new.world c.set_body.result c.in_ok-set_body.was c.set_body.ensures.acts c.end_at.ensures.acts

pub returns-clause-grows : goal.returns-clause-grows
returns-clause-grows g c = Grows-trans c.args.world.now c.set_body.new.world c.end_at.new.world c.set_body.ensures.grows c.end_at.ensures.grows

pub returns-clause-kept : goal.returns-clause-kept
returns-clause-kept g c = IsKept-trans _ _ _ _ _ _ _ c.in_ok-depends.ensures.kept (IsKept-trans _ _ _ _ _ _ _ c.set_body.ensures.kept c.end_at.ensures.kept)

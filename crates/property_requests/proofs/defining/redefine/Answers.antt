use Rattle.std.proofs.Common.{refl}
use Rattle.run_state.specs.Accesses.{HasDefining}
use Rattle.origin_labels.proofs.StoreLaws.{IsKept-trans}
use Rattle.run_state.proofs.ActLaws.{Grows-trans}
use Rattle.property_requests.proofs.ChangingLaws.{marks_fail, body_fails, both_set, faults_has}
use Rattle.property_requests.proofs.DescriptorLaws.{body_later}
use Rattle.property_requests.proofs.defining.redefine.Goals as goal

pub returns-in_err-set_marks-clause-acts : goal.returns-in_err-set_marks-clause-acts
returns-in_err-set_marks-clause-acts g c =
    marks_fail g.L.Labels.made g.L.Labels.meaning c.set_marks.new.labels c.args.world.now c.set_marks.new.world c.args.site.now.object.0 c.args.site.now.key c.args.site.now.place c.args.site.now.given c.args.change c.set_marks.result c.in_err-set_marks.field-0.0 c.in_err-set_marks.was c.set_marks.ensures.acts c.from_residual.result c.from_residual.ensures.1

pub returns-in_err-set_marks-clause-made : goal.returns-in_err-set_marks-clause-made
returns-in_err-set_marks-clause-made g c = faults_has (g.L.Labels.made c.set_marks.new.labels) (HasDefining (g.L.Labels.made c.set_marks.new.labels)) c.set_marks.result c.in_err-set_marks.field-0.0 c.in_err-set_marks.was c.set_marks.ensures.made c.from_residual.result c.from_residual.ensures.1

pub set_body-requires-clause-body : goal.set_body-requires-clause-body
set_body-requires-clause-body g c = body_later g.L.Labels.made g.L.Labels.meaning g.L.Labels.room g.L.Labels.firm c.args.labels.now c.set_marks.new.labels c.set_marks.ensures.kept c.args.change.body c.requires.body

pub returns-in_err-set_body-clause-acts : goal.returns-in_err-set_body-clause-acts
returns-in_err-set_body-clause-acts g c =
    body_fails g.L.Labels.made g.L.Labels.meaning g.L.Labels.room g.L.Labels.firm c.set_marks.new.labels c.set_body.new.labels c.set_body.ensures.kept c.args.world.now c.set_marks.new.world c.set_body.new.world c.args.site.now.object.0 c.args.site.now.key c.args.site.now.place c.args.site.now.given c.args.change c.set_marks.result c.in_ok-set_marks.was c.set_marks.ensures.acts
    c.set_body.result c.in_err-set_body.field-0.0 c.in_err-set_body.was c.set_body.ensures.acts c.from_residual-in_err-set_body.result c.from_residual-in_err-set_body.ensures.1

pub returns-in_err-set_body-clause-made : goal.returns-in_err-set_body-clause-made
returns-in_err-set_body-clause-made g c = faults_has (g.L.Labels.made c.set_body.new.labels) (HasDefining (g.L.Labels.made c.set_body.new.labels)) c.set_body.result c.in_err-set_body.field-0.0 c.in_err-set_body.was c.set_body.ensures.made c.from_residual-in_err-set_body.result c.from_residual-in_err-set_body.ensures.1

pub returns-in_err-set_body-clause-grows : goal.returns-in_err-set_body-clause-grows
returns-in_err-set_body-clause-grows g c = Grows-trans c.args.world.now c.set_marks.new.world c.set_body.new.world c.set_marks.ensures.grows c.set_body.ensures.grows

pub returns-clause-acts : goal.returns-clause-acts
returns-clause-acts g c =
    both_set g.L.Labels.made g.L.Labels.meaning g.L.Labels.room g.L.Labels.firm c.set_marks.new.labels c.set_body.new.labels c.set_body.ensures.kept c.args.world.now c.set_marks.new.world c.set_body.new.world c.args.site.now.object.0 c.args.site.now.key c.args.site.now.place c.args.site.now.given c.args.change c.set_marks.result c.in_ok-set_marks.was c.set_marks.ensures.acts
    c.set_body.result c.in_ok-set_body.was c.set_body.ensures.acts _ refl

pub returns-clause-grows : goal.returns-clause-grows
returns-clause-grows g c = Grows-trans c.args.world.now c.set_marks.new.world c.set_body.new.world c.set_marks.ensures.grows c.set_body.ensures.grows

pub returns-clause-kept : goal.returns-clause-kept
returns-clause-kept g c = IsKept-trans _ _ _ _ _ _ _ c.set_marks.ensures.kept c.set_body.ensures.kept

use Rattle.std.proofs.Common.{sym, ◌∙◌}
use Rattle.js_values.specs.Readings.{HasValue, read_value}
use Rattle.origin_labels.proofs.StoreLaws.{IsKept-trans}
use Rattle.es_meaning.specs.Operations.{Value}
use Rattle.run_state.proofs.ActLaws.{Grows-trans}
use Rattle.property_requests.proofs.ChangingLaws.{faults_has}
use Rattle.property_requests.proofs.LengthLaws.{sets_on, sets_refused, sets_stopped}
use Rattle.property_requests.proofs.lengths.set_at.Goals as goal

pub returns-in_default-clause-acts : goal.returns-in_default-clause-acts
returns-in_default-clause-acts g c =
    sets_refused g.L.Labels.made g.L.Labels.meaning c.refuse.new.labels c.args.world.now c.refuse.new.world c.args.how c.args.number c.args.site.now c.refuse.result c.requires.there c.requires.key (sym c.marks_behind.ensures ∙ c.in_default.is) (c.refuse.ensures.acts Value (λ reading. read_value reading))

pub returns-in_err-define_marks-clause-acts : goal.returns-in_err-define_marks-clause-acts
returns-in_err-define_marks-clause-acts g c =
    sets_stopped g.L.Labels.made g.L.Labels.meaning c.define_marks.new.labels c.args.world.now c.define_marks.new.world c.args.how c.args.number c.args.site.now c.from_residual.result c.requires.there c.requires.key c.in-Some.marks (sym c.marks_behind.ensures ∙ c.in-Some.is)
    c.define_marks.result c.in_err-define_marks.field-0.0 c.in_err-define_marks.was c.from_residual.ensures.1 c.define_marks.ensures.acts

pub returns-in_err-define_marks-clause-made : goal.returns-in_err-define_marks-clause-made
returns-in_err-define_marks-clause-made g c = faults_has (g.L.Labels.made c.define_marks.new.labels) (HasValue (g.L.Labels.made c.define_marks.new.labels)) c.define_marks.result c.in_err-define_marks.field-0.0 c.in_err-define_marks.was c.define_marks.ensures.made c.from_residual.result c.from_residual.ensures.1

pub returns-clause-acts : goal.returns-clause-acts
returns-clause-acts g c =
    sets_on g.L.Labels.made g.L.Labels.meaning c.shorten.new.labels c.args.world.now c.shorten.new.world c.args.how c.args.number c.args.site.now c.shorten.result c.requires.there c.requires.key g.L.Labels.room g.L.Labels.firm c.define_marks.new.labels c.shorten.ensures.kept c.define_marks.new.world c.in-Some.marks (sym c.marks_behind.ensures ∙ c.in-Some.is)
    c.define_marks.result c.in_ok-define_marks.was c.define_marks.ensures.acts c.in_ok-define_marks.ensures.outline c.shorten.ensures.acts

pub returns-clause-grows : goal.returns-clause-grows
returns-clause-grows g c = Grows-trans c.args.world.now c.define_marks.new.world c.shorten.new.world c.define_marks.ensures.grows c.shorten.ensures.grows

pub returns-clause-kept : goal.returns-clause-kept
returns-clause-kept g c = IsKept-trans _ _ _ _ _ _ _ c.define_marks.ensures.kept c.shorten.ensures.kept

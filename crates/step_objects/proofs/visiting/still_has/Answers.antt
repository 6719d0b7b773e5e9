use Rattle.std.proofs.Common.{ap, ◌∙◌}
use Rattle.es_meaning.specs.Plain.{key_text}
use Rattle.step_objects.proofs.VisitingLaws.{still_fails, still_goes, still_leaves, still_throws}
use Rattle.step_objects.proofs.visiting.still_has.Goals as goal

pub returns-in_err-answer-clause-acts : goal.returns-in_err-answer-clause-acts
returns-in_err-answer-clause-acts g c = λ tables inputs.
    let kept = c.has_key.ensures.kept in
    let none = c.bottom.result in
    still_fails tables inputs g.L.Labels.made g.L.Labels.meaning c.has_key.new.labels c.args.object.now c.args.key.now c.in_ok-text.text none (c.in_ok-text.ensures ∙ ap key_text c.in_ok-copy.ensures) (kept.labels none c.bottom.ensures.made).0 ((kept.labels none c.bottom.ensures.made).1 ∙ c.bottom.ensures.meaning) c.args.world.now c.args.world.now
    c.in_err-answer.field-0.0 c.from_residual-in_err-answer.result c.from_residual-in_err-answer.ensures.1 (rw c.in_ok-object.ensures at (c.in_err-answer.ensures.acts tables inputs))

pub returns-in-Throws-clause-acts : goal.returns-in-Throws-clause-acts
returns-in-Throws-clause-acts g c = λ tables inputs.
    let kept = c.has_key.ensures.kept in
    let none = c.bottom.result in
    still_throws tables inputs g.L.Labels.made g.L.Labels.meaning c.has_key.new.labels c.args.object.now c.args.key.now c.in_ok-text.text none (c.in_ok-text.ensures ∙ ap key_text c.in_ok-copy.ensures) (kept.labels none c.bottom.ensures.made).0 ((kept.labels none c.bottom.ensures.made).1 ∙ c.bottom.ensures.meaning) c.args.world.now c.args.world.now
    c.in-Throws.error (rw c.in_ok-object.ensures at (rw c.in-Throws.is at (c.in_ok-answer.ensures.acts tables inputs)))

pub returns-in-Leaves-clause-acts : goal.returns-in-Leaves-clause-acts
returns-in-Leaves-clause-acts g c = λ tables inputs.
    let kept = c.has_key.ensures.kept in
    let none = c.bottom.result in
    still_leaves tables inputs g.L.Labels.made g.L.Labels.meaning c.has_key.new.labels c.args.object.now c.args.key.now c.in_ok-text.text none (c.in_ok-text.ensures ∙ ap key_text c.in_ok-copy.ensures) (kept.labels none c.bottom.ensures.made).0 ((kept.labels none c.bottom.ensures.made).1 ∙ c.bottom.ensures.meaning) c.args.world.now c.args.world.now
    c.in-Leaves.why (rw c.in_ok-object.ensures at (rw c.in-Leaves.is at (c.in_ok-answer.ensures.acts tables inputs)))

pub returns-in_ok-raise-in-Goes-clause-acts : goal.returns-in_ok-raise-in-Goes-clause-acts
returns-in_ok-raise-in-Goes-clause-acts g c = λ tables inputs.
    let kept = c.has_key.ensures.kept in
    let none = c.bottom.result in
    still_goes tables inputs g.L.Labels.made g.L.Labels.meaning c.has_key.new.labels c.args.object.now c.args.key.now c.in_ok-text.text none (c.in_ok-text.ensures ∙ ap key_text c.in_ok-copy.ensures) (kept.labels none c.bottom.ensures.made).0 ((kept.labels none c.bottom.ensures.made).1 ∙ c.bottom.ensures.meaning) c.args.world.now c.args.world.now
    g.L.Labels.room g.L.Labels.firm c.raise.new.labels c.raise.ensures.kept c.raise.new.world c.in-Goes.has c.truth.result c.truth.ensures (rw c.in_ok-object.ensures at (rw c.in-Goes.is at (c.in_ok-answer.ensures.acts tables inputs))) c.in_ok-raise-in-Goes.ensures.raises

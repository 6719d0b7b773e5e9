use Rattle.std.proofs.Common.{sym, ap, ap₂, ◌∙◌, ◌≡◌, [], ◌∷◌, ◌++◌, Bool, map}
use Rattle.origin_labels.specs.Label.{union}
use Rattle.js_values.specs.declared.value.Labelled.{Labelled}
use Rattle.js_values.specs.Readings.{HasValue, read_value}
use Rattle.js_values.proofs.ReadingLaws.{IsReading-earlier}
use Rattle.flow_meaning.specs.Scopes.{popped}
use Rattle.flow_meaning.specs.Planned.{Give, gave, end_branch}
use Rattle.continuations.specs.declared.continuation.Continuation.TheVariants as continuation
use Rattle.continuations.specs.declared.continuation.Control.TheVariants as control
use Rattle.continuations.specs.Pending.{after, behind, setting_above, first_or_undefined, next_plan}
use Rattle.continuations.specs.Resuming.{with_frames}
use Rattle.continuations.proofs.BranchLaws.{last_one, none_in_front}
use Rattle.continuations.proofs.EndLaws.{last_has}
use Rattle.step_control.proofs.ends.end_branch_value.Goals as goal

pub returns-in_err-label-clause-belongs : goal.returns-in_err-label-clause-belongs
returns-in_err-label-clause-belongs g c = c.belonging_lasts.ensures.belongs c.args.labels.now c.join.new.self c.leave-chosen.new.frames.frames c.join.ensures.kept c.leave-chosen.ensures.belongs

pub returns-in_err-lay-clause-belongs : goal.returns-in_err-lay-clause-belongs
returns-in_err-lay-clause-belongs g c = c.belonging_lasts.ensures.belongs c.args.labels.now c.join.new.self c.leave-chosen.new.frames.frames c.join.ensures.kept c.leave-chosen.ensures.belongs

pub returns-clause-belongs : goal.returns-clause-belongs
returns-clause-belongs g c = c.belonging_lasts.ensures.belongs c.args.labels.now c.join.new.self c.leave-chosen.new.frames.frames c.join.ensures.kept c.leave-chosen.ensures.belongs

pub returns-clause-goes_on : goal.returns-clause-goes_on
unfolding end_branch popped
returns-clause-goes_on g c tables inputs set functions reading e s value read loose =
    let before = c.args.stack.now in
    let popped = c.pop-value.result in
    let frames_old = c.args.frames.now.frames in
    let frames_new = c.leave-chosen.new.frames.frames in
    let f = setting_above before.tasks e in
    let none = none_in_front c.pop-value.new.self.loose before.loose popped c.pop-value.ensures.top c.requires.loose in
    let same = last_one c.pop-value.new.self.loose popped value (sym c.pop-value.ensures.top ∙ loose) in
    let was = last_has (HasValue (g.L.Labels.made c.args.labels.now)) c.pop-value.new.self.loose before.loose popped c.pop-value.ensures.top c.requires.made in
    let earlier = IsReading-earlier g.L.Labels.made g.L.Labels.meaning g.L.Labels.room g.L.Labels.firm c.args.labels.now c.join.new.self reading c.join.ensures.kept read in
    let means : reading c.in_ok-label.label ≡ union (reading popped.label) (reading c.leave-chosen.result) =
    read.agrees c.in_ok-label.label c.in_ok-label.ensures.made ∙ c.in_ok-label.ensures.meaning ∙ ap₂ union (sym (earlier.agrees popped.label was)) (sym (earlier.agrees c.leave-chosen.result c.leave-chosen.ensures.made)) in
    let given : Labelled _ = record { value = popped.value; label = c.in_ok-label.label } in
    let lies : c.lay.new.self.loose ≡ given ∷ [] = c.in_ok-lay.ensures.laid ∙ ap (λ vs. vs ++ given ∷ []) none in
    ap (λ ts. behind tables inputs set functions reading ts e (next_plan tables inputs set functions control.Value (map (read_value reading) c.lay.new.self.loose) (setting_above ts e) (with_frames reading frames_new s))) (c.lay.ensures.tasks ∙ c.pop-value.ensures.tasks)
    ∙ ap (λ vs. behind tables inputs set functions reading before.tasks e (Give (gave (first_or_undefined (map (read_value reading) vs))) (with_frames reading frames_new s))) lies
    ∙ ap₂ (λ l fs. behind tables inputs set functions reading before.tasks e (Give (gave (record { value = popped.value; label = l })) (record s { frames = fs }))) (means ∙ ap (λ k. union (reading popped.label) k) (sym (c.leave-chosen.ensures.label reading))) (c.leave-chosen.ensures.outside reading)
    ∙ ap (λ (v : Labelled _). behind tables inputs set functions reading before.tasks e (after tables inputs set functions (continuation.EndBranch Bool.true c.args.depth) [] f (gave (read_value reading v)) (with_frames reading frames_old s))) same

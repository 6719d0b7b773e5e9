use Rattle.std.proofs.Common.{sym, ap, ◌∙◌, [], map}
use Rattle.js_values.specs.declared.value.Labelled.{Labelled}
use Rattle.js_values.specs.Readings.{HasValue, read_value}
use Rattle.es_meaning.specs.Operations.{One}
use Rattle.es_meaning.specs.Evaluation.{turn_test}
use Rattle.es_meaning.specs.Plain.{choose}
use Rattle.flow_meaning.specs.Scopes.{raise, raised_in}
use Rattle.flow_meaning.specs.Planned.{gave, asking, planned}
use Rattle.continuations.specs.declared.continuation.Continuation.TheVariants as continuation
use Rattle.continuations.specs.declared.continuation.Control.TheVariants as control
use Rattle.continuations.specs.Pending.{after, behind, setting_above, next_plan}
use Rattle.continuations.specs.Resuming.{with_frames}
use Rattle.continuations.specs.Shapes.{round_of}
use Rattle.continuations.proofs.BranchLaws.{last_one}
use Rattle.continuations.proofs.EndLaws.{last_has, read_raised}
use Rattle.step_control.proofs.ends.tested.Goals as goal

pub returns-then-truth-clause-goes_on : goal.returns-then-truth-clause-goes_on
unfolding turn_test raise
returns-then-truth-clause-goes_on g c tables inputs set functions reading e s value read loose =
    let before = c.args.stack.now in
    let popped = c.pop-value.result in
    let frames_old = c.args.frames.now.frames in
    let frames_new = c.raise_last.new.self.frames in
    let f = setting_above before.tasks e in
    let round = round_of c.args.round in
    let same = last_one c.pop-value.new.self.loose popped value (sym c.pop-value.ensures.top ∙ loose) in
    let was = last_has (HasValue (g.L.Labels.made c.args.labels.now)) c.pop-value.new.self.loose before.loose popped c.pop-value.ensures.top c.requires.made in
    let raises = read_raised g.L.Labels.made g.L.Labels.meaning g.L.Labels.room g.L.Labels.firm c.args.labels.now c.raise_last.new.labels reading frames_old frames_new popped.label c.raise_last.ensures.kept c.requires.belongs c.raise_last.ensures.belongs was c.in_ok-raise_last.ensures.raised read s in
    ap (λ ts. behind tables inputs set functions reading ts e (next_plan tables inputs set functions (control.Turn c.args.round) (map (read_value reading) c.pop-value.new.self.loose) (setting_above ts e) (with_frames reading frames_new s))) c.pop-value.ensures.tasks
    ∙ ap (λ t. behind tables inputs set functions reading before.tasks e (next_plan tables inputs set functions (control.Turn c.args.round) [] f t)) raises
    ∙ ap (λ b. behind tables inputs set functions reading before.tasks e (choose b ((asking tables inputs set functions).turn round f.env) ((planned tables inputs set functions).ret One tt) (raised_in (reading popped.label) (with_frames reading frames_old s)))) c.if-truth.ensures
    ∙ ap (λ (v : Labelled _). behind tables inputs set functions reading before.tasks e (after tables inputs set functions (continuation.Tested c.args.round) [] f (gave (read_value reading v)) (with_frames reading frames_old s))) same

pub returns-clause-goes_on : goal.returns-clause-goes_on
unfolding turn_test raise
returns-clause-goes_on g c tables inputs set functions reading e s value read loose =
    let before = c.args.stack.now in
    let popped = c.pop-value.result in
    let frames_old = c.args.frames.now.frames in
    let frames_new = c.raise_last.new.self.frames in
    let f = setting_above before.tasks e in
    let round = round_of c.args.round in
    let same = last_one c.pop-value.new.self.loose popped value (sym c.pop-value.ensures.top ∙ loose) in
    let was = last_has (HasValue (g.L.Labels.made c.args.labels.now)) c.pop-value.new.self.loose before.loose popped c.pop-value.ensures.top c.requires.made in
    let raises = read_raised g.L.Labels.made g.L.Labels.meaning g.L.Labels.room g.L.Labels.firm c.args.labels.now c.raise_last.new.labels reading frames_old frames_new popped.label c.raise_last.ensures.kept c.requires.belongs c.raise_last.ensures.belongs was c.in_ok-raise_last.ensures.raised read s in
    ap (λ ts. behind tables inputs set functions reading ts e (next_plan tables inputs set functions control.Done (map (read_value reading) c.pop-value.new.self.loose) (setting_above ts e) (with_frames reading frames_new s))) c.pop-value.ensures.tasks
    ∙ ap (λ t. behind tables inputs set functions reading before.tasks e (next_plan tables inputs set functions control.Done [] f t)) raises
    ∙ ap (λ b. behind tables inputs set functions reading before.tasks e (choose b ((asking tables inputs set functions).turn round f.env) ((planned tables inputs set functions).ret One tt) (raised_in (reading popped.label) (with_frames reading frames_old s)))) c.if-truth.ensures
    ∙ ap (λ (v : Labelled _). behind tables inputs set functions reading before.tasks e (after tables inputs set functions (continuation.Tested c.args.round) [] f (gave (read_value reading v)) (with_frames reading frames_old s))) same

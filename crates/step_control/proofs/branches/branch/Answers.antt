use Rattle.std.proofs.Common.{refl, sym, ap, ◌∙◌, [], map, append-nil}
use Rattle.es_meaning.specs.Plain.{choose}
use Rattle.js_values.specs.Readings.{read_value}
use Rattle.continuations.specs.Pending.{next_plan}
use Rattle.continuations.proofs.BranchLaws.{forked, opened_by}
use Rattle.step_control.proofs.branches.branch.Goals as goal

pub returns-then-truth-clause-forks : goal.returns-then-truth-clause-forks
returns-then-truth-clause-forks g c =
    forked g.L.Labels.made g.L.Labels.meaning c.open_branch.new.labels c.args.gives c.args.stack.now c.pop-value.new.self c.open_branch.new.stack c.pop-value.result c.args.frames.now.frames c.open_branch.new.frames.frames c.args.then
    (λ tables inputs set functions v f. next_plan tables inputs set functions c.args.then [] f) (λ tables inputs set functions v f. next_plan tables inputs set functions c.args.other [] f)
    c.requires.loose c.pop-value.ensures.top c.pop-value.ensures.tasks (ap (λ k. k.tasks) c.in_ok-open_branch.ensures.pushed) c.in_ok-open_branch.ensures.frames
    (λ tables inputs set functions reading f s. ap (λ k. next_plan tables inputs set functions c.args.then (map (read_value reading) k.loose) f s) c.in_ok-open_branch.ensures.pushed ∙ ap (λ b. choose b (next_plan tables inputs set functions c.args.then [] f) (next_plan tables inputs set functions c.args.other [] f) s) c.if-truth.ensures)

pub returns-then-truth-clause-opened : goal.returns-then-truth-clause-opened
returns-then-truth-clause-opened g c =
    opened_by g.L.Labels.made g.L.Labels.meaning c.open_branch.new.labels c.args.gives c.args.stack.now c.pop-value.new.self c.open_branch.new.stack c.open_branch.new.stack c.pop-value.result c.args.frames.now.frames c.open_branch.new.frames.frames c.args.then []
    c.requires.loose c.pop-value.ensures.top c.pop-value.ensures.tasks c.in_ok-open_branch.ensures.pushed c.in_ok-open_branch.ensures.length refl (sym (append-nil c.open_branch.new.stack.loose)) refl (sym c.requires.then)

pub returns-clause-forks : goal.returns-clause-forks
returns-clause-forks g c =
    forked g.L.Labels.made g.L.Labels.meaning c.open_branch.new.labels c.args.gives c.args.stack.now c.pop-value.new.self c.open_branch.new.stack c.pop-value.result c.args.frames.now.frames c.open_branch.new.frames.frames c.args.other
    (λ tables inputs set functions v f. next_plan tables inputs set functions c.args.then [] f) (λ tables inputs set functions v f. next_plan tables inputs set functions c.args.other [] f)
    c.requires.loose c.pop-value.ensures.top c.pop-value.ensures.tasks (ap (λ k. k.tasks) c.in_ok-open_branch.ensures.pushed) c.in_ok-open_branch.ensures.frames
    (λ tables inputs set functions reading f s. ap (λ k. next_plan tables inputs set functions c.args.other (map (read_value reading) k.loose) f s) c.in_ok-open_branch.ensures.pushed ∙ ap (λ b. choose b (next_plan tables inputs set functions c.args.then [] f) (next_plan tables inputs set functions c.args.other [] f) s) c.if-truth.ensures)

pub returns-clause-opened : goal.returns-clause-opened
returns-clause-opened g c =
    opened_by g.L.Labels.made g.L.Labels.meaning c.open_branch.new.labels c.args.gives c.args.stack.now c.pop-value.new.self c.open_branch.new.stack c.open_branch.new.stack c.pop-value.result c.args.frames.now.frames c.open_branch.new.frames.frames c.args.other []
    c.requires.loose c.pop-value.ensures.top c.pop-value.ensures.tasks c.in_ok-open_branch.ensures.pushed c.in_ok-open_branch.ensures.length refl (sym (append-nil c.open_branch.new.stack.loose)) refl (sym c.requires.other)

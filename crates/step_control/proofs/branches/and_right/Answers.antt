use Rattle.std.proofs.Common.{refl, sym, ap, ◌∙◌, ◌≡◌, [], ◌∷◌, ◌++◌, Ok, Bool, map, append-nil}
use Rattle.flow_meaning.specs.Planned.{asking, planned}
use Rattle.es_meaning.specs.Operations.{Value}
use Rattle.es_meaning.specs.Plain.{choose}
use Rattle.js_values.specs.Readings.{read_value}
use Rattle.continuations.specs.Pending.{next_plan}
use Rattle.continuations.proofs.BranchLaws.{forked, opened_by, resumes_forked}
use Rattle.es_meaning.specs.Evaluation.{and_right}
use Rattle.js_ast.specs.Views.{view_expr}
use Rattle.continuations.specs.declared.continuation.Continuation.TheVariants as continuation
use Rattle.continuations.specs.declared.continuation.Control.TheVariants as control
use Rattle.step_control.proofs.branches.and_right.Goals as goal

pub returns-then-truth-clause-goes_on : goal.returns-then-truth-clause-goes_on
unfolding and_right
returns-then-truth-clause-goes_on g c =
    resumes_forked g.L.Labels.made g.L.Labels.meaning c.open_branch.new.labels (continuation.AndRight c.args.right) Bool.true
    (λ tables inputs set functions v f. (asking tables inputs set functions).expr (view_expr c.args.right.now) f.env.place) (λ tables inputs set functions v f. (planned tables inputs set functions).ret Value v)
    c.args.stack.now c.open_branch.new.stack c.args.frames.now.frames c.open_branch.new.frames.frames (Ok (control.Expr c.args.right)) (λ tables inputs set functions v f s. refl)
    (forked g.L.Labels.made g.L.Labels.meaning c.open_branch.new.labels Bool.true c.args.stack.now c.pop-value.new.self c.open_branch.new.stack c.pop-value.result c.args.frames.now.frames c.open_branch.new.frames.frames (control.Expr c.args.right)
    (λ tables inputs set functions v f. (asking tables inputs set functions).expr (view_expr c.args.right.now) f.env.place) (λ tables inputs set functions v f. (planned tables inputs set functions).ret Value v)
    c.requires.loose c.pop-value.ensures.top c.pop-value.ensures.tasks (ap (λ k. k.tasks) c.in_ok-open_branch.ensures.pushed) c.in_ok-open_branch.ensures.frames
    (λ tables inputs set functions reading f s. ap (λ b. choose b ((asking tables inputs set functions).expr (view_expr c.args.right.now) f.env.place) ((planned tables inputs set functions).ret Value (read_value reading c.pop-value.result)) s) c.if-truth.ensures))

pub returns-then-truth-clause-opened : goal.returns-then-truth-clause-opened
returns-then-truth-clause-opened g c =
    opened_by g.L.Labels.made g.L.Labels.meaning c.open_branch.new.labels Bool.true c.args.stack.now c.pop-value.new.self c.open_branch.new.stack c.open_branch.new.stack c.pop-value.result c.args.frames.now.frames c.open_branch.new.frames.frames (control.Expr c.args.right) []
    c.requires.loose c.pop-value.ensures.top c.pop-value.ensures.tasks c.in_ok-open_branch.ensures.pushed c.in_ok-open_branch.ensures.length refl (sym (append-nil c.open_branch.new.stack.loose)) refl refl

pub returns-clause-goes_on : goal.returns-clause-goes_on
unfolding and_right
returns-clause-goes_on g c =
    let lies : c.lay.new.self.loose ≡ c.pop-value.result ∷ [] = c.in_ok-lay.ensures.laid ∙ ap (λ k. k.loose ++ c.pop-value.result ∷ []) c.in_ok-open_branch.ensures.pushed in
    resumes_forked g.L.Labels.made g.L.Labels.meaning c.open_branch.new.labels (continuation.AndRight c.args.right) Bool.true
    (λ tables inputs set functions v f. (asking tables inputs set functions).expr (view_expr c.args.right.now) f.env.place) (λ tables inputs set functions v f. (planned tables inputs set functions).ret Value v)
    c.args.stack.now c.lay.new.self c.args.frames.now.frames c.open_branch.new.frames.frames (Ok control.Value) (λ tables inputs set functions v f s. refl)
    (forked g.L.Labels.made g.L.Labels.meaning c.open_branch.new.labels Bool.true c.args.stack.now c.pop-value.new.self c.lay.new.self c.pop-value.result c.args.frames.now.frames c.open_branch.new.frames.frames control.Value
    (λ tables inputs set functions v f. (asking tables inputs set functions).expr (view_expr c.args.right.now) f.env.place) (λ tables inputs set functions v f. (planned tables inputs set functions).ret Value v)
    c.requires.loose c.pop-value.ensures.top c.pop-value.ensures.tasks (c.lay.ensures.tasks ∙ ap (λ k. k.tasks) c.in_ok-open_branch.ensures.pushed) c.in_ok-open_branch.ensures.frames
    (λ tables inputs set functions reading f s. ap (λ vs. next_plan tables inputs set functions control.Value (map (read_value reading) vs) f s) lies ∙ ap (λ b. choose b ((asking tables inputs set functions).expr (view_expr c.args.right.now) f.env.place) ((planned tables inputs set functions).ret Value (read_value reading c.pop-value.result)) s) c.if-truth.ensures))

pub returns-clause-opened : goal.returns-clause-opened
returns-clause-opened g c =
    opened_by g.L.Labels.made g.L.Labels.meaning c.open_branch.new.labels Bool.true c.args.stack.now c.pop-value.new.self c.open_branch.new.stack c.lay.new.self c.pop-value.result c.args.frames.now.frames c.open_branch.new.frames.frames control.Value (c.pop-value.result ∷ [])
    c.requires.loose c.pop-value.ensures.top c.pop-value.ensures.tasks c.in_ok-open_branch.ensures.pushed c.in_ok-open_branch.ensures.length c.lay.ensures.tasks c.in_ok-lay.ensures.laid refl refl

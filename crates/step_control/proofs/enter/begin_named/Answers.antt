use Rattle.std.proofs.Common.{rules, sym, ap, ◌∙◌, ◌≡◌}
use Rattle.js_ast.specs.Nodes.{nodes_of}
use Rattle.js_ast.specs.Trees.{do_while, while, for, for_in, switch, labelled}
use Rattle.js_ast.specs.Views.{view_clauses, view_expr, view_first, view_maybe_expr, view_semi, view_stmt, view_target}
use Rattle.js_ast.proofs.ViewLaws.{held_clauses, held_expr}
use Rattle.js_ast.specs.declared.trees.ExprKind.TheViews.{the_lemmas}
use Rattle.continuations.specs.Pending.{behind, setting_above}
use Rattle.continuations.proofs.Behind.{begins_as}
use Rattle.step_control.proofs.NamedLaws.{do_while_named, while_named, for_named, for_in_named, switch_named, labelled_begins}
use Rattle.step_control.proofs.enter.begin_named.Goals as goal

pub returns-in-DoWhile-clause-goes_on : goal.returns-in-DoWhile-clause-goes_on
returns-in-DoWhile-clause-goes_on g c tables inputs set functions reading e s loose =
    let of = view_stmt c.args.of.now in
    let at = c.behind_labels-s.result.now.at in
    let is : view_stmt c.behind_labels-s.result.now ≡ do_while at (view_stmt c.in-DoWhile.body) (view_expr c.in-DoWhile.test) (view_semi c.in-DoWhile.semi) = search (rules, the_lemmas, c.in-DoWhile.is) in
    ap (λ p. behind tables inputs set functions reading c.args.stack.now.tasks e p) (do_while_named tables inputs set functions c.args.passed of (setting_above c.args.stack.now.tasks e).env s _ _ _ _ (sym c.behind_labels-s.ensures ∙ is))

pub returns-in-While-clause-goes_on : goal.returns-in-While-clause-goes_on
returns-in-While-clause-goes_on g c tables inputs set functions reading e s loose =
    let of = view_stmt c.args.of.now in
    let is : view_stmt c.behind_labels-s.result.now ≡ while c.behind_labels-s.result.now.at (view_expr c.in-While.test) (view_stmt c.in-While.body) = search (rules, the_lemmas, c.in-While.is) in
    ap (λ p. behind tables inputs set functions reading c.args.stack.now.tasks e p) (while_named tables inputs set functions c.args.passed of (setting_above c.args.stack.now.tasks e).env s _ _ _ (sym c.behind_labels-s.ensures ∙ is))

pub returns-in-For-clause-goes_on : goal.returns-in-For-clause-goes_on
returns-in-For-clause-goes_on g c =
    let of = view_stmt c.args.of.now in
    let is : view_stmt c.behind_labels-s.result.now ≡ for c.behind_labels-s.result.now.at (view_first c.in-For.first) (view_maybe_expr c.in-For.test) (view_maybe_expr c.in-For.update) (view_stmt c.in-For.body) = search (rules, held_expr, the_lemmas, c.in-For.is) in
    begins_as _ _ _ _ _ (λ tables inputs set functions e s. for_named tables inputs set functions c.args.passed of e.env s _ _ _ _ _ (sym c.behind_labels-s.ensures ∙ is)) c.begin_for.ensures.goes_on

pub returns-in-ForIn-clause-goes_on : goal.returns-in-ForIn-clause-goes_on
returns-in-ForIn-clause-goes_on g c =
    let of = view_stmt c.args.of.now in
    let is : view_stmt c.behind_labels-s.result.now ≡ for_in c.behind_labels-s.result.now.at (view_target c.in-ForIn.target) (view_expr c.in-ForIn.object) (view_stmt c.in-ForIn.body) = search (rules, the_lemmas, c.in-ForIn.is) in
    begins_as _ _ _ _ _ (λ tables inputs set functions e s. for_in_named tables inputs set functions c.args.passed of e.env s _ _ _ _ (sym c.behind_labels-s.ensures ∙ is)) c.begin_for_in.ensures.goes_on

pub returns-in-Switch-clause-goes_on : goal.returns-in-Switch-clause-goes_on
returns-in-Switch-clause-goes_on g c =
    let of = view_stmt c.args.of.now in
    let is : view_stmt c.behind_labels-s.result.now ≡ switch c.behind_labels-s.result.now.at (view_expr c.in-Switch.value) (view_clauses (nodes_of c.in-Switch.clauses)) = search (rules, held_clauses, the_lemmas, c.in-Switch.is) in
    begins_as _ _ _ _ _ (λ tables inputs set functions e s. switch_named tables inputs set functions c.args.passed of e.env s _ _ _ (sym c.behind_labels-s.ensures ∙ is)) c.begin_switch.ensures.goes_on

pub returns-in-Labelled-clause-goes_on : goal.returns-in-Labelled-clause-goes_on
returns-in-Labelled-clause-goes_on g c =
    let of = view_stmt c.args.of.now in
    let is : view_stmt c.behind_labels-s.result.now ≡ labelled c.behind_labels-s.result.now.at c.in-Labelled.label (view_stmt c.in-Labelled.body) = search (rules, the_lemmas, c.in-Labelled.is) in
    labelled_begins c.args.stack.now of (view_stmt c.in-Labelled.body) c.in-Labelled.label c.args.passed c.behind_labels-s.result.now.at _ (sym c.behind_labels-s.ensures ∙ is) c.begin_labelled.ensures.plan

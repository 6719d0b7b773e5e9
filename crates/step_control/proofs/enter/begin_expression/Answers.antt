use Rattle.std.proofs.Common.{rules, sym, ap, ◌∙◌, ◌≡◌, drop}
use Rattle.js_ast.specs.Nodes.{nodes_of}
use Rattle.js_ast.specs.Trees.{array, new_with, object, call, conditional, comma, member, index}
use Rattle.js_ast.specs.Views.{view_expr, view_exprs, view_items, view_properties}
use Rattle.js_ast.proofs.ViewLaws.{held_exprs, held_items, held_properties}
use Rattle.js_ast.specs.declared.trees.ExprKind.TheViews.{the_lemmas}
use Rattle.es_meaning.specs.Operations.{Value, object_of}
use Rattle.es_meaning.specs.Evaluation.{expr_step, index_base, items_of, parts_of, member_base, properties}
use Rattle.continuations.specs.Pending.{array_act}
use Rattle.continuations.specs.Shapes.{use_of}
use Rattle.continuations.specs.declared.continuation.Use.TheVariants.{Valued}
use Rattle.flow_meaning.specs.Planned.{planned, asking}
use Rattle.continuations.proofs.Behind.{begins_as, begins_alone}
use Rattle.step_control.proofs.enter.begin_expression.Goals as goal
use Rattle.continuations.specs.Settings.{entrance}

pub returns-in-Comma-clause-goes_on : goal.returns-in-Comma-clause-goes_on
unfolding expr_step
returns-in-Comma-clause-goes_on g c =
    let is : view_expr c.args.e.now ≡ comma c.args.e.now.at (view_expr c.in-Comma.left) (view_expr c.in-Comma.right) = search (rules, the_lemmas, c.in-Comma.is) in
    begins_as _ _ _ _ _ (λ tables inputs set functions e s. sym (ap (λ x. expr_step (planned tables inputs set functions) (entrance tables inputs set functions) (asking tables inputs set functions) x e.env.place s) is)) c.begin_comma.ensures.goes_on

pub returns-in-Conditional-clause-goes_on : goal.returns-in-Conditional-clause-goes_on
unfolding expr_step
returns-in-Conditional-clause-goes_on g c =
    let is : view_expr c.args.e.now ≡ conditional c.args.e.now.at (view_expr c.in-Conditional.test) (view_expr c.in-Conditional.then) (view_expr c.in-Conditional.other) = search (rules, the_lemmas, c.in-Conditional.is) in
    begins_as _ _ _ _ _ (λ tables inputs set functions e s. sym (ap (λ x. expr_step (planned tables inputs set functions) (entrance tables inputs set functions) (asking tables inputs set functions) x e.env.place s) is)) c.begin_choice.ensures.goes_on

pub returns-in-Call-clause-goes_on : goal.returns-in-Call-clause-goes_on
unfolding expr_step
returns-in-Call-clause-goes_on g c =
    let is : view_expr c.args.e.now ≡ call c.args.e.now.at (view_expr c.in-Call.callee) (view_exprs (nodes_of c.in-Call.args)) = search (rules, held_exprs, the_lemmas, c.in-Call.is) in
    let whole = is ∙ ap (λ es. call c.args.e.now.at (view_expr c.in-Call.callee) (view_exprs es)) (sym c.items.ensures) in
    begins_as _ _ _ _ _ (λ tables inputs set functions e s. sym (ap (λ x. expr_step (planned tables inputs set functions) (entrance tables inputs set functions) (asking tables inputs set functions) x e.env.place s) whole)) c.begin_call.ensures.goes_on

pub returns-in-Member-clause-goes_on : goal.returns-in-Member-clause-goes_on
unfolding expr_step
returns-in-Member-clause-goes_on g c =
    let is : view_expr c.args.e.now ≡ member c.args.e.now.at (view_expr c.in-Member.base) c.in-Member.name = search (rules, the_lemmas, c.in-Member.is) in
    begins_as _ _ _ _ _ (λ tables inputs set functions e s. sym (ap (λ x. expr_step (planned tables inputs set functions) (entrance tables inputs set functions) (asking tables inputs set functions) x e.env.place s) is)) (begins_alone (λ tables inputs set functions vs e. (planned tables inputs set functions).bind Value Value ((asking tables inputs set functions).expr (view_expr c.in-Member.base) e.env.place) (member_base (planned tables inputs set functions) (entrance tables inputs set functions) (asking tables inputs set functions) (use_of Valued vs) c.in-Member.name e.env.place)) _ _ _ c.begin_member.ensures.goes_on)

pub returns-in-Index-clause-goes_on : goal.returns-in-Index-clause-goes_on
unfolding expr_step
returns-in-Index-clause-goes_on g c =
    let is : view_expr c.args.e.now ≡ index c.args.e.now.at (view_expr c.in-Index.base) (view_expr c.in-Index.index) = search (rules, the_lemmas, c.in-Index.is) in
    begins_as _ _ _ _ _ (λ tables inputs set functions e s. sym (ap (λ x. expr_step (planned tables inputs set functions) (entrance tables inputs set functions) (asking tables inputs set functions) x e.env.place s) is)) (begins_alone (λ tables inputs set functions vs e. (planned tables inputs set functions).bind Value Value ((asking tables inputs set functions).expr (view_expr c.in-Index.base) e.env.place) (index_base (planned tables inputs set functions) (entrance tables inputs set functions) (asking tables inputs set functions) (use_of Valued vs) (view_expr c.in-Index.index) e.env.place)) _ _ _ c.begin_index.ensures.goes_on)

pub returns-in-Object-clause-goes_on : goal.returns-in-Object-clause-goes_on
unfolding expr_step
returns-in-Object-clause-goes_on g c =
    let is : view_expr c.args.e.now ≡ object c.args.e.now.at (view_properties (nodes_of c.in-Object.properties)) c.in-Object.comma = search (rules, held_properties, the_lemmas, c.in-Object.is) in
    begins_as _ _ _ _ _ (λ tables inputs set functions e s. sym (ap (λ x. expr_step (planned tables inputs set functions) (entrance tables inputs set functions) (asking tables inputs set functions) x e.env.place s) is)) (begins_alone (λ tables inputs set functions vs e. properties (planned tables inputs set functions) (entrance tables inputs set functions) (asking tables inputs set functions) (object_of (parts_of (view_properties (nodes_of c.in-Object.properties)))) vs (view_properties (drop 0 (nodes_of c.in-Object.properties))) e.env.place) _ _ _ c.begin_properties.ensures.goes_on)

pub returns-in-Some-clause-goes_on : goal.returns-in-Some-clause-goes_on
unfolding expr_step
returns-in-Some-clause-goes_on g c =
    let is : view_expr c.args.e.now ≡ new_with c.args.e.now.at (view_expr c.in-New.callee) (view_exprs (nodes_of c.in-Some.args)) = search (rules, held_exprs, the_lemmas, c.in-New.is, c.in-Some.is) in
    let whole = is ∙ ap (λ es. new_with c.args.e.now.at (view_expr c.in-New.callee) (view_exprs es)) (sym c.items-in-Some.ensures) in
    begins_as _ _ _ _ _ (λ tables inputs set functions e s. sym (ap (λ x. expr_step (planned tables inputs set functions) (entrance tables inputs set functions) (asking tables inputs set functions) x e.env.place s) whole)) c.begin_new-in-Some.ensures.goes_on

pub returns-in-Array-clause-goes_on : goal.returns-in-Array-clause-goes_on
unfolding expr_step
returns-in-Array-clause-goes_on g c =
    let is : view_expr c.args.e.now ≡ array c.args.e.now.at (view_items (nodes_of c.in-Array.items)) c.in-Array.comma = search (rules, held_items, the_lemmas, c.in-Array.is) in
    begins_as _ _ _ _ _ (λ tables inputs set functions e s. sym (ap (λ x. expr_step (planned tables inputs set functions) (entrance tables inputs set functions) (asking tables inputs set functions) x e.env.place s) is)) (begins_alone (λ tables inputs set functions vs e. items_of (planned tables inputs set functions) (entrance tables inputs set functions) (asking tables inputs set functions) (array_act tables inputs set functions (view_items (nodes_of c.in-Array.items))) vs (view_items (drop 0 (nodes_of c.in-Array.items))) e.env.place) _ _ _ c.begin_items.ensures.goes_on)

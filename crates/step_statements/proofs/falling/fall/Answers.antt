use Rattle.std.proofs.Common.{◌∙◌, ap}
use Rattle.js_ast.specs.Views.{view_clauses, view_stmt}
use Rattle.flow_meaning.specs.Planned.{a_stmt, Ask}
use Rattle.continuations.specs.Pending.{fallen, behind, setting_above}
use Rattle.step_statements.proofs.Pushed.{pushed_falls}
use Rattle.step_statements.proofs.falling.fall.Goals as goal

pub returns-clause-goes_on : goal.returns-clause-goes_on
returns-clause-goes_on g c = λ tables inputs set functions reading e s none.
    let f = setting_above c.args.stack.now.tasks e in
    pushed_falls tables inputs set functions reading c.in-Some.found.clauses c.in_ok-behind.behind c.in-Some.found.statement c.args.stack.now c.push.new.self e s none c.in_ok-push.ensures.ok
    ∙ ap (behind tables inputs set functions reading c.args.stack.now.tasks e) (
    ap (λ n. Ask (a_stmt (view_stmt c.in-Some.found.statement.now) f.env) s (fallen tables inputs set functions n (view_clauses c.in-Some.found.clauses.now) f.env)) c.in_ok-behind.ensures
    ∙ c.in-Some.ensures tables inputs set functions f.env s)

use Rattle.std.proofs.Common.{sym, ap, ◌∙◌, ◌≡◌}
use Rattle.js_ast.specs.Trees.{no_statements}
use Rattle.js_ast.specs.Views.{view_stmts}
use Rattle.es_meaning.specs.Evaluation.{statements}
use Rattle.flow_meaning.specs.Planned.{planned, asking}
use Rattle.continuations.specs.Pending.{behind, setting_above}
use Rattle.continuations.proofs.Steps.{statements_none, nothing_first}
use Rattle.continuations.proofs.statements.begin_statements.Goals as goal

pub returns-in-None-clause-goes_on : goal.returns-in-None-clause-goes_on
returns-in-None-clause-goes_on g c tables inputs set functions reading e s loose =
    let none : view_stmts c.args.list.now ≡ no_statements = nothing_first c.args.list.now c.split_first.result c.split_first.ensures.variant.1 c.in-None.is in
    let inside = (setting_above c.args.stack.now.tasks e).env in
    ap (λ p. behind tables inputs set functions reading c.args.stack.now.tasks e p) (sym (ap (λ ss. statements (planned tables inputs set functions) (asking tables inputs set functions) ss inside s) none ∙ statements_none tables inputs set functions inside s))

use Rattle.std.proofs.Common.{subst}
use Rattle.js_ast.specs.Views.{view_stmt}
use Rattle.call_records.specs.Declarations.{declared_by}
use Rattle.function_table.specs.Tables.{table}
use Rattle.step_start.specs.Entered.{Enters}
use Rattle.step_start.proofs.EnterLaws.{goes_on, refused, ends}
use Rattle.step_start.proofs.script_functions.declare_functions.Goals as goal

pub returns-then-not-branch-clause-enters : goal.returns-then-not-branch-clause-enters
returns-then-not-branch-clause-enters g c =
    rw c.items-s-items.ensures at
    (refused (table c.args.functions.now) c.args.heap.now c.items-s-items.result.now c.statements.s-index c.s-item.result c.statements.heap c.in_statement.new.heap c.statements-test.true c.s-item.is c.statements.invariant
    (subst (λ goes. Enters (table c.args.functions.now) (declared_by (view_stmt c.s-item.result)) c.statements.heap c.in_statement.new.heap goes) c.if-not-branch.true c.in_ok-in_statement.ensures.enters))

pub statements-preserved : goal.statements-preserved
statements-preserved g c =
    goes_on (table c.args.functions.now) c.args.heap.now c.items-s-items.result.now c.statements.s-index c.s-item.result c.statements.heap c.in_statement.new.heap c.statements-test.true c.s-item.is c.statements.invariant
    (subst (λ goes. Enters (table c.args.functions.now) (declared_by (view_stmt c.s-item.result)) c.statements.heap c.in_statement.new.heap goes) c.if-not-branch.false c.in_ok-in_statement.ensures.enters)
    c.in_ok-in_statement.ensures.started

pub returns-clause-enters : goal.returns-clause-enters
returns-clause-enters g c =
    rw c.items-s-items.ensures at
    (ends (table c.args.functions.now) c.args.heap.now c.items-s-items.result.now c.statements.s-index c.statements.heap c.statements-test.false c.statements.invariant)

use Rattle.std.proofs.lemmas.Result.{err_from_is_err_and}
use Rattle.js_ast.specs.Nodes.{nodes_of}
use Rattle.js_list_parser.specs.ExpressionParsing.{parameter}
use Rattle.js_ast.specs.Views.{view_idents}
use Rattle.js_list_parser.proofs.ExpressionTurns.{parameter_turns}
use Rattle.js_parse_parts.proofs.Loops.{loop_on, loop_done, loop_fails, loop_shrinks}
use Rattle.js_parse_parts.proofs.parameter_lists.more_parameters.Goals as goal

pub returns-in_err-turn : goal.returns-in_err-turn
returns-in_err-turn c =
    let p = err_from_is_err_and c.from_residual.result c.from_residual.ensures.1 in
    rw (p.1, p.2) (loop_fails parameter parameter_turns (view_idents (nodes_of c.turns.list)) c.turns.rest.now c.in_err-turn.field-0.0 _ c.in_err-turn.ensures c.turns.invariant)

pub turns-smaller : goal.turns-smaller
turns-smaller c = loop_shrinks parameter parameter_turns (view_idents (nodes_of c.turns.list)) c.turns.rest.now (view_idents (nodes_of c.in-Again.longer)) c.in_ok-turn.after.now (rw c.in-Again.is at c.in_ok-turn.ensures)

pub turns-preserved : goal.turns-preserved
turns-preserved c = loop_on parameter parameter_turns (view_idents (nodes_of c.turns.list)) c.turns.rest.now (view_idents (nodes_of c.in-Again.longer)) c.in_ok-turn.after.now _ (rw c.in-Again.is at c.in_ok-turn.ensures) c.turns.invariant

pub returns-in-Done : goal.returns-in-Done
returns-in-Done c = loop_done parameter parameter_turns (view_idents (nodes_of c.turns.list)) c.turns.rest.now (view_idents (nodes_of c.in-Done.whole)) c.in_ok-turn.after.now _ (rw c.in-Done.is at c.in_ok-turn.ensures) c.turns.invariant

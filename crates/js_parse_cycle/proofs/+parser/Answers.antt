use Rattle.std.proofs.Common.{◌≡◌, ◌-◌, rules, arith, max}
use Rattle.std.proofs.lemmas.Result.{err_from_is_err_and}
use Rattle.js_ast.specs.Nodes.{nodes_of}
use Rattle.js_list_parser.specs.Parsing.{parsers}
use Rattle.js_list_parser.specs.ExpressionParsing.{climb_step, argument, item_turn, property_turn, operand_step}
use Rattle.js_list_parser.specs.StatementParsing.{declaration_step, clause_step, try_rest, handler_by, statements_step}
use Rattle.js_ast.specs.Views.{view_expr, view_exprs, view_items, view_properties, view_declarations, view_clauses, view_stmts}
use Rattle.js_list_parser.proofs.ExpressionTurns.{climb_turns, argument_turns, item_turns, property_turns, operand_turns}
use Rattle.js_list_parser.proofs.Remaining.{no_longer}
use Rattle.js_parse_parts.proofs.Loops.{loop_on, loop_done, loop_fails, loop_shrinks}
use Rattle.js_parse_parts.proofs.StatementTurns.{declaration_turns, clause_turns, statements_turns}
use Rattle.js_parse_cycle.proofs.Layers.{inner_is}
use Rattle.js_parse_cycle.proofs.+parser.Goals as goal
use Rattle.js_parse_cycle.proofs.+parser.Goals.{blocks::try_statement-in_default-via-in-Some+in-Key+in_default, blocks::try_statement-in_default-via-in-Some+in_default, blocks::try_statement-in_default-via-in_default}

pub expression::climb-returns-in_err-turn-clause-gives : goal.expression::climb-returns-in_err-turn-clause-gives
expression::climb-returns-in_err-turn-clause-gives t c =
    let p = err_from_is_err_and c.from_residual.result c.from_residual.ensures.1 in
    rw (p.1, p.2) (loop_fails (climb_step (parsers c.args.d) c.args.d c.args.wanted c.args.free) (climb_turns (parsers c.args.d) (no_longer c.args.d) c.args.d c.args.wanted c.args.free) (view_expr c.turns.expr.0) c.turns.rest.now c.in_err-turn.field-0.0 _ c.in_err-turn.ensures.gives c.turns.invariant.so_far)

pub expression::climb-turns-smaller : goal.expression::climb-turns-smaller
expression::climb-turns-smaller t c = loop_shrinks (climb_step (parsers c.args.d) c.args.d c.args.wanted c.args.free) (climb_turns (parsers c.args.d) (no_longer c.args.d) c.args.d c.args.wanted c.args.free) (view_expr c.turns.expr.0) c.turns.rest.now (view_expr c.in-Again.longer.0) c.in_ok-turn.after.now (rw c.in-Again.is at c.in_ok-turn.ensures.gives)

pub expression::climb-turns-preserved : goal.expression::climb-turns-preserved
expression::climb-turns-preserved t c = record {
  so_far = loop_on (climb_step (parsers c.args.d) c.args.d c.args.wanted c.args.free) (climb_turns (parsers c.args.d) (no_longer c.args.d) c.args.d c.args.wanted c.args.free) (view_expr c.turns.expr.0) c.turns.rest.now (view_expr c.in-Again.longer.0) c.in_ok-turn.after.now _ (rw c.in-Again.is at c.in_ok-turn.ensures.gives) c.turns.invariant.so_far;
  deep = rw c.in-Again.is at c.in_ok-turn.ensures.deep;
}

pub expression::climb-returns-in-Done-clause-gives : goal.expression::climb-returns-in-Done-clause-gives
expression::climb-returns-in-Done-clause-gives t c = loop_done (climb_step (parsers c.args.d) c.args.d c.args.wanted c.args.free) (climb_turns (parsers c.args.d) (no_longer c.args.d) c.args.d c.args.wanted c.args.free) (view_expr c.turns.expr.0) c.turns.rest.now (view_expr c.in-Done.whole.0) c.in_ok-turn.after.now _ (rw c.in-Done.is at c.in_ok-turn.ensures.gives) c.turns.invariant.so_far

pub lists::more_arguments-returns-in_err-turn-clause-gives : goal.lists::more_arguments-returns-in_err-turn-clause-gives
lists::more_arguments-returns-in_err-turn-clause-gives t c =
    let p = err_from_is_err_and c.from_residual.result c.from_residual.ensures.1 in
    rw (p.1, p.2) (loop_fails (argument (parsers c.args.d)) (argument_turns (parsers c.args.d) (no_longer c.args.d)) (view_exprs (nodes_of c.turns.args.0)) c.turns.rest.now c.in_err-turn.field-0.0 _ c.in_err-turn.ensures.gives c.turns.invariant.so_far)

pub lists::more_arguments-turns-smaller : goal.lists::more_arguments-turns-smaller
lists::more_arguments-turns-smaller t c = loop_shrinks (argument (parsers c.args.d)) (argument_turns (parsers c.args.d) (no_longer c.args.d)) (view_exprs (nodes_of c.turns.args.0)) c.turns.rest.now (view_exprs (nodes_of c.in-Again.more.0)) c.in_ok-turn.after.now (rw c.in-Again.is at c.in_ok-turn.ensures.gives)

pub lists::more_arguments-turns-preserved : goal.lists::more_arguments-turns-preserved
lists::more_arguments-turns-preserved t c = record {
  so_far = loop_on (argument (parsers c.args.d)) (argument_turns (parsers c.args.d) (no_longer c.args.d)) (view_exprs (nodes_of c.turns.args.0)) c.turns.rest.now (view_exprs (nodes_of c.in-Again.more.0)) c.in_ok-turn.after.now _ (rw c.in-Again.is at c.in_ok-turn.ensures.gives) c.turns.invariant.so_far;
  deep = rw c.in-Again.is at c.in_ok-turn.ensures.deep;
}

pub lists::more_arguments-returns-in-Done-clause-gives : goal.lists::more_arguments-returns-in-Done-clause-gives
lists::more_arguments-returns-in-Done-clause-gives t c = loop_done (argument (parsers c.args.d)) (argument_turns (parsers c.args.d) (no_longer c.args.d)) (view_exprs (nodes_of c.turns.args.0)) c.turns.rest.now (view_exprs (nodes_of c.in-Done.all.0)) c.in_ok-turn.after.now _ (rw c.in-Done.is at c.in_ok-turn.ensures.gives) c.turns.invariant.so_far

pub lists::items-returns-in_err-turn-clause-gives : goal.lists::items-returns-in_err-turn-clause-gives
lists::items-returns-in_err-turn-clause-gives t c =
    let p = err_from_is_err_and c.from_residual.result c.from_residual.ensures.1 in
    rw (p.1, p.2) (loop_fails (item_turn (parsers c.args.d)) (item_turns (parsers c.args.d) (no_longer c.args.d)) (view_items (nodes_of c.turns.items.0)) c.turns.rest.now c.in_err-turn.field-0.0 _ c.in_err-turn.ensures.gives c.turns.invariant.so_far)

pub lists::items-turns-smaller : goal.lists::items-turns-smaller
lists::items-turns-smaller t c = loop_shrinks (item_turn (parsers c.args.d)) (item_turns (parsers c.args.d) (no_longer c.args.d)) (view_items (nodes_of c.turns.items.0)) c.turns.rest.now (view_items (nodes_of c.in-Again.more.0)) c.in_ok-turn.after.now (rw c.in-Again.is at c.in_ok-turn.ensures.gives)

pub lists::items-turns-preserved : goal.lists::items-turns-preserved
lists::items-turns-preserved t c = record {
  so_far = loop_on (item_turn (parsers c.args.d)) (item_turns (parsers c.args.d) (no_longer c.args.d)) (view_items (nodes_of c.turns.items.0)) c.turns.rest.now (view_items (nodes_of c.in-Again.more.0)) c.in_ok-turn.after.now _ (rw c.in-Again.is at c.in_ok-turn.ensures.gives) c.turns.invariant.so_far;
  deep = rw c.in-Again.is at c.in_ok-turn.ensures.deep;
}

pub lists::items-returns-in-Done-clause-gives : goal.lists::items-returns-in-Done-clause-gives
lists::items-returns-in-Done-clause-gives t c = loop_done (item_turn (parsers c.args.d)) (item_turns (parsers c.args.d) (no_longer c.args.d)) (view_items (nodes_of c.turns.items.0)) c.turns.rest.now (view_items (nodes_of c.in-Done.all.0.0), c.in-Done.all.0.1) c.in_ok-turn.after.now _ (rw c.in-Done.is at c.in_ok-turn.ensures.gives) c.turns.invariant.so_far

pub lists::item_turn-returns-in_ok-items-in_default-clause-deep : goal.lists::item_turn-returns-in_ok-items-in_default-clause-deep
lists::item_turn-returns-in_ok-items-in_default-clause-deep t c = c.item_end.ensures.deep c.args.d (c.in_ok-items-in_default.ensures.deep, omega (arith, c.in_ok-next-in_default.ensures.deep.1, c.in_ok-items-in_default.ensures.size))

pub objects::properties-returns-in_err-turn-clause-gives : goal.objects::properties-returns-in_err-turn-clause-gives
objects::properties-returns-in_err-turn-clause-gives t c =
    let p = err_from_is_err_and c.from_residual.result c.from_residual.ensures.1 in
    rw (p.1, p.2) (loop_fails (property_turn (parsers c.args.d)) (property_turns (parsers c.args.d) (no_longer c.args.d)) (view_properties (nodes_of c.turns.properties.0)) c.turns.rest.now c.in_err-turn.field-0.0 _ c.in_err-turn.ensures.gives c.turns.invariant.so_far)

pub objects::properties-turns-smaller : goal.objects::properties-turns-smaller
objects::properties-turns-smaller t c = loop_shrinks (property_turn (parsers c.args.d)) (property_turns (parsers c.args.d) (no_longer c.args.d)) (view_properties (nodes_of c.turns.properties.0)) c.turns.rest.now (view_properties (nodes_of c.in-Again.more.0)) c.in_ok-turn.after.now (rw c.in-Again.is at c.in_ok-turn.ensures.gives)

pub objects::properties-turns-preserved : goal.objects::properties-turns-preserved
objects::properties-turns-preserved t c = record {
  so_far = loop_on (property_turn (parsers c.args.d)) (property_turns (parsers c.args.d) (no_longer c.args.d)) (view_properties (nodes_of c.turns.properties.0)) c.turns.rest.now (view_properties (nodes_of c.in-Again.more.0)) c.in_ok-turn.after.now _ (rw c.in-Again.is at c.in_ok-turn.ensures.gives) c.turns.invariant.so_far;
  deep = rw c.in-Again.is at c.in_ok-turn.ensures.deep;
}

pub objects::properties-returns-in-Done-clause-gives : goal.objects::properties-returns-in-Done-clause-gives
objects::properties-returns-in-Done-clause-gives t c = loop_done (property_turn (parsers c.args.d)) (property_turns (parsers c.args.d) (no_longer c.args.d)) (view_properties (nodes_of c.turns.properties.0)) c.turns.rest.now (view_properties (nodes_of c.in-Done.all.0.0), c.in-Done.all.0.1) c.in_ok-turn.after.now _ (rw c.in-Done.is at c.in_ok-turn.ensures.gives) c.turns.invariant.so_far

pub objects::property_turn-returns-in_ok-properties-in_default-clause-deep : goal.objects::property_turn-returns-in_ok-properties-in_default-clause-deep
objects::property_turn-returns-in_ok-properties-in_default-clause-deep t c = c.property_end.ensures.deep c.args.d (c.in_ok-properties-in_default.ensures.deep, omega (arith, c.in_ok-next-in_default.ensures.deep.1, c.in_ok-properties-in_default.ensures.size))

pub operand::operand_climb-returns-in_err-turn-clause-gives : goal.operand::operand_climb-returns-in_err-turn-clause-gives
operand::operand_climb-returns-in_err-turn-clause-gives t c =
    let p = err_from_is_err_and c.from_residual.result c.from_residual.ensures.1 in
    rw (p.1, p.2) (loop_fails (operand_step (parsers c.args.d) c.args.d c.args.wanted c.args.free) (operand_turns (parsers c.args.d) (no_longer c.args.d) c.args.d c.args.wanted c.args.free) (view_expr c.turns.expr.0) c.turns.rest.now c.in_err-turn.field-0.0 _ c.in_err-turn.ensures.gives c.turns.invariant.so_far)

pub operand::operand_climb-turns-smaller : goal.operand::operand_climb-turns-smaller
operand::operand_climb-turns-smaller t c = loop_shrinks (operand_step (parsers c.args.d) c.args.d c.args.wanted c.args.free) (operand_turns (parsers c.args.d) (no_longer c.args.d) c.args.d c.args.wanted c.args.free) (view_expr c.turns.expr.0) c.turns.rest.now (view_expr c.in-Again.longer.0) c.in_ok-turn.after.now (rw c.in-Again.is at c.in_ok-turn.ensures.gives)

pub operand::operand_climb-turns-preserved : goal.operand::operand_climb-turns-preserved
operand::operand_climb-turns-preserved t c = record {
  so_far = loop_on (operand_step (parsers c.args.d) c.args.d c.args.wanted c.args.free) (operand_turns (parsers c.args.d) (no_longer c.args.d) c.args.d c.args.wanted c.args.free) (view_expr c.turns.expr.0) c.turns.rest.now (view_expr c.in-Again.longer.0) c.in_ok-turn.after.now _ (rw c.in-Again.is at c.in_ok-turn.ensures.gives) c.turns.invariant.so_far;
  deep = rw c.in-Again.is at c.in_ok-turn.ensures.deep;
}

pub operand::operand_climb-returns-in-Done-clause-gives : goal.operand::operand_climb-returns-in-Done-clause-gives
operand::operand_climb-returns-in-Done-clause-gives t c = loop_done (operand_step (parsers c.args.d) c.args.d c.args.wanted c.args.free) (operand_turns (parsers c.args.d) (no_longer c.args.d) c.args.d c.args.wanted c.args.free) (view_expr c.turns.expr.0) c.turns.rest.now (view_expr c.in-Done.whole.0) c.in_ok-turn.after.now _ (rw c.in-Done.is at c.in_ok-turn.ensures.gives) c.turns.invariant.so_far

pub variables::declarations_from-returns-in_err-turn-clause-gives : goal.variables::declarations_from-returns-in_err-turn-clause-gives
variables::declarations_from-returns-in_err-turn-clause-gives t c =
    let p = err_from_is_err_and c.from_residual-in_err-turn.result c.from_residual-in_err-turn.ensures.1 in
    rw (p.1, p.2) (loop_fails (declaration_step (parsers c.args.d) c.args.free) (declaration_turns (parsers c.args.d) (no_longer c.args.d) c.args.free) (view_declarations c.turns.list.0) c.turns.rest.now c.in_err-turn.field-0.0 _ c.in_err-turn.ensures.gives c.turns.invariant.so_far)

pub variables::declarations_from-turns-smaller : goal.variables::declarations_from-turns-smaller
variables::declarations_from-turns-smaller t c = loop_shrinks (declaration_step (parsers c.args.d) c.args.free) (declaration_turns (parsers c.args.d) (no_longer c.args.d) c.args.free) (view_declarations c.turns.list.0) c.turns.rest.now (view_declarations c.in-Again.longer.0) c.in_ok-turn.after.now (rw c.in-Again.is at c.in_ok-turn.ensures.gives)

pub variables::declarations_from-turns-preserved : goal.variables::declarations_from-turns-preserved
variables::declarations_from-turns-preserved t c = record {
  so_far = loop_on (declaration_step (parsers c.args.d) c.args.free) (declaration_turns (parsers c.args.d) (no_longer c.args.d) c.args.free) (view_declarations c.turns.list.0) c.turns.rest.now (view_declarations c.in-Again.longer.0) c.in_ok-turn.after.now _ (rw c.in-Again.is at c.in_ok-turn.ensures.gives) c.turns.invariant.so_far;
  deep = rw c.in-Again.is at c.in_ok-turn.ensures.deep;
}

pub variables::declarations_from-returns-in-Done-clause-gives : goal.variables::declarations_from-returns-in-Done-clause-gives
variables::declarations_from-returns-in-Done-clause-gives t c = loop_done (declaration_step (parsers c.args.d) c.args.free) (declaration_turns (parsers c.args.d) (no_longer c.args.d) c.args.free) (view_declarations c.turns.list.0) c.turns.rest.now (view_declarations c.in-Done.whole.0) c.in_ok-turn.after.now _ (rw c.in-Done.is at c.in_ok-turn.ensures.gives) c.turns.invariant.so_far

pub blocks::clauses-returns-in_err-turn-clause-gives : goal.blocks::clauses-returns-in_err-turn-clause-gives
blocks::clauses-returns-in_err-turn-clause-gives t c =
    let p = err_from_is_err_and c.from_residual.result c.from_residual.ensures.1 in
    rw (p.1, p.2) (loop_fails (clause_step (parsers c.args.d)) (clause_turns (parsers c.args.d) (no_longer c.args.d)) (view_clauses (nodes_of c.turns.list.0)) c.turns.rest.now c.in_err-turn.field-0.0 _ c.in_err-turn.ensures.gives c.turns.invariant.so_far)

pub blocks::clauses-turns-smaller : goal.blocks::clauses-turns-smaller
blocks::clauses-turns-smaller t c = loop_shrinks (clause_step (parsers c.args.d)) (clause_turns (parsers c.args.d) (no_longer c.args.d)) (view_clauses (nodes_of c.turns.list.0)) c.turns.rest.now (view_clauses (nodes_of c.in-Again.longer.0)) c.in_ok-turn.after.now (rw c.in-Again.is at c.in_ok-turn.ensures.gives)

pub blocks::clauses-turns-preserved : goal.blocks::clauses-turns-preserved
blocks::clauses-turns-preserved t c = record {
  so_far = loop_on (clause_step (parsers c.args.d)) (clause_turns (parsers c.args.d) (no_longer c.args.d)) (view_clauses (nodes_of c.turns.list.0)) c.turns.rest.now (view_clauses (nodes_of c.in-Again.longer.0)) c.in_ok-turn.after.now _ (rw c.in-Again.is at c.in_ok-turn.ensures.gives) c.turns.invariant.so_far;
  deep = rw c.in-Again.is at c.in_ok-turn.ensures.deep;
}

pub blocks::clauses-returns-in-Done-clause-gives : goal.blocks::clauses-returns-in-Done-clause-gives
blocks::clauses-returns-in-Done-clause-gives t c = loop_done (clause_step (parsers c.args.d)) (clause_turns (parsers c.args.d) (no_longer c.args.d)) (view_clauses (nodes_of c.turns.list.0)) c.turns.rest.now (view_clauses (nodes_of c.in-Done.whole.0)) c.in_ok-turn.after.now _ (rw c.in-Done.is at c.in_ok-turn.ensures.gives) c.turns.invariant.so_far

pub list::statements-returns-in_err-turn-clause-gives : goal.list::statements-returns-in_err-turn-clause-gives
list::statements-returns-in_err-turn-clause-gives t c =
    let d = c.args.limit - 1 in
    let p = err_from_is_err_and c.from_residual.result c.from_residual.ensures.1 in
    rw (p.1, p.2) (loop_fails (statements_step (parsers d) d c.args.outer) (statements_turns d c.args.outer) (view_stmts (nodes_of c.turns.list.0)) c.turns.rest.now c.in_err-turn.field-0.0 _ c.in_err-turn.ensures.gives c.turns.invariant.so_far)

pub list::statements-turns-smaller : goal.list::statements-turns-smaller
list::statements-turns-smaller t c =
    let d = c.args.limit - 1 in
    loop_shrinks (statements_step (parsers d) d c.args.outer) (statements_turns d c.args.outer) (view_stmts (nodes_of c.turns.list.0)) c.turns.rest.now (view_stmts (nodes_of c.in-Again.longer.0)) c.in_ok-turn.after.now (rw c.in-Again.is at c.in_ok-turn.ensures.gives)

pub list::statements-turns-preserved : goal.list::statements-turns-preserved
list::statements-turns-preserved t c =
    let d = c.args.limit - 1 in
    record {
      so_far = loop_on (statements_step (parsers d) d c.args.outer) (statements_turns d c.args.outer) (view_stmts (nodes_of c.turns.list.0)) c.turns.rest.now (view_stmts (nodes_of c.in-Again.longer.0)) c.in_ok-turn.after.now _ (rw c.in-Again.is at c.in_ok-turn.ensures.gives) c.turns.invariant.so_far;
      deep = rw c.in-Again.is at c.in_ok-turn.ensures.deep;
    }

pub list::statements-returns-in-Done-clause-gives : goal.list::statements-returns-in-Done-clause-gives
list::statements-returns-in-Done-clause-gives t c =
    let d = c.args.limit - 1 in
    loop_done (statements_step (parsers d) d c.args.outer) (statements_turns d c.args.outer) (view_stmts (nodes_of c.turns.list.0)) c.turns.rest.now (view_stmts (nodes_of c.in-Done.whole.0)) c.in_ok-turn.after.now _ (rw c.in-Done.is at c.in_ok-turn.ensures.gives) c.turns.invariant.so_far

pub blocks::try_statement-returns-in_default-clause-gives : goal.blocks::try_statement-returns-in_default-clause-gives
unfolding try_rest handler_by
blocks::try_statement-returns-in_default-clause-gives t c =
    elim c.in_default.branch [ blocks::try_statement-in_default-via-in-Some+in-Key+in_default w ↦ search (rules, inner_is) | blocks::try_statement-in_default-via-in-Some+in_default w ↦ search (rules, inner_is) | blocks::try_statement-in_default-via-in_default w ↦ search (rules, inner_is) ]

use Rattle.std.proofs.Common.{◌≡◌, suc, length, ◌+◌, ◌-◌, ◌*◌}
use Rattle.js_ast.specs.Depth.{depth, depth_exprs, depth_items, depth_properties, depth_declarations, depth_clauses, depth_statements}
use Rattle.js_ast.specs.Nodes.{nodes_of}
use Rattle.js_list_parser.specs.Parsing.{parsers}
use Rattle.js_list_parser.specs.Reading.{loop}
use Rattle.js_list_parser.specs.ExpressionParsing.{climb_step, argument, item_turn, property_turn, operand_step}
use Rattle.js_list_parser.specs.StatementParsing.{declaration_step, declarations_from, clause_step, statements_step}
use Rattle.js_ast.specs.Trees.{no_items, no_properties, no_clauses}
use Rattle.js_ast.specs.Views.{view_ident, view_expr, view_exprs, view_items, view_properties, view_declarations, view_clauses, view_stmts}
use Rattle.js_parse_parts.specs.Answers.{Deep}
use Rattle.js_parse_cycle.proofs.+parser.Given as goal

abbrev pub decreases-expression::expression : goal.decreases-expression::expression
decreases-expression::expression l = 32 * l.limit + 0

abbrev pub decreases-operand::operand : goal.decreases-operand::operand
decreases-operand::operand l = 32 * l.limit + 1

abbrev pub decreases-lists::argument : goal.decreases-lists::argument
decreases-lists::argument l = 32 * l.d + 12

abbrev pub decreases-lists::more_arguments : goal.decreases-lists::more_arguments
decreases-lists::more_arguments l = 32 * l.d + 13

abbrev pub decreases-lists::arguments : goal.decreases-lists::arguments
decreases-lists::arguments l = 32 * l.d + 14

abbrev pub decreases-expression::suffix : goal.decreases-expression::suffix
decreases-expression::suffix l = 32 * l.d + 15

abbrev pub decreases-expression::climb_step : goal.decreases-expression::climb_step
decreases-expression::climb_step l = 32 * l.d + 16

abbrev pub decreases-expression::climb : goal.decreases-expression::climb
decreases-expression::climb l = 32 * l.d + 17

abbrev pub decreases-operand::further : goal.decreases-operand::further
decreases-operand::further l = 32 * l.d + 16

abbrev pub decreases-operand::operand_step : goal.decreases-operand::operand_step
decreases-operand::operand_step l = 32 * l.d + 17

abbrev pub decreases-operand::operand_climb : goal.decreases-operand::operand_climb
decreases-operand::operand_climb l = 32 * l.d + 18

abbrev pub decreases-objects::property_at : goal.decreases-objects::property_at
decreases-objects::property_at l = 32 * l.d + 14

abbrev pub decreases-objects::property_turn : goal.decreases-objects::property_turn
decreases-objects::property_turn l = 32 * l.d + 15

abbrev pub decreases-objects::properties : goal.decreases-objects::properties
decreases-objects::properties l = 32 * l.d + 16

abbrev pub decreases-lists::item_turn : goal.decreases-lists::item_turn
decreases-lists::item_turn l = 32 * l.d + 12

abbrev pub decreases-lists::items : goal.decreases-lists::items
decreases-lists::items l = 32 * l.d + 13

abbrev pub decreases-primary::new_expression : goal.decreases-primary::new_expression
decreases-primary::new_expression l = 32 * l.d + 15

abbrev pub decreases-primary::unary_expression : goal.decreases-primary::unary_expression
decreases-primary::unary_expression l = 32 * l.d + 12

abbrev pub decreases-primary::primary : goal.decreases-primary::primary
decreases-primary::primary l = 32 * l.d + 18

abbrev pub decreases-operand::operand_first : goal.decreases-operand::operand_first
decreases-operand::operand_first l = 32 * l.d + 12

abbrev pub decreases-statement::statement : goal.decreases-statement::statement
decreases-statement::statement l = 32 * l.limit + 3

abbrev pub decreases-statement::expression_first : goal.decreases-statement::expression_first
decreases-statement::expression_first l = 32 * l.limit + 2

abbrev pub decreases-variables::variables : goal.decreases-variables::variables
decreases-variables::variables l = 32 * l.limit + 2

abbrev pub decreases-branches::if_statement : goal.decreases-branches::if_statement
decreases-branches::if_statement l = 32 * l.limit + 2

abbrev pub decreases-branches::do_statement : goal.decreases-branches::do_statement
decreases-branches::do_statement l = 32 * l.limit + 2

abbrev pub decreases-branches::while_statement : goal.decreases-branches::while_statement
decreases-branches::while_statement l = 32 * l.limit + 2

abbrev pub decreases-for_loops::for_statement : goal.decreases-for_loops::for_statement
decreases-for_loops::for_statement l = 32 * l.limit + 2

abbrev pub decreases-values::return_with : goal.decreases-values::return_with
decreases-values::return_with l = 32 * l.limit + 2

abbrev pub decreases-values::throw : goal.decreases-values::throw
decreases-values::throw l = 32 * l.limit + 2

abbrev pub decreases-blocks::block : goal.decreases-blocks::block
decreases-blocks::block l = 32 * l.limit + 2

abbrev pub decreases-blocks::switch_statement : goal.decreases-blocks::switch_statement
decreases-blocks::switch_statement l = 32 * l.limit + 2

abbrev pub decreases-blocks::try_statement : goal.decreases-blocks::try_statement
decreases-blocks::try_statement l = 32 * l.limit + 2

abbrev pub decreases-list::declared_function : goal.decreases-list::declared_function
decreases-list::declared_function l = 32 * l.limit + 2

abbrev pub decreases-list::element : goal.decreases-list::element
decreases-list::element l = 32 * l.limit + 4

abbrev pub decreases-list::listed : goal.decreases-list::listed
decreases-list::listed l = 32 * l.limit + 5

abbrev pub decreases-list::statements : goal.decreases-list::statements
decreases-list::statements l = 32 * l.limit + 6

abbrev pub decreases-branches::condition : goal.decreases-branches::condition
decreases-branches::condition l = 32 * l.d + 2

abbrev pub decreases-variables::initialiser : goal.decreases-variables::initialiser
decreases-variables::initialiser l = 32 * l.d + 2

abbrev pub decreases-variables::declaration : goal.decreases-variables::declaration
decreases-variables::declaration l = 32 * l.d + 3

abbrev pub decreases-variables::declarations_from : goal.decreases-variables::declarations_from
decreases-variables::declarations_from l = 32 * l.d + 4

abbrev pub decreases-for_loops::header_part : goal.decreases-for_loops::header_part
decreases-for_loops::header_part l = 32 * l.d + 2

abbrev pub decreases-for_loops::for_steps : goal.decreases-for_loops::for_steps
decreases-for_loops::for_steps l = 32 * l.d + 7

abbrev pub decreases-for_loops::for_each : goal.decreases-for_loops::for_each
decreases-for_loops::for_each l = 32 * l.d + 7

abbrev pub decreases-for_loops::for_variable : goal.decreases-for_loops::for_variable
decreases-for_loops::for_variable l = 32 * l.d + 8

abbrev pub decreases-for_loops::for_expression : goal.decreases-for_loops::for_expression
decreases-for_loops::for_expression l = 32 * l.d + 8

abbrev pub decreases-blocks::clause : goal.decreases-blocks::clause
decreases-blocks::clause l = 32 * l.d + 7

abbrev pub decreases-blocks::clauses : goal.decreases-blocks::clauses
decreases-blocks::clauses l = 32 * l.d + 8

abbrev pub decreases-blocks::catch : goal.decreases-blocks::catch
decreases-blocks::catch l = 32 * l.d + 7

abbrev pub decreases-functions::body_at : goal.decreases-functions::body_at
decreases-functions::body_at l = 32 * l.d + 7

abbrev pub decreases-functions::function_rest : goal.decreases-functions::function_rest
decreases-functions::function_rest l = 32 * l.d + 8

abbrev pub decreases-primary::function_expression : goal.decreases-primary::function_expression
decreases-primary::function_expression l = 32 * l.d + 9

abbrev pub invariant-expression::climb-turns : goal.invariant-expression::climb-turns
invariant-expression::climb-turns l = record {
  so_far : loop (climb_step (parsers l.d) l.d l.wanted l.free) (view_expr l.expr.0) l.rest ≡ loop (climb_step (parsers l.d) l.d l.wanted l.free) (view_expr l.fn.first.0) l.tokens;
  deep : Deep (suc l.d) (depth (view_expr l.expr.0)) l.expr.1;
}

abbrev pub decreases-expression::climb-turns : goal.decreases-expression::climb-turns
decreases-expression::climb-turns l = length l.rest

abbrev pub invariant-lists::more_arguments-turns : goal.invariant-lists::more_arguments-turns
invariant-lists::more_arguments-turns l = record {
  so_far : loop (argument (parsers l.d)) (view_exprs (nodes_of l.args.0)) l.rest ≡ loop (argument (parsers l.d)) (view_exprs (nodes_of l.fn.first.0)) l.tokens;
  deep : Deep l.d (depth_exprs (view_exprs (nodes_of l.args.0))) l.args.1;
}

abbrev pub decreases-lists::more_arguments-turns : goal.decreases-lists::more_arguments-turns
decreases-lists::more_arguments-turns l = length l.rest

abbrev pub invariant-lists::items-turns : goal.invariant-lists::items-turns
invariant-lists::items-turns l = record {
  so_far : loop (item_turn (parsers l.d)) (view_items (nodes_of l.items.0)) l.rest ≡ loop (item_turn (parsers l.d)) no_items l.tokens;
  deep : Deep l.d (depth_items (view_items (nodes_of l.items.0))) l.items.1;
}

abbrev pub decreases-lists::items-turns : goal.decreases-lists::items-turns
decreases-lists::items-turns l = length l.rest

abbrev pub invariant-objects::properties-turns : goal.invariant-objects::properties-turns
invariant-objects::properties-turns l = record {
  so_far : loop (property_turn (parsers l.d)) (view_properties (nodes_of l.properties.0)) l.rest ≡ loop (property_turn (parsers l.d)) no_properties l.tokens;
  deep : Deep l.d (depth_properties (view_properties (nodes_of l.properties.0))) l.properties.1;
}

abbrev pub decreases-objects::properties-turns : goal.decreases-objects::properties-turns
decreases-objects::properties-turns l = length l.rest

abbrev pub invariant-operand::operand_climb-turns : goal.invariant-operand::operand_climb-turns
invariant-operand::operand_climb-turns l = record {
  so_far : loop (operand_step (parsers l.d) l.d l.wanted l.free) (view_expr l.expr.0) l.rest ≡ loop (operand_step (parsers l.d) l.d l.wanted l.free) (view_expr l.fn.first.0) l.tokens;
  deep : Deep (suc l.d) (depth (view_expr l.expr.0)) l.expr.1;
}

abbrev pub decreases-operand::operand_climb-turns : goal.decreases-operand::operand_climb-turns
decreases-operand::operand_climb-turns l = length l.rest

abbrev pub invariant-variables::declarations_from-turns : goal.invariant-variables::declarations_from-turns
invariant-variables::declarations_from-turns l = record {
  so_far : loop (declaration_step (parsers l.d) l.free) (view_declarations l.list.0) l.rest ≡ declarations_from (parsers l.d) l.free (view_ident l.fn.name) l.tokens;
  deep : Deep l.d (depth_declarations (view_declarations l.list.0)) l.list.1;
}

abbrev pub decreases-variables::declarations_from-turns : goal.decreases-variables::declarations_from-turns
decreases-variables::declarations_from-turns l = length l.rest

abbrev pub invariant-blocks::clauses-turns : goal.invariant-blocks::clauses-turns
invariant-blocks::clauses-turns l = record {
  so_far : loop (clause_step (parsers l.d)) (view_clauses (nodes_of l.list.0)) l.rest ≡ loop (clause_step (parsers l.d)) no_clauses l.tokens;
  deep : Deep l.d (depth_clauses (view_clauses (nodes_of l.list.0))) l.list.1;
}

abbrev pub decreases-blocks::clauses-turns : goal.decreases-blocks::clauses-turns
decreases-blocks::clauses-turns l = length l.rest

abbrev pub invariant-list::statements-turns : goal.invariant-list::statements-turns
invariant-list::statements-turns l = record {
  so_far : loop (statements_step (parsers (l.limit - 1)) (l.limit - 1) l.outer) (view_stmts (nodes_of l.list.0)) l.rest ≡ (parsers l.limit).statements l.outer l.tokens;
  deep : Deep l.limit (depth_statements (view_stmts (nodes_of l.list.0))) l.list.1;
}

abbrev pub decreases-list::statements-turns : goal.decreases-list::statements-turns
decreases-list::statements-turns l = length l.rest

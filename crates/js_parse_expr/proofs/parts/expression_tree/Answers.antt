use Rattle.std.proofs.Common.{inr, not}
use Rattle.js_ast.specs.Views.{view_expr}
use Rattle.js_list_parser.specs.Parsing.{longest_at}
use Rattle.js_list_parser.specs.Refusals.{an_expression}
use Rattle.js_parse_parts.specs.Answers.{fault_of}
use Rattle.js_parse_expr.specs.Parts.{depths_left}
use Rattle.js_parse_expr.proofs.PartLaws.{of_expressions, some_left}
use Rattle.js_parse_expr.proofs.ParsedLaws as laws
use Rattle.js_parse_expr.proofs.parts.expression_tree.Goals as goal

pub overflow_sub-result : goal.overflow_sub-result
overflow_sub-result c = laws.rest_fits (an_expression (not c.args.no_in)) (longest_at (not c.args.no_in)) (of_expressions (not c.args.no_in)) (depths_left c.args.deep) (some_left c.args.deep c.requires.deep) c.args.tokens.now c.args.from (view_expr c.in-Ok.found) c.in-Ok.rest.now c.in-Ok.ensures

pub returns-in-Ok-clause-tree : goal.returns-in-Ok-clause-tree
returns-in-Ok-clause-tree c = laws.part_read (an_expression (not c.args.no_in)) (longest_at (not c.args.no_in)) (of_expressions (not c.args.no_in)) (depths_left c.args.deep) (some_left c.args.deep c.requires.deep) c.args.tokens.now c.args.from c.requires.from (view_expr c.in-Ok.found) c.in-Ok.rest.now c.in-Ok.ensures

pub returns-in-Err-Refused-clause-fault : goal.returns-in-Err-Refused-clause-fault
returns-in-Err-Refused-clause-fault c = rw c.refused.ensures (inr (laws.part_fault (an_expression (not c.args.no_in)) (longest_at (not c.args.no_in)) (of_expressions (not c.args.no_in)) (depths_left c.args.deep) (some_left c.args.deep c.requires.deep) c.args.tokens.now c.args.from c.args.end (fault_of c.in-Err-Refused.fault) c.in-Err-Refused.rest.now (rw c.in-Err-Refused.field-0-is at c.in-Err-Refused.ensures)))

use Rattle.std.proofs.Common.{not}
use Rattle.js_ast.specs.Views.{view_expr}
use Rattle.js_list_parser.specs.Parsing.{longest_at}
use Rattle.js_list_parser.specs.Refusals.{an_expression}
use Rattle.js_parse_expr.specs.Parts.{bad_directive_in_expr, depths_left}
use Rattle.js_parse_expr.proofs.PartLaws.{of_expressions, directive_of_expression}
use Rattle.js_parse_expr.proofs.ParsedLaws as laws
use Rattle.js_parse_expr.proofs.parts.expression.Goals as goal

pub returns-clause-place : goal.returns-clause-place
returns-clause-place c = λ all. laws.answer_within (an_expression (not c.args.no_in)) (longest_at (not c.args.no_in)) (of_expressions (not c.args.no_in)) bad_directive_in_expr (depths_left c.args.deep) c.args.tokens.now c.args.from c.args.end
    (directive_of_expression (depths_left c.args.deep) c.args.end (not c.args.no_in)) all c.formed_expression.result c.formed_expression.ensures.fault

pub returns-clause-only_read : goal.returns-clause-only_read
returns-clause-only_read c = laws.only_read (an_expression (not c.args.no_in)) (longest_at (not c.args.no_in)) (of_expressions (not c.args.no_in)) bad_directive_in_expr (depths_left c.args.deep) c.args.tokens.now c.args.from c.args.end (λ x. view_expr x.0) (λ x. x.1) c.formed_expression.result c.formed_expression.ensures.read c.formed_expression.ensures.fault

pub returns-clause-only_fault : goal.returns-clause-only_fault
returns-clause-only_fault c = laws.only_fault (an_expression (not c.args.no_in)) (longest_at (not c.args.no_in)) (of_expressions (not c.args.no_in)) bad_directive_in_expr (depths_left c.args.deep) c.args.tokens.now c.args.from c.args.end (λ x. view_expr x.0) (λ x. x.1) c.formed_expression.result c.formed_expression.ensures.read c.formed_expression.ensures.fault

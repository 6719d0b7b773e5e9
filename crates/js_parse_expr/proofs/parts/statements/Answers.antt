use Rattle.js_ast.specs.Nodes.{nodes_of}
use Rattle.js_ast.specs.Views.{view_stmts}
use Rattle.js_list_parser.specs.Parsing.{list_at}
use Rattle.js_list_parser.specs.Refusals.{a_list}
use Rattle.js_parse_expr.specs.Parts.{bad_directive, depths_left}
use Rattle.js_parse_expr.proofs.PartLaws.{of_lists, directive_of_list}
use Rattle.js_parse_expr.proofs.ParsedLaws as laws
use Rattle.js_parse_expr.proofs.parts.statements.Goals as goal

pub returns-clause-place : goal.returns-clause-place
returns-clause-place c = λ all. laws.answer_within a_list list_at of_lists bad_directive (depths_left c.args.deep) c.args.tokens.now c.args.from c.args.end (directive_of_list (depths_left c.args.deep) c.args.end) all
    c.formed_statements.result c.formed_statements.ensures.fault

pub returns-clause-only_read : goal.returns-clause-only_read
returns-clause-only_read c = laws.only_read a_list list_at of_lists bad_directive (depths_left c.args.deep) c.args.tokens.now c.args.from c.args.end (λ x. view_stmts (nodes_of x.0)) (λ x. x.1) c.formed_statements.result c.formed_statements.ensures.read c.formed_statements.ensures.fault

pub returns-clause-only_fault : goal.returns-clause-only_fault
returns-clause-only_fault c = laws.only_fault a_list list_at of_lists bad_directive (depths_left c.args.deep) c.args.tokens.now c.args.from c.args.end (λ x. view_stmts (nodes_of x.0)) (λ x. x.1) c.formed_statements.result c.formed_statements.ensures.read c.formed_statements.ensures.fault

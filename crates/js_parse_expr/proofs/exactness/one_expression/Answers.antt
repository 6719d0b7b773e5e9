use Rattle.std.proofs.Common.{not}
use Rattle.js_list_parser.specs.Parsing.{longest_at}
use Rattle.js_list_parser.specs.Refusals.{an_expression}
use Rattle.js_parse_expr.specs.Parts.{bad_directive_in_expr, depths_left}
use Rattle.js_parse_expr.proofs.PartLaws.{of_expressions, some_left}
use Rattle.js_parse_expr.proofs.ParsedLaws as laws
use Rattle.js_parse_expr.proofs.exactness.one_expression.Goals as goal

pub returns-clause-one_tree : goal.returns-clause-one_tree
returns-clause-one_tree c = λ tokens from deep no_in. laws.one_tree (an_expression (not no_in)) (longest_at (not no_in)) (of_expressions (not no_in)) bad_directive_in_expr (depths_left deep) tokens from

pub returns-clause-one_fault : goal.returns-clause-one_fault
returns-clause-one_fault c = λ tokens from deep no_in end. laws.one_fault (an_expression (not no_in)) (longest_at (not no_in)) (of_expressions (not no_in)) bad_directive_in_expr (depths_left deep) tokens from end

pub returns-clause-one_at_least : goal.returns-clause-one_at_least
returns-clause-one_at_least c = λ tokens from deep no_in end low. laws.one_at_least (an_expression (not no_in)) (longest_at (not no_in)) (of_expressions (not no_in)) bad_directive_in_expr (depths_left deep) tokens from end (some_left deep low)

pub returns-clause-never_both : goal.returns-clause-never_both
returns-clause-never_both c = λ tokens from deep no_in end. laws.never_both (an_expression (not no_in)) (longest_at (not no_in)) (of_expressions (not no_in)) bad_directive_in_expr (depths_left deep) tokens from end

use Rattle.js_list_parser.specs.Parsing.{list_at}
use Rattle.js_list_parser.specs.Refusals.{a_list}
use Rattle.js_parse_expr.specs.Parts.{bad_directive, depths_left}
use Rattle.js_parse_expr.proofs.PartLaws.{of_lists, some_left}
use Rattle.js_parse_expr.proofs.ParsedLaws as laws
use Rattle.js_parse_expr.proofs.exactness.one_list.Goals as goal

pub returns-clause-one_tree : goal.returns-clause-one_tree
returns-clause-one_tree c = λ tokens from deep. laws.one_tree a_list list_at of_lists bad_directive (depths_left deep) tokens from

pub returns-clause-one_fault : goal.returns-clause-one_fault
returns-clause-one_fault c = λ tokens from deep end. laws.one_fault a_list list_at of_lists bad_directive (depths_left deep) tokens from end

pub returns-clause-one_at_least : goal.returns-clause-one_at_least
returns-clause-one_at_least c = λ tokens from deep end low. laws.one_at_least a_list list_at of_lists bad_directive (depths_left deep) tokens from end (some_left deep low)

pub returns-clause-never_both : goal.returns-clause-never_both
returns-clause-never_both c = λ tokens from deep end. laws.never_both a_list list_at of_lists bad_directive (depths_left deep) tokens from end

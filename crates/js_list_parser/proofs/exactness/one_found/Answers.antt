use Rattle.js_list_parser.proofs.Refused.{one_found}
use Rattle.js_list_parser.proofs.exactness.one_found.Goals as goal

pub returns-clause-program : goal.returns-clause-program
returns-clause-program c = one_found.0

pub returns-clause-list : goal.returns-clause-list
returns-clause-list c = one_found.1

pub returns-clause-expression : goal.returns-clause-expression
returns-clause-expression c = one_found.2

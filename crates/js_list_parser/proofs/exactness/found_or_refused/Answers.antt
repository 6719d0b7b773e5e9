use Rattle.js_list_parser.proofs.Refused.{found_or_refused}
use Rattle.js_list_parser.proofs.exactness.found_or_refused.Goals as goal

pub returns-clause-program : goal.returns-clause-program
returns-clause-program c = found_or_refused.0

pub returns-clause-list : goal.returns-clause-list
returns-clause-list c = found_or_refused.1

pub returns-clause-expression : goal.returns-clause-expression
returns-clause-expression c = found_or_refused.2

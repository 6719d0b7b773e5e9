use Rattle.js_list_parser.proofs.Refused.{finds_exactly}
use Rattle.js_list_parser.proofs.exactness.finds_exactly.Goals as goal

pub returns-clause-program : goal.returns-clause-program
returns-clause-program c = finds_exactly.0

pub returns-clause-list : goal.returns-clause-list
returns-clause-list c = finds_exactly.1

pub returns-clause-expression : goal.returns-clause-expression
returns-clause-expression c = finds_exactly.2

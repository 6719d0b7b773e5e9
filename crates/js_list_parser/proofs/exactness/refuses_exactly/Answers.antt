use Rattle.js_list_parser.proofs.Refused.{refuses_exactly}
use Rattle.js_list_parser.proofs.exactness.refuses_exactly.Goals as goal

pub returns-clause-program : goal.returns-clause-program
returns-clause-program c = refuses_exactly.0

pub returns-clause-list : goal.returns-clause-list
returns-clause-list c = refuses_exactly.1

pub returns-clause-expression : goal.returns-clause-expression
returns-clause-expression c = refuses_exactly.2

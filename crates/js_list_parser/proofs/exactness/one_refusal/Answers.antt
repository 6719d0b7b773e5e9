use Rattle.js_list_parser.proofs.Refused.{one_refusal}
use Rattle.js_list_parser.proofs.exactness.one_refusal.Goals as goal

pub returns-clause-program : goal.returns-clause-program
returns-clause-program c = one_refusal.0

pub returns-clause-list : goal.returns-clause-list
returns-clause-list c = one_refusal.1

pub returns-clause-expression : goal.returns-clause-expression
returns-clause-expression c = one_refusal.2

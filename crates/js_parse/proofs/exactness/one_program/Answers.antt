use Rattle.js_parse.proofs.Laws.{one_program, one_fault, one_at_least, never_both}
use Rattle.js_parse.proofs.exactness.one_program.Goals as goal

pub returns-clause-one_tree : goal.returns-clause-one_tree
returns-clause-one_tree c = one_program

pub returns-clause-one_fault : goal.returns-clause-one_fault
returns-clause-one_fault c = one_fault

pub returns-clause-one_at_least : goal.returns-clause-one_at_least
returns-clause-one_at_least c = one_at_least

pub returns-clause-never_both : goal.returns-clause-never_both
returns-clause-never_both c = never_both

use Rattle.js_scan.proofs.exactness.one_reading.Goals as goal
use Rattle.js_scan.proofs.Laws.{one_tokens, one_fault, never_both}
use Rattle.js_scan.proofs.Totality.{reads_all}

pub returns-clause-one_list : goal.returns-clause-one_list
returns-clause-one_list c = one_tokens

pub returns-clause-one_fault : goal.returns-clause-one_fault
returns-clause-one_fault c = one_fault

pub returns-clause-one_at_least : goal.returns-clause-one_at_least
returns-clause-one_at_least c = reads_all

pub returns-clause-never_both : goal.returns-clause-never_both
returns-clause-never_both c = never_both

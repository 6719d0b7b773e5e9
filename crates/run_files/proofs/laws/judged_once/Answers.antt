use Rattle.run_files.proofs.Judging.{judged_once, judged_or_absent}
use Rattle.run_files.proofs.laws.judged_once.Goals as goal

pub returns-clause-judged : goal.returns-clause-judged
returns-clause-judged c = judged_once

pub returns-clause-absent : goal.returns-clause-absent
returns-clause-absent c = judged_or_absent

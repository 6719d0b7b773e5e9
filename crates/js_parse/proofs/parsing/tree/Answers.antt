use Rattle.std.proofs.Common.{inr}
use Rattle.js_parse_parts.specs.Answers.{fault_of}
use Rattle.js_parse.proofs.Laws.{tree_read, fault_read}
use Rattle.js_parse.proofs.parsing.tree.Goals as goal

pub returns-in-Ok-clause-tree : goal.returns-in-Ok-clause-tree
returns-in-Ok-clause-tree c = tree_read _ _ c.in-Ok.ensures

pub returns-in-Err-Refused-clause-fault : goal.returns-in-Err-Refused-clause-fault
returns-in-Err-Refused-clause-fault c = rw c.refused.ensures (inr (fault_read c.args.tokens.now c.args.end (fault_of c.in-Err-Refused.fault) c.in-Err-Refused.rest.now (rw c.in-Err-Refused.field-0-is at c.in-Err-Refused.ensures)))

use Rattle.js_parse.proofs.Laws.{fault_within, only_program, only_fault}
use Rattle.js_parse.proofs.parsing.parse.Goals as goal

pub returns-clause-place : goal.returns-clause-place
returns-clause-place c = fault_within c.args.tokens.now c.args.end c.read.result c.read.ensures.fault

pub returns-clause-only_program : goal.returns-clause-only_program
returns-clause-only_program c = only_program c.args.tokens.now c.args.end c.read.result c.read.ensures.program c.read.ensures.fault

pub returns-clause-only_fault : goal.returns-clause-only_fault
returns-clause-only_fault c = only_fault c.args.tokens.now c.args.end c.read.result c.read.ensures.program c.read.ensures.fault

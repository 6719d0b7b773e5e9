use Rattle.std.proofs.Common.{drop}
use Rattle.function_table.specs.Tables.{table}
use Rattle.step_start.proofs.EnterLaws.{Entering}
use Rattle.step_start.proofs.script_functions.declare_functions.Given as goal

abbrev pub invariant-statements : goal.invariant-statements
invariant-statements g l = Entering (table l.functions) l.initial.heap l.s-items (drop l.s-index l.s-items) l.heap

use Rattle.std.proofs.Common.{drop}
use Rattle.function_table.specs.Tables.{table}
use Rattle.function_entry.proofs.DeclaringLaws.{Declaring}
use Rattle.function_entry.proofs.declaring.make_declared.Given as goal

abbrev pub invariant-statements : goal.invariant-statements
invariant-statements g l = Declaring g.L.Labels.made g.L.Labels.meaning g.L.Labels.room g.L.Labels.firm (table l.functions) l.context l.own.0 l.initial.labels l.initial.heap l.s-items (drop l.s-index l.s-items) l.labels l.heap l.references.items

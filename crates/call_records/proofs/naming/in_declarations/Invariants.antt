use Rattle.std.proofs.Common.{◌≡◌, drop}
use Rattle.call_records.proofs.Loops.{in_values}
use Rattle.call_records.proofs.naming.in_declarations.Given as goal

abbrev pub invariant-others : goal.invariant-others
invariant-others l = in_values (drop l.declaration-index l.declaration-items) ≡ in_values l.declaration-items

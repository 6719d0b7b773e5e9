use Rattle.std.proofs.Common.{◌≡◌, drop}
use Rattle.call_records.specs.Planned.{with_names}
use Rattle.call_records.proofs.VariableLaws.{names_in}
use Rattle.call_records.proofs.variables.in_declarations.Given as goal

abbrev pub invariant-others : goal.invariant-others
invariant-others l = with_names (names_in (drop l.declaration-index l.declaration-items)) l.layout ≡ with_names (names_in l.declaration-items) l.initial.layout

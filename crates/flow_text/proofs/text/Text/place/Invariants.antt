use Rattle.std.proofs.Common.{◌≡◌, ◌+◌, ◌≤◌}
use Rattle.flow_text.specs.Places.{line_of, column_of}
use Rattle.flow_text.proofs.text.Text.place.Given as goal

abbrev pub invariant-loop-i : goal.invariant-loop-i
invariant-loop-i l = (l.line ≡ line_of l.units l.i) × (l.column ≡ column_of l.units l.i) × (l.units ≡ l.fn.self) × (1 ≤ l.line) × (l.line ≤ l.i + 1) × (1 ≤ l.column) × (l.column ≤ l.i + 1)

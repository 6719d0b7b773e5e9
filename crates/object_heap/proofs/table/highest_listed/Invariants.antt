use Rattle.std.proofs.Common.{◌≡◌, drop, option_map}
use Rattle.js_values.specs.Arrays.{highest}
use Rattle.object_heap.specs.Tables.{higher_than}
use Rattle.object_heap.proofs.table.highest_listed.Given as goal

-- the highest so far, with those of the rows that are still read, is the highest of all
abbrev pub invariant-loop-row : goal.invariant-loop-row
invariant-loop-row g l = higher_than (option_map (λ e. (e.0, e.1.now)) l.found) (highest l.n (drop l.row-index l.rows)) ≡ highest l.n l.rows

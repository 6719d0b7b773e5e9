use Rattle.std.proofs.Common.{◌≡◌, take}
use Rattle.js_values.specs.Objects.{keys_of}
use Rattle.object_heap.specs.Tables.{indexed}
use Rattle.object_heap.proofs.table.index_of.Given as goal

-- the index of the rows so far
abbrev pub invariant-loop-row : goal.invariant-loop-row
invariant-loop-row g l = indexed l.index (keys_of (take l.row-index l.rows)) ≡ keys_of (take l.row-index l.rows)

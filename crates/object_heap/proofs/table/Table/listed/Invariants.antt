use Rattle.std.proofs.Common.{◌≡◌, ◌<◌, ℕ, List, false, get_or}
use Rattle.origin_labels.specs.Names.{same_name}
use Rattle.js_values.specs.declared.property.Slot.{Slot}
use Rattle.object_heap.proofs.table.Table.listed.Given as goal

-- no property before this one has the key
abbrev pub invariant-loop-i : goal.invariant-loop-i
invariant-loop-i g l = (k : ℕ) (d : List ℕ × Slot g.row.T.Denot) → k < l.i → same_name (get_or l.row-items k d).0 l.name ≡ false

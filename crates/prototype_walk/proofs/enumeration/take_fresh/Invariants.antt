use Rattle.std.proofs.Common.{◌≡◌, ◌++◌, drop}
use Rattle.std.specs.List.{slice_get}
use Rattle.prototype_walk.specs.KeyLists.{fresh_keys, rows_in}
use Rattle.prototype_walk.proofs.enumeration.take_fresh.Given as goal

-- the keys so far and those of the rows that are left are those of all rows
abbrev pub invariant-loop-n : goal.invariant-loop-n
invariant-loop-n g l = l.keys ++ fresh_keys l.met.keys (drop l.n (rows_in (slice_get l.heap l.at.0))) ≡ l.fn.keys ++ fresh_keys l.met.keys (rows_in (slice_get l.heap l.at.0))

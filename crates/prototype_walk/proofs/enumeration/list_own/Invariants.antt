use Rattle.std.proofs.Common.{◌≡◌, ◌++◌, drop}
use Rattle.std.specs.List.{slice_get}
use Rattle.prototype_walk.specs.KeyLists.{listed_keys, rows_in}
use Rattle.prototype_walk.proofs.enumeration.list_own.Given as goal

-- the keys so far and those of the rows that are left are those of all rows
abbrev pub invariant-loop-n : goal.invariant-loop-n
invariant-loop-n g l = l.keys ++ listed_keys l.all (drop l.n (rows_in (slice_get l.heap l.o.0))) ≡ listed_keys l.all (rows_in (slice_get l.heap l.o.0))

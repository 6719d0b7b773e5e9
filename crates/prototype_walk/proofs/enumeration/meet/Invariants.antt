use Rattle.std.proofs.Common.{◌++◌, drop}
use Rattle.std.specs.List.{slice_get}
use Rattle.js_values.specs.Objects.{keys_of}
use Rattle.prototype_walk.specs.KeyLists.{rows_in}
use Rattle.prototype_walk.proofs.KeyLaws.{MeetSame}
use Rattle.prototype_walk.proofs.enumeration.meet.Given as goal

-- the keys so far and those of the rows that are left are those of all rows
abbrev pub invariant-loop-n : goal.invariant-loop-n
invariant-loop-n g l = MeetSame (l.met.keys ++ keys_of (drop l.n (rows_in (slice_get l.heap l.at.0)))) (l.fn.met.keys ++ keys_of (rows_in (slice_get l.heap l.at.0)))

use Rattle.std.proofs.Common.{◌≡◌, drop, length}
use Rattle.std.specs.Vec.Iter.{into_iter_items, into_iter_len}
use Rattle.call_records.specs.Placed.{placed}
use Rattle.call_records.proofs.entry.put.Given as goal

abbrev pub invariant-places : goal.invariant-places
invariant-places g l = (placed l.missing (drop l.place-index l.places) (into_iter_items l.rest) l.all ≡ placed l.missing l.places (into_iter_items l.initial.rest) l.initial.all)
    × (length l.all ≡ length l.initial.all) × (into_iter_len l.rest ≡ length (into_iter_items l.rest))

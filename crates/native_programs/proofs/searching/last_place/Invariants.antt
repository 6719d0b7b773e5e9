use Rattle.std.proofs.Common.{◌≡◌, ◌+◌, ◌-◌}
use Rattle.native_programs.specs.Searching.{largest_below, stands_at}
use Rattle.native_programs.proofs.searching.last_place.Given as goal

-- the last place of all is that of those which are left
abbrev pub invariant-loop-back : goal.invariant-loop-back
invariant-loop-back l = largest_below (stands_at l.subject l.sought) (l.last + 1) ≡ largest_below (stands_at l.subject l.sought) ((l.last + 1) - l.back)

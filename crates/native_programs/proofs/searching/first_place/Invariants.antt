use Rattle.std.proofs.Common.{◌≡◌, ◌+◌, ◌-◌, length}
use Rattle.native_programs.specs.Searching.{smallest_from, stands_at}
use Rattle.native_programs.proofs.searching.first_place.Given as goal

-- the first place of all is that of those which are left
abbrev pub invariant-loop-place : goal.invariant-loop-place
invariant-loop-place l =
    smallest_from (stands_at l.subject l.sought) l.start ((length l.subject + 1) - l.start) ≡ smallest_from (stands_at l.subject l.sought) l.place ((length l.subject + 1) - l.place)

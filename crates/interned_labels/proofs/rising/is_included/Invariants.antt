use Rattle.std.proofs.Common.{◌≡◌, ◌≤◌, drop, length}
use Rattle.origin_labels.specs.Label.{within}
use Rattle.interned_labels.proofs.rising.is_included.Given as goal

-- the set is included where its other origins are among those that follow
abbrev pub invariant-loop-origin : goal.invariant-loop-origin
invariant-loop-origin l = record {
  place : l.i ≤ length l.a;
  rest : within (drop l.i l.a) (drop l.origin-index l.b) ≡ within l.a l.b;
}

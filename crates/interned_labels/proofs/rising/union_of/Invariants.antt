use Rattle.std.proofs.Common.{◌≡◌, ◌≤◌, ◌+◌, ◌-◌, ◌++◌, drop, length}
use Rattle.origin_labels.specs.Label.{union}
use Rattle.interned_labels.proofs.rising.union_of.Given as goal

-- what was taken, and then the union of what is left, is the union
abbrev pub invariant-loop-i : goal.invariant-loop-i
invariant-loop-i l = record {
  first : l.i ≤ length l.a;
  second : l.j ≤ length l.b;
  merged : l.set.items ++ union (drop l.i l.a) (drop l.j l.b) ≡ union l.a l.b;
}

abbrev pub decreases-loop-i : goal.decreases-loop-i
decreases-loop-i l = (length l.a - l.i) + (length l.b - l.j)

use Rattle.std.proofs.Common.{ℕ, false, get_or}
use Rattle.flow_policy.proofs.Marks.{IsMarked}
use Rattle.flow_policy.proofs.lists.marked.Given as goal

abbrev pub invariant-loop-origin : goal.invariant-loop-origin
invariant-loop-origin l = IsMarked l.origins (λ (k : ℕ). get_or l.marks k false) l.origin

use Rattle.std.proofs.Common.{ℕ}
use Rattle.origin_labels.specs.Label.{has}
use Rattle.flow_policy.proofs.Marks.{IsMarked}
use Rattle.flow_policy.proofs.listed.label_of.Given as goal

abbrev pub invariant-loop-origin : goal.invariant-loop-origin
invariant-loop-origin l = IsMarked l.label (λ (k : ℕ). has k l.numbers) l.origin-counter

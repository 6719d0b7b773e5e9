use Rattle.std.proofs.Common.{◌≡◌, ◌≤◌, ◌+◌, length}
use Rattle.flow_policy.specs.Lines.{lines_of}
use Rattle.flow_policy.specs.Policies.{after_lines, policy_of}
use Rattle.flow_policy.proofs.policy.read_policy.Given as goal

abbrev pub invariant-loop-line : goal.invariant-loop-line
invariant-loop-line l = (after_lines (l.number + 1) l.policy (lines_of l.rest) ≡ policy_of l.bytes) × (l.number + length l.rest ≤ length l.bytes)

abbrev pub decreases-loop-line : goal.decreases-loop-line
decreases-loop-line l = length l.rest

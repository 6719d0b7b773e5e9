use Rattle.std.proofs.Common.{◌≤◌, ◌+◌, length}
use Rattle.flow_policy.specs.Lines.{lines_of}
use Rattle.flow_policy.proofs.InputLaws.{AreGiven}
use Rattle.flow_policy.proofs.inputs.read_inputs.Given as goal

abbrev pub invariant-loop-line : goal.invariant-loop-line
invariant-loop-line l = AreGiven l.channels (lines_of l.bytes) (lines_of l.rest) l.number l.inputs × (l.number + length l.rest ≤ length l.bytes)

abbrev pub decreases-loop-line : goal.decreases-loop-line
decreases-loop-line l = length l.rest

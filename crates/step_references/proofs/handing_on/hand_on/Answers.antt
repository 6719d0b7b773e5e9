use Rattle.js_values.specs.Readings.{HasValue}
use Rattle.std.proofs.Common.{arith}
use Rattle.step_references.proofs.Begun.{handed_err}
use Rattle.step_references.proofs.Moved.{has_whatever, moved_off}
use Rattle.step_references.proofs.handing_on.hand_on.Goals as goal

pub returns-in_err-came-clause-hands : goal.returns-in_err-came-clause-hands
returns-in_err-came-clause-hands g c = handed_err _ _ c.in_err-came.field-0.0 c.in_err-came.ensures.parts c.from_residual.ensures.1

pub returns-in-Off-clause-moved : goal.returns-in-Off-clause-moved
returns-in-Off-clause-moved g c = λ world_old world_new stands. moved_off c.args.stack.now c.go_on.new.stack c.args.answer c.in-Off.next (omega arith) (has_whatever (HasValue (g.L.Labels.made c.args.labels.now)) (g.L.Labels.made c.args.labels.now) c.args.answer c.requires.made) stands (rw c.in-Off.is at c.in_ok-came.ensures.parts)

use Rattle.std.proofs.Common.{ap, Ok, arith}
use Rattle.step_references.proofs.Begun.{handed_err, handed_on, on_is}
use Rattle.step_references.proofs.Moved.{has_whatever, level_on, moved_off, moved_on}
use Rattle.run_state.specs.Accesses.{HasAccess}
use Rattle.step_references.proofs.handing_on.hand_on_access.Goals as goal

pub returns-in_err-came-clause-hands : goal.returns-in_err-came-clause-hands
returns-in_err-came-clause-hands g c = handed_err _ _ c.in_err-came.field-0.0 c.in_err-came.ensures.parts c.from_residual.ensures.1

pub returns-in-Off-clause-moved : goal.returns-in-Off-clause-moved
returns-in-Off-clause-moved g c = λ world_old world_new stands. moved_off c.args.stack.now c.go_on.new.stack c.args.answer c.in-Off.next (omega arith) (has_whatever (HasAccess (g.L.Labels.made c.args.labels.now)) (g.L.Labels.made c.args.labels.now) c.args.answer c.requires.made) stands (rw c.in-Off.is at c.in_ok-came.ensures.parts)

pub returns-in_ok-next-in-On-clause-hands : goal.returns-in_ok-next-in-On-clause-hands
returns-in_ok-next-in-On-clause-hands g c = handed_on _ _ c.in-On.access (rw c.in-On.is at c.in_ok-came.ensures.parts) (λ tables inputs set functions reading e s. c.in_ok-next-in-On.ensures.goes_on tables inputs set functions reading e s)

pub returns-in_ok-next-in-On-clause-moved : goal.returns-in_ok-next-in-On-clause-moved
returns-in_ok-next-in-On-clause-moved g c = λ world_old world_new stands. moved_on _ _ _ _ _ _ _ _ _ (Ok c.in_ok-next-in-On.next) (omega arith) (ap (λ k. k.tasks) (on_is _ c.args.stack.now c.go_on.new.stack c.args.answer c.in-On.access (rw c.in-On.is at c.in_ok-came.ensures.parts)).1) (level_on _ world_old world_new c.args.stack.now c.go_on.new.stack c.args.answer c.in-On.access stands (rw c.in-On.is at c.in_ok-came.ensures.parts)) (c.in_ok-next-in-On.ensures.moved world_new)

use Rattle.flow_meaning.specs.Planned.{Give, gave}
use Rattle.js_values.specs.Readings.{read_value}
use Rattle.step_requests.proofs.Held.{any_answer}
use Rattle.step_requests.proofs.Settled.{never_on, off_leaves, settles_err, settles_off}
use Rattle.step_requests.proofs.ends.hand_on_end.Goals as goal

pub go_on-requires-clause-made : goal.go_on-requires-clause-made
go_on-requires-clause-made g c = any_answer (λ x. ⊥) (g.L.Labels.made c.args.labels.now) c.args.came c.requires.came

pub returns-in_err-went-clause-settles : goal.returns-in_err-went-clause-settles
returns-in_err-went-clause-settles g c = settles_err g.L.Labels.made g.L.Labels.meaning c.args.labels.now (λ reading. read_value reading) (λ tables inputs set functions reading steps vs v. Give (gave v)) (g.L.Labels.made c.args.labels.now) c.args.stack.now c.go_on.new.stack c.go_on.new.stack c.args.came c.in_err-went.field-0.0 c.from_residual.result c.in_err-went.ensures.parts c.from_residual.ensures.1

pub returns-in_ok-lay-in-On-clause-settles : goal.returns-in_ok-lay-in-On-clause-settles
returns-in_ok-lay-in-On-clause-settles g c = absurd (never_on (g.L.Labels.made c.args.labels.now) c.args.stack.now c.go_on.new.stack c.args.came c.in-On.value c.requires.came (rw c.in-On.is at c.in_ok-went.ensures.parts))

pub returns-in_ok-lay-in-On-clause-leaves : goal.returns-in_ok-lay-in-On-clause-leaves
returns-in_ok-lay-in-On-clause-leaves g c = absurd (never_on (g.L.Labels.made c.args.labels.now) c.args.stack.now c.go_on.new.stack c.args.came c.in-On.value c.requires.came (rw c.in-On.is at c.in_ok-went.ensures.parts))

pub clear-requires : goal.clear-requires
clear-requires g c = absurd (never_on (g.L.Labels.made c.args.labels.now) c.args.stack.now c.go_on.new.stack c.args.came c.in-On.value c.requires.came (rw c.in-On.is at c.in_ok-went.ensures.parts))

pub returns-in-Off-clause-settles : goal.returns-in-Off-clause-settles
returns-in-Off-clause-settles g c = settles_off g.L.Labels.made g.L.Labels.meaning c.args.labels.now (λ reading. read_value reading) (λ tables inputs set functions reading steps vs v. Give (gave v)) (g.L.Labels.made c.args.labels.now) c.args.stack.now c.go_on.new.stack c.args.came c.in-Off.next (rw c.in-Off.is at c.in_ok-went.ensures.parts)

pub returns-in-Off-clause-leaves : goal.returns-in-Off-clause-leaves
returns-in-Off-clause-leaves g c = off_leaves (λ x. ⊥) (g.L.Labels.made c.args.labels.now) c.args.stack.now c.go_on.new.stack c.args.came c.in-Off.next c.requires.came (rw c.in-Off.is at c.in_ok-went.ensures.parts)

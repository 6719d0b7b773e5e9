use Rattle.run_state.specs.Accesses.{HasDefining, read_defining}
use Rattle.step_requests.specs.Asked.{entering_defining, value_or_undefined}
use Rattle.step_requests.proofs.Held.{any_answer}
use Rattle.step_requests.proofs.Settled.{off_leaves, on_leaves, settles_err, settles_off, settles_on}
use Rattle.step_requests.proofs.handing_on.hand_on_defining.Goals as goal

pub go_on-requires-clause-made : goal.go_on-requires-clause-made
go_on-requires-clause-made g c = any_answer (HasDefining (g.L.Labels.made c.args.labels.now)) (g.L.Labels.made c.args.labels.now) c.args.came c.requires.came

pub returns-in_err-went-clause-settles : goal.returns-in_err-went-clause-settles
returns-in_err-went-clause-settles g c = settles_err g.L.Labels.made g.L.Labels.meaning c.args.labels.now (λ reading. read_defining reading) (λ tables inputs set functions reading. entering_defining tables inputs set functions (value_or_undefined reading c.args.value)) (g.L.Labels.made c.args.labels.now) c.args.stack.now c.go_on.new.stack c.go_on.new.stack c.args.came c.in_err-went.field-0.0 c.from_residual.result c.in_err-went.ensures.parts c.from_residual.ensures.1

pub returns-in_ok-moved-in-On-clause-settles : goal.returns-in_ok-moved-in-On-clause-settles
returns-in_ok-moved-in-On-clause-settles g c = settles_on g.L.Labels.made g.L.Labels.meaning c.args.labels.now (λ reading. read_defining reading) (λ tables inputs set functions reading. entering_defining tables inputs set functions (value_or_undefined reading c.args.value)) (g.L.Labels.made c.args.labels.now) c.args.stack.now c.go_on.new.stack c.give_defining.new.stack c.args.came c.in-On.defining c.in_ok-moved-in-On.moved (rw c.in-On.is at c.in_ok-went.ensures.parts) c.in_ok-moved-in-On.ensures.gives

pub returns-in_ok-moved-in-On-clause-leaves : goal.returns-in_ok-moved-in-On-clause-leaves
returns-in_ok-moved-in-On-clause-leaves g c = on_leaves (g.L.Labels.made c.args.labels.now) c.args.stack.now c.go_on.new.stack c.give_defining.new.stack c.args.came c.in-On.defining c.in_ok-moved-in-On.moved (rw c.in-On.is at c.in_ok-went.ensures.parts) c.in_ok-moved-in-On.ensures.rests

pub returns-in-Off-clause-settles : goal.returns-in-Off-clause-settles
returns-in-Off-clause-settles g c = settles_off g.L.Labels.made g.L.Labels.meaning c.args.labels.now (λ reading. read_defining reading) (λ tables inputs set functions reading. entering_defining tables inputs set functions (value_or_undefined reading c.args.value)) (g.L.Labels.made c.args.labels.now) c.args.stack.now c.go_on.new.stack c.args.came c.in-Off.next (rw c.in-Off.is at c.in_ok-went.ensures.parts)

pub returns-in-Off-clause-leaves : goal.returns-in-Off-clause-leaves
returns-in-Off-clause-leaves g c = off_leaves (HasDefining (g.L.Labels.made c.args.labels.now)) (g.L.Labels.made c.args.labels.now) c.args.stack.now c.go_on.new.stack c.args.came c.in-Off.next c.requires.came (rw c.in-Off.is at c.in_ok-went.ensures.parts)

use Rattle.channel_requests.specs.Answers.{HasPrinted}
use Rattle.step_requests.proofs.Held.{any_answer}
use Rattle.step_requests.proofs.Printing.{line_printed, prints_err, prints_off, prints_on}
use Rattle.step_requests.proofs.Settled.{off_leaves, printed_has, printed_leaves, still_stands}
use Rattle.step_requests.proofs.handing_on.hand_on_printed.Goals as goal

pub go_on-requires-clause-made : goal.go_on-requires-clause-made
go_on-requires-clause-made g c = any_answer (HasPrinted (g.L.Labels.made c.args.labels.now)) (g.L.Labels.made c.args.labels.now) c.args.came c.requires.came

pub returns-in_err-went-clause-settles : goal.returns-in_err-went-clause-settles
returns-in_err-went-clause-settles g c = prints_err g.L.Labels.made g.L.Labels.meaning c.args.labels.now (g.L.Labels.made c.args.labels.now) c.args.stack.now c.go_on.new.stack c.go_on.new.stack c.args.came c.in_err-went.field-0.0 c.from_residual.result c.in_err-went.ensures.parts c.from_residual.ensures.1

pub returns-in-On-clause-settles : goal.returns-in-On-clause-settles
returns-in-On-clause-settles g c = prints_on g.L.Labels.made g.L.Labels.meaning c.args.labels.now (g.L.Labels.made c.args.labels.now) c.args.stack.now c.go_on.new.stack c.args.came c.in-On.line c.args.count (rw c.in-On.is at c.in_ok-went.ensures.parts)

pub returns-in-On-clause-leaves : goal.returns-in-On-clause-leaves
returns-in-On-clause-leaves g c = λ world. printed_leaves (g.L.Labels.made c.args.labels.now) c.args.stack.now c.go_on.new.stack c.args.came c.in-On.line c.args.count (rw c.in-On.is at c.in_ok-went.ensures.parts) c.requires.loose c.requires.made world

pub returns-in-On-clause-printed : goal.returns-in-On-clause-printed
returns-in-On-clause-printed g c = λ channels lines. line_printed (g.L.Labels.made c.args.labels.now) channels c.args.stack.now c.go_on.new.stack (g.L.Labels.made c.args.labels.now) c.args.came c.in-On.line c.args.count (rw c.in-On.is at c.in_ok-went.ensures.parts) (printed_has (g.L.Labels.made c.args.labels.now) c.args.stack.now c.go_on.new.stack c.args.came c.in-On.line c.requires.came (rw c.in-On.is at c.in_ok-went.ensures.parts)) lines

pub returns-in-Off-clause-settles : goal.returns-in-Off-clause-settles
returns-in-Off-clause-settles g c = prints_off g.L.Labels.made g.L.Labels.meaning c.args.labels.now (g.L.Labels.made c.args.labels.now) c.args.stack.now c.go_on.new.stack c.args.came c.in-Off.next (rw c.in-Off.is at c.in_ok-went.ensures.parts)

pub returns-in-Off-clause-leaves : goal.returns-in-Off-clause-leaves
returns-in-Off-clause-leaves g c = λ world. off_leaves (HasPrinted (g.L.Labels.made c.args.labels.now)) (g.L.Labels.made c.args.labels.now) c.args.stack.now c.go_on.new.stack c.args.came c.in-Off.next c.requires.came (rw c.in-Off.is at c.in_ok-went.ensures.parts) world world (still_stands world c.args.came)

use Rattle.std.proofs.Common.{sym, subst}
use Rattle.continuations.specs.Answering.{IsAnswered}
use Rattle.continuations.specs.declared.continuation.Control.TheVariants as control
use Rattle.continuations.proofs.RegisterLaws.{answer_dropped, answer_written}
use Rattle.continuations.proofs.registers.answered.Goals as goal

pub returns-in-None-clause-goes_on : goal.returns-in-None-clause-goes_on
returns-in-None-clause-goes_on g c =
    subst (λ to. IsAnswered g.L.Labels.made g.L.Labels.meaning c.args.labels.now c.args.count to c.args.stack.now c.pop-value.new.self (control.Request c.args.count)) (sym c.in-None.is)
    (answer_dropped g.L.Labels.made g.L.Labels.meaning c.args.labels.now c.args.count c.args.stack.now c.pop-value.new.self c.pop-value.result c.pop-value.ensures.top c.pop-value.ensures.tasks)

pub returns-in_ok-count-in-Some-clause-goes_on : goal.returns-in_ok-count-in-Some-clause-goes_on
returns-in_ok-count-in-Some-clause-goes_on g c =
    subst (λ to. IsAnswered g.L.Labels.made g.L.Labels.meaning c.args.labels.now c.args.count to c.args.stack.now c.write_register.new.stack (control.Request c.in_ok-count-in-Some.count)) (sym c.in-Some.is)
    (answer_written g.L.Labels.made g.L.Labels.meaning c.args.labels.now c.args.count c.in_ok-count-in-Some.count c.in-Some.register c.args.stack.now c.pop-value.new.self c.write_register.new.stack c.pop-value.result
    c.pop-value.ensures.top c.pop-value.ensures.tasks c.write_register.ensures.tasks c.in_ok-count-in-Some.ensures.written)

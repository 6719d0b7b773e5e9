use Rattle.std.proofs.Common.{refl, sym, subst}
use Rattle.js_values.specs.Readings.{read_value}
use Rattle.native_protocol.specs.declared.request.Answer.TheVariants as answer
use Rattle.step_requests.specs.declared.moved.Moved.TheVariants as moved
use Rattle.step_requests.specs.Asked.{answered_to}
use Rattle.step_requests.specs.Doing.{Gives}
use Rattle.step_requests.proofs.Done.{asks_rests, gives_nowhere, gives_written}
use Rattle.step_requests.proofs.handing_on.give.Goals as goal

pub returns-in-None-clause-gives : goal.returns-in-None-clause-gives
returns-in-None-clause-gives g c = subst (λ to. Gives g.L.Labels.made g.L.Labels.meaning c.args.labels.now (λ tables inputs set functions reading steps vs. answered_to to steps vs (read_value reading c.args.value)) c.args.stack.now c.args.stack.now (moved.Asks c.args.count answer.Done)) (sym c.in-None.is) (gives_nowhere g.L.Labels.made g.L.Labels.meaning c.args.labels.now c.args.value c.args.stack.now c.args.count)

pub returns-in-None-clause-rests : goal.returns-in-None-clause-rests
returns-in-None-clause-rests g c = asks_rests (g.L.Labels.made c.args.labels.now) c.args.stack.now c.args.stack.now c.args.count answer.Done refl c.requires.loose c.requires.made

pub returns-in_ok-count-in-Some-clause-gives : goal.returns-in_ok-count-in-Some-clause-gives
returns-in_ok-count-in-Some-clause-gives g c = subst (λ to. Gives g.L.Labels.made g.L.Labels.meaning c.args.labels.now (λ tables inputs set functions reading steps vs. answered_to to steps vs (read_value reading c.args.value)) c.args.stack.now c.write_register.new.stack (moved.Asks c.in_ok-count-in-Some.count answer.Done)) (sym c.in-Some.is) (gives_written g.L.Labels.made g.L.Labels.meaning c.args.labels.now c.in-Some.register c.args.value c.args.stack.now c.write_register.new.stack c.in_ok-count-in-Some.count c.write_register.ensures.tasks c.in_ok-count-in-Some.ensures.written)

pub returns-in_ok-count-in-Some-clause-rests : goal.returns-in_ok-count-in-Some-clause-rests
returns-in_ok-count-in-Some-clause-rests g c = asks_rests (g.L.Labels.made c.args.labels.now) c.args.stack.now c.write_register.new.stack c.in_ok-count-in-Some.count answer.Done c.write_register.ensures.tasks c.in_ok-count-in-Some.ensures.length c.in_ok-count-in-Some.ensures.made

use Rattle.native_protocol.specs.declared.request.Answer.TheVariants as answer
use Rattle.std.proofs.Common.{◌∙◌}
use Rattle.step_requests.proofs.Done.{asks_rests, gives_parts}
use Rattle.step_requests.proofs.handing_on.give_parts.Goals as goal

pub returns-clause-gives : goal.returns-clause-gives
returns-clause-gives g c = gives_parts g.L.Labels.made g.L.Labels.meaning c.args.labels.now c.args.to c.args.property c.args.stack.now c.write_register.new.stack c.write_register-2.new.stack c.write_register-3.new.stack c.write_register-4.new.stack c.in_ok-four.four c.write_register.ensures.tasks c.write_register-2.ensures.tasks c.write_register-3.ensures.tasks c.write_register-4.ensures.tasks c.in_ok-one.ensures.written c.in_ok-two.ensures.written c.in_ok-three.ensures.written c.in_ok-four.ensures.written

pub returns-clause-rests : goal.returns-clause-rests
returns-clause-rests g c = asks_rests (g.L.Labels.made c.args.labels.now) c.args.stack.now c.write_register-4.new.stack c.in_ok-four.four answer.Done (c.write_register-4.ensures.tasks ∙ c.write_register-3.ensures.tasks ∙ c.write_register-2.ensures.tasks ∙ c.write_register.ensures.tasks) c.in_ok-four.ensures.length c.in_ok-four.ensures.made

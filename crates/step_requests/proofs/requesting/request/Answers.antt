use Rattle.std.proofs.Common.{length, arith}
use Rattle.step_requests.proofs.Requested.{printed_if, requested, request_fails, rests_left}
use Rattle.step_requests.proofs.requesting.request.Goals as goal

pub returns-in_err-moved-clause-goes_on : goal.returns-in_err-moved-clause-goes_on
returns-in_err-moved-clause-goes_on g c = request_fails g.L.Labels.made g.L.Labels.meaning c.do_asked.new.labels c.args.policy.now c.args.inputs.now (g.N.Natives.after c.args.natives.now) (g.N.Natives.asks c.args.natives.now) c.args.states.now c.next.new.self c.args.stack.now c.do_asked.new.stack c.args.world.now c.do_asked.new.world c.in_ok-wanted.wanted c.in_ok-wanted.ensures.asks c.next.new.self c.in_err-moved.field-0.0 c.from_residual-in_err-moved.result (rw c.asked_of-asked.ensures at c.in_err-moved.ensures.does) c.from_residual-in_err-moved.ensures.1

pub tell_states-requires-clause-some : goal.tell_states-requires-clause-some
tell_states-requires-clause-some g c = let runs = c.requires.runs in let same = c.next.ensures.count in omega (arith, runs, same)

pub tell_states-requires-clause-idle : goal.tell_states-requires-clause-idle
tell_states-requires-clause-idle g c = c.in_ok-moved.ensures.leaves.rests.idle

pub returns-clause-goes_on : goal.returns-clause-goes_on
returns-clause-goes_on g c = requested g.L.Labels.made g.L.Labels.meaning c.do_asked.new.labels c.args.policy.now c.args.inputs.now (g.N.Natives.after c.args.natives.now) (g.N.Natives.asks c.args.natives.now) c.args.states.now c.next.new.self c.args.stack.now c.do_asked.new.stack c.args.world.now c.do_asked.new.world c.in_ok-wanted.wanted c.in_ok-wanted.ensures.asks c.tell_states.new.states c.in_ok-moved.moved c.tell_states.result c.in_ok-wanted.ensures.steps (rw c.asked_of-asked.ensures at c.in_ok-moved.ensures.does) c.tell_states.ensures.states c.tell_states.ensures.next c.tell_states.ensures.printed

pub returns-clause-rests : goal.returns-clause-rests
returns-clause-rests g c = rests_left (g.L.Labels.made c.do_asked.new.labels) c.args.stack.now c.do_asked.new.stack (length c.args.states.now.states) (length c.next.new.self.states) (length c.tell_states.new.states.states) c.in_ok-moved.moved c.tell_states.result.0 c.in_ok-moved.ensures.leaves.rests c.tell_states.ensures.next c.requires.runs c.next.ensures.count c.tell_states.ensures.count

pub returns-clause-adds : goal.returns-clause-adds
returns-clause-adds g c = rw c.tell_states.ensures.next c.in_ok-moved.ensures.leaves.rests.adds

pub returns-clause-printed : goal.returns-clause-printed
returns-clause-printed g c = rw c.tell_states.ensures.printed (printed_if (g.L.Labels.made c.do_asked.new.labels) (length c.args.policy.now.outputs) c.in_ok-moved.moved c.in_ok-moved.ensures.printed)

pub returns-clause-stands : goal.returns-clause-stands
returns-clause-stands g c = rw c.tell_states.ensures.next c.in_ok-moved.ensures.leaves.stands

use Rattle.std.proofs.Common.{◌∙◌}
use Rattle.step_requests.proofs.Requested.{idle_steps}
use Rattle.step_requests.proofs.requesting.tell_states.Goals as goal

pub returns-in-Asks-clause-states : goal.returns-in-Asks-clause-states
returns-in-Asks-clause-states g c = λ front steps waits. rw c.in-Asks.is (c.tell.ensures.told (g.N.Natives.after c.args._natives.now) (g.N.Natives.asks c.args._natives.now) front steps waits)

pub returns-in-Prints-clause-states : goal.returns-in-Prints-clause-states
returns-in-Prints-clause-states g c = λ front steps waits. rw c.in-Prints.is (c.tell-in-Prints.ensures.told (g.N.Natives.after c.args._natives.now) (g.N.Natives.asks c.args._natives.now) front steps waits)

pub returns-in-Waits-clause-states : goal.returns-in-Waits-clause-states
returns-in-Waits-clause-states g c = λ front steps waits. rw c.in-Waits.is (idle_steps (g.N.Natives.after c.args._natives.now) (g.N.Natives.asks c.args._natives.now) c.args.states.now c.in-Waits.next (rw c.in-Waits.is at c.requires.idle) ∙ waits)

pub returns-in-Ends-clause-states : goal.returns-in-Ends-clause-states
returns-in-Ends-clause-states g c = λ front steps waits. rw c.in-Ends.is (idle_steps (g.N.Natives.after c.args._natives.now) (g.N.Natives.asks c.args._natives.now) c.pop.new.self c.in-Ends.next (rw c.in-Ends.is at c.requires.idle) ∙ c.pop.ensures.rest (g.N.Natives.after c.args._natives.now) (g.N.Natives.asks c.args._natives.now) front steps waits)

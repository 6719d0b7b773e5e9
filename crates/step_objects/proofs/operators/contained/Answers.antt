use Rattle.step_objects.proofs.Following.{goes_on, throws_on, leaves_on, fails_on, contained_parts}
use Rattle.step_objects.proofs.operators.contained.Goals as goal

pub returns-in_err-object-2-clause-acts : goal.returns-in_err-object-2-clause-acts
returns-in_err-object-2-clause-acts g c = λ tables inputs.
    fails_on g.L.Labels.made g.L.Labels.meaning (contained_parts tables inputs c.args.key.now c.args.object.now) c.object_needed.new.labels c.args.world.now c.object_needed.new.world c.in_err-object-2.field-0.0 c.from_residual-in_err-object-2.result c.from_residual-in_err-object-2.ensures.1 (rw c.in_ok-object.ensures at (c.in_err-object-2.ensures.acts tables inputs))

pub returns-in-Goes-clause-acts : goal.returns-in-Goes-clause-acts
returns-in-Goes-clause-acts g c = λ tables inputs.
    goes_on g.L.Labels.made g.L.Labels.meaning (contained_parts tables inputs c.args.key.now c.args.object.now) g.L.Labels.room g.L.Labels.firm c.object_needed.new.labels c.has_key.new.labels c.has_key.ensures.kept c.args.world.now c.object_needed.new.world c.object_needed.new.world c.in-Goes.object c.has_key.result (rw c.in_ok-object.ensures at (rw c.in-Goes.is at (c.in_ok-object-2.ensures.acts tables inputs))) (rw c.in_ok-key.ensures at (c.has_key.ensures.acts tables inputs))

pub returns-in-Throws-clause-acts : goal.returns-in-Throws-clause-acts
returns-in-Throws-clause-acts g c = λ tables inputs.
    throws_on g.L.Labels.made g.L.Labels.meaning (contained_parts tables inputs c.args.key.now c.args.object.now) c.object_needed.new.labels c.args.world.now c.object_needed.new.world c.in-Throws.error (rw c.in_ok-object.ensures at (rw c.in-Throws.is at (c.in_ok-object-2.ensures.acts tables inputs)))

pub returns-in-Leaves-clause-acts : goal.returns-in-Leaves-clause-acts
returns-in-Leaves-clause-acts g c = λ tables inputs.
    leaves_on g.L.Labels.made g.L.Labels.meaning (contained_parts tables inputs c.args.key.now c.args.object.now) c.object_needed.new.labels c.args.world.now c.object_needed.new.world c.in-Leaves.why (rw c.in_ok-object.ensures at (rw c.in-Leaves.is at (c.in_ok-object-2.ensures.acts tables inputs)))

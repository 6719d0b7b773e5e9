use Rattle.std.proofs.Common.{◌∙◌}
use Rattle.std.specs.List.{slice_get}
use Rattle.step_objects.proofs.TestLaws.{inner_bound}
use Rattle.step_objects.proofs.instances.bound_at.Goals as goal

pub returns : goal.returns
returns g c = c.bound_in.ensures ∙ inner_bound (slice_get c.args.heap.now c.args.o.0) c.inner.result.now c.inner.ensures

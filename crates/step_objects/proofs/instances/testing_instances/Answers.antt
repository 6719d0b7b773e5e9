use Rattle.step_objects.proofs.TestLaws.{are_tested}
use Rattle.step_objects.proofs.instances.testing_instances.Goals as goal

pub returns : goal.returns
returns c = are_tested

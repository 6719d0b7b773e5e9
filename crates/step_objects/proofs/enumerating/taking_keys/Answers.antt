use Rattle.step_objects.proofs.TakingLaws.{keys_handed_on}
use Rattle.step_objects.proofs.enumerating.taking_keys.Goals as goal

pub returns : goal.returns
returns c = keys_handed_on

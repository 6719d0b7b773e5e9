use Rattle.object_functions.proofs.AncestorLaws.{ancestor_machine}
use Rattle.object_functions.proofs.DefiningLaws.{defining_machine}
use Rattle.object_functions.proofs.IntegrityLaws.{integrity_machine}
use Rattle.object_functions.proofs.ObjectLaws.{object_machine}
use Rattle.object_functions.proofs.OwnTestLaws.{own_test_machine}
use Rattle.object_functions.proofs.PropertyLaws.{property_machine}
use Rattle.object_functions.proofs.ReflectionLaws.{reflection_machine}
use Rattle.object_functions.proofs.ThisLaws.{this_machine}
use Rattle.object_functions.proofs.laws.follows.Goals as goal

pub returns : goal.returns
returns c = record {
  ancestor = ancestor_machine;
  defining = defining_machine;
  integrity = integrity_machine;
  constructor = object_machine;
  own_test = own_test_machine;
  property = property_machine;
  reflection = reflection_machine;
  this = this_machine;
}

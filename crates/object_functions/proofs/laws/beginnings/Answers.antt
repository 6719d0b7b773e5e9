use Rattle.object_functions.proofs.AncestorLaws.{ancestor_begins}
use Rattle.object_functions.proofs.DefiningLaws.{defining_begins}
use Rattle.object_functions.proofs.IntegrityLaws.{integrity_begins}
use Rattle.object_functions.proofs.ObjectLaws.{object_begins}
use Rattle.object_functions.proofs.OwnTestLaws.{own_test_begins}
use Rattle.object_functions.proofs.PropertyLaws.{property_begins}
use Rattle.object_functions.proofs.ReflectionLaws.{reflection_begins}
use Rattle.object_functions.proofs.ThisLaws.{this_begins}
use Rattle.object_functions.proofs.laws.beginnings.Goals as goal

pub returns : goal.returns
returns c = record {
  ancestor = ancestor_begins;
  defining = defining_begins;
  integrity = integrity_begins;
  constructor = object_begins;
  own_test = own_test_begins;
  property = property_begins;
  reflection = reflection_begins;
  this = this_begins;
}

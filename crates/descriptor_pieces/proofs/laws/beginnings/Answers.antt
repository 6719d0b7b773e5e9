use Rattle.std.proofs.Common.{refl}
use Rattle.descriptor_pieces.proofs.laws.beginnings.Goals as goal

pub returns : goal.returns
returns c = record {
  descriptor = λ object r next answers. refl;
  telling = λ own to next answers. refl;
  fixing = λ i object list item own next answers. refl;
  testing = λ i object list item own next answers. refl;
  defining = λ object properties list item at first next answers. refl;
}

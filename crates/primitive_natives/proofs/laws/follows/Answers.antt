use Rattle.primitive_natives.proofs.BooleanLaws.{boolean_machine, boolean_begins}
use Rattle.primitive_natives.proofs.EndingLaws.{endings}
use Rattle.primitive_natives.proofs.MathLaws.{math_machine, math_begins}
use Rattle.primitive_natives.proofs.NumberLaws.{number_machine, number_begins}
use Rattle.primitive_natives.proofs.laws.follows.Goals as goal

pub returns : goal.returns
returns c = record {
  endings = endings;
  boolean = boolean_machine;
  boolean_begins = boolean_begins;
  number = number_machine;
  number_begins = number_begins;
  math = math_machine;
  math_begins = math_begins;
}

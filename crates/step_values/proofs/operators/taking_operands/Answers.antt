use Rattle.step_values.proofs.ConvertedLaws.{operand_as_it_is, operands_as_they_are}
use Rattle.step_values.proofs.operators.taking_operands.Goals as goal

pub returns-clause-operand : goal.returns-clause-operand
returns-clause-operand c = operand_as_it_is

pub returns-clause-operands : goal.returns-clause-operands
returns-clause-operands c = operands_as_they_are

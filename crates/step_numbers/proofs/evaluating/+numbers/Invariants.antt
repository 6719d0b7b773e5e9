use Rattle.std.proofs.Common.{◌*◌, ◌+◌}
use Rattle.step_numbers.proofs.evaluating.+numbers.Given as goal

abbrev pub decreases-number : goal.decreases-number
decreases-number g l = 2 * l.depth

-- it passes on what it doesn't look at itself
abbrev pub decreases-operand : goal.decreases-operand
decreases-operand g l = 2 * l.depth + 1

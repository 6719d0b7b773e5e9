use Rattle.std.proofs.Common.{◌∙◌, ◌≤◌, sym, arith}
use Rattle.command_line.specs.Commands.{most_made}
use Rattle.command_line.proofs.Digits.{number_within}
use Rattle.command_line.proofs.numbers.made_number.Goals as goal

pub overflow_cast-result : goal.overflow_cast-result
overflow_cast-result c =
    let small : c.in-Some.number ≤ most_made = number_within most_made c.args.word.now c.in-Some.number (sym c.number_to.ensures ∙ c.in-Some.is) in
    omega arith

use Rattle.std.proofs.Common.{◌≡◌, true, rules, subst}
use Rattle.command_line.specs.Commands.{is_number}
use Rattle.command_line.proofs.Digits.{IsRead, parsed_number}
use Rattle.command_line.proofs.numbers.number.Goals as goal

pub returns-in-Err : goal.returns-in-Err
returns-in-Err c =
    let digits : is_number c.args.word.now ≡ true = search rules in
    absurd (subst (IsRead c.args.word.now) c.in-Err.is (parsed_number c.args.word.now c.parse.result digits c.parse.ensures.value.0))

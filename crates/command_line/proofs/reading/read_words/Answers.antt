use Rattle.std.proofs.Common.{subst}
use Rattle.command_line.specs.Commands.{command_of}
use Rattle.command_line.specs.Reading.{Parses, command_at, seen, texts_of}
use Rattle.clap.specs.Simple.{subcommand_rows_of}
use Rattle.command_line.proofs.Answered.{read_err, read_ok, told_as}
use Rattle.command_line.proofs.reading.read_words.Goals as goal

pub returns-in-Ok : goal.returns-in-Ok
returns-in-Ok c =
    let words = c.args.words.now in
    let read = read_ok words c.in-Ok.matches (subst (Parses (texts_of words)) c.in-Ok.is c.parsed.ensures) in
    told_as seen c.command_from.result (command_at (subcommand_rows_of c.in-Ok.matches)) (command_of (texts_of words)) read c.command_from.ensures

pub returns-in-Err : goal.returns-in-Err
returns-in-Err c = read_err c.args.words.now c.in-Err.fault (subst (Parses (texts_of c.args.words.now)) c.in-Err.is c.parsed.ensures)

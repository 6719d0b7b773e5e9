use Rattle.std.proofs.Common.{◌≡◌, ◌∙◌, []}
use Rattle.std.proofs.lemmas.Result.{IfOk-at_ok, MatchResult-at_ok, MatchResult-at_err}
use Rattle.clap.specs.Faults.{fault_of}
use Rattle.clap.specs.Kinds.{HasKind}
use Rattle.clap.specs.Simple.{HasMatchesOf, app_of}
use Rattle.command_line.specs.Arguments.{IsApp, line_app}
use Rattle.command_line.specs.Reading.{texts_of}
use Rattle.command_line.proofs.Answered.{parse_err, parse_ok}
use Rattle.command_line.proofs.reading.parsed.Goals as goal

pub returns-in-Ok-try_get_matches_from : goal.returns-in-Ok-try_get_matches_from
returns-in-Ok-try_get_matches_from c =
    let app = app_of c.in-Ok.command in
    let words = texts_of c.args.words.now in
    let is : IsApp line_app c.in-Ok.command = IfOk-at_ok (IsApp line_app) c.in-Ok.is c.line_command.ensures in
    parse_ok app words c.in-Ok-try_get_matches_from.matches is.0
    (λ free. MatchResult-at_ok (λ m. fault_of app words ≡ []) (HasKind (fault_of app words)) _ c.in-Ok-try_get_matches_from.is (c.try_get_matches_from.ensures.kinds free))
    (IfOk-at_ok (HasMatchesOf app words) c.in-Ok-try_get_matches_from.is c.try_get_matches_from.ensures.matches)

pub returns-in-Err : goal.returns-in-Err
returns-in-Err c =
    let app = app_of c.in-Ok.command in
    let words = texts_of c.args.words.now in
    let is : IsApp line_app c.in-Ok.command = IfOk-at_ok (IsApp line_app) c.in-Ok.is c.line_command.ensures in
    parse_err app words c.in-Err.error c.fault_of.result is.0
    (λ free. MatchResult-at_err (λ m. fault_of app words ≡ []) (HasKind (fault_of app words)) _ c.in-Err.is (c.try_get_matches_from.ensures.kinds free))
    (λ full. c.fault_of.ensures.1 (c.kind.ensures ∙ full))

use Rattle.std.proofs.Common.{◌∙◌, ap, ap₂}
use Rattle.std.proofs.lemmas.Bool.{or_from}
use Rattle.std.proofs.lemmas.Result.{IfOk-at_ok, IfOk-weaker}
use Rattle.clap.specs.Simple.{App, with_subcommand}
use Rattle.command_line.specs.Arguments.{IsApp}
use Rattle.command_line.proofs.arguments.with_command.Goals as goal

pub returns-in-Ok : goal.returns-in-Ok
returns-in-Ok c = IfOk-weaker c.subcommand.result _ _
    (λ r adds app sub is given.
    let below : IsApp sub c.in-Ok.below = IfOk-at_ok (IsApp sub) c.in-Ok.is given in
    (adds.shape below.1 ∙ ap₂ with_subcommand is.0 (ap (λ (a : App). a.top) below.0), adds.globals ∙ or_from _ _ is.1 below.1)) c.subcommand.ensures

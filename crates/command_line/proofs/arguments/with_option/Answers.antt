use Rattle.std.proofs.Common.{◌∙◌, ap₂}
use Rattle.std.proofs.lemmas.Bool.{or_from}
use Rattle.std.proofs.lemmas.Result.{IfOk-weaker}
use Rattle.clap.specs.Simple.{with_rule}
use Rattle.command_line.proofs.arguments.with_option.Goals as goal

pub returns : goal.returns
returns c = IfOk-weaker c.arg.result _ _
    (λ r adds app is. (adds.shape c.option.ensures.local ∙ ap₂ with_rule is.0 c.option.ensures.rule, adds.globals ∙ or_from _ _ is.1 c.option.ensures.local)) c.arg.ensures

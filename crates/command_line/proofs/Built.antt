-- What building makes of the five commands.
use Rattle.std.proofs.Common.{◌≡◌, ◌∙◌, ap, refl, true}
use Rattle.clap.specs.Simple.{App, app_of_fields, built, new_app}
use Rattle.clap.specs.Faults.{is_simple_and_free}
use Rattle.clap.specs.declared.builder.command.Command.TheViews.{out-Command}
use Rattle.clap.specs.declared.builder.command.Command.{Command}
use Rattle.command_line.specs.Arguments.{IsApp, bare_app, line_app}
use Rattle.command_line.proofs.Tables.{built_app}

pub line_built : built line_app ≡ built_app
unfolding line_app
line_built = refl

pub line_simple : is_simple_and_free line_app ≡ true
unfolding line_app
line_simple = refl

-- a command with the three settings
pub settings : (a b c d : Command) → IsApp (new_app bare_app.top.name) a → out-Command b ≡ record (out-Command a) { no_binary_name = true } → out-Command c ≡ record (out-Command b) { disable_help_flag = true }
    → out-Command d ≡ record (out-Command c) { disable_help_subcommand = true } → IsApp bare_app d
settings a b c d is e f g = (
  ap app_of_fields g ∙ ap (λ (x : App). record x { top = record x.top { disable_help_subcommand = true } }) (ap app_of_fields f
      ∙ ap (λ (x : App). record x { top = record x.top { disable_help_flag = true } }) (ap app_of_fields e
      ∙ ap (λ (x : App). record x { top = record x.top { no_binary_name = true } }) is.0)),
  ap (λ x. x.has_globals) g ∙ ap (λ x. x.has_globals) f ∙ ap (λ x. x.has_globals) e ∙ is.1,
)

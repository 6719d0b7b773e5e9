-- What `clap` is told of the five commands.
use Rattle.std.specs.Prelude.{◌≡◌, Some, true, false, codes}
use Rattle.clap.specs.Walk.{Rule, Text}
use Rattle.clap.specs.Simple.{App, app_of, new_rule, new_app, with_rule, with_subcommand}
use Rattle.clap.specs.declared.builder.command.Command.TheViews.{out-Command}
use Rattle.clap.specs.declared.builder.command.Command.{Command}
use Rattle.clap.specs.declared.builder.action.ArgAction.TheVariants.{Set}

-- a word that has to be there
abbrev pub positional_rule : Text → Rule
positional_rule id = record (new_rule id) { required = true; action = Some Set }

abbrev pub option_rule : Text → Rule
option_rule name = record (new_rule name) { long = Some name; action = Some Set }

abbrev pub run_app : App
run_app = with_rule (with_rule (with_rule (with_rule (with_rule (new_app (codes "run")) (option_rule (codes "turns"))) (option_rule (codes "observer")))
    (positional_rule (codes "script"))) (positional_rule (codes "policy"))) (positional_rule (codes "input"))

abbrev pub pair_app : App
pair_app = with_rule (with_rule (with_rule (with_rule (with_rule (with_rule (new_app (codes "pair")) (option_rule (codes "turns")))
    (positional_rule (codes "script"))) (positional_rule (codes "policy"))) (positional_rule (codes "first"))) (positional_rule (codes "second"))) (positional_rule (codes "view"))

abbrev pub one_word_app : Text → App
one_word_app name = with_rule (new_app name) (positional_rule (codes "word"))

-- no command yet, and none of the words and flags that `clap` adds
abbrev pub bare_app : App
bare_app = record (new_app (codes "jsflow")) { top = record (new_app (codes "jsflow")).top { no_binary_name = true; disable_help_flag = true; disable_help_subcommand = true } }

unfoldable pub line_app : App
line_app = with_subcommand (with_subcommand (with_subcommand (with_subcommand (with_subcommand bare_app run_app.top) (one_word_app (codes "check")).top) pair_app.top)
    (one_word_app (codes "make")).top) (one_word_app (codes "trial")).top

-- the command is this one, and has no argument that holds for its subcommands too
abbrev pub IsApp : App → Command → Type 0
IsApp app c = (app_of c ≡ app) × ((out-Command c).has_globals ≡ false)

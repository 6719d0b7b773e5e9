use Rattle.command_line.proofs.Built.{settings}
use Rattle.command_line.proofs.arguments.bare.Goals as goal

pub returns : goal.returns
returns c = settings c.new.result c.no_binary_name.result c.disable_help_flag.result c.disable_help_subcommand.result (c.new.ensures.app, c.new.ensures.local) c.no_binary_name.ensures c.disable_help_flag.ensures c.disable_help_subcommand.ensures

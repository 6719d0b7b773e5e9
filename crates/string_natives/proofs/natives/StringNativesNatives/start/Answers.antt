use Rattle.native_programs.proofs.ProgramLaws.{lines_start, left_start}
use Rattle.string_natives.specs.Dispatch.{lines_of, entry_at}
use Rattle.string_natives.proofs.natives.StringNativesNatives.start.Goals as goal

pub returns-in-Some : goal.returns-in-Some
returns-in-Some c = lines_start lines_of _ _ _ _ (entry_at c.args.which) c.args.argc c.args.construct c.of_lines.ensures c.in-Some.ensures c.row-built_in.ensures.built_in

pub returns-in-None : goal.returns-in-None
returns-in-None c = left_start lines_of _ _ _ _ _ _ _ (entry_at c.args.which) c.args.argc c.args.construct c.left_out.ensures c.in-None.ensures c.row-built_in.ensures.built_in c.row-built_in.ensures.entry

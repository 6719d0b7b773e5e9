use Rattle.run_files.proofs.Sourced.{is_program_once, is_program_or_refused}
use Rattle.run_files.proofs.laws.one_program.Goals as goal

pub returns-clause-program : goal.returns-clause-program
returns-clause-program c = is_program_once

pub returns-clause-refused : goal.returns-clause-refused
returns-clause-refused c = is_program_or_refused

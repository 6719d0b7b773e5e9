use Rattle.native_programs.proofs.RunLaws.{program_follows}
use Rattle.native_programs.proofs.EachLaws as each_laws
use Rattle.native_programs.proofs.ProgramLaws as program_laws
use Rattle.native_programs.proofs.SetLaws as set_laws
use Rattle.native_programs.proofs.laws.programs.Goals as goal

pub returns : goal.returns
returns c = program_follows

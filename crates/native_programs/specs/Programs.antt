-- A call of a built-in of a table: its lines, or the name of what isn't offered.
use Rattle.std.specs.Prelude.{ℕ, Bool, List, Option, Some, None}
use Rattle.native_protocol.specs.declared.request.Answer.{Answer}
use Rattle.native_protocol.specs.declared.request.Request.{Request}
use Rattle.native_protocol.specs.declared.request.Request.TheVariants.{Leave}
use Rattle.native_protocol.specs.Sets.{SeenEntry}
use Rattle.native_protocol.specs.Steps.{Steps}
use Rattle.native_programs.specs.declared.line.Line.{Line}
use Rattle.native_programs.specs.declared.program.ProgramCall.{ProgramCall}
use Rattle.native_programs.specs.declared.program.ProgramCall.TheVariants.{Lines, LeftOut}
use Rattle.native_programs.specs.Advancing.{call_begin, call_asks, call_after}
use Rattle.native_programs.specs.Meaning.{means}
use Rattle.native_programs.specs.Tables.{path, left_out}

abbrev pub lines_begin : List Line → ℕ → Bool → ProgramCall
lines_begin lines argc construct = Lines (call_begin lines argc construct)

abbrev pub left_begin : List ℕ → List ℕ → ProgramCall
left_begin holder name = LeftOut (path holder name)

-- a call of the lines of a built-in, or of one that isn't offered
abbrev pub program_begin : Option (List Line) → SeenEntry → ℕ → Bool → ProgramCall
program_begin (Some lines) e argc construct = lines_begin lines argc construct
program_begin None e argc construct = left_begin e.holder e.name

abbrev pub program_asks : ProgramCall → Request
program_asks (Lines c) = call_asks c
program_asks (LeftOut name) = Leave name

abbrev pub program_after : ProgramCall → Answer → ProgramCall
program_after (Lines c) a = Lines (call_after c a)
program_after (LeftOut name) a = LeftOut name

-- the steps of it
abbrev pub program_steps : Option (List Line) → SeenEntry → ℕ → Bool → Steps
program_steps (Some lines) e argc construct = means lines argc construct
program_steps None e argc construct = left_out e

-- A call takes the steps of its built-in.
use Rattle.std.proofs.Common.{◌≡◌, ◌<◌, ℕ, Bool, List, ◌∷◌, length, refl}
use Rattle.native_protocol.specs.declared.request.Answer.{Answer}
use Rattle.native_protocol.specs.declared.request.Answer.TheVariants as answer
use Rattle.native_protocol.specs.Running.{behind}
use Rattle.native_protocol.specs.Sets.{SeenEntry}
use Rattle.native_programs.proofs.SetLaws.{clauses_by, set_follows}
use Rattle.native_programs.specs.Programs.{program_asks, program_after, program_steps}
use Rattle.native_programs.specs.Tables.{clauses_of, none}
use Rattle.function_natives.proofs.ErrorLaws.{error_means, error_to_string_means}
use Rattle.function_natives.proofs.FunctionLaws.{apply_means, call_means, bind_means}
use Rattle.function_natives.specs.declared.table.BuiltIn.{BuiltIn}
use Rattle.function_natives.specs.declared.table.BuiltIn.TheVariants as built_in
use Rattle.function_natives.specs.Dispatch.{built_ins, entry_at, built_in_at, lines_of, clause_of, begin}
use Rattle.function_natives.specs.Table.{rows, entries, steps}

-- the lines of each built-in mean its clause
lines_mean : (b : BuiltIn) (e : SeenEntry) (argc : ℕ) (construct : Bool) → program_steps (lines_of b) e argc construct ≡ clause_of b e argc construct
lines_mean built_in.LeftOut e argc construct = refl
lines_mean built_in.Apply e argc construct = apply_means argc construct
lines_mean built_in.Call e argc construct = call_means argc construct
lines_mean built_in.Bind e argc construct = bind_means argc construct
lines_mean built_in.Error e argc construct = error_means argc construct
lines_mean built_in.ErrorText e argc construct = error_to_string_means argc construct

-- each row's clause is that of its built-in
same_clauses : clauses_by clause_of built_ins entries ≡ clauses_of rows
unfolding entries
same_clauses = refl

same_count : length built_ins ≡ length entries
unfolding entries
same_count = refl

pub all_follow : (which argc : ℕ) (construct : Bool) (answers : List Answer) → which < length entries → program_asks (behind program_after (begin which argc construct) (answer.Begin ∷ answers)) ≡ steps which argc construct answers
unfolding entry_at built_in_at
all_follow which argc construct answers less = set_follows lines_of clause_of built_in.LeftOut none built_ins entries (clauses_of rows) lines_mean same_clauses same_count which argc construct answers less

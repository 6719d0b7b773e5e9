-- A call takes the steps of its built-in.
use Rattle.std.proofs.Common.{◌≡◌, ◌<◌, ℕ, Bool, List, ◌∷◌, length, refl}
use Rattle.native_protocol.specs.declared.request.Answer.{Answer}
use Rattle.native_protocol.specs.declared.request.Answer.TheVariants as answer
use Rattle.native_protocol.specs.Running.{behind}
use Rattle.native_protocol.specs.Sets.{SeenEntry}
use Rattle.native_programs.proofs.SetLaws.{clauses_by, set_follows}
use Rattle.native_programs.specs.Programs.{program_asks, program_after, program_steps}
use Rattle.native_programs.specs.Tables.{clauses_of, none}
use Rattle.string_natives.proofs.NumberLaws.{parse_int_means, is_nan_means, number_to_string_means}
use Rattle.string_natives.proofs.PartLaws.{concat_means, slice_means, substring_means, to_lower_case_means, to_upper_case_means, trim_means}
use Rattle.string_natives.proofs.PieceLaws.{split_means}
use Rattle.string_natives.proofs.PlaceLaws.{char_at_means, char_code_at_means, index_of_means, last_index_of_means}
use Rattle.string_natives.proofs.ValueLaws.{string_means, from_char_code_means, value_means}
use Rattle.string_natives.specs.declared.table.BuiltIn.{BuiltIn}
use Rattle.string_natives.specs.declared.table.BuiltIn.TheVariants as built_in
use Rattle.string_natives.specs.Dispatch.{built_ins, entry_at, built_in_at, lines_of, clause_of, begin}
use Rattle.string_natives.specs.Table.{rows, entries, steps}

-- the lines of each built-in mean its clause
lines_mean : (b : BuiltIn) (e : SeenEntry) (argc : ℕ) (construct : Bool) → program_steps (lines_of b) e argc construct ≡ clause_of b e argc construct
lines_mean built_in.LeftOut e argc construct = refl
lines_mean built_in.ParseInt e argc construct = parse_int_means argc construct
lines_mean built_in.String e argc construct = string_means argc construct
lines_mean built_in.IsNan e argc construct = is_nan_means argc construct
lines_mean built_in.FromCharCode e argc construct = from_char_code_means argc construct
lines_mean built_in.Value e argc construct = value_means argc construct
lines_mean built_in.CharAt e argc construct = char_at_means argc construct
lines_mean built_in.CharCodeAt e argc construct = char_code_at_means argc construct
lines_mean built_in.Concat e argc construct = concat_means argc construct
lines_mean built_in.IndexOf e argc construct = index_of_means argc construct
lines_mean built_in.LastIndexOf e argc construct = last_index_of_means argc construct
lines_mean built_in.Slice e argc construct = slice_means argc construct
lines_mean built_in.Split e argc construct = split_means argc construct
lines_mean built_in.Substring e argc construct = substring_means argc construct
lines_mean built_in.ToLowerCase e argc construct = to_lower_case_means argc construct
lines_mean built_in.ToUpperCase e argc construct = to_upper_case_means argc construct
lines_mean built_in.Trim e argc construct = trim_means argc construct
lines_mean built_in.NumberToString e argc construct = number_to_string_means argc construct

-- each row's clause is that of its built-in
same_clauses : clauses_by clause_of built_ins entries ≡ clauses_of rows
unfolding entries
same_clauses = refl

same_count : length built_ins ≡ length entries
unfolding entries
same_count = refl

pub all_follow : (which argc : ℕ) (construct : Bool) (answers : List Answer) → which < length entries → program_asks (behind program_after (begin which argc construct) (answer.Begin ∷ answers)) ≡ steps which argc construct answers
unfolding entry_at built_in_at
all_follow which argc construct answers less = set_follows lines_of clause_of built_in.LeftOut none built_ins entries (clauses_of rows) lines_mean same_clauses same_count which argc construct answers less

-- A call takes the steps of its built-in.
use Rattle.std.proofs.Common.{◌≡◌, ◌<◌, ℕ, Bool, List, ◌∷◌, length, refl}
use Rattle.native_protocol.specs.declared.request.Answer.{Answer}
use Rattle.native_protocol.specs.declared.request.Answer.TheVariants as answer
use Rattle.native_protocol.specs.Running.{behind}
use Rattle.native_protocol.specs.Sets.{SeenEntry}
use Rattle.native_programs.proofs.SetLaws.{clauses_by, set_follows}
use Rattle.native_programs.specs.Programs.{program_asks, program_after, program_steps}
use Rattle.native_programs.specs.Tables.{clauses_of, none}
use Rattle.array_natives.proofs.ConstructorLaws.{array_means, is_array_means}
use Rattle.array_natives.proofs.EndLaws.{pop_means, push_means, shift_means, unshift_means}
use Rattle.array_natives.proofs.IteratingLaws.{every_means, some_means, for_each_means, map_means, filter_means, reduce_means, reduce_right_means}
use Rattle.array_natives.proofs.SearchingLaws.{index_of_means, last_index_of_means}
use Rattle.array_natives.proofs.SpliceLaws.{splice_means}
use Rattle.array_natives.proofs.WholeLaws.{to_string_means, concat_means, join_means, reverse_means, slice_means}
use Rattle.array_natives.specs.declared.table.BuiltIn.{BuiltIn}
use Rattle.array_natives.specs.declared.table.BuiltIn.TheVariants as built_in
use Rattle.array_natives.specs.Dispatch.{built_ins, entry_at, built_in_at, lines_of, clause_of, begin}
use Rattle.array_natives.specs.Table.{rows, entries, steps}

-- the lines of each built-in mean its clause
lines_mean : (b : BuiltIn) (e : SeenEntry) (argc : ℕ) (construct : Bool) → program_steps (lines_of b) e argc construct ≡ clause_of b e argc construct
lines_mean built_in.LeftOut e argc construct = refl
lines_mean built_in.Array e argc construct = array_means argc construct
lines_mean built_in.IsArray e argc construct = is_array_means argc construct
lines_mean built_in.ToString e argc construct = to_string_means argc construct
lines_mean built_in.Concat e argc construct = concat_means argc construct
lines_mean built_in.Join e argc construct = join_means argc construct
lines_mean built_in.Pop e argc construct = pop_means argc construct
lines_mean built_in.Push e argc construct = push_means argc construct
lines_mean built_in.Reverse e argc construct = reverse_means argc construct
lines_mean built_in.Shift e argc construct = shift_means argc construct
lines_mean built_in.Slice e argc construct = slice_means argc construct
lines_mean built_in.Splice e argc construct = splice_means argc construct
lines_mean built_in.Unshift e argc construct = unshift_means argc construct
lines_mean built_in.IndexOf e argc construct = index_of_means argc construct
lines_mean built_in.LastIndexOf e argc construct = last_index_of_means argc construct
lines_mean built_in.Every e argc construct = every_means argc construct
lines_mean built_in.Some e argc construct = some_means argc construct
lines_mean built_in.ForEach e argc construct = for_each_means argc construct
lines_mean built_in.Map e argc construct = map_means argc construct
lines_mean built_in.Filter e argc construct = filter_means argc construct
lines_mean built_in.Reduce e argc construct = reduce_means argc construct
lines_mean built_in.ReduceRight e argc construct = reduce_right_means argc construct

-- each row's clause is that of its built-in
same_clauses : clauses_by clause_of built_ins entries ≡ clauses_of rows
unfolding entries
same_clauses = refl

same_count : length built_ins ≡ length entries
unfolding entries
same_count = refl

pub all_follow : (which argc : ℕ) (construct : Bool) (answers : List Answer) → which < length entries → program_asks (behind program_after (begin which argc construct) (answer.Begin ∷ answers)) ≡ steps which argc construct answers
unfolding entry_at built_in_at
all_follow which argc construct answers less = set_follows lines_of clause_of built_in.LeftOut none built_ins entries (clauses_of rows) lines_mean same_clauses same_count which argc construct answers less

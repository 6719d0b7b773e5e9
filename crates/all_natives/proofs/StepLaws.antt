-- A call of one of them takes the steps of its set.
use Rattle.std.proofs.Common.{arith, ◌≡◌, ◌<◌, ℕ, zero, suc, slice_get, ap, Bool, List, [], ◌∷◌, length, refl, ◌∙◌}
use Rattle.native_protocol.specs.declared.request.Answer.{Answer}
use Rattle.native_protocol.specs.declared.request.Answer.TheVariants as answer
use Rattle.native_protocol.specs.Running.{behind}
use Rattle.native_protocol.specs.Sets.{SeenEntry}
use Rattle.native_programs.specs.declared.program.ProgramCall.{ProgramCall}
use Rattle.native_programs.specs.Programs.{program_after, program_asks}
use Rattle.channels.proofs.ClauseLaws.{clause_followed}
use Rattle.channels.specs.declared.state.ChannelState.{ChannelState}
use Rattle.channels.specs.Machine.{channel_begin, channel_after, channel_asks}
use Rattle.es_meaning.specs.BuiltIns.{BuiltIns, begins_entry, begins_in, built_ins_of, in_set}
use Rattle.object_natives.proofs.CallLaws as objects
use Rattle.object_natives.specs.declared.call.ObjectState.{ObjectState}
use Rattle.object_natives.specs.Dispatch.{state_begin, state_after, state_asks}
use Rattle.array_natives.proofs.FollowLaws as arrays
use Rattle.array_natives.specs.Dispatch as array_calls
use Rattle.function_natives.proofs.FollowLaws as functions
use Rattle.function_natives.specs.Dispatch as function_calls
use Rattle.string_natives.proofs.FollowLaws as texts
use Rattle.string_natives.specs.Dispatch as text_calls
use Rattle.all_natives.proofs.TogetherLaws.{parts_stand}
use Rattle.all_natives.specs.declared.natives.AllState.TheVariants as state
use Rattle.all_natives.specs.declared.order.Part.{Part}
use Rattle.all_natives.specs.declared.order.Part.TheVariants as part
use Rattle.all_natives.specs.Together.{all_entries, part_at, IsPart, part_begin, all_begin, all_after, all_asks, part_steps, all_steps}

channel_runs : (names : List (List ℕ)) (s : ChannelState) (answers : List Answer) → all_asks (behind (all_after names) (state.Channel s) answers) ≡ channel_asks (behind (channel_after names) s answers)
channel_runs names s [] = refl
channel_runs names s (a ∷ answers) = channel_runs names (channel_after names s a) answers

object_runs : (names : List (List ℕ)) (s : ObjectState) (answers : List Answer) → all_asks (behind (all_after names) (state.Object s) answers) ≡ state_asks (behind state_after s answers)
object_runs names s [] = refl
object_runs names s (a ∷ answers) = object_runs names (state_after s a) answers

program_runs : (names : List (List ℕ)) (s : ProgramCall) (answers : List Answer) → all_asks (behind (all_after names) (state.Program s) answers) ≡ program_asks (behind program_after s answers)
program_runs names s [] = refl
program_runs names s (a ∷ answers) = program_runs names (program_after s a) answers

part_follows : (names : List (List ℕ)) (p : Part) (argc : ℕ) (construct : Bool) (answers : List Answer) → IsPart p → all_asks (behind (all_after names) (part_begin p argc construct) (answer.Begin ∷ answers)) ≡ part_steps names p argc construct answers
part_follows names (part.Channel n) argc construct answers is =
    channel_runs names (channel_begin n argc construct) (answer.Begin ∷ answers) ∙ clause_followed names n argc construct answers
part_follows names (part.Object n) argc construct answers is =
    object_runs names (state_begin n argc construct) (answer.Begin ∷ answers) ∙ objects.all_follow n argc construct answers is
part_follows names (part.Array n) argc construct answers is =
    program_runs names (array_calls.begin n argc construct) (answer.Begin ∷ answers) ∙ arrays.all_follow n argc construct answers is
part_follows names (part.Function n) argc construct answers is =
    program_runs names (function_calls.begin n argc construct) (answer.Begin ∷ answers) ∙ functions.all_follow n argc construct answers is
part_follows names (part.Text n) argc construct answers is =
    program_runs names (text_calls.begin n argc construct) (answer.Begin ∷ answers) ∙ texts.all_follow n argc construct answers is

pub each_follows : (names : List (List ℕ)) (which argc : ℕ) (construct : Bool) (answers : List Answer) → which < length all_entries → all_asks (behind (all_after names) (all_begin which argc construct) (answer.Begin ∷ answers)) ≡ all_steps names which argc construct answers
each_follows names which argc construct answers less = part_follows names (part_at which) argc construct answers (parts_stand which less)

-- a number that an entry has begins what it is the number of
begun : (entries : List SeenEntry) (n : ℕ) (set : BuiltIns) (which argc : ℕ) (construct : Bool) (answers : List Answer) → n < length entries → begins_entry (slice_get entries n) set which argc construct answers ≡ set.begins which argc construct answers
begun [] n set which argc construct answers less = absurd (omega arith)
begun (e ∷ entries) zero set which argc construct answers less = refl
begun (e ∷ entries) (suc n) set which argc construct answers less = begun entries n set which argc construct answers (omega arith)

-- the numbers of the meanings: that of a built-in behind the three accessors
pub each_begins : (names : List (List ℕ)) (which argc : ℕ) (construct : Bool) (answers : List Answer) → which < length all_entries → begins_in (built_ins_of all_entries all_begin (all_after names) all_asks) (in_set which) argc construct answers ≡ all_steps names which argc construct answers
each_begins names which argc construct answers less =
    let set = built_ins_of all_entries all_begin (all_after names) all_asks in
    ap (λ n. begins_in set n argc construct answers) (let behind_three : in_set which ≡ suc (suc (suc which)) = omega arith in behind_three)
    ∙ begun all_entries which set which argc construct answers less
    ∙ each_follows names which argc construct answers less

-- The sets of built-ins as one.
use Rattle.std.specs.Prelude.{ℕ, ◌+◌, ◌-◌, ◌<◌, nat_le, nat_lt, Bool, List, [], ◌∷◌, length, take, drop, if◌then◌else◌}
use Rattle.std.specs.List.{flat_map, list_all}
use Rattle.native_protocol.specs.declared.request.Answer.{Answer}
use Rattle.native_protocol.specs.declared.request.Request.{Request}
use Rattle.native_protocol.specs.Sets.{SeenEntry}
use Rattle.native_protocol.specs.Steps.{Steps}
use Rattle.native_programs.specs.Programs.{program_after, program_asks}
use Rattle.channels.specs.Clauses.{clause}
use Rattle.channels.specs.Entries.{channel_entries}
use Rattle.channels.specs.Machine.{channel_begin, channel_after, channel_asks}
use Rattle.object_natives.specs.Dispatch.{state_begin, state_after, state_asks}
use Rattle.object_natives.specs.Table as objects
use Rattle.array_natives.specs.Dispatch as array_calls
use Rattle.array_natives.specs.Table as arrays
use Rattle.function_natives.specs.Dispatch as function_calls
use Rattle.function_natives.specs.Table as functions
use Rattle.string_natives.specs.Dispatch as text_calls
use Rattle.string_natives.specs.Table as texts
use Rattle.all_natives.specs.declared.natives.AllState.{AllState}
use Rattle.all_natives.specs.declared.natives.AllState.TheVariants as state
use Rattle.all_natives.specs.declared.order.Part.{Part}
use Rattle.all_natives.specs.declared.order.Part.TheVariants as part
use Rattle.all_natives.specs.declared.sets.Range.{Range}
use Rattle.all_natives.specs.declared.sets.Set.{Set}
use Rattle.all_natives.specs.declared.sets.Set.TheVariants as set
use Rattle.all_natives.specs.declared.sets.TheConstants.{RANGES}

-- ---- the order

abbrev pub set_entries : Set → List SeenEntry
set_entries set.Channels = channel_entries
set_entries set.Objects = objects.entries
set_entries set.Arrays = arrays.entries
set_entries set.Functions = functions.entries
set_entries set.Texts = texts.entries

abbrev pub range_entries : Range → List SeenEntry
range_entries r = take r.2 (drop r.1 (set_entries r.0))

-- all built-ins, range by range
unfoldable pub all_entries : List SeenEntry
all_entries = flat_map range_entries RANGES

-- its set has each built-in of a range
abbrev pub ranges_lie : List Range → Bool
ranges_lie ranges = list_all (λ r. nat_le (r.1 + r.2) (length (set_entries r.0))) ranges

-- ---- the built-in of a number

abbrev pub part_of : Set → ℕ → Part
part_of set.Channels n = part.Channel n
part_of set.Objects n = part.Object n
part_of set.Arrays n = part.Array n
part_of set.Functions n = part.Function n
part_of set.Texts n = part.Text n

abbrev pub part_in : List Range → ℕ → Part
part_in [] which = part.Channel 0
part_in (r ∷ ranges) which = if nat_lt which r.2 then part_of r.0 (r.1 + which) else part_in ranges (which - r.2)

abbrev pub part_at : ℕ → Part
part_at which = part_in RANGES which

-- its set has a built-in of that number
abbrev pub IsPart : Part → Type 0
IsPart (part.Channel n) = n < length channel_entries
IsPart (part.Object n) = n < length objects.entries
IsPart (part.Array n) = n < length arrays.entries
IsPart (part.Function n) = n < length functions.entries
IsPart (part.Text n) = n < length texts.entries

-- ---- the machine of a call: that of the set which the built-in is of

abbrev pub part_begin : Part → ℕ → Bool → AllState
part_begin (part.Channel n) argc construct = state.Channel (channel_begin n argc construct)
part_begin (part.Object n) argc construct = state.Object (state_begin n argc construct)
part_begin (part.Array n) argc construct = state.Program (array_calls.begin n argc construct)
part_begin (part.Function n) argc construct = state.Program (function_calls.begin n argc construct)
part_begin (part.Text n) argc construct = state.Program (text_calls.begin n argc construct)

abbrev pub all_begin : ℕ → ℕ → Bool → AllState
all_begin which argc construct = part_begin (part_at which) argc construct

abbrev pub all_after : List (List ℕ) → AllState → Answer → AllState
all_after names (state.Channel s) answer = state.Channel (channel_after names s answer)
all_after names (state.Object s) answer = state.Object (state_after s answer)
all_after names (state.Program s) answer = state.Program (program_after s answer)

abbrev pub all_asks : AllState → Request
all_asks (state.Channel s) = channel_asks s
all_asks (state.Object s) = state_asks s
all_asks (state.Program s) = program_asks s

-- ---- the clause of each, which is that of its set

abbrev pub part_steps : List (List ℕ) → Part → ℕ → Bool → Steps
part_steps names (part.Channel n) argc construct = clause names n argc construct
part_steps names (part.Object n) argc construct = objects.steps n argc construct
part_steps names (part.Array n) argc construct = arrays.steps n argc construct
part_steps names (part.Function n) argc construct = functions.steps n argc construct
part_steps names (part.Text n) argc construct = texts.steps n argc construct

abbrev pub all_steps : List (List ℕ) → ℕ → ℕ → Bool → Steps
all_steps names which argc construct = part_steps names (part_at which) argc construct

-- The five built-ins as machines: what each state asks for, and where an answer leads.
use Rattle.std.specs.Prelude.{ℕ, ◌+◌, Bool, List, codes, Option, Some, None, nat_lt, if◌then◌else◌}
use Rattle.origin_labels.specs.Label.{Label, bottom, with_origin}
use Rattle.native_protocol.specs.declared.progress.Progress.{Progress}
use Rattle.native_protocol.specs.declared.progress.Progress.TheVariants.{Going, Ready}
use Rattle.native_protocol.specs.declared.registers.Reg.{Reg}
use Rattle.native_protocol.specs.declared.request.Answer.{Answer}
use Rattle.native_protocol.specs.declared.request.ErrorKind.TheVariants as error
use Rattle.native_protocol.specs.declared.request.Request.{Request}
use Rattle.native_protocol.specs.declared.request.Request.TheVariants as request
use Rattle.native_protocol.specs.declared.text_of.HeldText.{HeldText}
use Rattle.native_protocol.specs.declared.text_of.TextOf.{TextOf}
use Rattle.native_protocol.specs.Pieces.{text_begin, text_asks, text_after}
use Rattle.native_protocol.specs.Steps.{seen_in, is_text, is_object, reg}
use Rattle.channels.specs.declared.state.BuiltIn.{BuiltIn}
use Rattle.channels.specs.declared.state.BuiltIn.TheVariants as built_in
use Rattle.channels.specs.declared.state.ChannelState.{ChannelState}
use Rattle.channels.specs.declared.state.ChannelState.TheVariants as state
use Rattle.channels.specs.declared.state.Joining.{Joining}
use Rattle.channels.specs.declared.state.Joining.TheVariants as joining
use Rattle.channels.specs.declared.state.Registers.{Registers}
use Rattle.channels.specs.declared.state.Unknown.{Unknown}
use Rattle.channels.specs.declared.state.Unknown.TheVariants as unknown
use Rattle.channels.specs.Clauses.{first, second, method_of, value_of, unset_of, origin_in}
use Rattle.channels.specs.Entries.{built_in_at}

-- ---- where a call begins

abbrev pub registers_of : ℕ → Registers
registers_of argc = record { method = method_of argc; value = value_of argc; unset = unset_of argc; end = argc + 2 }

abbrev pub channel_begin : ℕ → ℕ → Bool → ChannelState
channel_begin which argc construct = state.Begun (built_in_at which) (registers_of argc)

-- ---- what a state asks for

abbrev pub join_asks : Label → Joining → Registers → Request
join_asks origins joining.Label rs = request.Label first origins rs.value
join_asks origins joining.Structure rs = request.RaiseStructure first origins
join_asks origins (joining.Existence key) rs = request.RaiseExistence first key origins

abbrev pub leave_asks : Unknown → Request
leave_asks unknown.Channel = request.Leave (codes "channel")
leave_asks unknown.Origin = request.Leave (codes "origin")

abbrev pub channel_asks : ChannelState → Request
channel_asks (state.Begun b rs) = request.Look first
channel_asks (state.ReadName rs) = request.Look first
channel_asks (state.ReadLine rs) = request.ReadLine first rs.value
channel_asks (state.PrintName rs) = request.Look first
channel_asks (state.PrintText text rs) = text_asks text
channel_asks (state.PrintLine from rs) = request.PrintLine first from
channel_asks (state.StructureObject rs) = request.Look first
channel_asks (state.ExistenceObject rs) = request.Look first
channel_asks (state.ExistenceKey text rs) = text_asks text
channel_asks (state.Origin at origins purpose rs) = request.Look (reg at)
channel_asks (state.Join origins purpose rs) = join_asks origins purpose rs
channel_asks (state.Return from) = request.Return from
channel_asks state.Throw = request.ThrowNew error.TypeError
channel_asks (state.Leave u) = leave_asks u

-- ---- where an answer leads

-- the origins from a register on are looked at, as far as there are arguments
abbrev pub looking : ℕ → Label → Joining → Registers → ChannelState
looking at origins purpose rs = if nat_lt at rs.end then state.Origin at origins purpose rs else state.Join origins purpose rs

abbrev pub second_text : Registers → TextOf
second_text rs = text_begin second rs.method rs.value

abbrev pub begin_with : BuiltIn → Registers → ChannelState
begin_with built_in.Read rs = state.ReadName rs
begin_with built_in.Print rs = state.PrintName rs
begin_with built_in.Lbl rs = looking 3 bottom joining.Label rs
begin_with built_in.Upgs rs = state.StructureObject rs
begin_with built_in.Upge rs = state.ExistenceObject rs

abbrev pub print_behind : Registers → Progress TextOf HeldText → ChannelState
print_behind rs (Going text) = state.PrintText text rs
print_behind rs (Ready held) = state.PrintLine held.at rs

abbrev pub existence_behind : Registers → Progress TextOf HeldText → ChannelState
existence_behind rs (Going text) = state.ExistenceKey text rs
existence_behind rs (Ready held) = looking 4 bottom (joining.Existence held.text) rs

abbrev pub origin_behind : Option ℕ → ℕ → Label → Joining → Registers → ChannelState
origin_behind (Some origin) at origins purpose rs = looking (at + 1) (with_origin origin origins) purpose rs
origin_behind None at origins purpose rs = state.Leave unknown.Origin

abbrev pub join_gives : Joining → Registers → Reg
join_gives joining.Label rs = rs.value
join_gives joining.Structure rs = rs.unset
join_gives (joining.Existence key) rs = rs.unset

abbrev pub channel_after : List (List ℕ) → ChannelState → Answer → ChannelState
channel_after names (state.Begun b rs) a = begin_with b rs
channel_after names (state.ReadName rs) a = if is_text (seen_in a) then state.ReadLine rs else state.Leave unknown.Channel
channel_after names (state.ReadLine rs) a = state.Return rs.value
channel_after names (state.PrintName rs) a = if is_text (seen_in a) then state.PrintText (second_text rs) rs else state.Leave unknown.Channel
channel_after names (state.PrintText text rs) a = print_behind rs (text_after text a)
channel_after names (state.PrintLine from rs) a = state.Return rs.unset
channel_after names (state.StructureObject rs) a = if is_object (seen_in a) then looking 3 bottom joining.Structure rs else state.Throw
channel_after names (state.ExistenceObject rs) a = if is_object (seen_in a) then state.ExistenceKey (second_text rs) rs else state.Throw
channel_after names (state.ExistenceKey text rs) a = existence_behind rs (text_after text a)
channel_after names (state.Origin at origins purpose rs) a = origin_behind (origin_in names (seen_in a)) at origins purpose rs
channel_after names (state.Join origins purpose rs) a = state.Return (join_gives purpose rs)
channel_after names (state.Return from) a = state.Return from
channel_after names state.Throw a = state.Throw
channel_after names (state.Leave name) a = state.Leave name

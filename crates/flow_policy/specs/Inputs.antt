-- What an input file gives to each input channel.
use Rattle.std.specs.Prelude.{◌≡◌, ℕ, ◌+◌, not, List, [], ◌∷◌, length, Option, Some, None, Result, Ok, Err, map, if◌then◌else◌}
use Rattle.std.specs.List.{before_first, after_first, slice_index_or}
use Rattle.std.specs.Str.{is_utf8}
use Rattle.flow_text.specs.Utf8.{units_of}
use Rattle.origin_labels.specs.Names.{same_name}
use Rattle.flow_policy.specs.declared.policy.Channel.{Channel}
use Rattle.flow_policy.specs.declared.fault.InputKind.{InputKind}
use Rattle.flow_policy.specs.declared.fault.InputKind.TheVariants as kinds
use Rattle.flow_policy.specs.Lines.{lines_of}
use Rattle.flow_policy.specs.Words.{is_space}
use Rattle.flow_policy.specs.Policies.{has_channel, BadLine, Tables}

-- the channel's name and the text of a line: what stands before and behind its first space; with no space the text is empty
unfoldable pub channel_in : List ℕ → List ℕ
channel_in line = before_first is_space (units_of line)

unfoldable pub text_in : List ℕ → List ℕ
text_in line = after_first is_space (units_of line)

-- what is wrong with a line, if anything is
unfoldable pub fault_of_line : List Channel → List ℕ → Option InputKind
fault_of_line channels line = if not (is_utf8 line) then Some kinds.Utf8 else (if has_channel (channel_in line) channels then None else Some kinds.Channel)

-- a bad line, or else a later one
abbrev pub bad_or : ℕ → Option InputKind → Option (BadLine InputKind) → Option (BadLine InputKind)
bad_or number (Some kind) later = Some (record { line = number; kind = kind })
bad_or number None later = later

-- the first bad line, of lines of which the first has this number
unfoldable pub first_bad : ℕ → List Channel → List (List ℕ) → Option (BadLine InputKind)
first_bad number channels [] = None
first_bad number channels (line ∷ lines) = bad_or number (fault_of_line channels line) (first_bad (number + 1) channels lines)

-- the texts of the lines of one channel, in their order
unfoldable pub texts_on : List ℕ → List (List ℕ) → List (List ℕ)
texts_on name [] = []
texts_on name (line ∷ lines) = if same_name (channel_in line) name then text_in line ∷ texts_on name lines else texts_on name lines

-- for each input channel, in the policy's order, its texts
abbrev pub Given : Type 0
Given = List (List (List ℕ))

-- the texts, unless a line is bad
abbrev pub unless_bad : Option (BadLine InputKind) → Given → Result Given (BadLine InputKind)
unless_bad (Some bad) given = Err bad
unless_bad None given = Ok given

-- what the bytes of an input file give, or their first bad line
unfoldable pub inputs_of : List Channel → List ℕ → Result Given (BadLine InputKind)
inputs_of channels bytes = unless_bad (first_bad 1 channels (lines_of bytes)) (map (λ channel. texts_on channel.name (lines_of bytes)) channels)

-- the texts of the channel with this number
abbrev pub given_on : Given → ℕ → List (List ℕ)
given_on given i = slice_index_or given i []

-- inputs of a policy have a list for each of its input channels
abbrev pub IsGivenTo : Tables → Given → Type 0
IsGivenTo tables given = length given ≡ length tables.inputs

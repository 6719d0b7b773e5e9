-- What an observer may read and see.
use Rattle.std.specs.Prelude.{◌≡◌, ℕ, Bool, true, false, not, ◌&&◌, List, length, Option, Some, None, slice_get}
use Rattle.std.specs.List.{filter, position, range_with_len}
use Rattle.std.specs.Cmp.Lexicographic.{pointwise}
use Rattle.origin_labels.specs.Label.{Label, sees}
use Rattle.origin_labels.specs.Names.{same_name}
use Rattle.flow_policy.specs.declared.policy.Channel.{Channel}
use Rattle.flow_policy.specs.Lines.{whole_lines}
use Rattle.flow_policy.specs.Words.{first_word}
use Rattle.flow_policy.specs.Inputs.{Given, given_on}
use Rattle.flow_policy.specs.Policies.{Tables, channel_named}

-- two inputs have the same lines on each input channel that the observer sees
abbrev pub Agree : Label → Tables → Given → Given → Type 0
Agree observer tables first second = (i : ℕ) (channel : Channel) → slice_get tables.inputs i ≡ Some channel → sees observer channel.label ≡ true
    → given_on first i ≡ given_on second i

-- whether the observer sees a channel
unfoldable pub sees_channel : Label → Option Channel → Bool
sees_channel observer None = false
sees_channel observer (Some channel) = sees observer channel.label

-- whether the first word of a line of output is an output channel that the observer sees
unfoldable pub sees_line : Label → Tables → List ℕ → Bool
sees_line observer tables line = sees_channel observer (channel_named (first_word line) tables.outputs)

-- the observer's view of bytes: the whole lines of the channels that it sees
unfoldable pub view_of : Label → Tables → List ℕ → List (List ℕ)
view_of observer tables bytes = filter (sees_line observer tables) (whole_lines bytes)

-- whether lines of one channel are the lines of another
abbrev pub same_lines : List (List ℕ) → List (List ℕ) → Bool
same_lines first second = pointwise same_name first second

-- whether two inputs differ on the input channel with this number, and the observer sees it
abbrev pub differ_at : Label → Tables → Given → Given → ℕ → Bool
differ_at observer tables first second i = sees_channel observer (slice_get tables.inputs i) && not (same_lines (given_on first i) (given_on second i))

-- the number of the first input channel that the observer sees and on which two inputs differ
unfoldable pub first_disagreement : Label → Tables → Given → Given → Option ℕ
first_disagreement observer tables first second = position (differ_at observer tables first second) (range_with_len 0 (length tables.inputs))

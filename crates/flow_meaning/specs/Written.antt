-- The bytes that a run writes: its lines, and behind them the report of its ending.
use Rattle.std.specs.Prelude.{ℕ, List, [], ◌∷◌, ◌++◌, map, codes, length, ◌==◌, if◌then◌else◌}
use Rattle.std.specs.List.{flat_map, join_with_byte, slice_index_or}
use Rattle.flow_text.specs.Utf8.{utf8_of}
use Rattle.flow_text.specs.Written.{escaped}
use Rattle.origin_labels.specs.Label.{Label}
use Rattle.flow_policy.specs.Policies.{Tables}
use Rattle.flow_frames.specs.declared.faults.Rule.{Rule}
use Rattle.flow_frames.specs.declared.faults.Rule.TheVariants.{W1, W2, W3, W4, W5, W6, W7, W8, W9, W10, W11, W12}
use Rattle.es_meaning.specs.Outcomes.{left, out_of_turns, Ending, done, threw, halted}
use Rattle.es_meaning.specs.Plain.{Line}
use Rattle.flow_meaning.specs.Scopes.{Halt, as_plain, stopped}
use Rattle.flow_meaning.specs.Tracked.{Run}

-- a printed line: the channel's name, a space, the text with its escapes, and LF, in UTF-8
unfoldable pub line_bytes : Line → List ℕ
line_bytes line = utf8_of line.channel ++ (32 ∷ (utf8_of (escaped line.text) ++ 10 ∷ []))

unfoldable pub lines_bytes : List Line → List ℕ
lines_bytes lines = flat_map line_bytes lines

abbrev pub rule_name : Rule → List ℕ
rule_name W1 = codes "W1"
rule_name W2 = codes "W2"
rule_name W3 = codes "W3"
rule_name W4 = codes "W4"
rule_name W5 = codes "W5"
rule_name W6 = codes "W6"
rule_name W7 = codes "W7"
rule_name W8 = codes "W8"
rule_name W9 = codes "W9"
rule_name W10 = codes "W10"
rule_name W11 = codes "W11"
rule_name W12 = codes "W12"

-- the name of the origin with this number
abbrev pub origin_name : Tables → ℕ → List ℕ
origin_name tables k = utf8_of (slice_index_or tables.origins k [])

-- a label as a list: `-` where it is empty, and else its origins' names in the policy's order with commas between
unfoldable pub list_bytes : Tables → Label → List ℕ
list_bytes tables label = if length label == 0 then codes "-" else join_with_byte 44 (map (origin_name tables) label)

-- the report of how a run ends, without its first two and its last characters
unfoldable pub halt_bytes : Tables → Halt → List ℕ
halt_bytes tables (as_plain (left name)) = codes "left " ++ utf8_of name
halt_bytes tables (as_plain out_of_turns) = codes "out of turns"
halt_bytes tables (stopped rule need have) = codes "stopped " ++ (rule_name rule ++ (codes " need " ++ (list_bytes tables need ++ (codes " have " ++ list_bytes tables have))))

unfoldable pub ending_bytes : Tables → Ending Halt → List ℕ
ending_bytes tables done = codes "done"
ending_bytes tables (threw shown) = codes "threw " ++ utf8_of shown
ending_bytes tables (halted halt) = halt_bytes tables halt

unfoldable pub report : Tables → Ending Halt → List ℕ
report tables ending = codes "! " ++ (ending_bytes tables ending ++ 10 ∷ [])

-- what a run writes
unfoldable pub written : Tables → Run → List ℕ
written tables run = lines_bytes (map (λ l. l.line) run.lines) ++ report tables run.ending

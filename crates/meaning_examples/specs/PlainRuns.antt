-- Runs of small scripts without labels.
use Rattle.std.specs.Prelude.{List, [], codes, map, ℕ, ◌∷◌, ◌≡◌}
use Rattle.flow_policy.specs.Inputs.{Given}
use Rattle.flow_policy.specs.Policies.{Tables}
use Rattle.js_ast.specs.Trees.{Statement}
use Rattle.es_meaning.specs.BuiltIns.{BuiltIns}
use Rattle.es_meaning.specs.Outcomes.{Ending, Halt, done, halted, left, threw}
use Rattle.es_meaning.specs.Plain.{Line, Run, plain_run}
use Rattle.channels.specs.Clauses.{clause}
use Rattle.channels.specs.Entries.{channel_entries}
use Rattle.meaning_examples.specs.Building.{list, text}

-- the policy: origin A, origin B, in pin A, in note -, out all A,B, out pub -
abbrev pub tables : Tables
tables = record {
  origins = codes "A" ∷ codes "B" ∷ [];
  inputs = record { name = codes "pin"; label = 0 ∷ [] } ∷ record { name = codes "note"; label = [] } ∷ [];
  outputs = record { name = codes "all"; label = 0 ∷ 1 ∷ [] } ∷ record { name = codes "pub"; label = [] } ∷ [];
}

-- the input: one line on pin
abbrev pub pin : List ℕ → Given
pin text = (text ∷ []) ∷ [] ∷ []

-- the five functions of channels as built-ins
abbrev pub channel_set : Tables → BuiltIns
channel_set tables = record { entries = channel_entries; begins = clause tables.origins }

abbrev pub line : List ℕ → List ℕ → Line
line c t = record { channel = c; text = t }

abbrev pub prints_and : List Line → Ending Halt → Run
prints_and lines ending = record { lines = lines; ending = ending }

-- a script gives this with a set of built-ins, on the line 1, with so many turns
abbrev pub GivesBy : BuiltIns → List Statement → ℕ → Run → Type 0
GivesBy set script turns run = plain_run set tables (pin (codes "1")) (list script) turns ≡ run

abbrev pub Gives : List Statement → ℕ → Run → Type 0
Gives script turns run = GivesBy (channel_set tables) script turns run

-- it prints a text on pub, or several, and is done
abbrev pub Prints : List Statement → List ℕ → Type 0
Prints script t = Gives script 200 (prints_and (line (codes "pub") t ∷ []) done)

abbrev pub PrintsAll : List Statement → List (List ℕ) → Type 0
PrintsAll script ts = Gives script 200 (prints_and (map (line (codes "pub")) ts) done)

-- an exception leaves it, of which this is shown, or it leaves the language by a name; it prints nothing
abbrev pub Throws : List Statement → List ℕ → Type 0
Throws script t = Gives script 200 (prints_and [] (threw t))

abbrev pub Leaves : List Statement → List ℕ → Type 0
Leaves script name = Gives script 200 (prints_and [] (halted (left name)))

abbrev pub type_error_thrown : List ℕ
type_error_thrown = codes "object Error TypeError"

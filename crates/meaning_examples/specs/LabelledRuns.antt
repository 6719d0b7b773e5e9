-- Runs of small scripts under the flow rules.
use Rattle.std.specs.Prelude.{List, [], codes, ℕ, ◌∷◌, ◌≡◌}
use Rattle.origin_labels.specs.Label.{Label}
use Rattle.flow_frames.specs.declared.faults.Rule.{Rule}
use Rattle.js_ast.specs.Trees.{Statement}
use Rattle.es_meaning.specs.BuiltIns.{BuiltIns}
use Rattle.es_meaning.specs.Outcomes.{Ending, done, halted, left, threw}
use Rattle.flow_meaning.specs.Scopes.{Halt, LabelledLine, as_plain, stopped}
use Rattle.flow_meaning.specs.Tracked.{Run, tracked_run}
use Rattle.meaning_examples.specs.Building.{list}
use Rattle.meaning_examples.specs.PlainRuns.{channel_set, line, pin, tables}

-- the origins A and B
abbrev pub origin_a : Label
origin_a = 0 ∷ []

abbrev pub origin_b : Label
origin_b = 1 ∷ []

abbrev pub both_origins : Label
both_origins = 0 ∷ 1 ∷ []

abbrev pub labelled_line : List ℕ → List ℕ → Label → LabelledLine
labelled_line c t label = record { line = line c t; label = label }

abbrev pub prints_and : List LabelledLine → Ending Halt → Run
prints_and lines ending = record { lines = lines; ending = ending }

-- a script gives this with a set of built-ins, on a line, with so many turns
abbrev pub GivesBy : BuiltIns → List ℕ → List Statement → ℕ → Run → Type 0
GivesBy set pin_line script turns run = tracked_run set tables (pin pin_line) (list script) turns ≡ run

abbrev pub GivesIn : List ℕ → List Statement → ℕ → Run → Type 0
GivesIn pin_line script turns run = GivesBy (channel_set tables) pin_line script turns run

abbrev pub Gives : List ℕ → List Statement → Run → Type 0
Gives pin_line script run = GivesIn pin_line script 200 run

-- it prints one line with this label
abbrev pub Prints : List ℕ → List Statement → List ℕ → List ℕ → Label → Type 0
Prints pin_line script c t label = Gives pin_line script (prints_and (labelled_line c t label ∷ []) done)

-- on the line 1: the rule needs A, and the empty label isn't that; an exception leaves it, of which this is shown; it leaves the language by a name; or it is
-- done. It prints nothing
abbrev pub Stops : List Statement → Rule → Type 0
Stops script rule = Gives (codes "1") script (prints_and [] (halted (stopped rule origin_a [])))

abbrev pub Throws : List Statement → List ℕ → Type 0
Throws script t = Gives (codes "1") script (prints_and [] (threw t))

abbrev pub Leaves : List Statement → List ℕ → Type 0
Leaves script name = Gives (codes "1") script (prints_and [] (halted (as_plain (left name))))

abbrev pub Ends : List Statement → Type 0
Ends script = Gives (codes "1") script (prints_and [] done)

-- Runs of small scripts under the flow rules, with all built-ins.
use Rattle.std.specs.Prelude.{List, [], codes, ℕ, suc, ◌∷◌, false}
use Rattle.flow_frames.specs.declared.faults.Rule.{Rule}
use Rattle.flow_policy.specs.Policies.{Tables}
use Rattle.js_ast.specs.Trees.{Expr, Statement, boolean}
use Rattle.es_meaning.specs.BuiltIns.{BuiltIns}
use Rattle.es_meaning.specs.Outcomes.{done, halted, left, out_of_turns, threw}
use Rattle.flow_meaning.specs.Scopes.{LabelledLine, as_plain, stopped}
use Rattle.all_natives.specs.Together.{all_entries, all_steps}
use Rattle.meaning_examples.specs.Building.{calls, does, dot, named}
use Rattle.meaning_examples.specs.LabelledRuns.{GivesBy, labelled_line, origin_a, prints_and}
use Rattle.meaning_examples.specs.PlainRuns.{tables, type_error_thrown}

-- all built-ins, with the origins of a policy
abbrev pub all_set : Tables → BuiltIns
all_set tables = record { entries = all_entries; begins = all_steps tables.origins }

-- a call of a function of Object, or of Math
abbrev pub of_object : List ℕ → List Expr → Expr
of_object name es = calls (dot (named (codes "Object")) name) es

abbrev pub of_math : List ℕ → List Expr → Expr
of_math name es = calls (dot (named (codes "Math")) name) es

abbrev pub is_false : Expr
is_false = boolean 0 false

abbrev pub said : List ℕ → LabelledLine
said t = labelled_line (codes "pub") t []

-- on the line 1 of pin: it prints these lines and is done
abbrev pub Says : List Statement → List LabelledLine → Type 0
Says script lines = GivesBy (all_set tables) (codes "1") script 1000 (prints_and lines done)

-- it is stopped: the rule needs A, and the empty label isn't that
abbrev pub Stops : List Statement → Rule → Type 0
Stops script rule = GivesBy (all_set tables) (codes "1") script 1000 (prints_and [] (halted (stopped rule origin_a [])))

-- behind these lines it leaves the language by a name, or a TypeError leaves it
abbrev pub Leaves : List Statement → List LabelledLine → List ℕ → Type 0
Leaves script lines name = GivesBy (all_set tables) (codes "1") script 1000 (prints_and lines (halted (as_plain (left name))))

abbrev pub ThrowsTypeError : List Statement → List LabelledLine → Type 0
ThrowsTypeError script lines = GivesBy (all_set tables) (codes "1") script 1000 (prints_and lines (threw type_error_thrown))

-- the expression as a statement takes one turn more than this number: with so many it isn't done, whatever it has printed by then
pub record TakesOneMore (lines : List LabelledLine) (e : Expr) (n : ℕ) : Type 0 where
  pub enough : GivesBy (all_set tables) (codes "1") (does e ∷ []) (suc n) (prints_and lines done)
  pub missing : GivesBy (all_set tables) (codes "1") (does e ∷ []) n (prints_and lines (halted (as_plain out_of_turns)))

abbrev pub Takes : Expr → ℕ → Type 0
Takes e n = TakesOneMore [] e n

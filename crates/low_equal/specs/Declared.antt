-- A labelled run speaks of origins alone that the policy declares.
use Rattle.std.specs.Prelude.{ℕ, ◌<◌, length}
use Rattle.std.specs.List.{All}
use Rattle.origin_labels.specs.Label.{Label}
use Rattle.flow_policy.specs.Policies.{Tables, IsPolicy}
use Rattle.flow_policy.specs.Inputs.{Given}
use Rattle.js_ast.specs.Trees.{Statements}
use Rattle.es_meaning.specs.BuiltIns.{BuiltIns}
use Rattle.es_meaning.specs.Outcomes.{Ending, done, threw, halted}
use Rattle.flow_meaning.specs.Scopes.{Halt, as_plain, stopped}
use Rattle.flow_meaning.specs.Tracked.{Run, tracked_run}

-- each origin of the label is one of so many that are declared
abbrev pub IsDeclared : ℕ → Label → Type 0
IsDeclared count label = All (λ origin. origin < count) label

-- where a rule stops the run, those of its need and its have are
abbrev pub EndsDeclared : ℕ → Ending Halt → Type 0
EndsDeclared count done = Unit {0}
EndsDeclared count (threw shown) = Unit {0}
EndsDeclared count (halted (as_plain halt)) = Unit {0}
EndsDeclared count (halted (stopped rule need have)) = IsDeclared count need × IsDeclared count have

-- and so are those of the recorded labels of its lines
pub record RunsDeclared (count : ℕ) (run : Run) : Type 0 where
  pub lines : All (λ l. IsDeclared count l.label) run.lines
  pub ending : EndsDeclared count run.ending

-- so it is with each run over a policy, whatever origins the built-ins of a set ask for
abbrev pub SpeaksOfDeclared : Type 0
SpeaksOfDeclared = (set : BuiltIns) (tables : Tables) (inputs : Given) (program : Statements) (turns : ℕ) → IsPolicy tables → RunsDeclared (length tables.origins) (tracked_run set tables inputs program turns)

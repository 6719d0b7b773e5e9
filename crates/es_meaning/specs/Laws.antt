-- What the unlabelled meaning promises.
use Rattle.std.specs.Prelude.{◌≡◌, ℕ, ◌≤◌}
use Rattle.flow_policy.specs.Policies.{Tables}
use Rattle.flow_policy.specs.Inputs.{Given}
use Rattle.js_ast.specs.Trees.{Statements}
use Rattle.es_meaning.specs.BuiltIns.{BuiltIns}
use Rattle.es_meaning.specs.Outcomes.{out_of_turns, halted}
use Rattle.es_meaning.specs.Plain.{plain_run}

-- more turns change no run that ends otherwise than by their want
abbrev pub MoreTurns : Type 0
MoreTurns = (set : BuiltIns) (tables : Tables) (inputs : Given) (program : Statements) (few many : ℕ) → few ≤ many
    → ((plain_run set tables inputs program few).ending ≡ halted out_of_turns → ⊥) → plain_run set tables inputs program many ≡ plain_run set tables inputs program few

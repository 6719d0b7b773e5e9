-- What the labelled meaning promises.
use Rattle.std.specs.Prelude.{◌≡◌, ℕ, suc, ◌≤◌}
use Rattle.flow_policy.specs.Policies.{Tables}
use Rattle.flow_policy.specs.Inputs.{Given}
use Rattle.std.specs.Prelude.{List}
use Rattle.js_ast.specs.Trees.{Statements}
use Rattle.js_ast.specs.Functions.{FunctionCode}
use Rattle.es_meaning.specs.BuiltIns.{BuiltIns}
use Rattle.es_meaning.specs.Outcomes.{done, threw, halted, out_of_turns, Goes, Jumps, Ends}
use Rattle.es_meaning.specs.Start.{shown}
use Rattle.flow_meaning.specs.Erased.{erased_heap}
use Rattle.flow_meaning.specs.Scopes.{as_plain, State}
use Rattle.flow_meaning.specs.Tracked.{Run, tracked_run}
use Rattle.flow_meaning.specs.Planned.{Part, Ran, plan, perform, meaning, program_meaning}

-- more turns change no run that ends otherwise than by their want
abbrev pub MoreTurns : Type 0
MoreTurns = (set : BuiltIns) (tables : Tables) (inputs : Given) (program : Statements) (few many : ℕ) → few ≤ many
    → ((tracked_run set tables inputs program few).ending ≡ halted (as_plain out_of_turns) → ⊥) → tracked_run set tables inputs program many ≡ tracked_run set tables inputs program few

-- the lines and the ending of a run that was performed
abbrev pub performed_run : Ran → Run
performed_run (Goes v s) = record { lines = s.lines; ending = done }
performed_run (Jumps j s) = record { lines = s.lines; ending = threw (shown (erased_heap s.heap) j.value.value) }
performed_run (Ends halt s) = record { lines = s.lines; ending = halted halt }

-- plans: with a turn left, the meaning of a part is its plan, performed with the meaning of the parts that it asks for; with none the run ends.
-- What a program does is its plan, performed
pub record IsPerformed : Type 0 where
  pub none_left : (tables : Tables) (inputs : Given) (set : BuiltIns) (functions : List FunctionCode) (part : Part) (s : State) → meaning tables inputs set functions part (record s { turns = 0 }) ≡ Ends (as_plain out_of_turns) (record s { turns = 0 })
  pub some_left : (tables : Tables) (inputs : Given) (set : BuiltIns) (functions : List FunctionCode) (part : Part) (s : State) (turns : ℕ)
      → meaning tables inputs set functions part (record s { turns = suc turns }) ≡ perform (meaning tables inputs set functions) (plan tables inputs set functions part (record s { turns = turns }))
  pub programs : (set : BuiltIns) (tables : Tables) (inputs : Given) (program : Statements) (turns : ℕ) → performed_run (program_meaning set tables inputs program turns) ≡ tracked_run set tables inputs program turns

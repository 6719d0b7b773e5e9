-- The states of built-ins, and what is left of the steps of each.
use Rattle.std.specs.Prelude.{ℕ, List, [], ◌∷◌, map, codes}
use Rattle.native_protocol.specs.declared.request.Answer.{Answer}
use Rattle.native_protocol.specs.declared.request.Request.{Request}
use Rattle.native_protocol.specs.declared.request.Request.TheVariants.{Leave}
use Rattle.native_protocol.specs.Pieces.{whole_after, whole_asks}
use Rattle.native_protocol.specs.Steps.{Steps, ends}
use Rattle.es_meaning.specs.BuiltIns.{steps_behind, steps_from}
use Rattle.step_natives.specs.declared.state.Accessor.{Accessor}
use Rattle.step_natives.specs.declared.state.Accessor.TheVariants as accessor
use Rattle.step_natives.specs.declared.state.NativeState.{NativeState}
use Rattle.step_natives.specs.declared.state.NativeState.TheVariants as state

-- the states, the outermost first, and the answer that the last of them is told next, if it runs
pub record States (S : Type 0) : Type 0 where
  pub states : List (NativeState S)
  pub answer : Answer

-- the name by which an accessor leaves the language, and a built-in that the set doesn't have
abbrev pub accessor_name : Accessor → List ℕ
accessor_name accessor.Caller = codes "caller"
accessor_name accessor.Arguments = codes "arguments"
accessor_name accessor.Callee = codes "callee"
accessor_name accessor.Unknown = []

-- what is left of the steps of the last is what is left of them behind an answer
abbrev pub told : Answer → List Steps → List Steps
told answer [] = []
told answer (steps ∷ []) = steps_behind steps answer ∷ []
told answer (steps ∷ more ∷ others) = steps ∷ told answer (more ∷ others)

-- the state behind an answer, and what a state asks for
abbrev pub state_after : {S : Type 0} → (S → Answer → S) → NativeState S → Answer → NativeState S
state_after after (state.Set s) answer = state.Set (after s answer)
state_after after (state.Conversion d) answer = state.Conversion (whole_after d answer)
state_after after (state.Leaves which) answer = state.Leaves which

abbrev pub state_asks : {S : Type 0} → (S → Request) → NativeState S → Request
state_asks asks (state.Set s) = asks s
state_asks asks (state.Conversion d) = whole_asks d
state_asks asks (state.Leaves which) = Leave (accessor_name which)

module _ {S : Type 0} (after : S → Answer → S) (asks : S → Request) where
  -- what is left of the steps of a built-in in a state, as a function of the answers from the one on that it waits for
  abbrev pub steps_of : NativeState S → Steps
  steps_of (state.Set s) = steps_from after asks s
  steps_of (state.Conversion d) = steps_from whole_after whole_asks d
  steps_of (state.Leaves which) = ends (Leave (accessor_name which))

  -- where all wait, and where the last of them runs, which is told the answer next
  unfoldable pub waiting_steps : States S → List Steps
  waiting_steps natives = map steps_of natives.states

  unfoldable pub running_steps : States S → List Steps
  running_steps natives = told natives.answer (waiting_steps natives)

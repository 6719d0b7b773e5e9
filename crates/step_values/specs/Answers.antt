-- What an operator answers, and what a run comes to by it.
use Rattle.std.specs.Prelude.{◌≡◌, Result, Ok, Err}
use Rattle.flow_frames.specs.declared.faults.FlowFault.{FlowFault}
use Rattle.flow_frames.specs.declared.faults.FlowFault.TheVariants as fault
use Rattle.js_number.specs.declared.primitive.Primitive.{Primitive}
use Rattle.js_number.specs.declared.sum.AddFault.{AddFault}
use Rattle.js_number.specs.declared.sum.AddFault.TheVariants as faults
use Rattle.js_values.specs.declared.value.Value.TheVariants as value
use Rattle.js_values.specs.declared.value.Labelled.{Labelled}
use Rattle.es_meaning.specs.Operators.{Given}
use Rattle.run_state.specs.declared.outcome.Outcome.{Outcome}
use Rattle.run_state.specs.declared.outcome.Outcome.TheVariants as outcome
use Rattle.run_state.specs.declared.outcome.Leaving.TheVariants as leaving
use Rattle.run_state.specs.Names.{leaving_name}
use Rattle.step_values.specs.declared.refusal.Refusal.{Refusal}
use Rattle.step_values.specs.declared.refusal.Refusal.TheVariants as refusal

-- a value is the one that is given, and a run leaves by the name that is given. Want of memory says nothing
abbrev pub Answers : Result Primitive Refusal → Given → Type 0
Answers (Ok v) given = given ≡ Ok v
Answers (Err (refusal.Leaves why)) given = given ≡ Err (leaving_name why)
Answers (Err refusal.OutOfMemory) given = Unit {0}

-- what there is no sum for
abbrev pub refusal_of : AddFault → Refusal
refusal_of faults.LeftNumbers = refusal.Leaves leaving.Number
refusal_of faults.LeftString = refusal.Leaves leaving.String
refusal_of faults.OutOfMemory = refusal.OutOfMemory

-- what a run comes to by an answer: the value has this label
abbrev pub came_of : {T : Type 0} → T → Result Primitive Refusal → Result (Outcome (Labelled T) T) (FlowFault T)
came_of label (Ok v) = Ok (outcome.Goes (record { value = value.Primitive v; label = label }))
came_of label (Err (refusal.Leaves why)) = Ok (outcome.Leaves why)
came_of label (Err refusal.OutOfMemory) = Err fault.OutOfMemory

-- What calls on channels and their labels answer, in the labels of a store.
use Rattle.std.specs.Prelude.{◌≡◌, ℕ, Bool, false, List, [], ◌∷◌, ◌++◌, Option, Some, None, Result, Ok, Err}
use Rattle.origin_labels.specs.Label.{Label, within}
use Rattle.flow_policy.specs.Policies.{Tables}
use Rattle.flow_frames.specs.declared.faults.Rule.{Rule}
use Rattle.flow_frames.specs.declared.faults.FlowStop.{FlowStop}
use Rattle.flow_frames.specs.declared.faults.FlowFault.{FlowFault}
use Rattle.js_number.specs.declared.primitive.Primitive.TheVariants.{Str}
use Rattle.js_values.specs.declared.value.Value.{Value}
use Rattle.js_values.specs.declared.value.Value.TheVariants as value
use Rattle.js_values.specs.Readings.{IsReading}
use Rattle.es_meaning.specs.Plain.{undefined, channel_name}
use Rattle.flow_meaning.specs.Scopes.{Val, LabelledLine, L}
use Rattle.run_state.specs.declared.outcome.Outcome.{Outcome}
use Rattle.run_state.specs.declared.outcome.Outcome.TheVariants as outcome
use Rattle.run_state.specs.declared.world.World.{World}
use Rattle.run_state.specs.Worlds.{state_of}
use Rattle.run_state.specs.Acts.{Says}
use Rattle.channel_requests.specs.declared.printing.Printed.{Printed}

-- ---- labels

-- a label that the store made, which means this in each reading that agrees with it
pub record Means {S T : Type 0} (made : S → T → Type 0) (meaning : S → T → Label) (store : S) (label : T) (means : (T → Label) → Label) : Type 0 where
  pub belongs : made store label
  pub is : (reading : T → Label) → IsReading made meaning store reading → reading label ≡ means reading

-- a flow rule was asked, with this answer: its need and its have are labels of the store, which mean these
pub record Asks {S T : Type 0} (made : S → T → Type 0) (meaning : S → T → Label) (store : S) (needed had : (T → Label) → Label) (answer : Bool) (need have : T) : Type 0 where
  pub needs : Means made meaning store need needed
  pub has : Means made meaning store have had
  pub included : (reading : T → Label) → IsReading made meaning store reading → within (needed reading) (had reading) ≡ answer

-- a rule stops the run
pub record Stops {S T : Type 0} (made : S → T → Type 0) (meaning : S → T → Label) (store : S) (asked : Rule) (needed had : (T → Label) → Label) (stop : FlowStop T) : Type 0 where
  pub rule : stop.rule ≡ asked
  pub asks : Asks made meaning store needed had false stop.need stop.have

-- ---- printed lines

-- the text that a value is, if it is one
abbrev pub text_in : Value → Option (List ℕ)
text_in (value.Primitive (Str text)) = Some text
text_in _ = None

-- what printing gives
abbrev pub read_printed : {T : Type 0} → (T → Label) → Printed T → Val
read_printed reading p = record { value = undefined; label = reading p.label }

-- the line that it prints
abbrev pub line_of : {T : Type 0} → Tables → (T → Label) → Printed T → LabelledLine
line_of tables reading p = record { line = record { channel = channel_name tables.outputs p.channel; text = p.text }; label = reading p.need }

-- the lines behind the call, where these were printed before
abbrev pub lines_behind : {T : Type 0} → Tables → (T → Label) → List LabelledLine → Result (Outcome (Printed T) T) (FlowFault T) → List LabelledLine
lines_behind tables reading told (Ok (outcome.Goes p)) = told ++ line_of tables reading p ∷ []
lines_behind tables reading told (Ok (outcome.Throws v)) = told
lines_behind tables reading told (Ok (outcome.Leaves why)) = told
lines_behind tables reading told (Err fault) = told

-- a call does an act that prints, in each reading that agrees with the store, whatever was printed before and however many turns are left
pub record Prints {S T : Type 0} (made : S → T → Type 0) (meaning : S → T → Label) (store : S) (tables : Tables) (act : (T → Label) → L Val) (w : World T) (result : Result (Outcome (Printed T) T) (FlowFault T)) : Type 0 where
  pub says : (reading : T → Label) → IsReading made meaning store reading → (told : List LabelledLine) (turns : ℕ) → Says (read_printed reading) reading (act reading (state_of reading w told turns)) (state_of reading w (lines_behind tables reading told result) turns) result

-- the labels of a printed line are of the store
pub record HasPrinted {T : Type 0} (made : T → Type 0) (p : Printed T) : Type 0 where
  pub need : made p.need
  pub label : made p.label

-- a fact for the line that is printed, if one is
abbrev pub IfPrinted : {T : Type 0} → (Printed T → Type 0) → Outcome (Printed T) T → Type 0
IfPrinted P (outcome.Goes p) = P p
IfPrinted P (outcome.Throws v) = Unit {0}
IfPrinted P (outcome.Leaves why) = Unit {0}

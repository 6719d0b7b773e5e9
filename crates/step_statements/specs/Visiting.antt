-- What it means that the keys of a `for in` are laid on a stack, and that they are looked at.
use Rattle.std.specs.Prelude.{◌≡◌, ◌-◌, ℕ, Bool, true, false, List, length, map, take, reverse, Ok, Err}
use Rattle.origin_labels.specs.Label.{Label}
use Rattle.flow_policy.specs.Policies.{Tables}
use Rattle.flow_policy.specs.Inputs.{Given}
use Rattle.js_ast.specs.Functions.{FunctionCode}
use Rattle.es_meaning.specs.BuiltIns.{BuiltIns}
use Rattle.js_number.specs.declared.primitive.Primitive.TheVariants.{Str}
use Rattle.js_values.specs.declared.value.Labelled.{Labelled}
use Rattle.js_values.specs.declared.value.Value.TheVariants as value
use Rattle.js_values.specs.Readings.{IsReading, read_value}
use Rattle.flow_meaning.specs.Scopes.{LabelledLine, State}
use Rattle.flow_meaning.specs.Planned.{Plan}
use Rattle.run_state.specs.declared.world.World.{World}
use Rattle.run_state.specs.Worlds.{state_of}
use Rattle.continuations.specs.declared.continuation.Enumeration.{Enumeration}
use Rattle.continuations.specs.declared.continuation.Control.{Control}
use Rattle.continuations.specs.declared.continuation.Control.TheVariants as control
use Rattle.flow_frames.specs.declared.faults.FlowFault.{FlowFault}
use Rattle.continuations.specs.Kept.{Kept}
use Rattle.continuations.specs.Settings.{Setting}
use Rattle.continuations.specs.Pending.{next_plan}
use Rattle.continuations.specs.Moving.{BeginsWith}
use Rattle.step_statements.specs.declared.visits.Look.{Look}
use Rattle.step_statements.specs.declared.visits.Look.TheVariants as look

-- keys as texts with this label, the last undermost
abbrev pub laid_keys : {T : Type 0} → T → List (List ℕ) → List (Labelled T)
laid_keys none keys = map (λ key. record { value = value.Primitive (Str key); label = none }) (reverse keys)

module _ {T : Type 0} where
  -- the plan of so many keys that are left, with the object below them
  abbrev pub visits_of : Enumeration → ℕ → List (Labelled T) → Tables → Given → BuiltIns → List FunctionCode → (T → Label) → Setting → State → Plan
  visits_of x count loose tables inputs set functions reading e s = next_plan tables inputs set functions (control.Visits x count) (map (read_value reading) loose) e s

  -- in each reading that agrees with the store the keys that are left now are visited as those that were left
  abbrev pub VisitsAlike : {S : Type 0} → (S → T → Type 0) → (S → T → Label) → S → Enumeration → ℕ → List (Labelled T) → World T → ℕ → List (Labelled T) → World T → Type 0
  VisitsAlike made meaning store x count loose world count_now loose_now world_now = (tables : Tables) (inputs : Given) (set : BuiltIns) (functions : List FunctionCode) (reading : T → Label) (e : Setting) (told : List LabelledLine) (turns : ℕ) → IsReading made meaning store reading
      → visits_of x count loose tables inputs set functions reading e (state_of reading world told turns) ≡ visits_of x count_now loose_now tables inputs set functions reading e (state_of reading world_now told turns)

  -- a key was looked at: the machine goes on so, or the key is gone and lies there no more
  abbrev pub Looked : {S : Type 0} → (S → T → Type 0) → (S → T → Label) → S → Enumeration → ℕ → Kept T → Kept T → World T → World T → Look → Type 0
  Looked made meaning store x count old new world_old world_new (look.Goes move) = BeginsWith made meaning store (visits_of x count old.loose) old new world_old world_new (Ok move)
  Looked made meaning store x count old new world_old world_new look.Gone = (new ≡ record { tasks = old.tasks; loose = take count old.loose }) × VisitsAlike made meaning store x count old.loose world_old (count - 1) new.loose world_new

  -- what it comes to that a key is still there or not
  abbrev pub Sees : Enumeration → ℕ → Kept T → Kept T → Bool → Look → Type 0
  Sees x count old new true (look.Goes move) = (move ≡ control.Visit x (count - 1)) × (new ≡ old)
  Sees x count old new false look.Gone = (new.tasks ≡ old.tasks) × (new.loose ≡ take (length old.loose - 1) old.loose)
  Sees x count old new _ _ = ⊥

  -- a fault of a look is one of the plan
  abbrev pub Fails : {S : Type 0} → (S → T → Type 0) → (S → T → Label) → S → Enumeration → ℕ → Kept T → Kept T → World T → World T → FlowFault T → Type 0
  Fails made meaning store x count old new world_old world_new f = BeginsWith made meaning store (visits_of x count old.loose) old new world_old world_new (Err f)

-- of a look with which the machine goes on
abbrev pub IfGoes : (Control → Type 0) → Look → Type 0
IfGoes P (look.Goes move) = P move
IfGoes P look.Gone = Unit {0}

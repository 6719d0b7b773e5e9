-- What it means that a call goes on as pending work says.
use Rattle.std.specs.Prelude.{◌≡◌, ℕ, ◌+◌, ◌-◌, ◌≤◌, Bool, List, [], ◌∷◌, ◌++◌, length, map, take, drop}
use Rattle.origin_labels.specs.Label.{Label}
use Rattle.flow_policy.specs.Policies.{Tables}
use Rattle.flow_policy.specs.Inputs.{Given}
use Rattle.js_ast.specs.Functions.{FunctionCode}
use Rattle.es_meaning.specs.BuiltIns.{BuiltIns}
use Rattle.js_values.specs.declared.value.Labelled.{Labelled}
use Rattle.flow_frames.specs.Held.{Held, seen_frame}
use Rattle.js_values.specs.Readings.{IsReading, read_value}
use Rattle.continuations.specs.Settings.{Setting}
use Rattle.es_meaning.specs.Operators.{truth}
use Rattle.es_meaning.specs.Plain.{undefined, choose}
use Rattle.flow_meaning.specs.Erased.{unlabelled}
use Rattle.flow_frames.specs.declared.kind.Kind.TheVariants as Kind
use Rattle.flow_meaning.specs.Scopes.{Val, State, pushed_on}
use Rattle.flow_meaning.specs.Planned.{gave, jumped, Plan, and_plan, end_branch}
use Rattle.continuations.specs.declared.continuation.Continuation.{Continuation}
use Rattle.continuations.specs.declared.continuation.Jump.{Jump}
use Rattle.continuations.specs.declared.continuation.Control.{Control}
use Rattle.continuations.specs.declared.continuation.Control.TheVariants as moves
use Rattle.continuations.specs.Kept.{Kept, scopes_of, waiting, kept_operands, operands_of}
use Rattle.continuations.specs.Shapes.{jump_of}
use Rattle.continuations.specs.Pending.{setting_above, after, next_plan, behind, values_of, result_type}

module _ {T : Type 0} where
  -- what is done next, and behind it the pending work
  abbrev pub coming : Tables → Given → BuiltIns → List FunctionCode → (T → Label) → Kept T → Control → Setting → State → Plan
  coming tables inputs set functions reading stack next e s = behind tables inputs set functions reading stack.tasks e (next_plan tables inputs set functions next (map (read_value reading) stack.loose) (setting_above stack.tasks e) s)

  -- it comes to what work that keeps no operand says of the value that it waited for
  abbrev pub Resumes : Continuation → Kept T → Kept T → Control → Type 0
  Resumes w old new next = (tables : Tables) (inputs : Given) (set : BuiltIns) (functions : List FunctionCode) (reading : T → Label) (e : Setting) (s : State) (value : Labelled T) → old.loose ≡ value ∷ []
      → coming tables inputs set functions reading new next e s ≡ behind tables inputs set functions reading old.tasks e (after tables inputs set functions w [] (setting_above old.tasks e) (gave (read_value reading value)) s)

  -- and what work says that keeps one operand, which lies below
  abbrev pub ResumesBeside : Continuation → Kept T → Kept T → Control → Type 0
  ResumesBeside w old new next = (tables : Tables) (inputs : Given) (set : BuiltIns) (functions : List FunctionCode) (reading : T → Label) (e : Setting) (s : State) (operand value : Labelled T) → old.loose ≡ operand ∷ (value ∷ [])
      → coming tables inputs set functions reading new next e s ≡ behind tables inputs set functions reading old.tasks e (after tables inputs set functions w (read_value reading operand ∷ []) (setting_above old.tasks e) (gave (read_value reading value)) s)

  -- what work says that waited for the end of a part
  abbrev pub ResumesDone : Continuation → Kept T → Kept T → Control → Type 0
  ResumesDone w old new next = (tables : Tables) (inputs : Given) (set : BuiltIns) (functions : List FunctionCode) (reading : T → Label) (e : Setting) (s : State) → old.loose ≡ []
      → coming tables inputs set functions reading new next e s ≡ behind tables inputs set functions reading old.tasks e (after tables inputs set functions w [] (setting_above old.tasks e) (gave (unlabelled undefined)) s)

  -- it comes to what a plan says
  abbrev pub Begins : (Tables → Given → BuiltIns → List FunctionCode → Setting → State → Plan) → Kept T → Kept T → Control → Type 0
  Begins plan old new next = (tables : Tables) (inputs : Given) (set : BuiltIns) (functions : List FunctionCode) (reading : T → Label) (e : Setting) (s : State) → old.loose ≡ []
      → coming tables inputs set functions reading new next e s ≡ behind tables inputs set functions reading old.tasks e (plan tables inputs set functions (setting_above old.tasks e) s)

  -- what the evaluation of further arguments says, before which these values lie loose
  abbrev pub BeginsBehind : (Tables → Given → BuiltIns → List FunctionCode → List Val → Setting → State → Plan) → Kept T → Kept T → Control → Type 0
  BeginsBehind plan old new next = (tables : Tables) (inputs : Given) (set : BuiltIns) (functions : List FunctionCode) (reading : T → Label) (e : Setting) (s : State)
      → coming tables inputs set functions reading new next e s ≡ behind tables inputs set functions reading old.tasks e (plan tables inputs set functions (map (read_value reading) old.loose) (setting_above old.tasks e) s)

  -- what an argument's work says, which keeps those before it
  abbrev pub ResumesBehind : Continuation → Kept T → Kept T → Control → Type 0
  ResumesBehind w old new next = (tables : Tables) (inputs : Given) (set : BuiltIns) (functions : List FunctionCode) (reading : T → Label) (e : Setting) (s : State) (kept : List (Labelled T)) (value : Labelled T) → old.loose ≡ kept ++ value ∷ []
      → coming tables inputs set functions reading new next e s ≡ behind tables inputs set functions reading old.tasks e (after tables inputs set functions w (map (read_value reading) kept) (setting_above old.tasks e) (gave (read_value reading value)) s)

  -- what work says that keeps operands and waited for the end of a part
  abbrev pub ResumesDoneBehind : Continuation → Kept T → Kept T → Control → Type 0
  ResumesDoneBehind w old new next = (tables : Tables) (inputs : Given) (set : BuiltIns) (functions : List FunctionCode) (reading : T → Label) (e : Setting) (s : State)
      → coming tables inputs set functions reading new next e s ≡ behind tables inputs set functions reading old.tasks e (after tables inputs set functions w (map (read_value reading) old.loose) (setting_above old.tasks e) (gave (unlabelled undefined)) s)

  -- what a call leaves: the values that its next move has, the scopes that were pending, the built-ins that wait, and the same operands and values
  pub record Keeps (old new : Kept T) (next : Control) : Type 0 where
    pub values : length new.loose ≡ values_of next
    pub scopes : scopes_of new.tasks ≡ scopes_of old.tasks
    pub natives : waiting new.tasks ≡ waiting old.tasks
    pub operands : operands_of new ≡ operands_of old

  -- the state with these frames, as a reading has them
  abbrev pub with_frames : (T → Label) → List (Held T) → State → State
  with_frames reading frames s = record s { frames = map (seen_frame reading) frames }

  -- a call that changes frames comes to what a plan says, under each reading that agrees with the store
  abbrev pub BeginsIn : {S : Type 0} → (S → T → Type 0) → (S → T → Label) → S → (Tables → Given → BuiltIns → List FunctionCode → Setting → State → Plan) → Kept T → Kept T → List (Held T) → List (Held T) → Control → Type 0
  BeginsIn made meaning store plan old new frames_old frames_new next = (tables : Tables) (inputs : Given) (set : BuiltIns) (functions : List FunctionCode) (reading : T → Label) (e : Setting) (s : State) → IsReading made meaning store reading → old.loose ≡ []
      → coming tables inputs set functions reading new next e (with_frames reading frames_new s) ≡ behind tables inputs set functions reading old.tasks e (plan tables inputs set functions (setting_above old.tasks e) (with_frames reading frames_old s))

  -- and to what a plan says of the values that lie loose
  abbrev pub BeginsBeside : {S : Type 0} → (S → T → Type 0) → (S → T → Label) → S → (Tables → Given → BuiltIns → List FunctionCode → List Val → Setting → State → Plan) → Kept T → Kept T → List (Held T) → List (Held T) → Control → Type 0
  BeginsBeside made meaning store plan old new frames_old frames_new next = (tables : Tables) (inputs : Given) (set : BuiltIns) (functions : List FunctionCode) (reading : T → Label) (e : Setting) (s : State) → IsReading made meaning store reading
      → coming tables inputs set functions reading new next e (with_frames reading frames_new s) ≡ behind tables inputs set functions reading old.tasks e (plan tables inputs set functions (map (read_value reading) old.loose) (setting_above old.tasks e) (with_frames reading frames_old s))

  -- a call that changes frames comes to what work says that keeps no operand of the value that it waited for
  abbrev pub ResumesIn : {S : Type 0} → (S → T → Type 0) → (S → T → Label) → S → Continuation → Kept T → Kept T → List (Held T) → List (Held T) → Control → Type 0
  ResumesIn made meaning store w old new frames_old frames_new next = (tables : Tables) (inputs : Given) (set : BuiltIns) (functions : List FunctionCode) (reading : T → Label) (e : Setting) (s : State) (value : Labelled T) → IsReading made meaning store reading → old.loose ≡ value ∷ []
      → coming tables inputs set functions reading new next e (with_frames reading frames_new s) ≡ behind tables inputs set functions reading old.tasks e (after tables inputs set functions w [] (setting_above old.tasks e) (gave (read_value reading value)) (with_frames reading frames_old s))

  -- and of the end of a part
  abbrev pub ResumesDoneIn : {S : Type 0} → (S → T → Type 0) → (S → T → Label) → S → Continuation → Kept T → Kept T → List (Held T) → List (Held T) → Control → Type 0
  ResumesDoneIn made meaning store w old new frames_old frames_new next = (tables : Tables) (inputs : Given) (set : BuiltIns) (functions : List FunctionCode) (reading : T → Label) (e : Setting) (s : State) → IsReading made meaning store reading → old.loose ≡ []
      → coming tables inputs set functions reading new next e (with_frames reading frames_new s) ≡ behind tables inputs set functions reading old.tasks e (after tables inputs set functions w [] (setting_above old.tasks e) (gave (unlabelled undefined)) (with_frames reading frames_old s))

  -- a value chose one of two parts, which is done in a frame of its own; it is still there for a part that gives it
  abbrev pub Forks : {S : Type 0} → (S → T → Type 0) → (S → T → Label) → S → Bool → (Tables → Given → BuiltIns → List FunctionCode → Val → Setting → State → Plan) → (Tables → Given → BuiltIns → List FunctionCode → Val → Setting → State → Plan) → Kept T → Kept T → List (Held T) → List (Held T) → Control → Type 0
  Forks made meaning store gives then other old new frames_old frames_new next = (tables : Tables) (inputs : Given) (set : BuiltIns) (functions : List FunctionCode) (reading : T → Label) (e : Setting) (s : State) (value : Labelled T) → IsReading made meaning store reading → old.loose ≡ value ∷ []
      → coming tables inputs set functions reading new next e (with_frames reading frames_new s) ≡ behind tables inputs set functions reading old.tasks e (and_plan (choose (truth value.value) (then tables inputs set functions (read_value reading value) (setting_above old.tasks e)) (other tables inputs set functions (read_value reading value) (setting_above old.tasks e)) (pushed_on Kind.Branch (reading value.label) (with_frames reading frames_old s))) (end_branch (result_type gives) (length (map (seen_frame reading) frames_old))))

  -- what a call leaves that opened a frame: the values that its next move has, one more pending scope, which is the frame's, and a front of the operands
  pub record Opened (old new : Kept T) (frames_old frames_new : List (Held T)) (next : Control) : Type 0 where
    pub values : length new.loose ≡ values_of next
    pub scopes : scopes_of new.tasks ≡ scopes_of old.tasks ++ length frames_old ∷ []
    pub natives : waiting new.tasks ≡ waiting old.tasks
    pub deeper : length frames_new ≡ length frames_old + 1
    pub operands : operands_of new ≡ take (length (operands_of new)) (operands_of old)

  -- and one that closed a frame, whose pending scope was taken before
  pub record Closed (old new : Kept T) (frames_old frames_new : List (Held T)) (next : Control) : Type 0 where
    pub values : length new.loose ≡ values_of next
    pub tasks : new.tasks ≡ old.tasks
    pub shallower : length frames_new + 1 ≡ length frames_old

  -- a jump comes to what work says of it, with the operands that it keeps
  abbrev pub Passes : Jump → Continuation → Kept T → Kept T → Control → Type 0
  Passes j w old new next = (tables : Tables) (inputs : Given) (set : BuiltIns) (functions : List FunctionCode) (reading : T → Label) (e : Setting) (s : State) (kept : List (Labelled T)) (value : Labelled T) → old.loose ≡ kept ++ value ∷ []
      → coming tables inputs set functions reading new next e s ≡ behind tables inputs set functions reading old.tasks e (after tables inputs set functions w (map (read_value reading) kept) (setting_above old.tasks e) (jumped (jump_of j (read_value reading value))) s)

  -- and what the end of a scope says of it, which keeps no operand, under each reading that agrees with the store
  abbrev pub PassesIn : {S : Type 0} → (S → T → Type 0) → (S → T → Label) → S → Jump → Continuation → Kept T → Kept T → List (Held T) → List (Held T) → Control → Type 0
  PassesIn made meaning store j w old new frames_old frames_new next = (tables : Tables) (inputs : Given) (set : BuiltIns) (functions : List FunctionCode) (reading : T → Label) (e : Setting) (s : State) (value : Labelled T) → IsReading made meaning store reading → old.loose ≡ value ∷ []
      → coming tables inputs set functions reading new next e (with_frames reading frames_new s) ≡ behind tables inputs set functions reading old.tasks e (after tables inputs set functions w [] (setting_above old.tasks e) (jumped (jump_of j (read_value reading value))) (with_frames reading frames_old s))

  -- what a jump leaves that passed work: it goes on with the uppermost value, above the operands of the work that still waits
  pub record Passed (j : Jump) (old new : Kept T) (next : Control) : Type 0 where
    pub jumps : next ≡ moves.Jumps j
    pub values : length new.loose ≡ values_of next
    pub tasks : new.tasks ≡ old.tasks
    pub operands : operands_of new ≡ kept_operands old.tasks ++ drop (length old.loose - 1) old.loose

  -- as many frames stand, or fewer, if a jump goes on that left some
  abbrev pub StandsAt : ℕ → List (Held T) → Control → Type 0
  StandsAt depth frames (moves.Jumps j) = length frames ≤ depth
  StandsAt depth frames _ = length frames ≡ depth

  -- what a jump leaves at the end of the scope that stands in the frame at a depth, whose pending scope was taken before
  pub record LeavesAt (depth : ℕ) (old new : Kept T) (frames_old frames_new : List (Held T)) (next : Control) : Type 0 where
    pub values : length new.loose ≡ values_of next
    pub tasks : new.tasks ≡ old.tasks
    pub fewer : length frames_new ≤ length frames_old
    pub stands : StandsAt depth frames_new next

-- Calls that begin what a plan says.
use Rattle.std.proofs.Common.{refl, sym, ap, subst, ◌∙◌, ◌≡◌, ℕ, Bool, List, [], ◌∷◌, ◌++◌, map, Result, Ok, Err}
use Rattle.std.specs.Result.{IsErrAnd}
use Rattle.origin_labels.specs.Label.{Label}
use Rattle.origin_labels.specs.Stores.{IsKept}
use Rattle.flow_policy.specs.Policies.{Tables}
use Rattle.flow_policy.specs.Inputs.{Given}
use Rattle.js_ast.specs.Functions.{FunctionCode}
use Rattle.flow_frames.specs.declared.faults.FlowFault.{FlowFault}
use Rattle.flow_frames.specs.declared.faults.FlowFault.TheVariants as fault
use Rattle.js_values.specs.declared.value.Labelled.{Labelled}
use Rattle.js_values.specs.Readings.{IsReading, read_heap, read_records, read_value}
use Rattle.js_values.proofs.ReadingLaws.{IsReading-earlier}
use Rattle.es_meaning.specs.BuiltIns.{BuiltIns}
use Rattle.es_meaning.specs.Operations.{Ty}
use Rattle.es_meaning.specs.Outcomes.{Outcome}
use Rattle.flow_meaning.specs.Scopes.{State, Val, Halt, Jump, L, LabelledLine, stopped}
use Rattle.flow_meaning.specs.Tracked.{Reference, resolved}
use Rattle.flow_meaning.specs.Planned.{gave, Plan, and_plan, enter_count, planned}
use Rattle.run_state.specs.declared.outcome.Outcome as machine
use Rattle.run_state.specs.declared.outcome.Outcome.TheVariants as outcomes
use Rattle.run_state.specs.declared.outcome.Named.{Named}
use Rattle.run_state.specs.declared.outcome.SetLength.{SetLength}
use Rattle.run_state.specs.declared.world.World.{World}
use Rattle.run_state.specs.Acts.{Acts, Says}
use Rattle.run_state.specs.Names.{reference_of}
use Rattle.run_state.specs.Worlds.{state_of}
use Rattle.continuations.specs.Arrays.{counts_from}
use Rattle.continuations.specs.Settings.{Setting, entrance}
use Rattle.continuations.specs.declared.continuation.Continuation.{Continuation}
use Rattle.continuations.specs.declared.continuation.Control.{Control}
use Rattle.continuations.specs.Kept.{Kept}
use Rattle.continuations.specs.Moving.{Moves, Planning, following}
use Rattle.continuations.specs.Pending.{Task, after, behind, next_plan, sets_length, setting_above, setting_inside}
use Rattle.continuations.specs.Resuming.{BeginsBehind, coming}
use Rattle.continuations.proofs.ArrayLaws.{length_begins}
use Rattle.continuations.proofs.Behind.{behind_more, setting_more}
use Rattle.continuations.proofs.Handed.{behind_end}
use Rattle.step_references.specs.declared.handing_on.Went.TheVariants as went
use Rattle.step_references.specs.Moving.{Begun, BegunAt, Comes, Doing, DoingAt, Handed, Parts, Resumed, ResumedAt}

-- ---- plans at a stack

module _ {T : Type 0} where
  -- another plan that is equal
  pub moves_as : (tables : Tables) (inputs : Given) (set : BuiltIns) (functions : List FunctionCode) (reading : T → Label) (stack : Kept T) (e : Setting) (s : State) (plan other : Plan) (result : Result Control (FlowFault T)) → plan ≡ other → Moves tables inputs set functions reading stack e s plan result → Moves tables inputs set functions reading stack e s other result
  moves_as tables inputs set functions reading stack e s plan other result same moves = subst (λ p. Moves tables inputs set functions reading stack e s p result) same moves

  -- behind one more work
  pub behind_one : (tables : Tables) (inputs : Given) (set : BuiltIns) (functions : List FunctionCode) (reading : T → Label) (old pushed : List (Task T)) (w : Continuation) (vs : List (Labelled T)) (e : Setting) (p : Setting → Plan) → pushed ≡ old ++ (w, vs) ∷ []
      → behind tables inputs set functions reading pushed e (p (setting_above pushed e)) ≡ behind tables inputs set functions reading old e (and_plan (p (setting_inside w (setting_above old e))) (after tables inputs set functions w (map (read_value reading) vs) (setting_above old e)))
  behind_one tables inputs set functions reading old pushed w vs e p is =
      ap (λ ts. behind tables inputs set functions reading ts e (p (setting_above ts e))) is
      ∙ ap (λ f. behind tables inputs set functions reading (old ++ (w, vs) ∷ []) e (p f)) (setting_more old (w, vs) e)
      ∙ behind_more tables inputs set functions reading old (w, vs) e (p (setting_inside w (setting_above old e)))

  -- a fault ends the run as the act's outcome does
  fault_moves : {X Y : Type 0} (read : X → Y) (tables : Tables) (inputs : Given) (set : BuiltIns) (functions : List FunctionCode) (reading : T → Label) (old new : Kept T) (e : Setting) (s : State) (outcome : Outcome Halt Jump Y State) (k : Y → State → Plan) (f : FlowFault T) → Says {X = X} read reading outcome s (Err f)
      → Moves tables inputs set functions reading new e s (behind tables inputs set functions reading old.tasks e (following outcome k)) (Err f)
  fault_moves read tables inputs set functions reading old new e s outcome k (fault.Stop stop) says =
      sym (behind_end tables inputs set functions reading old.tasks e (stopped stop.rule (reading stop.need) (reading stop.have)) s) ∙ ap (λ (o : Outcome Halt Jump _ State). behind tables inputs set functions reading old.tasks e (following o k)) (sym says)
  fault_moves read tables inputs set functions reading old new e s outcome k fault.OutOfMemory says = tt

  module _ {X Y : Type 0} (made : T → Type 0) (read : X → Y) (tables : Tables) (inputs : Given) (set : BuiltIns) (functions : List FunctionCode) (reading : T → Label) (e : Setting) (s : State) (outcome : Outcome Halt Jump Y State) (k : Y → State → Plan) where
    -- an act that doesn't go on: what follows is passed
    pub off_moves : (old new : Kept T) (answer : Result (machine.Outcome X T) (FlowFault T)) (move : Control) → Says read reading outcome s answer → Parts made old new answer (Ok (went.Off move))
        → coming tables inputs set functions reading new move e s ≡ behind tables inputs set functions reading old.tasks e (following outcome k)
    off_moves old new (Ok (outcomes.Goes x)) move says parts = absurd parts
    off_moves old new (Ok (outcomes.Throws v)) move says parts =
        ap (λ (n : Kept T). coming tables inputs set functions reading n move e s) parts.1
        ∙ ap (λ m. coming tables inputs set functions reading (record { tasks = old.tasks; loose = v ∷ [] }) m e s) parts.0
        ∙ ap (λ (o : Outcome Halt Jump Y State). behind tables inputs set functions reading old.tasks e (following o k)) (sym says)
    off_moves old new (Ok (outcomes.Leaves why)) move says parts =
        parts.goes_on tables inputs set functions reading e s refl
        ∙ ap (λ (o : Outcome Halt Jump Y State). behind tables inputs set functions reading old.tasks e (following o k)) (sym says)
    off_moves old new (Err f) move says parts = absurd parts

    failed_moves : (old between new : Kept T) (answer : Result (machine.Outcome X T) (FlowFault T)) (g : FlowFault T) → Says read reading outcome s answer → Parts made old between answer (Err g) → Moves tables inputs set functions reading new e s (behind tables inputs set functions reading old.tasks e (following outcome k)) (Err g)
    failed_moves old between new (Ok answer) g says parts = subst (λ (h : FlowFault T). Moves tables inputs set functions reading new e s (behind tables inputs set functions reading old.tasks e (following outcome k)) (Err h)) (sym parts) tt
    failed_moves old between new (Err f) g says parts = subst (λ (h : FlowFault T). Moves tables inputs set functions reading new e s (behind tables inputs set functions reading old.tasks e (following outcome k)) (Err h)) (sym parts) (fault_moves read tables inputs set functions reading old new e s outcome k f says)

    -- a `?` hands on the fault
    pub err_moves : (old between new : Kept T) (answer : Result (machine.Outcome X T) (FlowFault T)) (g : FlowFault T) (result : Result Control (FlowFault T)) → Says read reading outcome s answer → Parts made old between answer (Err g) → IsErrAnd result (λ h. h ≡ g)
        → Moves tables inputs set functions reading new e s (behind tables inputs set functions reading old.tasks e (following outcome k)) result
    err_moves old between new answer g (Ok x) says parts is = absurd is
    err_moves old between new answer g (Err h) says parts is = subst (λ (i : FlowFault T). Moves tables inputs set functions reading new e s (behind tables inputs set functions reading old.tasks e (following outcome k)) (Err i)) (sym is) (failed_moves old between new answer g says parts)

  -- ---- an act that went on

  pub on_is : {X : Type 0} (made : T → Type 0) (old new : Kept T) (answer : Result (machine.Outcome X T) (FlowFault T)) (y : X) → Parts made old new answer (Ok (went.On y)) → (answer ≡ Ok (outcomes.Goes y)) × (new ≡ old)
  on_is made old new (Ok (outcomes.Goes x)) y parts = (ap (λ (z : _). Ok (outcomes.Goes z)) parts.0, parts.1)
  on_is made old new (Ok (outcomes.Throws v)) y parts = absurd parts
  on_is made old new (Ok (outcomes.Leaves why)) y parts = absurd parts
  on_is made old new (Err f) y parts = absurd parts

  -- ---- answers that are handed on

  module _ {X Y : Type 0} {read : (T → Label) → X → Y} {k : Doing T Y} (made : T → Type 0) where
    -- what follows is done
    pub handed_on : {old new : Kept T} {answer : Result (machine.Outcome X T) (FlowFault T)} {move : Control} (middle : Kept T) (x : X) → Parts made old middle answer (Ok (went.On x))
        → ((tables : Tables) (inputs : Given) (set : BuiltIns) (functions : List FunctionCode) (reading : T → Label) (e : Setting) (s : State) → coming tables inputs set functions reading new move e s ≡ behind tables inputs set functions reading middle.tasks e (k tables inputs set functions reading (read reading x) s))
        → Handed read k old new answer (Ok move)
    handed_on {old} {new} {answer} {move} middle x parts goes = record {
      hands = λ tables inputs set functions reading e s outcome says.
          let is = on_is made old middle answer x parts in
          let went = subst (λ a. Says (read reading) reading outcome s a) is.0 says in
          goes tables inputs set functions reading e s
          ∙ ap (λ (m : Kept T). behind tables inputs set functions reading m.tasks e (k tables inputs set functions reading (read reading x) s)) is.1
          ∙ ap (λ (o : Outcome Halt Jump Y State). behind tables inputs set functions reading old.tasks e (following o (k tables inputs set functions reading))) (sym went);
    }

    pub handed_off : {old new : Kept T} {answer : Result (machine.Outcome X T) (FlowFault T)} {move : Control} → Parts made old new answer (Ok (went.Off move)) → Handed read k old new answer (Ok move)
    handed_off {old} {new} {answer} {move} parts = record {
      hands = λ tables inputs set functions reading e s outcome says. off_moves made (read reading) tables inputs set functions reading e s outcome (k tables inputs set functions reading) old new answer move says parts;
    }

    pub handed_err : {old new : Kept T} {answer : Result (machine.Outcome X T) (FlowFault T)} {result : Result Control (FlowFault T)} (between : Kept T) (g : FlowFault T) → Parts made old between answer (Err g) → IsErrAnd result (λ h. h ≡ g) → Handed read k old new answer result
    handed_err {old} {new} {answer} {result} between g parts failed = record {
      hands = λ tables inputs set functions reading e s outcome says. err_moves made (read reading) tables inputs set functions reading e s outcome (k tables inputs set functions reading) old between new answer g result says parts failed;
    }

-- ---- calls: without the run's state

-- a plan is an act and what follows it
abbrev pub IsFollowed : {S T Y : Type 0} → (S → T → Type 0) → (S → T → Label) → S → ((T → Label) → L Y) → DoingAt T Y → Planning T → Type 0
IsFollowed made meaning store act k plan = (tables : Tables) (inputs : Given) (set : BuiltIns) (functions : List FunctionCode) (reading : _ → Label) (f : Setting) (s : State) → IsReading made meaning store reading → following (act reading s) (k tables inputs set functions reading f) ≡ plan tables inputs set functions reading f s

-- where it goes on, the rest's plan is the whole
on_plan : {S T X Y : Type 0} (made : S → T → Type 0) (meaning : S → T → Label) (store : S) (plan : Planning T) (old : Kept T) (read : (T → Label) → X → Y) (act : (T → Label) → L Y) (world_old world_new : World T) (answer : Result (machine.Outcome X T) (FlowFault T)) (k : DoingAt T Y)
    → Acts made meaning store read act world_old world_new answer → IsFollowed made meaning store act k plan → (room : S → ℕ) (firm : S → Bool) (later : S) → IsKept made meaning room firm store later → (has : T → Type 0) (middle between : Kept T) (x : X) → Parts has middle between answer (Ok (went.On x)) → middle.tasks ≡ old.tasks
    → (tables : Tables) (inputs : Given) (set : BuiltIns) (functions : List FunctionCode) (reading : T → Label) (e : Setting) (told : List LabelledLine) (turns : ℕ) → IsReading made meaning later reading
    → behind tables inputs set functions reading between.tasks e (k tables inputs set functions reading (setting_above between.tasks e) (read reading x) (state_of reading world_new told turns))
    ≡ behind tables inputs set functions reading old.tasks e (plan tables inputs set functions reading (setting_above old.tasks e) (state_of reading world_old told turns))
on_plan made meaning store plan old read act world_old world_new answer k acts same room firm later kept has middle between x parts tasks tables inputs set functions reading e told turns is =
    let s = state_of reading world_old told turns in
    let t = state_of reading world_new told turns in
    let f = setting_above old.tasks e in
    let earlier = IsReading-earlier made meaning room firm store later reading kept is in
    let went = on_is has middle between answer x parts in
    let came = subst (λ a. Says (read reading) reading (act reading s) t a) went.0 (acts.says reading earlier told turns) in
    ap (λ ts. behind tables inputs set functions reading ts e (k tables inputs set functions reading (setting_above ts e) (read reading x) t)) (ap (λ (m : Kept _). m.tasks) went.1 ∙ tasks)
    ∙ ap (λ (o : Outcome Halt Jump _ State). behind tables inputs set functions reading old.tasks e (following o (k tables inputs set functions reading f))) (sym came)
    ∙ ap (behind tables inputs set functions reading old.tasks e) (same tables inputs set functions reading f s earlier)

module _ {S T : Type 0} {made : S → T → Type 0} {meaning : S → T → Label} {store : S} {plan : Planning T} {old : Kept T} where
  -- a call on the stack alone
  pub begun_comes : {p : Tables → Given → BuiltIns → List FunctionCode → (T → Label) → State → Plan} {new : Kept T} {world : World T} {move : Control} (middle : Kept T) → Comes p middle new move → middle.tasks ≡ old.tasks
      → ((tables : Tables) (inputs : Given) (set : BuiltIns) (functions : List FunctionCode) (reading : T → Label) (f : Setting) (s : State) → IsReading made meaning store reading → p tables inputs set functions reading s ≡ plan tables inputs set functions reading f s)
      → Begun made meaning store plan old new world world (Ok move)
  begun_comes {p} {world = world} middle comes tasks same = record {
    begins = λ tables inputs set functions reading e told turns is.
        let s = state_of reading world told turns in
        comes tables inputs set functions reading e s
        ∙ ap (λ ts. behind tables inputs set functions reading ts e (p tables inputs set functions reading s)) tasks
        ∙ ap (behind tables inputs set functions reading old.tasks e) (same tables inputs set functions reading (setting_above old.tasks e) s is);
  }

  -- work was added, and what it waits for comes next
  pub begun_pushed : {new : Kept T} {world : World T} {move : Control} (w : Continuation) (vs loose : List (Labelled T)) → new ≡ record { tasks = old.tasks ++ (w, vs) ∷ []; loose = loose }
      → ((tables : Tables) (inputs : Given) (set : BuiltIns) (functions : List FunctionCode) (reading : T → Label) (f : Setting) (s : State) → IsReading made meaning store reading
      → and_plan (next_plan tables inputs set functions move (map (read_value reading) loose) (setting_inside w f) s) (after tables inputs set functions w (map (read_value reading) vs) f) ≡ plan tables inputs set functions reading f s)
      → Begun made meaning store plan old new world world (Ok move)
  begun_pushed {new} {world} {move} w vs loose laid same = record {
    begins = λ tables inputs set functions reading e told turns is.
        let s = state_of reading world told turns in
        ap (λ (n : Kept T). coming tables inputs set functions reading n move e s) laid
        ∙ behind_one tables inputs set functions reading old.tasks (old.tasks ++ (w, vs) ∷ []) w vs e (λ f. next_plan tables inputs set functions move (map (read_value reading) loose) f s) refl
        ∙ ap (behind tables inputs set functions reading old.tasks e) (same tables inputs set functions reading (setting_above old.tasks e) s is);
  }

  -- work was added, and above it a value for the `length` of an array is converted
  pub begun_counted : {pushed new : Kept T} {world : World T} {move : Control} (how : SetLength) (array v : Labelled T) (w : Continuation) (vs : List (Labelled T)) → pushed ≡ record { tasks = old.tasks ++ (w, vs) ∷ []; loose = [] } → counts_from how array v pushed new move
      → ((tables : Tables) (inputs : Given) (set : BuiltIns) (functions : List FunctionCode) (reading : T → Label) (f : Setting) (s : State) → IsReading made meaning store reading
      → and_plan (enter_count (entrance tables inputs set functions) (reading array.label) (read_value reading v) (sets_length tables inputs set functions how (read_value reading array)) s) (after tables inputs set functions w (map (read_value reading) vs) f) ≡ plan tables inputs set functions reading f s)
      → Begun made meaning store plan old new world world (Ok move)
  begun_counted {pushed} {new} {world} {move} how array v w vs laid counts same = record {
    begins = λ tables inputs set functions reading e told turns is.
        let s = state_of reading world told turns in
        let sets = enter_count (entrance tables inputs set functions) (reading array.label) (read_value reading v) (sets_length tables inputs set functions how (read_value reading array)) s in
        length_begins how array v pushed new move counts tables inputs set functions reading e s
        ∙ behind_one tables inputs set functions reading old.tasks pushed.tasks w vs e (λ f. sets) (ap (λ (k : Kept T). k.tasks) laid)
        ∙ ap (behind tables inputs set functions reading old.tasks e) (same tables inputs set functions reading (setting_above old.tasks e) s is);
  }

  -- values were laid, or taken away
  pub begun_laid : {new : Kept T} {world : World T} {move : Control} → new.tasks ≡ old.tasks
      → ((tables : Tables) (inputs : Given) (set : BuiltIns) (functions : List FunctionCode) (reading : T → Label) (f : Setting) (s : State) → IsReading made meaning store reading
      → next_plan tables inputs set functions move (map (read_value reading) new.loose) f s ≡ plan tables inputs set functions reading f s)
      → Begun made meaning store plan old new world world (Ok move)
  begun_laid {new} {world} {move} tasks same = record {
    begins = λ tables inputs set functions reading e told turns is.
        let s = state_of reading world told turns in
        ap (λ ts. behind tables inputs set functions reading ts e (next_plan tables inputs set functions move (map (read_value reading) new.loose) (setting_above ts e) s)) tasks
        ∙ ap (behind tables inputs set functions reading old.tasks e) (same tables inputs set functions reading (setting_above old.tasks e) s is);
  }

  -- a call that says what it begins by the values that lie loose
  pub begun_values : (p : Tables → Given → BuiltIns → List FunctionCode → List Val → Setting → State → Plan) {new : Kept T} {world : World T} {move : Control} → BeginsBehind p old new move
      → ((tables : Tables) (inputs : Given) (set : BuiltIns) (functions : List FunctionCode) (reading : T → Label) (f : Setting) (s : State) → p tables inputs set functions (map (read_value reading) old.loose) f s ≡ plan tables inputs set functions reading f s)
      → Begun made meaning store plan old new world world (Ok move)
  begun_values p {world = world} begins same = record {
    begins = λ tables inputs set functions reading e told turns is.
        let s = state_of reading world told turns in
        begins tables inputs set functions reading e s ∙ ap (behind tables inputs set functions reading old.tasks e) (same tables inputs set functions reading (setting_above old.tasks e) s);
  }

  -- another call, of an equal plan
  pub begun_as : {p : Planning T} {middle new : Kept T} {world_old world_new : World T} {result : Result Control (FlowFault T)} → Begun made meaning store p middle new world_old world_new result → middle.tasks ≡ old.tasks
      → ((tables : Tables) (inputs : Given) (set : BuiltIns) (functions : List FunctionCode) (reading : T → Label) (f : Setting) (s : State) → IsReading made meaning store reading → p tables inputs set functions reading f s ≡ plan tables inputs set functions reading f s)
      → Begun made meaning store plan old new world_old world_new result
  begun_as {p} {middle} {new} {world_old} {world_new} {result} begun tasks same = record {
    begins = λ tables inputs set functions reading e told turns is.
        let s = state_of reading world_old told turns in
        moves_as tables inputs set functions reading new e (state_of reading world_new told turns) (behind tables inputs set functions reading middle.tasks e (p tables inputs set functions reading (setting_above middle.tasks e) s)) (behind tables inputs set functions reading old.tasks e (plan tables inputs set functions reading (setting_above old.tasks e) s)) result
        (ap (λ ts. behind tables inputs set functions reading ts e (p tables inputs set functions reading (setting_above ts e) s)) tasks
        ∙ ap (behind tables inputs set functions reading old.tasks e) (same tables inputs set functions reading (setting_above old.tasks e) s is))
        (begun.begins tables inputs set functions reading e told turns is);
  }

  -- behind work that was added
  pub begun_above : {p : Planning T} {middle new : Kept T} {world_old world_new : World T} {result : Result Control (FlowFault T)} (w : Continuation) (vs : List (Labelled T)) → Begun made meaning store p middle new world_old world_new result → middle.tasks ≡ old.tasks ++ (w, vs) ∷ []
      → ((tables : Tables) (inputs : Given) (set : BuiltIns) (functions : List FunctionCode) (reading : T → Label) (f : Setting) (s : State) → IsReading made meaning store reading
      → and_plan (p tables inputs set functions reading (setting_inside w f) s) (after tables inputs set functions w (map (read_value reading) vs) f) ≡ plan tables inputs set functions reading f s)
      → Begun made meaning store plan old new world_old world_new result
  begun_above {p} {middle} {new} {world_old} {world_new} {result} w vs begun tasks same = record {
    begins = λ tables inputs set functions reading e told turns is.
        let s = state_of reading world_old told turns in
        moves_as tables inputs set functions reading new e (state_of reading world_new told turns) (behind tables inputs set functions reading middle.tasks e (p tables inputs set functions reading (setting_above middle.tasks e) s)) (behind tables inputs set functions reading old.tasks e (plan tables inputs set functions reading (setting_above old.tasks e) s)) result
        (behind_one tables inputs set functions reading old.tasks middle.tasks w vs e (λ f. p tables inputs set functions reading f s) tasks
        ∙ ap (behind tables inputs set functions reading old.tasks e) (same tables inputs set functions reading (setting_above old.tasks e) s is))
        (begun.begins tables inputs set functions reading e told turns is);
  }

  -- ---- calls that do an act

  module _ {X Y : Type 0} {read : (T → Label) → X → Y} {act : (T → Label) → L Y} {k : Doing T Y} {world_old world_new : World T} {answer : Result (machine.Outcome X T) (FlowFault T)} where
    -- its answer is handed on
    pub begun_handed : {middle new : Kept T} {result : Result Control (FlowFault T)} → Acts made meaning store read act world_old world_new answer → Handed read k middle new answer result → middle.tasks ≡ old.tasks
        → ((tables : Tables) (inputs : Given) (set : BuiltIns) (functions : List FunctionCode) (reading : T → Label) (f : Setting) (s : State) → IsReading made meaning store reading → following (act reading s) (k tables inputs set functions reading) ≡ plan tables inputs set functions reading f s)
        → Begun made meaning store plan old new world_old world_new result
    begun_handed {middle} {new} {result} acts handed tasks same = record {
      begins = λ tables inputs set functions reading e told turns is.
          let s = state_of reading world_old told turns in
          let t = state_of reading world_new told turns in
          moves_as tables inputs set functions reading new e t (behind tables inputs set functions reading middle.tasks e (following (act reading s) (k tables inputs set functions reading))) (behind tables inputs set functions reading old.tasks e (plan tables inputs set functions reading (setting_above old.tasks e) s)) result
          (ap (λ ts. behind tables inputs set functions reading ts e (following (act reading s) (k tables inputs set functions reading))) tasks
          ∙ ap (behind tables inputs set functions reading old.tasks e) (same tables inputs set functions reading (setting_above old.tasks e) s is))
          (handed.hands tables inputs set functions reading e t (act reading s) (acts.says reading is told turns));
    }

    -- behind work that was added
    pub begun_behind : {middle new : Kept T} {result : Result Control (FlowFault T)} (w : Continuation) (vs : List (Labelled T)) → Acts made meaning store read act world_old world_new answer → Handed read k middle new answer result → middle.tasks ≡ old.tasks ++ (w, vs) ∷ []
        → ((tables : Tables) (inputs : Given) (set : BuiltIns) (functions : List FunctionCode) (reading : T → Label) (f : Setting) (s : State) → IsReading made meaning store reading
        → and_plan (following (act reading s) (k tables inputs set functions reading)) (after tables inputs set functions w (map (read_value reading) vs) f) ≡ plan tables inputs set functions reading f s)
        → Begun made meaning store plan old new world_old world_new result
    begun_behind {middle} {new} {result} w vs acts handed tasks same = record {
      begins = λ tables inputs set functions reading e told turns is.
          let s = state_of reading world_old told turns in
          let t = state_of reading world_new told turns in
          moves_as tables inputs set functions reading new e t (behind tables inputs set functions reading middle.tasks e (following (act reading s) (k tables inputs set functions reading))) (behind tables inputs set functions reading old.tasks e (plan tables inputs set functions reading (setting_above old.tasks e) s)) result
          (behind_one tables inputs set functions reading old.tasks middle.tasks w vs e (λ f. following (act reading s) (k tables inputs set functions reading)) tasks
          ∙ ap (behind tables inputs set functions reading old.tasks e) (same tables inputs set functions reading (setting_above old.tasks e) s is))
          (handed.hands tables inputs set functions reading e t (act reading s) (acts.says reading is told turns));
    }

  module _ {X Y : Type 0} {read : (T → Label) → X → Y} {act : (T → Label) → L Y} {world_old world_new : World T} {answer : Result (machine.Outcome X T) (FlowFault T)} (k : DoingAt T Y)
      (acts : Acts made meaning store read act world_old world_new answer) (same : IsFollowed made meaning store act k plan) where
    -- it doesn't go on
    pub begun_off : {new : Kept T} {move : Control} (has : T → Type 0) (middle : Kept T) → Parts has middle new answer (Ok (went.Off move)) → middle.tasks ≡ old.tasks → Begun made meaning store plan old new world_old world_new (Ok move)
    begun_off {new} {move} has middle parts tasks = record {
      begins = λ tables inputs set functions reading e told turns is.
          let s = state_of reading world_old told turns in
          let t = state_of reading world_new told turns in
          let f = setting_above old.tasks e in
          off_moves has (read reading) tables inputs set functions reading e t (act reading s) (k tables inputs set functions reading f) middle new answer move (acts.says reading is told turns) parts
          ∙ ap (λ ts. behind tables inputs set functions reading ts e (following (act reading s) (k tables inputs set functions reading f))) tasks
          ∙ ap (behind tables inputs set functions reading old.tasks e) (same tables inputs set functions reading f s is);
    }

    -- a `?` hands on the fault
    pub begun_err : {new : Kept T} {result : Result Control (FlowFault T)} (has : T → Type 0) (middle between : Kept T) (g : FlowFault T) → Parts has middle between answer (Err g) → middle.tasks ≡ old.tasks → IsErrAnd result (λ h. h ≡ g) → Begun made meaning store plan old new world_old world_new result
    begun_err {new} {result} has middle between g parts tasks failed = record {
      begins = λ tables inputs set functions reading e told turns is.
          let s = state_of reading world_old told turns in
          let t = state_of reading world_new told turns in
          let f = setting_above old.tasks e in
          moves_as tables inputs set functions reading new e t (behind tables inputs set functions reading middle.tasks e (following (act reading s) (k tables inputs set functions reading f))) (behind tables inputs set functions reading old.tasks e (plan tables inputs set functions reading f s)) result
          (ap (λ ts. behind tables inputs set functions reading ts e (following (act reading s) (k tables inputs set functions reading f))) tasks
          ∙ ap (behind tables inputs set functions reading old.tasks e) (same tables inputs set functions reading f s is))
          (err_moves has (read reading) tables inputs set functions reading e t (act reading s) (k tables inputs set functions reading f) middle between new answer g result (acts.says reading is told turns) parts failed);
    }

    -- it goes on, and a call in a later store does the rest
    pub begun_on : {room : S → ℕ} {firm : S → Bool} {later : S} {new : Kept T} {world_last : World T} {result : Result Control (FlowFault T)} (has : T → Type 0) (middle between : Kept T) (x : X) → IsKept made meaning room firm store later → Parts has middle between answer (Ok (went.On x)) → middle.tasks ≡ old.tasks
        → Begun made meaning later (λ tables inputs set functions reading f. k tables inputs set functions reading f (read reading x)) between new world_new world_last result → Begun made meaning later plan old new world_old world_last result
    begun_on {room} {firm} {later} {new} {world_last} {result} has middle between x kept parts tasks rest = record {
      begins = λ tables inputs set functions reading e told turns is.
          moves_as tables inputs set functions reading new e (state_of reading world_last told turns) (behind tables inputs set functions reading between.tasks e (k tables inputs set functions reading (setting_above between.tasks e) (read reading x) (state_of reading world_new told turns))) (behind tables inputs set functions reading old.tasks e (plan tables inputs set functions reading (setting_above old.tasks e) (state_of reading world_old told turns))) result
          (on_plan made meaning store plan old read act world_old world_new answer k acts same room firm later kept has middle between x parts tasks tables inputs set functions reading e told turns is) (rest.begins tables inputs set functions reading e told turns is);
    }

    pub begun_on_at : {room : S → ℕ} {firm : S → Bool} {later : S} {place : ℕ} {new : Kept T} {world_last : World T} {result : Result Control (FlowFault T)} (has : T → Type 0) (middle between : Kept T) (x : X) → IsKept made meaning room firm store later → Parts has middle between answer (Ok (went.On x)) → middle.tasks ≡ old.tasks
        → BegunAt made meaning later place (λ tables inputs set functions reading f. k tables inputs set functions reading f (read reading x)) between new world_new world_last result → BegunAt made meaning later place plan old new world_old world_last result
    begun_on_at {room} {firm} {later} {place} {new} {world_last} {result} has middle between x kept parts tasks rest = record {
      begins = λ tables inputs set functions reading e told turns is at.
          moves_as tables inputs set functions reading new e (state_of reading world_last told turns) (behind tables inputs set functions reading between.tasks e (k tables inputs set functions reading (setting_above between.tasks e) (read reading x) (state_of reading world_new told turns))) (behind tables inputs set functions reading old.tasks e (plan tables inputs set functions reading (setting_above old.tasks e) (state_of reading world_old told turns))) result
          (on_plan made meaning store plan old read act world_old world_new answer k acts same room firm later kept has middle between x parts tasks tables inputs set functions reading e told turns is) (rest.begins tables inputs set functions reading e told turns is (ap (λ (ts : List (Task T)). (setting_above ts e).env.place) (ap (λ (m : Kept T). m.tasks) (on_is has middle between answer x parts).1 ∙ tasks) ∙ at));
    }

  -- ---- in a record

  pub begun_here : {place : ℕ} {new : Kept T} {world_old world_new : World T} {result : Result Control (FlowFault T)} → Begun made meaning store plan old new world_old world_new result → BegunAt made meaning store place plan old new world_old world_new result
  begun_here begun = record { begins = λ tables inputs set functions reading e told turns is at. begun.begins tables inputs set functions reading e told turns is }

  -- another plan that is equal there
  pub begun_there : {place : ℕ} {p : Planning T} {middle new : Kept T} {world_old world_new : World T} {result : Result Control (FlowFault T)} → BegunAt made meaning store place p middle new world_old world_new result → middle.tasks ≡ old.tasks
      → ((tables : Tables) (inputs : Given) (set : BuiltIns) (functions : List FunctionCode) (reading : T → Label) (f : Setting) (s : State) → IsReading made meaning store reading → p tables inputs set functions reading f s ≡ plan tables inputs set functions reading f s)
      → BegunAt made meaning store place plan old new world_old world_new result
  begun_there {place} {p} {middle} {new} {world_old} {world_new} {result} begun tasks same = record {
    begins = λ tables inputs set functions reading e told turns is at.
        let s = state_of reading world_old told turns in
        moves_as tables inputs set functions reading new e (state_of reading world_new told turns) (behind tables inputs set functions reading middle.tasks e (p tables inputs set functions reading (setting_above middle.tasks e) s)) (behind tables inputs set functions reading old.tasks e (plan tables inputs set functions reading (setting_above old.tasks e) s)) result
        (ap (λ ts. behind tables inputs set functions reading ts e (p tables inputs set functions reading (setting_above ts e) s)) tasks
        ∙ ap (behind tables inputs set functions reading old.tasks e) (same tables inputs set functions reading (setting_above old.tasks e) s is))
        (begun.begins tables inputs set functions reading e told turns is (ap (λ (ts : List (Task T)). (setting_above ts e).env.place) tasks ∙ at));
  }

-- a name is looked for, and what is done with the reference is begun
pub begun_at_reference : {S T : Type 0} {made : S → T → Type 0} {meaning : S → T → Label} {store : S} (t : Ty) (k : Tables → Given → BuiltIns → List FunctionCode → (T → Label) → ℕ → Reference → State → Plan) (name : List ℕ) (place : ℕ) (found : (T → Label) → Reference)
    → {old new : Kept T} {world_old world_new : World T} {result : Result Control (FlowFault T)}
    → ((reading : T → Label) → IsReading made meaning store reading → found reading ≡ resolved (read_records reading world_old.records) (read_heap reading world_old.heap) place name)
    → Begun made meaning store (λ tables inputs set functions reading e. k tables inputs set functions reading e.env.place (found reading)) old new world_old world_new result
    → BegunAt made meaning store place (λ tables inputs set functions reading e. (planned tables inputs set functions).resolve t e.env.place name (k tables inputs set functions reading e.env.place)) old new world_old world_new result
begun_at_reference {made = made} {meaning} {store} t k name place found {old} {new} {world_old} {world_new} {result} is begun = record {
  begins = λ tables inputs set functions reading e told turns read at.
      let s = state_of reading world_old told turns in
      let f = setting_above old.tasks e in
      moves_as tables inputs set functions reading new e (state_of reading world_new told turns) (behind tables inputs set functions reading old.tasks e (k tables inputs set functions reading f.env.place (found reading) s)) (behind tables inputs set functions reading old.tasks e ((planned tables inputs set functions).resolve t f.env.place name (k tables inputs set functions reading f.env.place) s)) result
      (ap (λ n. behind tables inputs set functions reading old.tasks e (k tables inputs set functions reading f.env.place n s)) (is reading read)
      ∙ ap (λ i. behind tables inputs set functions reading old.tasks e (k tables inputs set functions reading f.env.place (resolved s.records s.heap i name) s)) (sym at))
      (begun.begins tables inputs set functions reading e told turns read);
}

-- the same of a name that was looked for in an earlier store
pub begun_at : {S T : Type 0} {made : S → T → Type 0} {meaning : S → T → Label} {store : S} {room : S → ℕ} {firm : S → Bool} {later : S} (t : Ty) (k : Tables → Given → BuiltIns → List FunctionCode → (T → Label) → ℕ → Reference → State → Plan) (name : List ℕ) (place : ℕ) (found : Named T)
    → IsKept made meaning room firm store later → {old new : Kept T} {world_old world_new : World T} {result : Result Control (FlowFault T)}
    → ((reading : T → Label) → IsReading made meaning store reading → reference_of reading found ≡ resolved (read_records reading world_old.records) (read_heap reading world_old.heap) place name)
    → Begun made meaning later (λ tables inputs set functions reading e. k tables inputs set functions reading e.env.place (reference_of reading found)) old new world_old world_new result
    → BegunAt made meaning later place (λ tables inputs set functions reading e. (planned tables inputs set functions).resolve t e.env.place name (k tables inputs set functions reading e.env.place)) old new world_old world_new result
begun_at {made = made} {meaning} {store} {room} {firm} {later} t k name place found kept is begun = begun_at_reference t k name place (λ reading. reference_of reading found) (λ reading read. is reading (IsReading-earlier made meaning room firm store later reading kept read)) begun

-- ---- work that is resumed

-- lists that end alike
pub ends_alike : {X : Type 0} (xs ys : List X) (x y : X) → xs ++ x ∷ [] ≡ ys ++ y ∷ [] → (xs ≡ ys) × (x ≡ y)
ends_alike [] [] x y e = (refl, cc e)
ends_alike [] (b ∷ []) x y e = absurd cc e
ends_alike [] (b ∷ c ∷ ys) x y e = absurd cc e
ends_alike (a ∷ []) [] x y e = absurd cc e
ends_alike (a ∷ c ∷ xs) [] x y e = absurd cc e
ends_alike (a ∷ xs) (b ∷ ys) x y e =
    let rest : xs ++ x ∷ [] ≡ ys ++ y ∷ [] = cc e in
    let front : a ≡ b = cc e in
    let inner = ends_alike xs ys x y rest in
    (cc (front, inner.0), inner.1)

-- what work says of a value that was popped is a plan
abbrev pub IsResumed : {S T : Type 0} → (S → T → Type 0) → (S → T → Label) → S → Continuation → Planning T → List (Labelled T) → Labelled T → Type 0
IsResumed made meaning store w plan between popped = (tables : Tables) (inputs : Given) (set : BuiltIns) (functions : List FunctionCode) (reading : _ → Label) (f : Setting) (s : State) → IsReading made meaning store reading → plan tables inputs set functions reading f s ≡ after tables inputs set functions w (map (read_value reading) between) f (gave (read_value reading popped)) s

at_tasks : {S T : Type 0} (made : S → T → Type 0) (meaning : S → T → Label) (store : S) (w : Continuation) (plan : Planning T) (old middle : Kept T) (between : List (Labelled T)) (popped : Labelled T) → old.loose ≡ between ++ popped ∷ [] → middle.tasks ≡ old.tasks → IsResumed made meaning store w plan between popped
    → (tables : Tables) (inputs : Given) (set : BuiltIns) (functions : List FunctionCode) (reading : T → Label) (e : Setting) (s : State) (kept : List (Labelled T)) (value : Labelled T) → IsReading made meaning store reading → old.loose ≡ kept ++ value ∷ []
    → behind tables inputs set functions reading middle.tasks e (plan tables inputs set functions reading (setting_above middle.tasks e) s) ≡ behind tables inputs set functions reading old.tasks e (after tables inputs set functions w (map (read_value reading) kept) (setting_above old.tasks e) (gave (read_value reading value)) s)
at_tasks made meaning store w plan old middle between popped top tasks same tables inputs set functions reading e s kept value is loose =
    let f = setting_above old.tasks e in
    let alike = ends_alike between kept popped value (sym top ∙ loose) in
    ap (λ ts. behind tables inputs set functions reading ts e (plan tables inputs set functions reading (setting_above ts e) s)) tasks
    ∙ ap (behind tables inputs set functions reading old.tasks e) (same tables inputs set functions reading f s is
    ∙ ap (λ (vs : List (Labelled _)). after tables inputs set functions w (map (read_value reading) vs) f (gave (read_value reading popped)) s) alike.0
    ∙ ap (λ (v : Labelled _). after tables inputs set functions w (map (read_value reading) kept) f (gave (read_value reading v)) s) alike.1)

module _ {S T : Type 0} {made : S → T → Type 0} {meaning : S → T → Label} {store : S} {w : Continuation} {plan : Planning T} {old middle new : Kept T} {world_old world_new : World T} {result : Result Control (FlowFault T)} where
  pub resumed : (between : List (Labelled T)) (popped : Labelled T) → old.loose ≡ between ++ popped ∷ [] → middle.tasks ≡ old.tasks → IsResumed made meaning store w plan between popped → Begun made meaning store plan middle new world_old world_new result → Resumed made meaning store w old new world_old world_new result
  resumed between popped top tasks same begun = record {
    resumes = λ tables inputs set functions reading e told turns kept value is loose.
        let s = state_of reading world_old told turns in
        moves_as tables inputs set functions reading new e (state_of reading world_new told turns) (behind tables inputs set functions reading middle.tasks e (plan tables inputs set functions reading (setting_above middle.tasks e) s)) (behind tables inputs set functions reading old.tasks e (after tables inputs set functions w (map (read_value reading) kept) (setting_above old.tasks e) (gave (read_value reading value)) s)) result
        (at_tasks made meaning store w plan old middle between popped top tasks same tables inputs set functions reading e s kept value is loose) (begun.begins tables inputs set functions reading e told turns is);
  }

  pub resumed_at : {place : ℕ} (between : List (Labelled T)) (popped : Labelled T) → old.loose ≡ between ++ popped ∷ [] → middle.tasks ≡ old.tasks → IsResumed made meaning store w plan between popped → BegunAt made meaning store place plan middle new world_old world_new result → ResumedAt made meaning store place w old new world_old world_new result
  resumed_at between popped top tasks same begun = record {
    resumes = λ tables inputs set functions reading e told turns kept value is at loose.
        let s = state_of reading world_old told turns in
        moves_as tables inputs set functions reading new e (state_of reading world_new told turns) (behind tables inputs set functions reading middle.tasks e (plan tables inputs set functions reading (setting_above middle.tasks e) s)) (behind tables inputs set functions reading old.tasks e (after tables inputs set functions w (map (read_value reading) kept) (setting_above old.tasks e) (gave (read_value reading value)) s)) result
        (at_tasks made meaning store w plan old middle between popped top tasks same tables inputs set functions reading e s kept value is loose) (begun.begins tables inputs set functions reading e told turns is (ap (λ (ts : List (Task T)). (setting_above ts e).env.place) tasks ∙ at));
  }

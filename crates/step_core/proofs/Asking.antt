-- Built-ins that are asked, told or left behind.
use Rattle.std.proofs.Common.{refl, sym, ap, ap₂, subst, ◌∙◌, ◌≡◌, ◌<◌, ◌+◌, ◌++◌, ℕ, zero, suc, List, [], ◌∷◌, map, take, drop, length, Option, Some, None, Result, Ok, Err, IfOk, IfErr, IfSome, arith}
use Rattle.std.specs.List.{All}
use Rattle.std.proofs.lemmas.List.{length-map}
use Rattle.std.proofs.Math.Seq.{take-append_seam, drop-append_seam}
use Rattle.std.proofs.lemmas.List.Elements.{All-append}
use Rattle.origin_labels.specs.Label.{Label}
use Rattle.flow_text.specs.declared.memory.OutOfMemory.{OutOfMemory}
use Rattle.flow_policy.specs.Policies.{Tables}
use Rattle.flow_policy.specs.Inputs.{Given}
use Rattle.flow_frames.specs.declared.faults.FlowFault.{FlowFault}
use Rattle.flow_frames.specs.declared.faults.FlowFault.TheVariants as fault
use Rattle.flow_frames.specs.declared.faults.FlowStop.{FlowStop}
use Rattle.flow_frames.specs.Stops.{IfStop}
use Rattle.js_ast.specs.Functions.{FunctionCode}
use Rattle.js_values.specs.declared.value.Labelled.{Labelled}
use Rattle.js_values.specs.Readings.{HasValue, IsReading, read_value}
use Rattle.native_protocol.specs.declared.registers.Reg.{Reg}
use Rattle.native_protocol.specs.declared.request.Answer.{Answer}
use Rattle.native_protocol.specs.declared.request.Answer.TheVariants as answer
use Rattle.native_protocol.specs.declared.request.Request.{Request}
use Rattle.native_protocol.specs.Steps.{Steps}
use Rattle.es_meaning.specs.BuiltIns.{BuiltIns, steps_behind}
use Rattle.flow_meaning.specs.Scopes.{LabelledLine, State, Val}
use Rattle.flow_meaning.specs.Scopes.{Jump as Jumps}
use Rattle.es_meaning.specs.Evaluation.{put_behind}
use Rattle.flow_meaning.specs.Laws.{performed_run}
use Rattle.flow_meaning.specs.Planned.{Ask, Give, Plan, end_putting, a_request, gave, jumped, meaning, perform, plan}
use Rattle.run_state.specs.declared.world.World.{World}
use Rattle.run_state.specs.Worlds.{state_of}
use Rattle.step_natives.specs.States.{States, running_steps, told, waiting_steps}
use Rattle.step_natives.specs.Framed.{steps_at}
use Rattle.channel_requests.specs.Answers.{line_of}
use Rattle.channel_requests.specs.declared.printing.Printed.{Printed}
use Rattle.step_requests.specs.Doing.{IsPrinted}
use Rattle.step_requests.specs.Requesting.{Requests, steps_now}
use Rattle.continuations.specs.Answering.{IsAnswered}
use Rattle.continuations.specs.declared.continuation.Jump.{Jump}
use Rattle.continuations.specs.declared.continuation.Control.{Control}
use Rattle.continuations.specs.declared.continuation.Control.TheVariants as control
use Rattle.continuations.specs.declared.continuation.Continuation.{Continuation}
use Rattle.continuations.specs.declared.continuation.Continuation.TheVariants as continuation
use Rattle.continuations.specs.Going.{ComesTo, Passes, here}
use Rattle.continuations.specs.Kept.{Kept, kept_operands, scopes_of, waiting}
use Rattle.continuations.specs.Loads.{Adds, load}
use Rattle.continuations.specs.Pending.{after, behind, first_or_undefined, owns, setting_above}
use Rattle.continuations.specs.Resuming.{coming}
use Rattle.continuations.specs.Settings.{Setting, outermost_steps, setting_of}
use Rattle.continuations.specs.Shapes.{jump_of}
use Rattle.continuations.specs.Invariant.{Invariant, depths}
use Rattle.continuations.specs.Stops.{HasStop}
use Rattle.continuations.proofs.RegisterLaws.{above_enough, behind_enough}
use Rattle.step_core.specs.declared.progress.Progress.{Progress}
use Rattle.step_core.specs.declared.steps.Advance.{Advance}
use Rattle.step_core.specs.declared.steps.Advance.TheVariants as advance
use Rattle.step_core.specs.Continuing.{continued}
use Rattle.step_core.specs.Going.{StandsStill}
use Rattle.step_core.specs.declared.steps.Ending.TheVariants as ending
use Rattle.step_core.specs.RemainingRun.{ahead, remaining_run}
use Rattle.step_core.specs.Stepping.{IsAsked, Prints, Stepped, StandsBefore, completion_above, remaining_run_after, still_step}
use Rattle.step_core.proofs.Parts.{front_all}
use Rattle.step_core.proofs.StepLaws.{AsksFor, ends_steps, entered_after, moved_steps, spent_alone, still_behind, still_steps, stepped_as, lowers_by}

-- ---- the last of the built-ins

pub last_of : {X : Type 0} (xs : List X) (n : ℕ) → length xs ≡ n + 1 → (front : List X) × (x : X) × (xs ≡ front ++ x ∷ []) × (length front ≡ n)
last_of [] n size = absurd (omega (arith, size))
last_of (x ∷ []) n size = ([], x, refl, omega (arith, size))
last_of (x ∷ y ∷ xs) zero size = absurd (omega (arith, size))
last_of (x ∷ y ∷ xs) (suc n) size = let rest = last_of (y ∷ xs) n (omega (arith, size)) in (x ∷ rest.0, rest.1, ap (λ ys. x ∷ ys) rest.2, ap suc rest.3)

-- it is told
told_last : (a : Answer) (front : List Steps) (steps : Steps) → told a (front ++ steps ∷ []) ≡ front ++ steps_behind steps a ∷ []
told_last a [] steps = refl
told_last a (x ∷ []) steps = refl
told_last a (x ∷ y ∷ front) steps = ap (λ xs. x ∷ xs) (told_last a (y ∷ front) steps)

module _ {X : Type 0} (tells : X → Answer → X) (asks : X → Request) where
  waiting_size : (natives : States X) → length (waiting_steps tells asks natives) ≡ length natives.states
  unfolding waiting_steps
  waiting_size natives = length-map natives.states _

  -- where so many wait and one more
  pub waits_last : (natives : States X) (n : ℕ) → length natives.states ≡ n + 1 → (front : List Steps) × (steps : Steps) × (waiting_steps tells asks natives ≡ front ++ steps ∷ []) × (length front ≡ n)
  waits_last natives n size = last_of (waiting_steps tells asks natives) n (waiting_size natives ∙ size)

  -- and where it runs
  pub runs_last : (natives : States X) (n : ℕ) → length natives.states ≡ n + 1 → (front : List Steps) × (steps : Steps) × (running_steps tells asks natives ≡ front ++ steps ∷ []) × (length front ≡ n)
  unfolding running_steps
  runs_last natives n size =
      let waits = waits_last natives n size in
      (waits.0, steps_behind waits.1 natives.answer, ap (told natives.answer) waits.2 ∙ told_last natives.answer waits.0 waits.1, waits.3)

-- ---- one is told

-- what work goes on with, by the operands and the value above them
continued_by : {T : Type 0} (tables : Tables) (inputs : Given) (set : BuiltIns) (functions : List FunctionCode) (reading : T → Label) (w : Continuation) (kept : List (Labelled T)) (value : Labelled T) (e : Setting) (s : State) → length kept ≡ owns w
    → continued tables inputs set functions reading w (kept ++ value ∷ []) e s ≡ after tables inputs set functions w (map (read_value reading) kept) e (gave (read_value reading value)) s
continued_by tables inputs set functions reading w kept value e s size =
    ap₂ (λ vs us. after tables inputs set functions w (map (read_value reading) vs) e (gave (first_or_undefined (map (read_value reading) us))) s) (ap (λ n. take n (kept ++ value ∷ [])) (sym size) ∙ take-append_seam kept (value ∷ [])) (ap (λ n. drop n (kept ++ value ∷ [])) (sym size) ∙ drop-append_seam kept (value ∷ []))

module _ {S T X : Type 0} (made : S → T → Type 0) (meaning_of : S → T → Label) (store : S) (tables : Tables) (inputs : Given) (set : BuiltIns) (functions : List FunctionCode) (tells : X → Answer → X) (asks : X → Request) where
  pub told_steps : (m : Progress T X) (count : ℕ) (to : Option Reg) (middle new : Kept T) (natives : States X) (kept : List (Labelled T)) (value : Labelled T) (next_count n : ℕ)
      → Invariant made meaning_of store m.stack m.world n (scopes_of m.stack.tasks) (waiting m.stack.tasks) control.Value → length m.natives.states ≡ waiting m.stack.tasks + 1
      → middle.tasks ≡ m.stack.tasks → middle.loose ≡ kept ++ value ∷ [] → length kept ≡ count
      → ((reading : T → Label) (e : Setting) (s : State) → IsReading made meaning_of store reading → continued tables inputs set functions reading (continuation.Answered count to) middle.loose e s ≡ continued tables inputs set functions reading (continuation.Answered count to) m.stack.loose e s)
      → IsAnswered made meaning_of store count to middle new (control.Request next_count) → new.tasks ≡ middle.tasks → length new.loose ≡ next_count → All (HasValue (made store)) new.loose
      → natives.states ≡ m.natives.states → ((front : List Steps) (steps : Steps) → waiting_steps tells asks m.natives ≡ front ++ steps ∷ [] → running_steps tells asks natives ≡ front ++ steps_behind steps answer.Done ∷ [])
      → Stepped made meaning_of store tables inputs set functions tells asks (λ reading. remaining_run_after tables inputs set functions tells asks reading m (continuation.Answered count to) (completion_above tables inputs set functions tells asks reading m (continuation.Answered count to))) (ahead m control.Value + 1)
      (record { world = m.world; stack = new; natives = natives; turns = m.turns }) (advance.Goes (control.Request next_count))
  told_steps m count to middle new natives kept value next_count n stands size tasks lies below same answered still values has states told_by =
      let waits = waits_last tells asks m.natives (waiting m.stack.tasks) size in
      let front = waits.0 in
      let steps = waits.1 in
      let w = continuation.Answered count to in
      let after_move : Progress T X = record { world = m.world; stack = new; natives = natives; turns = m.turns } in
      let p : (T → Label) → List LabelledLine → ℕ → Plan = λ reading said turns. behind tables inputs set functions reading m.stack.tasks (setting_of (waiting_steps tells asks m.natives) here) (continued tables inputs set functions reading w m.stack.loose (setting_above m.stack.tasks (setting_of (waiting_steps tells asks m.natives) here)) (state_of reading m.world said turns)) in
      moved_steps made meaning_of store tables inputs set functions tells asks (running_steps tells asks natives) p after_move (ahead m control.Value + 1) (Ok (control.Request next_count)) (Ok (advance.Goes (control.Request next_count))) refl
      (λ reading said turns read.
      let s = state_of reading m.world said turns in
      ap (λ ns. coming tables inputs set functions reading new (control.Request next_count) (setting_of ns here) s) (told_by front steps waits.2)
      ∙ answered tables inputs set functions reading (setting_of front here) steps s kept value read (waits.3 ∙ ap waiting (sym tasks)) lies
      ∙ sym (ap (λ q. behind tables inputs set functions reading middle.tasks (setting_of (front ++ steps ∷ []) here) q) (continued_by tables inputs set functions reading w kept value (setting_above middle.tasks (setting_of (front ++ steps ∷ []) here)) s below))
      ∙ ap (λ vs. behind tables inputs set functions reading middle.tasks (setting_of (front ++ steps ∷ []) here) (continued tables inputs set functions reading w vs (setting_above middle.tasks (setting_of (front ++ steps ∷ []) here)) s)) (sym lies)
      ∙ ap (λ ns. behind tables inputs set functions reading middle.tasks (setting_of ns here) (continued tables inputs set functions reading w middle.loose (setting_above middle.tasks (setting_of ns here)) s)) (sym waits.2)
      ∙ ap (λ ts. behind tables inputs set functions reading ts (setting_of (waiting_steps tells asks m.natives) here) (continued tables inputs set functions reading w middle.loose (setting_above ts (setting_of (waiting_steps tells asks m.natives) here)) s)) tasks
      ∙ ap (λ q. behind tables inputs set functions reading m.stack.tasks (setting_of (waiting_steps tells asks m.natives) here) q) (same reading (setting_above m.stack.tasks (setting_of (waiting_steps tells asks m.natives) here)) s read))
      refl
      (record {
        belongs = stands.belongs;
        operands = All-append (HasValue (made store)) (kept_operands new.tasks) new.loose (subst (λ ts. All (HasValue (made store)) (kept_operands ts)) (sym (still ∙ tasks)) (front_all (HasValue (made store)) (kept_operands m.stack.tasks) m.stack.loose stands.operands)) has;
        values = values;
        scopes = subst (λ ts. scopes_of ts ≡ depths (length (scopes_of ts))) (sym (still ∙ tasks)) stands.scopes;
        frames = subst (λ ts. length m.world.frames.frames ≡ suc (length (scopes_of ts))) (sym (still ∙ tasks)) stands.frames;
        records = stands.records;
        natives = let all = ap length states in let there = ap waiting (still ∙ tasks) in omega (arith, all, there, size);
      })
      (let less = ap load (still ∙ tasks) in omega (arith, less)) tt

-- ---- one is left behind by a jump

module _ {S T X : Type 0} (made : S → T → Type 0) (meaning_of : S → T → Label) (store : S) (tables : Tables) (inputs : Given) (set : BuiltIns) (functions : List FunctionCode) (tells : X → Answer → X) (asks : X → Request) where
  -- a jump passes the work of a built-in in whatever setting
  jumped_past : (count : ℕ) (to : Option Reg) (vs us : List Val) (e f : Setting) (j : Jumps) (s : State) → after tables inputs set functions (continuation.Answered count to) vs e (jumped j) s ≡ after tables inputs set functions (continuation.Answered count to) us f (jumped j) s
  unfolding put_behind end_putting
  jumped_past count (Some to) vs us e f j s = refl
  jumped_past count None vs us e f j s = refl

  pub left_steps : (m : Progress T X) (count : ℕ) (to : Option Reg) (j : Jump) (value : Labelled T) (new : Kept T) (natives : States X) (moved : Result Control (FlowFault T)) (result : Result (Advance T) OutOfMemory) → result ≡ still_step moved
      → length m.natives.states ≡ waiting m.stack.tasks + 1 → length natives.states + 1 ≡ length m.natives.states
      → ((front : List Steps) (steps : Steps) → waiting_steps tells asks m.natives ≡ front ++ steps ∷ [] → waiting_steps tells asks natives ≡ front)
      → ((front : List Steps) → Passes made meaning_of store tables inputs set functions j (continuation.Answered count to) value front front m.stack new m.world m.world moved)
      → IfOk moved (StandsStill made meaning_of store (waiting m.stack.tasks) new m.world) → IfOk moved (Adds 6 m.stack new) → IfErr moved (IfStop (HasStop (made store)))
      → IfOk result (Stepped made meaning_of store tables inputs set functions tells asks (λ reading. remaining_run_after tables inputs set functions tells asks reading m (continuation.Answered count to) (jumped (jump_of j (read_value reading value)))) (ahead m (control.Jumps j) + 1)
      (record { world = m.world; stack = new; natives = natives; turns = m.turns }))
  left_steps m count to j value new natives moved result is size fewer rest passes standing adds stopped =
      let waits = waits_last tells asks m.natives (waiting m.stack.tasks) size in
      let front = waits.0 in
      let steps = waits.1 in
      let w = continuation.Answered count to in
      let now = rest front steps waits.2 in
      let after_move : Progress T X = record { world = m.world; stack = new; natives = natives; turns = m.turns } in
      let vs : (T → Label) → List Val = λ reading. map (read_value reading) (take (owns w) m.stack.loose) in
      let p : (T → Label) → List LabelledLine → ℕ → Plan = λ reading said turns. behind tables inputs set functions reading m.stack.tasks (setting_of front here) (after tables inputs set functions w (vs reading) (setting_above m.stack.tasks (setting_of front here)) (jumped (jump_of j (read_value reading value))) (state_of reading m.world said turns)) in
      stepped_as made meaning_of store tables inputs set functions tells asks (λ reading said. perform (meaning tables inputs set functions) (p reading said m.turns)) (λ reading. remaining_run_after tables inputs set functions tells asks reading m w (jumped (jump_of j (read_value reading value)))) (ahead m (control.Jumps j) + 1) (ahead m (control.Jumps j) + 1) after_move result
      (λ reading said read.
      let s = state_of reading m.world said m.turns in
      let jumps = jump_of j (read_value reading value) in
      ap (perform (meaning tables inputs set functions))
      (sym (behind_enough tables inputs set functions reading m.stack.tasks front (steps ∷ []) here (after tables inputs set functions w (vs reading) (setting_above m.stack.tasks (setting_of front here)) (jumped jumps) s) waits.3)
      ∙ ap (behind tables inputs set functions reading m.stack.tasks (setting_of (front ++ steps ∷ []) here)) (jumped_past count to (vs reading) (vs reading) (setting_above m.stack.tasks (setting_of front here)) (setting_above m.stack.tasks (setting_of (front ++ steps ∷ []) here)) jumps s)
      ∙ ap (λ ns. behind tables inputs set functions reading m.stack.tasks (setting_of ns here) (after tables inputs set functions w (vs reading) (setting_above m.stack.tasks (setting_of ns here)) (jumped jumps) s)) (sym waits.2)))
      refl
      (still_steps made meaning_of store tables inputs set functions tells asks p after_move (ahead m (control.Jumps j) + 1) moved result is
      (subst (λ ns. ComesTo made meaning_of store tables inputs set functions ns p new m.world moved) (sym now) (passes front))
      (still_behind made meaning_of store after_move (waiting m.stack.tasks) moved (omega (arith, size, fewer)) standing) (lowers_by m.stack new 1 m.turns moved adds) stopped)

-- ---- one asks

-- the steps by the next move, in two words
pub steps_same : {X : Type 0} (tells : X → Answer → X) (asks : X → Request) (natives : States X) (move : Control) → steps_at tells asks natives move ≡ steps_now tells asks natives move
steps_same tells asks natives (control.Request count) = refl
steps_same tells asks natives _ = refl

module _ {S T X : Type 0} (made : S → T → Type 0) (meaning_of : S → T → Label) (store : S) (tables : Tables) (inputs : Given) (set : BuiltIns) (functions : List FunctionCode) (tells : X → Answer → X) (asks : X → Request) (m : Progress T X) (count : ℕ) (runs : length m.natives.states ≡ waiting m.stack.tasks + 1) where
  -- what it wants: a part that is its request
  wants : (front : List Steps) (steps : Steps) → length front ≡ waiting m.stack.tasks → AsksFor tables inputs set functions (control.Request count) (setting_above m.stack.tasks (setting_of (front ++ steps ∷ []) here))
  wants front steps size =
      let above = above_enough m.stack.tasks front (steps ∷ []) here size in
      record {
        part = λ vs. a_request steps vs;
        is = λ vs. ap (λ ns. Some (a_request (outermost_steps ns) vs)) above;
        asks = λ vs s. ap (λ ns. Ask (a_request (outermost_steps ns) vs) s Give) above;
      }

  -- without a turn the run ends
  pub unasked : m.turns ≡ 0 → Stepped made meaning_of store tables inputs set functions tells asks (λ reading. remaining_run tables inputs set functions tells asks reading m (control.Request count)) (ahead m (control.Request count)) m (advance.Ends ending.OutOfTurns)
  unasked none =
      let last = runs_last tells asks m.natives (waiting m.stack.tasks) runs in
      ends_steps made meaning_of store tables inputs set functions tells asks (λ reading. remaining_run tables inputs set functions tells asks reading m (control.Request count)) m (ahead m (control.Request count)) ending.OutOfTurns tt
      (λ reading told. spent_alone tables inputs set functions tells asks reading m (last.0 ++ last.1 ∷ []) (control.Request count) last.2 (wants last.0 last.1 last.3) told none)

  module _ (turns : ℕ) (some : m.turns ≡ suc turns) (stack : Kept T) (world : World T) (natives : States X) where
    abbrev behind_it : Progress T X
    behind_it = record { world = world; stack = stack; natives = natives; turns = turns }

    abbrev Does : Result (Control × Option (Printed T)) (FlowFault T) → Type 0
    Does result = Requests made meaning_of store tables inputs tells asks m.natives natives m.stack stack m.world world result

    -- what was to come is what the request's plan is
    asked_for : (reading : T → Label) (told : List LabelledLine) → (front : List Steps) (steps : Steps) → running_steps tells asks m.natives ≡ front ++ steps ∷ [] → length front ≡ waiting m.stack.tasks
        → perform (meaning tables inputs set functions) (behind tables inputs set functions reading m.stack.tasks (setting_of (front ++ steps ∷ []) here) (plan tables inputs set functions (a_request steps (map (read_value reading) m.stack.loose)) (state_of reading m.world told turns))) ≡ remaining_run tables inputs set functions tells asks reading m (control.Request count) told
    unfolding wants
    asked_for reading told front steps is size = entered_after tables inputs set functions tells asks reading m (front ++ steps ∷ []) (control.Request count) is (wants front steps size) told turns some

    -- it is done, and this comes next
    pub asked_goes : (move : Control) → Does (Ok (move, None)) → StandsBefore made meaning_of store behind_it move → Adds 11 m.stack stack move
        → Stepped made meaning_of store tables inputs set functions tells asks (λ reading. remaining_run tables inputs set functions tells asks reading m (control.Request count)) (ahead m (control.Request count)) behind_it (advance.Goes move)
    asked_goes move does standing adds = record {
      comes = λ reading told read.
          let last = runs_last tells asks m.natives (waiting m.stack.tasks) runs in
          sym (asked_for reading told last.0 last.1 last.2 last.3)
          ∙ ap (perform (meaning tables inputs set functions)) (sym (does.says set functions reading here last.0 last.1 told turns read last.2 last.3))
          ∙ ap (λ ns. perform (meaning tables inputs set functions) (coming tables inputs set functions reading stack move (setting_of ns here) (state_of reading world told turns))) (sym (steps_same tells asks natives move));
      standing = standing;
      lowers = omega (arith, adds, some);
      printed = tt;
      stopped = tt;
    }

    -- it printed a line
    pub asked_prints : (move : Control) (line : Printed T) (s : Advance T) → Does (Ok (move, Some line)) → Prints line move s → StandsBefore made meaning_of store behind_it move → Adds 11 m.stack stack move → IsPrinted (made store) (length tables.outputs) line
        → Stepped made meaning_of store tables inputs set functions tells asks (λ reading. remaining_run tables inputs set functions tells asks reading m (control.Request count)) (ahead m (control.Request count)) behind_it s
    asked_prints move line (advance.Line box after_move) does prints standing adds printed = record {
      comes = λ reading told read.
          let last = runs_last tells asks m.natives (waiting m.stack.tasks) runs in
          sym (asked_for reading told last.0 last.1 last.2 last.3)
          ∙ ap (perform (meaning tables inputs set functions)) (sym (does.says set functions reading here last.0 last.1 told turns read last.2 last.3))
          ∙ ap (λ ns. perform (meaning tables inputs set functions) (coming tables inputs set functions reading stack move (setting_of ns here) (state_of reading world (told ++ line_of tables reading line ∷ []) turns))) (sym (steps_same tells asks natives move))
          ∙ ap₂ (λ n p. remaining_run tables inputs set functions tells asks reading behind_it n (told ++ line_of tables reading p ∷ [])) (sym prints.1) (sym prints.0);
      standing = subst (StandsBefore made meaning_of store behind_it) (sym prints.1) standing;
      lowers = subst (λ n. ahead behind_it n < ahead m (control.Request count)) (sym prints.1) (omega (arith, adds, some));
      printed = subst (IsPrinted (made store) (length tables.outputs)) (sym prints.0) printed;
      stopped = tt;
    }
    asked_prints move line (advance.Goes n) does prints standing adds printed = absurd prints
    asked_prints move line (advance.Ends e) does prints standing adds printed = absurd prints

    -- a rule stopped it
    pub asked_stops : (stop : FlowStop T) → Does (Err (fault.Stop stop)) → HasStop (made store) stop
        → Stepped made meaning_of store tables inputs set functions tells asks (λ reading. remaining_run tables inputs set functions tells asks reading m (control.Request count)) (ahead m (control.Request count)) behind_it (advance.Ends (ending.Stopped stop))
    unfolding perform
    asked_stops stop does stopped = record {
      comes = λ reading told read.
          let last = runs_last tells asks m.natives (waiting m.stack.tasks) runs in
          ap performed_run (sym (asked_for reading told last.0 last.1 last.2 last.3))
          ∙ ap (λ q. performed_run (perform (meaning tables inputs set functions) q)) (sym (does.says set functions reading here last.0 last.1 told turns read last.2 last.3));
      standing = tt;
      lowers = tt;
      printed = tt;
      stopped = stopped;
    }

    -- whichever it was
    pub asked_steps : (moved : Result (Control × Option (Printed T)) (FlowFault T)) (result : Result (Advance T) OutOfMemory) → IfOk result (IsAsked moved) → Does moved → IfOk moved (λ moves. StandsBefore made meaning_of store behind_it moves.0) → IfOk moved (λ moves. Adds 11 m.stack stack moves.0)
        → IfOk moved (λ moves. IfSome moves.1 (IsPrinted (made store) (length tables.outputs))) → IfErr moved (IfStop (HasStop (made store)))
        → IfOk result (Stepped made meaning_of store tables inputs set functions tells asks (λ reading. remaining_run tables inputs set functions tells asks reading m (control.Request count)) (ahead m (control.Request count)) behind_it)
    asked_steps moved (Err f) is does standing adds printed stopped = tt
    asked_steps (Ok (move, None)) (Ok s) is does standing adds printed stopped =
        subst (Stepped made meaning_of store tables inputs set functions tells asks (λ reading. remaining_run tables inputs set functions tells asks reading m (control.Request count)) (ahead m (control.Request count)) behind_it) (sym is) (asked_goes move does standing adds)
    asked_steps (Ok (move, Some line)) (Ok s) is does standing adds printed stopped = asked_prints move line s does is standing adds printed
    asked_steps (Err (fault.Stop stop)) (Ok s) is does standing adds printed stopped =
        subst (Stepped made meaning_of store tables inputs set functions tells asks (λ reading. remaining_run tables inputs set functions tells asks reading m (control.Request count)) (ahead m (control.Request count)) behind_it) (sym is) (asked_stops stop does stopped)
    asked_steps (Err fault.OutOfMemory) (Ok s) is does standing adds printed stopped = absurd is

-- How the endings of a run are told, and what follows of one that is.
use Rattle.std.proofs.Common.{◌≡◌, ℕ, false, List, [], Option, Some, None, Ok, refl, sym, ap, ap₂, subst, ◌∙◌}
use Rattle.std.proofs.lemmas.Option.{none-some, same_Some}
use Rattle.origin_labels.specs.Label.{Label, within}
use Rattle.flow_io.specs.Sinks.{Appends}
use Rattle.flow_frames.specs.declared.faults.Rule.{Rule}
use Rattle.flow_policy.specs.Observed.{view_of}
use Rattle.flow_policy.specs.Policies.{Tables, IsPolicy}
use Rattle.flow_policy.specs.Inputs.{Given}
use Rattle.js_ast.specs.Trees.{Statements}
use Rattle.js_values.specs.declared.value.Value.{Value}
use Rattle.js_values.specs.Objects.{Object}
use Rattle.js_values.specs.Readings.{read_heap}
use Rattle.native_protocol.specs.declared.request.Answer.{Answer}
use Rattle.native_protocol.specs.declared.request.Request.{Request}
use Rattle.es_meaning.specs.BuiltIns.{BuiltIns}
use Rattle.es_meaning.specs.Outcomes as es
use Rattle.es_meaning.specs.Outcomes.{done, threw, halted}
use Rattle.es_meaning.specs.Plain.{plain_run}
use Rattle.es_meaning.specs.Start.{shown}
use Rattle.flow_meaning.specs.Erased.{erased_heap}
use Rattle.flow_meaning.specs.Scopes.{Halt, stopped}
use Rattle.flow_meaning.specs.Tracked.{Run, tracked_run}
use Rattle.low_equal.specs.Declared.{EndsDeclared}
use Rattle.low_equal.specs.Erasure.{Erases, goes_on, stops, IsErasing, monitored}
use Rattle.low_equal.specs.Laws.{IsFinishedBy, IsIsolating}
use Rattle.low_equal.specs.Observed.{seen_lines}
use Rattle.step_core.specs.declared.machine.Machine.{Machine}
use Rattle.step_core.specs.declared.steps.Ending as core
use Rattle.step_core.specs.declared.steps.Ending.TheVariants as machine
use Rattle.step_core.specs.declared.steps.Step.TheVariants.{Ends}
use Rattle.step_core.specs.Machines.{IfStopped, ending_of}
use Rattle.step_run.specs.declared.ending.Show.{Show}
use Rattle.step_run.specs.declared.ending.Ending as code
use Rattle.step_run.specs.declared.ending.Ending.TheVariants as ending
use Rattle.step_run.specs.Lines.{shown_bytes}
use Rattle.step_run.specs.Puts.{NeedsDeclared, PutsRun, Tells}
use Rattle.step_run.specs.Ran.{HasDeclared, IsBroken, IsFinished, Isolates, IsolatesLabels, IsolatesView, Put, Ran, is_write_fault}
use Rattle.step_run.proofs.Appending.{front_whole, front_of_whole}
use Rattle.step_run.proofs.Kept.{named}
use Rattle.step_run.proofs.Views.{bodies, shown_alike, view_shown}
use Rattle.step_run.proofs.Walking.{heap_read}

-- what was thrown is shown
pub thrown_tells : {T : Type 0} (reading : T → Label) (heap : List (Object T)) (value : Value) (text : List ℕ) → text ≡ shown (erased_heap heap) value → Tells (threw (shown (erased_heap (read_heap reading heap)) value)) (ending.Threw text)
thrown_tells reading heap value text is = ap (λ w. Some (threw w)) (is ∙ ap (λ h. shown h value) (sym (heap_read reading heap)))

-- a stop
pub stopped_tells : (rule : Rule) (n h need have : Label) → need ≡ n → have ≡ h → Tells (halted (stopped rule n h)) (ending.Stopped rule need have)
stopped_tells rule n h need have a b = rw (a, b) refl

-- an ending that is told is no fault
pub tells_no_fault : (wanted : es.Ending Halt) (result : code.Ending) → Tells wanted result → is_write_fault result ≡ false
tells_no_fault wanted ending.Done tells = refl
tells_no_fault wanted (ending.Threw text) tells = refl
tells_no_fault wanted (ending.Stopped rule need have) tells = refl
tells_no_fault wanted (ending.Left why) tells = refl
tells_no_fault wanted ending.OutOfTurns tells = refl
tells_no_fault wanted ending.WriteFault tells = absurd (none-some wanted tells)
tells_no_fault wanted ending.OutOfMemory tells = refl

-- what a stop of a machine needs and has is declared where its ending is
pub stop_declared : {T X : Type 0} (set : BuiltIns) (tells : X → Answer → X) (asks : X → Request) (count : ℕ) (reading : T → Label) (m : Machine T X) (e : core.Ending T) → EndsDeclared count (ending_of set tells asks reading m e) → IfStopped (NeedsDeclared reading count) (Ends e)
stop_declared set tells asks count reading m machine.Done h = tt
stop_declared set tells asks count reading m (machine.Threw v) h = tt
stop_declared set tells asks count reading m (machine.Stopped stop) h = h
stop_declared set tells asks count reading m (machine.Left why) h = tt
stop_declared set tells asks count reading m machine.OutOfTurns h = tt

module _ (tables : Tables) (which : Show) (run : Run) (old new : Option (List ℕ)) where
  -- a run whose lines are appended, and whose ending is told
  ran_told : (result : code.Ending) → Tells run.ending result → Appends old new (shown_bytes which tables run.lines) → Ran tables which run old new result
  ran_told ending.Done tells put = (tells, put)
  ran_told (ending.Threw text) tells put = (tells, put)
  ran_told (ending.Stopped rule need have) tells put = (tells, put)
  ran_told (ending.Left why) tells put = (tells, put)
  ran_told ending.OutOfTurns tells put = (tells, put)
  ran_told ending.WriteFault tells put = absurd (none-some run.ending tells)
  ran_told ending.OutOfMemory tells put = front_of_whole old new (shown_bytes which tables run.lines) (shown_bytes which tables run.lines) put (front_whole (shown_bytes which tables run.lines))

  pub ran_ended : {T : Type 0} (ends : core.Ending T → es.Ending Halt) (e : core.Ending T) (result : code.Ending) → PutsRun which tables run ends old new (Ok e) → Tells (ends e) result → Ran tables which run old new result
  ran_ended ends e result puts tells = ran_told result (subst (λ w. Tells w result) (sym puts.0) tells) puts.1

  -- ---- what follows of a run

  pub ran_declared : (count : ℕ) (result : code.Ending) → Ran tables which run old new result → EndsDeclared count run.ending → HasDeclared count result
  ran_declared count (ending.Stopped rule need have) ran declared = subst (EndsDeclared count) (sym (same_Some (halted (stopped rule need have)) run.ending ran.0)) declared
  ran_declared count ending.Done ran declared = tt
  ran_declared count (ending.Threw text) ran declared = tt
  ran_declared count (ending.Left why) ran declared = tt
  ran_declared count ending.OutOfTurns ran declared = tt
  ran_declared count ending.WriteFault ran declared = tt
  ran_declared count ending.OutOfMemory ran declared = tt

  pub ran_finished : (result : code.Ending) → Ran tables which run old new result → IsFinished result → IsFinishedBy run.ending
  ran_finished ending.Done ran finished = subst IsFinishedBy (same_Some done run.ending ran.0) tt
  ran_finished (ending.Threw text) ran finished = subst IsFinishedBy (same_Some (threw text) run.ending ran.0) tt
  ran_finished (ending.Stopped rule need have) ran finished = absurd finished
  ran_finished (ending.Left why) ran finished = absurd finished
  ran_finished ending.OutOfTurns ran finished = absurd finished
  ran_finished ending.WriteFault ran finished = absurd finished
  ran_finished ending.OutOfMemory ran finished = absurd finished

-- an unlabelled run isn't stopped
no_stop : (rule : Rule) (need have : Label) (e : es.Ending es.Halt) → halted (stopped rule need have) ≡ monitored e → ⊥
no_stop rule need have done is = cc
no_stop rule need have (threw text) is = cc
no_stop rule need have (halted halt) is = cc

-- what a stop needs and has
need_of : es.Ending Halt → Label
need_of (halted (stopped rule need have)) = need
need_of _ = []

have_of : es.Ending Halt → Label
have_of (halted (stopped rule need have)) = have
have_of _ = []

-- a stop is by a rule that is broken
stop_broken : (set : BuiltIns) (rule : Rule) (need have : Label) (tables : Tables) (inputs : Given) (program : Statements) (turns : ℕ) → halted (stopped rule need have) ≡ (tracked_run set tables inputs program turns).ending
    → Erases (tracked_run set tables inputs program turns) (plain_run set tables inputs program turns) → within need have ≡ false
unfolding need_of have_of
stop_broken set rule need have tables inputs program turns is (goes_on same lines) = absurd (no_stop rule need have (plain_run set tables inputs program turns).ending (is ∙ same))
stop_broken set rule need have tables inputs program turns is (stops r n h rest same broken lines) =
    ap₂ within (ap need_of (is ∙ same)) (ap have_of (is ∙ same)) ∙ broken

module _ (set : BuiltIns) (tables : Tables) (which : Show) (inputs : Given) (program : Statements) (turns : ℕ) (old new : Option (List ℕ)) where
  pub ran_broken : IsErasing → (result : code.Ending) → Ran tables which (tracked_run set tables inputs program turns) old new result → IsBroken result
  ran_broken erasing (ending.Stopped rule need have) ran =
      stop_broken set rule need have tables inputs program turns (same_Some (halted (stopped rule need have)) (tracked_run set tables inputs program turns).ending ran.0) (erasing set tables inputs program turns)
  ran_broken erasing ending.Done ran = tt
  ran_broken erasing (ending.Threw text) ran = tt
  ran_broken erasing (ending.Left why) ran = tt
  ran_broken erasing ending.OutOfTurns ran = tt
  ran_broken erasing ending.WriteFault ran = tt
  ran_broken erasing ending.OutOfMemory ran = tt

  pub ran_isolated : IsIsolating → (result : code.Ending) → Ran tables which (tracked_run set tables inputs program turns) old new result → Isolates set tables inputs program turns result
  ran_isolated isolating result ran finished observer other others agree others_finished =
      (isolating set observer tables inputs other program turns others agree).on_channels (ran_finished tables which (tracked_run set tables inputs program turns) old new result ran finished) others_finished

  pub ran_labelled : IsIsolating → (result : code.Ending) → Ran tables which (tracked_run set tables inputs program turns) old new result → IsolatesLabels set tables inputs program turns result
  ran_labelled isolating result ran finished observer other others agree others_finished =
      (isolating set observer tables inputs other program turns others agree).by_labels (ran_finished tables which (tracked_run set tables inputs program turns) old new result ran finished) others_finished

-- what is put of lines that an observer can't tell looks alike to it
views_alike : (set : BuiltIns) (tables : Tables) → IsPolicy tables → (observer : Label) (which : Show) (first second : Given) (program : Statements) (turns others : ℕ)
    → seen_lines observer tables (tracked_run set tables first program turns).lines ≡ seen_lines observer tables (tracked_run set tables second program others).lines
    → view_of observer tables (shown_bytes which tables (tracked_run set tables first program turns).lines) ≡ view_of observer tables (shown_bytes which tables (tracked_run set tables second program others).lines)
views_alike set tables formed observer which first second program turns others alike =
    let ls = (tracked_run set tables first program turns).lines in
    let ms = (tracked_run set tables second program others).lines in
    view_shown tables formed observer which ls (named set tables first program turns)
    ∙ ap bodies (shown_alike observer tables which ls ms alike)
    ∙ sym (view_shown tables formed observer which ms (named set tables second program others))

-- a fact of what was appended
put_says : (old new : Option (List ℕ)) (out : List ℕ) (Says : List ℕ → Type 0) → Appends old new out → Says out → Put old new Says
put_says old None out Says put holds = tt
put_says None (Some after) out Says put holds = absurd put
put_says (Some before) (Some after) out Says put holds = (out, put, holds)

-- a finished run's lines were appended
ran_appends : (tables : Tables) (which : Show) (run : Run) (old new : Option (List ℕ)) (result : code.Ending) → Ran tables which run old new result → IsFinished result → Appends old new (shown_bytes which tables run.lines)
ran_appends tables which run old new ending.Done ran finished = ran.1
ran_appends tables which run old new (ending.Threw text) ran finished = ran.1
ran_appends tables which run old new (ending.Stopped rule need have) ran finished = absurd finished
ran_appends tables which run old new (ending.Left why) ran finished = absurd finished
ran_appends tables which run old new ending.OutOfTurns ran finished = absurd finished
ran_appends tables which run old new ending.WriteFault ran finished = absurd finished
ran_appends tables which run old new ending.OutOfMemory ran finished = absurd finished

pub ran_viewed : (set : BuiltIns) (tables : Tables) → IsPolicy tables → (which : Show) (inputs : Given) (program : Statements) (turns : ℕ) (old new : Option (List ℕ)) (result : code.Ending)
    → Ran tables which (tracked_run set tables inputs program turns) old new result → Isolates set tables inputs program turns result → IsolatesView set tables which inputs program old new result
ran_viewed set tables formed which inputs program turns old new result ran isolates finished observer other others agree others_finished =
    let run = tracked_run set tables inputs program turns in
    let shown_of_other = shown_bytes which tables (tracked_run set tables other program others).lines in
    put_says old new (shown_bytes which tables run.lines) (λ out. view_of observer tables out ≡ view_of observer tables shown_of_other)
    (ran_appends tables which run old new result ran finished)
    (views_alike set tables formed observer which inputs other program turns others (isolates finished observer other others agree others_finished))

-- How a built-in goes on behind a request: it asks next, waits for what was entered, or is over.
use Rattle.std.proofs.Common.{refl, sym, ap, ap₂, subst, ◌∙◌, ◌≡◌, ℕ, List, [], ◌∷◌, ◌++◌, map, length, Option, Some, None}
use mathlib.Core.Path.{fun_ext}
use Rattle.origin_labels.specs.Label.{Label, bottom}
use Rattle.flow_policy.specs.Policies.{Tables, no_tables}
use Rattle.flow_policy.specs.Inputs.{Given}
use Rattle.js_ast.specs.Functions.{FunctionCode}
use Rattle.js_values.specs.declared.value.Labelled.{Labelled}
use Rattle.js_values.specs.Readings.{read_value}
use Rattle.native_protocol.specs.declared.registers.Reg.{Reg}
use Rattle.native_protocol.specs.declared.request.Answer.TheVariants as answer
use Rattle.native_protocol.specs.Steps.{Steps, throws_type_error}
use Rattle.es_meaning.specs.BuiltIns.{BuiltIns, steps_behind}
use Rattle.es_meaning.specs.Evaluation.{answered_in, put_behind}
use Rattle.es_meaning.specs.Operations.{One, Value}
use Rattle.es_meaning.specs.Plain.{undefined}
use Rattle.flow_meaning.specs.Erased.{unlabelled}
use Rattle.flow_meaning.specs.Planned.{Plan, Then, Give, Ask, End, a_request, and_plan, enter_count, end_putting, gave, jumped, with_result, Completion}
use Rattle.flow_meaning.specs.Scopes.{Halt, State, Val}
use Rattle.run_state.specs.declared.outcome.SetLength.{SetLength}
use Rattle.continuations.specs.declared.continuation.Control.{Control}
use Rattle.continuations.specs.declared.continuation.Control.TheVariants as control
use Rattle.continuations.specs.declared.continuation.Continuation.TheVariants as continuation
use Rattle.continuations.specs.Answering.{with_steps}
use Rattle.continuations.specs.Arrays.{counts_from}
use Rattle.continuations.specs.Going.{here}
use Rattle.continuations.specs.Kept.{Kept, waiting}
use Rattle.continuations.specs.Pending.{Task, after_task, behind, next_plan, sets_length, setting_above}
use Rattle.continuations.specs.Resuming.{coming}
use Rattle.continuations.specs.Settings.{Setting, entrance, outermost_steps, setting_of}
use Rattle.continuations.specs.Invariant.{running}
use Rattle.continuations.proofs.ArrayLaws.{length_begins}
use Rattle.continuations.proofs.Behind.{behind_more}
use Rattle.continuations.proofs.Handed.{behind_end}
use Rattle.continuations.proofs.RegisterLaws.{above_enough, behind_enough}
use Rattle.step_requests.specs.Asked.{answered_to, asks}

-- what follows a plan, and then something else
pub then_plan : (p : Plan) (first second : Then) → and_plan (and_plan p first) second ≡ and_plan p (λ c s. and_plan (first c s) second)
then_plan (Give c s) first second = refl
then_plan (Ask part s go_on) first second = ap (Ask part s) (fun_ext (λ c. fun_ext (λ t. then_plan (go_on c t) first second)))
then_plan (End halt s) first second = refl

-- what a setter gives goes nowhere, and neither does what a `length` gives
nothing_over : (next : State → Plan) (c : Completion) (t : State) → and_plan (end_putting c t) (with_result One (λ u. next)) ≡ with_result Value (λ v. next) c t
unfolding end_putting
nothing_over next (gave v) t = refl
nothing_over next (jumped j) t = refl

over_nothing : (next : State → Plan) → with_result Value (λ v. next) ≡ (λ c t. and_plan (end_putting c t) (with_result One (λ u. next)))
over_nothing next = fun_ext (λ c. fun_ext (λ t. sym (nothing_over next c t)))

pub put_over : (p : Plan) (next : State → Plan) → and_plan (and_plan p end_putting) (with_result One (λ u. next)) ≡ and_plan p (with_result Value (λ v. next))
put_over p next = then_plan p end_putting (with_result One (λ u. next)) ∙ ap (λ (k : Then). and_plan p k) (sym (over_nothing next))

module _ {T : Type 0} (tables : Tables) (inputs : Given) (set : BuiltIns) (functions : List FunctionCode) (reading : T → Label) where
  -- the innermost built-in asks next, with these steps left
  pub asks_on : (old new : Kept T) (n : ℕ) (e : Setting) (steps left : Steps) (vs : List Val) (s : State) → new.tasks ≡ old.tasks → map (read_value reading) new.loose ≡ vs → length e.natives ≡ waiting old.tasks
      → coming tables inputs set functions reading new (control.Request n) (with_steps left e) s ≡ behind tables inputs set functions reading old.tasks (with_steps steps e) (asks left vs s)
  asks_on old new n e steps left vs s tasks loose size =
      let x = with_steps left e in
      ap (λ ts. behind tables inputs set functions reading ts x (Ask (a_request (outermost_steps (setting_above ts x).natives) (map (read_value reading) new.loose)) s Give)) tasks
      ∙ ap₂ (λ ns us. behind tables inputs set functions reading old.tasks x (Ask (a_request (outermost_steps ns) us) s Give)) (above_enough old.tasks e.natives (left ∷ []) e.env size) loose
      ∙ behind_enough tables inputs set functions reading old.tasks e.natives (left ∷ []) e.env (asks left vs s) size
      ∙ sym (behind_enough tables inputs set functions reading old.tasks e.natives (steps ∷ []) e.env (asks left vs s) size)

  -- it is over: what is behind doesn't see its steps
  pub over : (old : Kept T) (e : Setting) (steps : Steps) (p : Plan) → length e.natives ≡ waiting old.tasks
      → behind tables inputs set functions reading old.tasks e p ≡ behind tables inputs set functions reading old.tasks (with_steps steps e) p
  over old e steps p size = sym (behind_enough tables inputs set functions reading old.tasks e.natives (steps ∷ []) e.env p size)

  -- what waits for a value that goes into a register, and for what a setter gives, by the steps that come first
  goes_in : (registers : List (Labelled T)) (count : ℕ) (to : Reg) (steps : Steps) (f : Setting) → f.natives ≡ steps ∷ [] → after_task tables inputs set functions reading (continuation.Answered count (Some to), registers) f ≡ with_result Value (answered_to (Some to) steps (map (read_value reading) registers))
  unfolding answered_in
  goes_in registers count to steps f is = ap (λ ns. with_result Value (answered_to (Some to) (outermost_steps ns) (map (read_value reading) registers))) is

  goes_by : (registers : List (Labelled T)) (count : ℕ) (v : Val) (steps : Steps) (f : Setting) → f.natives ≡ steps ∷ [] → after_task tables inputs set functions reading (continuation.Answered count None, registers) f ≡ (λ c t. and_plan (end_putting c t) (with_result One (λ u. answered_to None steps (map (read_value reading) registers) v)))
  unfolding put_behind
  goes_by registers count v steps f is = ap (λ ns. λ c t. and_plan (end_putting c t) (with_result One (λ u. answered_to None (outermost_steps ns) (map (read_value reading) registers) v))) is

  goes_over : (registers : List (Labelled T)) (count : ℕ) (steps : Steps) (f : Setting) → f.natives ≡ steps ∷ [] → after_task tables inputs set functions reading (continuation.Answered count None, registers) f ≡ with_result Value (answered_to None steps (map (read_value reading) registers))
  goes_over registers count steps f is = goes_by registers count (unlabelled undefined) steps f is ∙ sym (over_nothing (asks (steps_behind steps answer.Done) (map (read_value reading) registers)))

  -- it waits behind what was entered, whose plan doesn't depend on the setting
  module _ (old new : Kept T) (count : ℕ) (e : Setting) (steps : Steps) (s : State) (size : length e.natives ≡ waiting old.tasks) where
    registers : List Val
    registers = map (read_value reading) old.loose

    waits_on : (to : Option Reg) (move : Control) (p : Plan) (k : Then) → new.tasks ≡ old.tasks ++ (continuation.Answered count to, old.loose) ∷ []
        → ((f : Setting) → next_plan tables inputs set functions move (map (read_value reading) new.loose) f s ≡ p)
        → ((f : Setting) → f.natives ≡ steps ∷ [] → after_task tables inputs set functions reading (continuation.Answered count to, old.loose) f ≡ k)
        → coming tables inputs set functions reading new move (with_steps steps e) s ≡ behind tables inputs set functions reading old.tasks (with_steps steps e) (and_plan p k)
    waits_on to move p k tasks comes follows =
        let x = with_steps steps e in
        let w : Task T = (continuation.Answered count to, old.loose) in
        ap (λ ts. behind tables inputs set functions reading ts x (next_plan tables inputs set functions move (map (read_value reading) new.loose) (setting_above ts x) s)) tasks
        ∙ ap (behind tables inputs set functions reading (old.tasks ++ w ∷ []) x) (comes (setting_above (old.tasks ++ w ∷ []) x))
        ∙ behind_more tables inputs set functions reading old.tasks w x p
        ∙ ap (λ (then : Then). behind tables inputs set functions reading old.tasks x (and_plan p then)) (follows (setting_above old.tasks x) (above_enough old.tasks e.natives (steps ∷ []) e.env size))

    -- a value goes into a register
    pub waits_value : (to : Reg) (move : Control) (p : Plan) → new.tasks ≡ old.tasks ++ (continuation.Answered count (Some to), old.loose) ∷ []
        → ((f : Setting) → next_plan tables inputs set functions move (map (read_value reading) new.loose) f s ≡ p)
        → coming tables inputs set functions reading new move (with_steps steps e) s ≡ behind tables inputs set functions reading old.tasks (with_steps steps e) (and_plan p (with_result Value (answered_to (Some to) steps (map (read_value reading) old.loose))))
    waits_value to move p tasks comes = waits_on (Some to) move p (with_result Value (answered_to (Some to) steps (map (read_value reading) old.loose))) tasks comes (goes_in old.loose count to steps)

    -- what a setter gives goes nowhere
    pub waits_nothing : (v : Val) (move : Control) (p : Plan) → new.tasks ≡ old.tasks ++ (continuation.Answered count None, old.loose) ∷ []
        → ((f : Setting) → next_plan tables inputs set functions move (map (read_value reading) new.loose) f s ≡ p)
        → coming tables inputs set functions reading new move (with_steps steps e) s ≡ behind tables inputs set functions reading old.tasks (with_steps steps e) (and_plan (and_plan p end_putting) (with_result One (λ u. answered_to None steps (map (read_value reading) old.loose) v)))
    waits_nothing v move p tasks comes =
        waits_on None move p (λ c t. and_plan (end_putting c t) (with_result One (λ u. answered_to None steps (map (read_value reading) old.loose) v))) tasks comes (goes_by old.loose count v steps)
        ∙ ap (behind tables inputs set functions reading old.tasks (with_steps steps e)) (sym (then_plan p end_putting (with_result One (λ u. answered_to None steps (map (read_value reading) old.loose) v))))

    -- the `length` of an array is set behind both conversions of a value
    pub waits_length : (how : SetLength) (array v : Labelled T) (middle : Kept T) (move : Control) → middle.tasks ≡ old.tasks ++ (continuation.Answered count None, old.loose) ∷ [] → counts_from how array v middle new move
        → coming tables inputs set functions reading new move (with_steps steps e) s
        ≡ behind tables inputs set functions reading old.tasks (with_steps steps e) (and_plan (enter_count (entrance tables inputs set functions) (reading array.label) (read_value reading v) (sets_length tables inputs set functions how (read_value reading array)) s) (with_result Value (answered_to None steps (map (read_value reading) old.loose))))
    waits_length how array v middle move tasks counted =
        let x = with_steps steps e in
        let w : Task T = (continuation.Answered count None, old.loose) in
        let p = enter_count (entrance tables inputs set functions) (reading array.label) (read_value reading v) (sets_length tables inputs set functions how (read_value reading array)) s in
        length_begins how array v middle new move counted tables inputs set functions reading x s
        ∙ ap (λ ts. behind tables inputs set functions reading ts x p) tasks
        ∙ behind_more tables inputs set functions reading old.tasks w x p
        ∙ ap (λ (then : Then). behind tables inputs set functions reading old.tasks x (and_plan p then)) (goes_over old.loose count steps (setting_above old.tasks x) (above_enough old.tasks e.natives (steps ∷ []) e.env size))

-- ---- a run that leaves asks for nothing

IsAsk : Plan → Type 0
IsAsk (Give c s) = ⊥
IsAsk (Ask part s go_on) = Unit {0}
IsAsk (End halt s) = ⊥

then_asks : (p : Plan) (k : Then) → IsAsk p → IsAsk (and_plan p k)
unfolding IsAsk
then_asks (Give c s) k is = absurd is
then_asks (Ask part s go_on) k is = tt
then_asks (End halt s) k is = absurd is

behind_asks : {T : Type 0} (tables : Tables) (inputs : Given) (set : BuiltIns) (functions : List FunctionCode) (reading : T → Label) (tasks : List (Task T)) (e : Setting) (p : Plan) → IsAsk p → IsAsk (behind tables inputs set functions reading tasks e p)
unfolding behind
behind_asks tables inputs set functions reading [] e p is = is
behind_asks tables inputs set functions reading (w ∷ tasks) e p is = then_asks _ _ (behind_asks tables inputs set functions reading tasks _ p is)

abbrev pub any_set : BuiltIns
any_set = record { entries = []; begins = λ which argc construct. throws_type_error }

abbrev any_state : State
any_state = record { frames = []; heap = []; records = []; positions = []; lines = []; turns = 0 }

never : {T : Type 0} (new : Kept T) (count : ℕ) (halt : Halt) → coming no_tables [] any_set [] (λ l. bottom) new (control.Request count) (setting_of [] here) any_state ≡ End halt any_state → ⊥
unfolding IsAsk
never new count halt is = subst IsAsk is (behind_asks no_tables [] any_set [] (λ l. bottom) new.tasks (setting_of [] here) (next_plan no_tables [] any_set [] (control.Request count) (map (read_value (λ l. bottom)) new.loose) (setting_above new.tasks (setting_of [] here)) any_state) tt)

pub leaves_idle : {T : Type 0} (old new : Kept T) (move : Control) (halt : Halt)
    → ((tables : Tables) (inputs : Given) (set : BuiltIns) (functions : List FunctionCode) (reading : T → Label) (e : Setting) (s : State) → coming tables inputs set functions reading new move e s ≡ behind tables inputs set functions reading old.tasks e (End halt s))
    → running move ≡ 0
leaves_idle old new (control.Request count) halt goes =
    absurd (never new count halt (goes no_tables [] any_set [] (λ l. bottom) (setting_of [] here) any_state ∙ behind_end no_tables [] any_set [] (λ l. bottom) old.tasks (setting_of [] here) halt any_state))
leaves_idle old new move halt goes = refl

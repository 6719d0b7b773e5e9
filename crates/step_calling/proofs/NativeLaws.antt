-- The plans of built-ins that are called, or construct.
use Rattle.std.proofs.Common.{arith, refl, sym, ap, ap₂, subst, ◌∙◌, ◌≡◌, ◌≤◌, ◌<◌, ◌+◌, ◌-◌, ℕ, suc, zero, Bool, true, false, List, [], ◌∷◌, ◌++◌, map, length, drop, Some, Result, Ok, Err, IfOk}
use Rattle.std.specs.List.{slice_get}
use Rattle.std.proofs.lemmas.List.{length-map}
use Rattle.std.proofs.lemmas.Option.{none-some, same_Some, slice_get_past}
use Rattle.origin_labels.specs.Label.{Label, bottom}
use Rattle.flow_policy.specs.Policies.{Tables}
use Rattle.flow_policy.specs.Inputs.{Given}
use Rattle.flow_frames.specs.declared.faults.FlowFault.{FlowFault}
use Rattle.flow_frames.specs.declared.faults.FlowFault.TheVariants as fault
use Rattle.flow_frames.specs.declared.kind.Kind.TheVariants as kind
use Rattle.js_ast.specs.Functions.{FunctionCode}
use Rattle.js_values.specs.declared.ids.ObjId.{ObjId}
use Rattle.js_values.specs.declared.value.Labelled.{Labelled}
use Rattle.js_values.specs.declared.value.Value.TheVariants as value
use Rattle.js_values.specs.Readings.{IsReading, read_value}
use Rattle.native_protocol.specs.declared.natives.Form.{Form}
use Rattle.native_protocol.specs.declared.request.Answer.{Answer}
use Rattle.native_protocol.specs.declared.request.Request.{Request}
use Rattle.native_protocol.specs.Sets.{seen_entry}
use Rattle.es_meaning.specs.BuiltIns.{BuiltIns, begins_in}
use Rattle.es_meaning.specs.Functions.{Callee, empty_callee, not_callable, of_built_in, of_script}
use Rattle.es_meaning.specs.Holders.{constructs_in, entry_constructs, form_constructs}
use Rattle.es_meaning.specs.Operations.{Value}
use Rattle.es_meaning.specs.Plain.{choose, undefined}
use Rattle.flow_meaning.specs.Erased.{unlabelled}
use Rattle.native_protocol.specs.declared.request.ErrorKind.TheVariants as kinds
use Rattle.flow_meaning.specs.Planned.{Plan, as_plan, asking, call_by, construct_built_in, construct_by, in_frame}
use Rattle.flow_meaning.specs.Scopes.{State, Val}
use Rattle.flow_meaning.specs.Tracked.{called_value, throw_error}
use Rattle.step_natives.specs.States.{States, running_steps, waiting_steps}
use Rattle.run_state.specs.declared.world.World.{World}
use Rattle.run_state.specs.Worlds.{state_of}
use Rattle.continuations.specs.declared.continuation.Control.{Control}
use Rattle.continuations.specs.declared.continuation.Control.TheVariants as control
use Rattle.continuations.specs.Going.{here}
use Rattle.continuations.specs.Kept.{Kept, waiting}
use Rattle.continuations.specs.Pending.{behind}
use Rattle.continuations.specs.Resuming.{coming}
use Rattle.continuations.specs.Settings.{entrance, setting_of}
use Rattle.continuations.specs.Shapes.{nth}
use Rattle.continuations.specs.Invariant.{running}
use Rattle.step_calling.specs.Calling.{CallsBy, Comes, ConstructsBy, lying, native_in}
use Rattle.step_natives.specs.Framed.{Leads, RunsNative, steps_at, steps_behind}

-- ---- which built-ins construct

pub constructs_first : (set : BuiltIns) (which : ℕ) → which < 3 → constructs_in set which ≡ true
constructs_first set zero below = refl
constructs_first set (suc zero) below = refl
constructs_first set (suc (suc zero)) below = refl
constructs_first set (suc (suc (suc which))) below = absurd (omega (arith, below))

pub constructs_at : (set : BuiltIns) (which place : ℕ) → which ≡ place + 3 → constructs_in set which ≡ entry_constructs (slice_get set.entries place)
constructs_at set zero place is = absurd (omega (arith, is))
constructs_at set (suc zero) place is = absurd (omega (arith, is))
constructs_at set (suc (suc zero)) place is = absurd (omega (arith, is))
constructs_at set (suc (suc (suc which))) place is = let same : which ≡ place = omega (arith, is) in ap (λ n. entry_constructs (slice_get set.entries n)) same

pub constructs_past : (set : BuiltIns) (which place : ℕ) → which ≡ place + 3 → length set.entries ≤ place → constructs_in set which ≡ false
constructs_past set which place is past = constructs_at set which place is ∙ ap entry_constructs (slice_get_past set.entries place past)

pub constructs_by_form : (set : BuiltIns) (which place : ℕ) (holder name : List ℕ) (n : ℕ) (form : Form) → which ≡ place + 3 → slice_get set.entries place ≡ Some (seen_entry holder name n form) → constructs_in set which ≡ form_constructs form
constructs_by_form set which place holder name n form is there = constructs_at set which place is ∙ ap entry_constructs there

-- by its number
pub native_so : (what : Callee) (which : ℕ) → native_in what ≡ Some which → what ≡ of_built_in which
native_so (of_built_in n) which is = ap of_built_in (same_Some n which is)
native_so not_callable which is = absurd (none-some which is)
native_so empty_callee which is = absurd (none-some which is)
native_so (of_script number f place) which is = absurd (none-some which is)

-- ---- the states while no built-in runs

module _ {X : Type 0} (tells : X → Answer → X) (asks : X → Request) (natives : States X) where
  pub steps_quiet : (move : Control) → running move ≡ 0 → steps_at tells asks natives move ≡ waiting_steps tells asks natives
  steps_quiet (control.Request count) quiet = absurd (omega (arith, quiet))
  steps_quiet _ quiet = refl

-- ---- registers

-- what is called stands behind `this`
registers_of : {T : Type 0} (reading : T → Label) (loose : List (Labelled T)) (f : ObjId) (label : T) → 2 ≤ length loose → Leads (drop 1 loose) (record { value = value.Object f; label = label })
    → map (read_value reading) loose ≡ nth 0 (map (read_value reading) loose) ∷ called_value (reading label) f.0 ∷ drop 2 (map (read_value reading) loose)
registers_of reading [] f label enough leads = absurd (omega (arith, enough))
registers_of reading (v ∷ []) f label enough leads = absurd (omega (arith, enough))
registers_of reading (v ∷ u ∷ loose) f label enough leads = ap (λ vs. map (read_value reading) (v ∷ vs)) leads

drop_read : {T : Type 0} (reading : T → Label) (loose : List (Labelled T)) → map (read_value reading) (drop 1 loose) ≡ drop 1 (map (read_value reading) loose)
drop_read reading [] = refl
drop_read reading (v ∷ loose) = refl

module _ {S T X : Type 0} (made : S → T → Type 0) (meaning : S → T → Label) (store : S) (tables : Tables) (inputs : Given) (set : BuiltIns) (functions : List FunctionCode) (tells : X → Answer → X) (asks : X → Request) (natives_old natives_new : States X) where
  -- a built-in whose state was begun runs
  native_comes : (plan : (T → Label) → State → Plan) (which : ℕ) (constructs : Bool) (count argc : ℕ) (label : T) (old laid new : Kept T) (world world_new : World T) → RunsNative made meaning store label laid new world world_new (control.Request count)
      → running_steps tells asks natives_new ≡ waiting_steps tells asks natives_old ++ begins_in set which argc constructs ∷ [] → length (waiting_steps tells asks natives_old) ≡ waiting laid.tasks → laid.tasks ≡ old.tasks → length laid.loose - 2 ≡ argc
      → ((reading : T → Label) (s : State) → IsReading made meaning store reading → in_frame kind.Native (reading label) ((entrance tables inputs set functions).built_in which constructs (lying reading laid)) s ≡ plan reading s)
      → Comes made meaning store tables inputs set functions (waiting_steps tells asks natives_old) (steps_at tells asks natives_new (control.Request count)) plan old new world world_new (Ok (control.Request count))
  native_comes plan which constructs count argc label old laid new world world_new runs begun size tasks counted same = λ reading told turns read.
      let ns = waiting_steps tells asks natives_old in
      let s = state_of reading world told turns in
      let vs = lying reading laid in
      ap (λ xs. coming tables inputs set functions reading new (control.Request count) (setting_of xs here) (state_of reading world_new told turns)) begun
      ∙ runs tables inputs set functions reading (setting_of ns here) (begins_in set which argc constructs) told turns read size
      ∙ ap (λ n. behind tables inputs set functions reading laid.tasks (setting_of ns here) (in_frame kind.Native (reading label) ((asking tables inputs set functions).native (begins_in set which n constructs) vs) s)) (sym counted ∙ ap (λ n. n - 2) (sym (length-map laid.loose (read_value reading))))
      ∙ ap₂ (λ ts p. behind tables inputs set functions reading ts (setting_of ns here) p) tasks (same reading s read)

  pub native_calls : (which count argc : ℕ) (label : T) (o : ObjId) (old new : Kept T) (world world_new : World T) (move : Control) → move ≡ control.Request count → RunsNative made meaning store label old new world world_new move
      → running_steps tells asks natives_new ≡ waiting_steps tells asks natives_old ++ begins_in set which argc false ∷ [] → length (waiting_steps tells asks natives_old) ≡ waiting old.tasks → length old.loose - 2 ≡ argc
      → 2 ≤ length old.loose → Leads (drop 1 old.loose) (record { value = value.Object o; label = label })
      → CallsBy made meaning store tables inputs set functions (waiting_steps tells asks natives_old) (steps_behind {T = T} tells asks natives_new (Ok move)) (of_built_in which) label o.0 old new world world_new (Ok move)
  unfolding call_by
  native_calls which count argc label o old new world world_new move is runs begun size counted enough leads =
      subst (λ m. RunsNative made meaning store label old new world world_new m → CallsBy made meaning store tables inputs set functions (waiting_steps tells asks natives_old) (steps_at tells asks natives_new m) (of_built_in which) label o.0 old new world world_new (Ok m)) (sym is)
      (λ r. native_comes (λ reading s. call_by functions (of_built_in which) (reading label) o.0 (nth 0 (lying reading old)) (drop 2 (lying reading old)) (entrance tables inputs set functions) s) which false count argc label old old new world world_new r begun size refl counted
      (λ reading s read. ap (λ vs. in_frame kind.Native (reading label) ((entrance tables inputs set functions).built_in which false vs) s) (registers_of reading old.loose o label enough leads))) runs

  pub native_constructs : (which count argc : ℕ) (label none : T) (o : ObjId) (old laid new : Kept T) (world world_new : World T) (move : Control) → constructs_in set which ≡ true → move ≡ control.Request count → RunsNative made meaning store label laid new world world_new move
      → running_steps tells asks natives_new ≡ waiting_steps tells asks natives_old ++ begins_in set which argc true ∷ [] → length (waiting_steps tells asks natives_old) ≡ waiting laid.tasks → laid.tasks ≡ old.tasks → length laid.loose - 2 ≡ argc
      → laid.loose ≡ record { value = undefined; label = none } ∷ old.loose → ((reading : T → Label) → IsReading made meaning store reading → reading none ≡ bottom) → Leads old.loose (record { value = value.Object o; label = label })
      → ConstructsBy made meaning store tables inputs set functions (waiting_steps tells asks natives_old) (steps_behind {T = T} tells asks natives_new (Ok move)) (of_built_in which) label o.0 old new world world_new (Ok move)
  unfolding construct_by construct_built_in
  native_constructs which count argc label none o old laid new world world_new move does is runs begun size tasks counted lies empty leads =
      let E = entrance tables inputs set functions in
      subst (λ m. RunsNative made meaning store label laid new world world_new m → ConstructsBy made meaning store tables inputs set functions (waiting_steps tells asks natives_old) (steps_at tells asks natives_new m) (of_built_in which) label o.0 old new world world_new (Ok m)) (sym is)
      (λ r. native_comes (λ reading s. construct_by set functions (of_built_in which) (reading label) o.0 (drop 1 (lying reading old)) E s) which true count argc label old laid new world world_new r begun size tasks counted
      (λ reading s read.
      ap (λ vs. in_frame kind.Native (reading label) (E.built_in which true (map (read_value reading) vs)) s) lies
      ∙ ap₂ (λ l vs. in_frame kind.Native (reading label) (E.built_in which true (record { value = undefined; label = l } ∷ map (read_value reading) vs)) s) (empty reading read) leads
      ∙ ap (λ vs. in_frame kind.Native (reading label) (E.built_in which true (unlabelled undefined ∷ called_value (reading label) o.0 ∷ vs)) s) (drop_read reading old.loose)
      ∙ ap (λ b. in_frame kind.Native (reading label) (choose b (E.built_in which true (unlabelled undefined ∷ called_value (reading label) o.0 ∷ drop 1 (lying reading old))) (λ t. as_plan Value (throw_error {X = Val} kinds.TypeError (reading label) t))) s) (sym does))) runs

  -- while none is begun the states stay
  pub quiet_comes : (plan : (T → Label) → State → Plan) (old new : Kept T) (world world_new : World T) (result : Result Control (FlowFault T)) → natives_new ≡ natives_old → IfOk result (λ move. running move ≡ 0)
      → Comes made meaning store tables inputs set functions (waiting_steps tells asks natives_old) (waiting_steps tells asks natives_old) plan old new world world_new result
      → Comes made meaning store tables inputs set functions (waiting_steps tells asks natives_old) (steps_behind tells asks natives_new result) plan old new world world_new result
  quiet_comes plan old new world world_new (Ok move) same quiet comes =
      subst (λ ns. Comes made meaning store tables inputs set functions (waiting_steps tells asks natives_old) ns plan old new world world_new (Ok move))
      (ap (waiting_steps tells asks) (sym same) ∙ sym (steps_quiet tells asks natives_new move quiet)) comes
  quiet_comes plan old new world world_new (Err (fault.Stop stop)) same quiet comes = comes
  quiet_comes plan old new world world_new (Err fault.OutOfMemory) same quiet comes = comes

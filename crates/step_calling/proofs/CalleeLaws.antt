-- From the plan of what was reached to that of a call or a construction.
use Rattle.std.proofs.Common.{arith, refl, sym, ap, ap₂, subst, ◌∙◌, ◌≡◌, ◌≤◌, ℕ, List, [], ◌∷◌, map, length, drop, Some, None, Result}
use Rattle.std.proofs.lemmas.List.{length-map}
use Rattle.std.proofs.lemmas.Option.{none-some}
use Rattle.origin_labels.specs.Label.{Label}
use Rattle.flow_policy.specs.Policies.{Tables}
use Rattle.flow_policy.specs.Inputs.{Given}
use Rattle.flow_frames.specs.declared.faults.FlowFault.{FlowFault}
use Rattle.flow_frames.specs.declared.kind.Kind.TheVariants as kind
use Rattle.flow_frames.specs.Held.{seen_frame}
use Rattle.js_ast.specs.Functions.{FunctionCode}
use Rattle.js_values.specs.declared.ids.ObjId.{ObjId}
use Rattle.js_values.specs.declared.value.Labelled.{Labelled}
use Rattle.js_values.specs.declared.value.Value.{Value as Data}
use Rattle.js_values.specs.declared.value.Value.TheVariants as value
use Rattle.js_values.specs.Readings.{IsReading, read_heap, read_object, read_value}
use Rattle.native_protocol.specs.Steps.{Steps}
use Rattle.es_meaning.specs.BuiltIns.{BuiltIns}
use Rattle.es_meaning.specs.Evaluation.{call_with}
use Rattle.es_meaning.specs.Functions.{Callee, empty_callee, not_callable, of_built_in, of_script}
use Rattle.flow_meaning.specs.Planned.{Enters, Plan, and_plan, call_by, call_value, construct_by, construct_value, end_call, end_construction, enter_call, enter_construction}
use Rattle.flow_meaning.specs.Scopes.{LabelledLine, State, Val, pushed_on}
use Rattle.flow_meaning.specs.Tracked.{callee_at}
use Rattle.run_state.specs.declared.world.World.{World}
use Rattle.run_state.specs.Worlds.{state_of}
use Rattle.continuations.specs.declared.continuation.Control.{Control}
use Rattle.continuations.specs.declared.continuation.Control.TheVariants as control
use Rattle.continuations.specs.Going.{Begins, here}
use Rattle.continuations.specs.Kept.{Kept}
use Rattle.continuations.specs.Moving.{Moves}
use Rattle.continuations.specs.Pending.{Task, behind, env_above, setting_above, setting_inside}
use Rattle.continuations.specs.Settings.{Setting, entrance, setting_of}
use Rattle.continuations.specs.Shapes.{nth}
use Rattle.step_calling.specs.declared.reaching.Reached.{Reached}
use Rattle.step_calling.specs.Calling.{CallsBy, CallsObject, Comes, ConstructsBy, ConstructsObject, InCall, InConstruction, lying, native_in, object_in}
use Rattle.step_calling.specs.Reaching.{ReachesCall, ReachesConstruction}
use Rattle.step_natives.specs.Framed.{Leads}

-- ---- what lies loose

second_is : {T : Type 0} (reading : T → Label) (loose : List (Labelled T)) (v : Labelled T) → 2 ≤ length loose → Leads (drop 1 loose) v → nth 1 (map (read_value reading) loose) ≡ read_value reading v
second_is reading [] v enough leads = absurd (omega (arith, enough))
second_is reading (a ∷ []) v enough leads = absurd (omega (arith, enough))
second_is reading (a ∷ b ∷ loose) v enough leads = ap (λ vs. nth 0 (map (read_value reading) vs)) leads

first_is : {T : Type 0} (reading : T → Label) (loose : List (Labelled T)) (v : Labelled T) → Leads loose v → nth 0 (map (read_value reading) loose) ≡ read_value reading v
first_is reading loose v leads = ap (λ vs. nth 0 (map (read_value reading) vs)) leads

is_object : (v : Data) (o : ObjId) → object_in v ≡ Some o → v ≡ value.Object o
is_object (value.Primitive p) o e = absurd (none-some o e)
is_object (value.Object p) o e = let same : p ≡ o = cc e in ap value.Object same

pub object_leads : {T : Type 0} (loose : List (Labelled T)) (v : Labelled T) (o : ObjId) → object_in v.value ≡ Some o → Leads loose v → Leads loose (record { value = value.Object o; label = v.label })
object_leads loose v o is leads = subst (λ (d : Data). Leads loose (record { value = d; label = v.label })) (is_object v.value o is) leads

-- ---- by what it is

module _ (functions : List FunctionCode) (E : Enters) (s : State) where
  no_object_called : (label : Label) (v : Data) (this : Val) (args : List Val) → object_in v ≡ None → call_by functions not_callable label 0 this args E s ≡ call_value functions label v this args E s
  unfolding call_value
  no_object_called label (value.Primitive p) this args e = refl
  no_object_called label (value.Object p) this args e = absurd (none-some p (sym e))

  no_object_constructs : (set : BuiltIns) (label : Label) (v : Data) (args : List Val) → object_in v ≡ None → construct_by set functions not_callable label 0 args E s ≡ construct_value set functions label v args E s
  unfolding construct_value
  no_object_constructs set label (value.Primitive p) args e = refl
  no_object_constructs set label (value.Object p) args e = absurd (none-some p (sym e))

  other_called : (what : Callee) (label : Label) (o : ℕ) (this : Val) (args : List Val) → native_in what ≡ None → and_plan (enter_call functions what label this args E (length s.frames) (pushed_on kind.Call label s)) (end_call (length s.frames)) ≡ call_by functions what label o this args E s
  unfolding call_by
  other_called not_callable label o this args other = refl
  other_called empty_callee label o this args other = refl
  other_called (of_script number f place) label o this args other = refl
  other_called (of_built_in which) label o this args other = absurd (none-some which (sym other))

  other_constructs : (set : BuiltIns) (what : Callee) (label : Label) (o : ℕ) (args : List Val) → native_in what ≡ None → and_plan (enter_construction functions what label o args E (length s.frames) (pushed_on kind.Call label s)) (end_construction (length s.heap) (length s.frames)) ≡ construct_by set functions what label o args E s
  unfolding construct_by
  other_constructs set not_callable label o args other = refl
  other_constructs set empty_callee label o args other = refl
  other_constructs set (of_script number f place) label o args other = refl
  other_constructs set (of_built_in which) label o args other = absurd (none-some which (sym other))

-- the place of a setting is that of the pending work
pub place_above : {T : Type 0} (tasks : List (Task T)) (e : Setting) → (setting_above tasks e).env ≡ env_above tasks e.env
unfolding setting_above env_above
place_above [] e = refl
place_above (w ∷ tasks) e = place_above tasks (setting_inside w.0 e)

module _ {S T : Type 0} (made : S → T → Type 0) (meaning : S → T → Label) (store : S) (tables : Tables) (inputs : Given) (set : BuiltIns) (functions : List FunctionCode) where
  -- another plan that is equal, of another state
  pub comes_as : (natives_old natives_new : List Steps) (p q : (T → Label) → State → Plan) (laid old new : Kept T) (inner world world_new : World T) (result : Result Control (FlowFault T)) → laid.tasks ≡ old.tasks
      → ((reading : T → Label) (told : List LabelledLine) (turns : ℕ) → IsReading made meaning store reading → p reading (state_of reading inner told turns) ≡ q reading (state_of reading world told turns))
      → Comes made meaning store tables inputs set functions natives_old natives_new p laid new inner world_new result → Comes made meaning store tables inputs set functions natives_old natives_new q old new world world_new result
  comes_as natives_old natives_new p q laid old new inner world world_new result tasks same comes = λ reading told turns read.
      subst (λ r. Moves tables inputs set functions reading new (setting_of natives_new here) (state_of reading world_new told turns) r result)
      (ap₂ (λ ts r. behind tables inputs set functions reading ts (setting_of natives_old here) r) tasks (same reading told turns read)) (comes reading told turns read)

  module _ (natives_old natives_new : List Steps) (old new : Kept T) (world world_new : World T) (result : Result Control (FlowFault T)) where
    -- ---- calls

    pub call_begins : (count : ℕ) (v : Labelled T) (f : ObjId) → 2 ≤ length old.loose → Leads (drop 1 old.loose) v → object_in v.value ≡ Some f
        → CallsObject made meaning store tables inputs set functions natives_old natives_new f v.label old new world world_new result → Begins made meaning store tables inputs set functions natives_old natives_new old new world world_new (control.Call count) result
    unfolding call_with
    call_begins count v f enough leads object comes =
        comes_as natives_old natives_new (λ reading s. call_value functions (reading v.label) (value.Object f) (nth 0 (lying reading old)) (drop 2 (lying reading old)) (entrance tables inputs set functions) s)
        (λ reading s. call_value functions (nth 1 (lying reading old)).label (nth 1 (lying reading old)).value (nth 0 (lying reading old)) (drop 2 (lying reading old)) (entrance tables inputs set functions) s)
        old old new world world world_new result refl
        (λ reading told turns read. let s = state_of reading world told turns in
        ap (λ d. call_value functions (reading v.label) d (nth 0 (lying reading old)) (drop 2 (lying reading old)) (entrance tables inputs set functions) s) (sym (is_object v.value f object))
        ∙ ap (λ (u : Val). call_value functions u.label u.value (nth 0 (lying reading old)) (drop 2 (lying reading old)) (entrance tables inputs set functions) s) (sym (second_is reading old.loose v enough leads))) comes

    pub refused_begins : (count : ℕ) (v : Labelled T) → 2 ≤ length old.loose → Leads (drop 1 old.loose) v → object_in v.value ≡ None
        → CallsBy made meaning store tables inputs set functions natives_old natives_new not_callable v.label 0 old new world world_new result → Begins made meaning store tables inputs set functions natives_old natives_new old new world world_new (control.Call count) result
    unfolding call_with
    refused_begins count v enough leads object comes =
        comes_as natives_old natives_new (λ reading s. call_by functions not_callable (reading v.label) 0 (nth 0 (lying reading old)) (drop 2 (lying reading old)) (entrance tables inputs set functions) s)
        (λ reading s. call_value functions (nth 1 (lying reading old)).label (nth 1 (lying reading old)).value (nth 0 (lying reading old)) (drop 2 (lying reading old)) (entrance tables inputs set functions) s)
        old old new world world world_new result refl
        (λ reading told turns read. let s = state_of reading world told turns in
        no_object_called functions (entrance tables inputs set functions) s (reading v.label) v.value (nth 0 (lying reading old)) (drop 2 (lying reading old)) object
        ∙ ap (λ (u : Val). call_value functions u.label u.value (nth 0 (lying reading old)) (drop 2 (lying reading old)) (entrance tables inputs set functions) s) (sym (second_is reading old.loose v enough leads))) comes

    -- ---- constructions

    pub construction_begins : (count : ℕ) (v : Labelled T) (f : ObjId) → Leads old.loose v → object_in v.value ≡ Some f
        → ConstructsObject made meaning store tables inputs set functions natives_old natives_new f v.label old new world world_new result → Begins made meaning store tables inputs set functions natives_old natives_new old new world world_new (control.Construct count) result
    unfolding call_with
    construction_begins count v f leads object comes =
        comes_as natives_old natives_new (λ reading s. construct_value set functions (reading v.label) (value.Object f) (drop 1 (lying reading old)) (entrance tables inputs set functions) s)
        (λ reading s. construct_value set functions (nth 0 (lying reading old)).label (nth 0 (lying reading old)).value (drop 1 (lying reading old)) (entrance tables inputs set functions) s)
        old old new world world world_new result refl
        (λ reading told turns read. let s = state_of reading world told turns in
        ap (λ d. construct_value set functions (reading v.label) d (drop 1 (lying reading old)) (entrance tables inputs set functions) s) (sym (is_object v.value f object))
        ∙ ap (λ (u : Val). construct_value set functions u.label u.value (drop 1 (lying reading old)) (entrance tables inputs set functions) s) (sym (first_is reading old.loose v leads))) comes

    pub no_construction_begins : (count : ℕ) (v : Labelled T) → Leads old.loose v → object_in v.value ≡ None
        → ConstructsBy made meaning store tables inputs set functions natives_old natives_new not_callable v.label 0 old new world world_new result → Begins made meaning store tables inputs set functions natives_old natives_new old new world world_new (control.Construct count) result
    unfolding call_with
    no_construction_begins count v leads object comes =
        comes_as natives_old natives_new (λ reading s. construct_by set functions not_callable (reading v.label) 0 (drop 1 (lying reading old)) (entrance tables inputs set functions) s)
        (λ reading s. construct_value set functions (nth 0 (lying reading old)).label (nth 0 (lying reading old)).value (drop 1 (lying reading old)) (entrance tables inputs set functions) s)
        old old new world world world_new result refl
        (λ reading told turns read. let s = state_of reading world told turns in
        no_object_constructs functions (entrance tables inputs set functions) s set (reading v.label) v.value (drop 1 (lying reading old)) object
        ∙ ap (λ (u : Val). construct_value set functions u.label u.value (drop 1 (lying reading old)) (entrance tables inputs set functions) s) (sym (first_is reading old.loose v leads))) comes

    -- ---- what was reached

    module _ (before_store : S) (earlier : (reading : T → Label) → IsReading made meaning store reading → IsReading made meaning before_store reading) (laid : Kept T) (f : ObjId) (label : T) (r : Reached T) (what : Callee)
        (is : (reading : T → Label) → what ≡ callee_at functions (read_heap reading world.heap) r.function.0) where
      pub reached_called : ReachesCall made meaning before_store world.heap f label old laid r → CallsBy made meaning store tables inputs set functions natives_old natives_new what r.label r.function.0 laid new world world_new result
          → CallsObject made meaning store tables inputs set functions natives_old natives_new f label old new world world_new result
      reached_called reaches comes =
          comes_as natives_old natives_new (λ reading s. call_by functions what (reading r.label) r.function.0 (nth 0 (lying reading laid)) (drop 2 (lying reading laid)) (entrance tables inputs set functions) s)
          (λ reading s. call_value functions (reading label) (value.Object f) (nth 0 (lying reading old)) (drop 2 (lying reading old)) (entrance tables inputs set functions) s)
          laid old new world world world_new result reaches.laid.tasks
          (λ reading told turns read. let s = state_of reading world told turns in
          ap (λ c. call_by functions c (reading r.label) r.function.0 (nth 0 (lying reading laid)) (drop 2 (lying reading laid)) (entrance tables inputs set functions) s) (is reading)
          ∙ sym (reaches.calls functions (entrance tables inputs set functions) s reading (earlier reading read) refl)) comes

      pub reached_constructs : ReachesConstruction made meaning before_store world.heap f label old laid r → ConstructsBy made meaning store tables inputs set functions natives_old natives_new what r.label r.function.0 laid new world world_new result
          → ConstructsObject made meaning store tables inputs set functions natives_old natives_new f label old new world world_new result
      reached_constructs reaches comes =
          comes_as natives_old natives_new (λ reading s. construct_by set functions what (reading r.label) r.function.0 (drop 1 (lying reading laid)) (entrance tables inputs set functions) s)
          (λ reading s. construct_value set functions (reading label) (value.Object f) (drop 1 (lying reading old)) (entrance tables inputs set functions) s)
          laid old new world world world_new result reaches.laid.tasks
          (λ reading told turns read. let s = state_of reading world told turns in
          ap (λ c. construct_by set functions c (reading r.label) r.function.0 (drop 1 (lying reading laid)) (entrance tables inputs set functions) s) (is reading)
          ∙ sym (reaches.constructs set functions (entrance tables inputs set functions) s reading (earlier reading read) refl)) comes

    -- ---- in the frame of a call

    module _ (entered : World T) (what : Callee) (label : T) (o depth : ℕ) (other : native_in what ≡ None) (deep : depth ≡ length world.frames.frames)
        (pushes : (reading : T → Label) → IsReading made meaning store reading → (told : List LabelledLine) (turns : ℕ) → state_of reading entered told turns ≡ pushed_on kind.Call (reading label) (state_of reading world told turns)) where
      pub frame_called : natives_old ≡ natives_new → InCall made meaning store tables inputs set functions natives_old what label depth old new entered world_new result
          → CallsBy made meaning store tables inputs set functions natives_old natives_new what label o old new world world_new result
      frame_called same comes =
          subst (λ ns. CallsBy made meaning store tables inputs set functions natives_old ns what label o old new world world_new result) same
          (comes_as natives_old natives_old (λ reading s. and_plan (enter_call functions what (reading label) (nth 0 (lying reading old)) (drop 2 (lying reading old)) (entrance tables inputs set functions) depth s) (end_call depth))
          (λ reading s. call_by functions what (reading label) o (nth 0 (lying reading old)) (drop 2 (lying reading old)) (entrance tables inputs set functions) s)
          old old new entered world world_new result refl
          (λ reading told turns read. let s = state_of reading world told turns in
          let E = entrance tables inputs set functions in
          ap₂ (λ (d : ℕ) (t : State). and_plan (enter_call functions what (reading label) (nth 0 (lying reading old)) (drop 2 (lying reading old)) E d t) (end_call d)) (deep ∙ sym (length-map world.frames.frames (seen_frame reading))) (pushes reading read told turns)
          ∙ other_called functions E s what (reading label) o (nth 0 (lying reading old)) (drop 2 (lying reading old)) other) comes)

      pub frame_constructs : natives_old ≡ natives_new → entered.heap ≡ world.heap → InConstruction made meaning store tables inputs set functions natives_old what label o (length entered.heap) depth old new entered world_new result
          → ConstructsBy made meaning store tables inputs set functions natives_old natives_new what label o old new world world_new result
      frame_constructs same heap comes =
          subst (λ ns. ConstructsBy made meaning store tables inputs set functions natives_old ns what label o old new world world_new result) same
          (comes_as natives_old natives_old (λ reading s. and_plan (enter_construction functions what (reading label) o (drop 1 (lying reading old)) (entrance tables inputs set functions) depth s) (end_construction (length entered.heap) depth))
          (λ reading s. construct_by set functions what (reading label) o (drop 1 (lying reading old)) (entrance tables inputs set functions) s)
          old old new entered world world_new result refl
          (λ reading told turns read. let s = state_of reading world told turns in
          let E = entrance tables inputs set functions in
          ap₂ (λ (d : ℕ) (t : State). and_plan (enter_construction functions what (reading label) o (drop 1 (lying reading old)) E d t) (end_construction (length entered.heap) d)) (deep ∙ sym (length-map world.frames.frames (seen_frame reading))) (pushes reading read told turns)
          ∙ ap (λ n. and_plan (enter_construction functions what (reading label) o (drop 1 (lying reading old)) E (length s.frames) (pushed_on kind.Call (reading label) s)) (end_construction n (length s.frames))) (ap length heap ∙ sym (length-map world.heap (read_object reading)))
          ∙ other_constructs functions E s set what (reading label) o (drop 1 (lying reading old)) other) comes)

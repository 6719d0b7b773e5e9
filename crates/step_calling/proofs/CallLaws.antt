-- The plans of what is done in the frame of a call or a construction.
use Rattle.std.proofs.Common.{arith, refl, sym, ap, ap₂, subst, ◌∙◌, ◌≡◌, ◌≤◌, ◌<◌, ◌-◌, ℕ, true, false, List, [], ◌∷◌, ◌++◌, map, length, take, drop, Some, Result, Ok, Err}
use Rattle.std.specs.Result.{IsErrAnd}
use Rattle.std.proofs.lemmas.List.{length-map, length-take-le}
use Rattle.origin_labels.specs.Label.{Label, bottom, union}
use Rattle.flow_policy.specs.Policies.{Tables}
use Rattle.flow_policy.specs.Inputs.{Given}
use Rattle.flow_frames.specs.declared.faults.FlowFault.{FlowFault}
use Rattle.flow_frames.specs.declared.faults.FlowFault.TheVariants as fault
use Rattle.flow_frames.specs.declared.kind.Kind.{Kind}
use Rattle.flow_frames.specs.declared.kind.Kind.TheVariants as kind
use Rattle.flow_frames.specs.Changes.{pushed}
use Rattle.flow_frames.specs.Frames.{Frame}
use Rattle.flow_frames.specs.Held as held
use Rattle.flow_frames.specs.Held.{label_at, seen_frame}
use Rattle.flow_frames.specs.Kinds.{is_try}
use Rattle.js_ast.specs.Functions.{FunctionCode}
use Rattle.js_ast.specs.Trees.{Function, Statements, body_of}
use Rattle.js_values.specs.declared.ids.EnvId.{EnvId}
use Rattle.js_values.specs.declared.ids.ObjId.{ObjId}
use Rattle.js_values.specs.declared.value.Value.{Value as Data}
use Rattle.js_values.specs.declared.value.Labelled.{Labelled}
use Rattle.js_values.specs.declared.value.Value.TheVariants as value
use Rattle.js_values.specs.Readings.{IsReading, read_heap, read_object, read_record, read_value}
use Rattle.native_protocol.specs.declared.request.ErrorKind.TheVariants as kinds
use Rattle.native_protocol.specs.Steps.{Steps}
use Rattle.es_meaning.specs.BuiltIns.{BuiltIns}
use Rattle.es_meaning.specs.Environments.{called_env}
use Rattle.es_meaning.specs.Evaluation.{statements}
use Rattle.es_meaning.specs.Functions.{Callee, empty_callee, not_callable, of_built_in, of_script}
use Rattle.es_meaning.specs.Holders.{constructs_in}
use Rattle.es_meaning.specs.Operations.{One, Value}
use Rattle.es_meaning.specs.Outcomes.{Outcome, left}
use Rattle.es_meaning.specs.Plain.{choose, object_or_default, undefined}
use Rattle.es_meaning.specs.Start.{id}
use Rattle.flow_meaning.specs.Erased.{unlabelled}
use Rattle.flow_meaning.specs.Planned.{Enters, Plan, Give, and_plan, as_plan, asking, construct_built_in, construct_by, end_branch, end_call, end_construction, enter_call, enter_construction, gave, planned}
use Rattle.flow_meaning.specs.Scopes.{Halt, Jump, LabelledLine, State, Val, popped, pushed_on, stopped}
use Rattle.flow_meaning.specs.Tracked.{called_value, make_function, prototype_of, throw_error, with_call, with_fresh}
use Rattle.function_table.specs.Callees.{callee_of}
use Rattle.function_table.specs.declared.callee.Callee.{Callee as Known}
use Rattle.run_state.specs.declared.outcome.Outcome as machine
use Rattle.run_state.specs.declared.outcome.Outcome.TheVariants as outcomes
use Rattle.run_state.specs.declared.world.World.{World}
use Rattle.run_state.specs.Acts.{Acts, HasAnswer, thrown}
use Rattle.run_state.specs.Names.{leaving_name}
use Rattle.run_state.specs.Worlds.{state_of}
use Rattle.continuations.specs.declared.continuation.Jump.TheVariants as jump
use Rattle.continuations.specs.declared.continuation.Control.{Control}
use Rattle.continuations.specs.declared.continuation.Control.TheVariants as control
use Rattle.continuations.specs.declared.continuation.Continuation.{Continuation}
use Rattle.continuations.specs.declared.continuation.Continuation.TheVariants as continuation
use Rattle.continuations.specs.Going.{Begins, here}
use Rattle.continuations.specs.Kept.{Kept}
use Rattle.continuations.specs.Pending.{Task, after, behind, next_plan, setting_above, setting_inside}
use Rattle.continuations.specs.Resuming.{coming}
use Rattle.continuations.specs.Settings.{Setting, entrance, setting_of}
use Rattle.continuations.specs.Shapes.{nth}
use Rattle.continuations.proofs.Handed.{behind_end, gives_alone, jumps_alone}
use Rattle.continuations.proofs.EndLaws.{read_label, read_outside}
use Rattle.continuations.proofs.ScopeLaws.{in_scope}
use Rattle.function_entry.specs.Changing.{Changes, Gives}
use Rattle.step_calling.specs.Calling.{ConstructsBy, InCall, InConstruction, IsThrow, Refuses, StartsBody, lying}
use Rattle.step_calling.proofs.CalleeLaws.{comes_as}
use Rattle.step_calling.proofs.ThrowLaws.{no_leaving, throw_leaves, throw_passes_branch, throw_passes_call, throw_passes_construction}
use Rattle.step_natives.specs.Framed.{Begun}

-- ---- what throws in the frame of a call

module _ (functions : List FunctionCode) where
  pub not_callable_refused : (l : Label) (this : Val) (vs : List Val) (E : Enters) (depth : ℕ) (s : State) → enter_call functions not_callable l this vs E depth s ≡ as_plan One (throw_error kinds.TypeError l s)
  unfolding enter_call
  not_callable_refused l this vs E depth s = refl

  pub built_in_refused : (which : ℕ) (l : Label) (this : Val) (vs : List Val) (E : Enters) (depth : ℕ) (s : State) → enter_call functions (of_built_in which) l this vs E depth s ≡ as_plan One (throw_error kinds.TypeError l s)
  unfolding enter_call
  built_in_refused which l this vs E depth s = refl

  pub no_constructor : (l : Label) (o : ℕ) (vs : List Val) (E : Enters) (depth : ℕ) (s : State) → enter_construction functions not_callable l o vs E depth s ≡ as_plan One (throw_error kinds.TypeError l s)
  unfolding enter_construction
  no_constructor l o vs E depth s = refl

  pub empty_constructor : (l : Label) (o : ℕ) (vs : List Val) (E : Enters) (depth : ℕ) (s : State) → enter_construction functions empty_callee l o vs E depth s ≡ as_plan One (throw_error kinds.TypeError l s)
  unfolding enter_construction
  empty_constructor l o vs E depth s = refl

  pub built_in_constructor : (which : ℕ) (l : Label) (o : ℕ) (vs : List Val) (E : Enters) (depth : ℕ) (s : State) → enter_construction functions (of_built_in which) l o vs E depth s ≡ as_plan One (throw_error kinds.TypeError l s)
  unfolding enter_construction
  built_in_constructor which l o vs E depth s = refl

module _ {S T : Type 0} (made : S → T → Type 0) (meaning : S → T → Label) (store : S) (tables : Tables) (inputs : Given) (set : BuiltIns) (functions : List FunctionCode) (ns : List Steps) where
  abbrev E : Enters
  E = entrance tables inputs set functions

  abbrev thrown_for : T → (T → Label) → State → Plan
  thrown_for label reading s = as_plan One (throw_error kinds.TypeError (reading label) s)

  -- ---- what can't be called

  module _ (before_store : S) (earlier : (reading : T → Label) → IsReading made meaning store reading → IsReading made meaning before_store reading) (of : Kind) (quiet : is_try of ≡ false) (stack : Kept T) (world : World T) (count depth : ℕ) (label : T) (in_frame : Begun made meaning before_store of stack world count depth label) where
    abbrev outside : (T → Label) → List Frame
    outside reading = take depth (map (seen_frame reading) world.frames.frames)

    outside_size : (reading : T → Label) → length (outside reading) ≡ depth
    outside_size reading = length-take-le depth (map (seen_frame reading) world.frames.frames) (omega (arith, length-map world.frames.frames (seen_frame reading), in_frame.frames))

    outside_some : (reading : T → Label) → 0 < length (outside reading)
    outside_some reading = omega (arith, outside_size reading, in_frame.deep)

    pub refused_call : (what : Callee) (new : Kept T) (world_new : World T) (result : Result Control (FlowFault T))
        → ((l : Label) (this : Val) (vs : List Val) (s : State) → enter_call functions what l this vs E depth s ≡ as_plan One (throw_error kinds.TypeError l s))
        → Refuses made meaning store tables inputs set functions ns label stack new world world_new result → InCall made meaning store tables inputs set functions ns what label depth stack new world world_new result
    refused_call what new world_new result throws refuses =
        comes_as made meaning store tables inputs set functions ns ns (thrown_for label) (λ reading s. and_plan (enter_call functions what (reading label) (nth 0 (lying reading stack)) (drop 2 (lying reading stack)) E depth s) (end_call depth)) stack stack new world world world_new result refl
        (λ reading told turns read. let s = state_of reading world told turns in
        sym (throw_passes_call (outside reading) (pushed of (reading label)) quiet (outside_some reading) depth (outside_size reading) s (in_frame.innermost reading (earlier reading read)) kinds.TypeError (reading label))
        ∙ ap (λ p. and_plan p (end_call depth)) (sym (throws (reading label) (nth 0 (lying reading stack)) (drop 2 (lying reading stack)) s))) refuses

    pub refused_construction : (what : Callee) (o fresh : ℕ) (new : Kept T) (world_new : World T) (result : Result Control (FlowFault T))
        → ((l : Label) (vs : List Val) (s : State) → enter_construction functions what l o vs E depth s ≡ as_plan One (throw_error kinds.TypeError l s))
        → Refuses made meaning store tables inputs set functions ns label stack new world world_new result → InConstruction made meaning store tables inputs set functions ns what label o fresh depth stack new world world_new result
    refused_construction what o fresh new world_new result throws refuses =
        comes_as made meaning store tables inputs set functions ns ns (thrown_for label) (λ reading s. and_plan (enter_construction functions what (reading label) o (drop 1 (lying reading stack)) E depth s) (end_construction fresh depth)) stack stack new world world world_new result refl
        (λ reading told turns read. let s = state_of reading world told turns in
        sym (throw_passes_construction (outside reading) (pushed of (reading label)) quiet (outside_some reading) depth (outside_size reading) s (in_frame.innermost reading (earlier reading read)) fresh kinds.TypeError (reading label))
        ∙ ap (λ p. and_plan p (end_construction fresh depth)) (sym (throws (reading label) (drop 1 (lying reading stack)) s))) refuses

    -- a built-in that constructs nothing, in its own frame
    pub refused_native : (which o : ℕ) (outer : World T) (new : Kept T) (world_new : World T) (result : Result Control (FlowFault T)) → of ≡ kind.Native → constructs_in set which ≡ false → depth ≡ length outer.frames.frames
        → ((reading : T → Label) → IsReading made meaning store reading → (told : List LabelledLine) (turns : ℕ) → state_of reading world told turns ≡ pushed_on kind.Native (reading label) (state_of reading outer told turns))
        → Refuses made meaning store tables inputs set functions ns label stack new world world_new result → ConstructsBy made meaning store tables inputs set functions ns ns (of_built_in which) label o stack new outer world_new result
    unfolding construct_by construct_built_in
    refused_native which o outer new world_new result native none deep pushes refuses =
        comes_as made meaning store tables inputs set functions ns ns (thrown_for label) (λ reading s. construct_by set functions (of_built_in which) (reading label) o (drop 1 (lying reading stack)) E s) stack stack new world outer world_new result refl
        (λ reading told turns read.
        let s = state_of reading world told turns in
        let before = state_of reading outer told turns in
        let refuses_so = λ (t : State). as_plan Value (throw_error {X = Val} kinds.TypeError (reading label) t) in
        let runs = E.built_in which true (unlabelled undefined ∷ called_value (reading label) o ∷ drop 1 (lying reading stack)) in
        sym (throw_passes_branch (outside reading) (pushed of (reading label)) quiet (outside_some reading) depth (outside_size reading) s (in_frame.innermost reading (earlier reading read)) kinds.TypeError (reading label))
        ∙ ap₂ (λ (d : ℕ) (t : State). and_plan (refuses_so t) (end_branch Value d)) (deep ∙ sym (length-map outer.frames.frames (seen_frame reading))) (pushes reading read told turns)
        ∙ ap (λ b. and_plan (choose b runs refuses_so (pushed_on kind.Native (reading label) before)) (end_branch Value (length before.frames))) (sym none)) refuses

  -- by what it is in memory
  pub call_of : (what : Known) (it : Callee) (label : T) (depth : ℕ) (old new : Kept T) (world world_new : World T) (result : Result Control (FlowFault T)) → callee_of what ≡ it
      → InCall made meaning store tables inputs set functions ns it label depth old new world world_new result → InCall made meaning store tables inputs set functions ns (callee_of what) label depth old new world world_new result
  call_of what it label depth old new world world_new result is calls = subst (λ (c : Callee). InCall made meaning store tables inputs set functions ns c label depth old new world world_new result) (sym is) calls

  pub construction_of : (what : Known) (it : Callee) (label : T) (o fresh depth : ℕ) (old new : Kept T) (world world_new : World T) (result : Result Control (FlowFault T)) → callee_of what ≡ it
      → InConstruction made meaning store tables inputs set functions ns it label o fresh depth old new world world_new result → InConstruction made meaning store tables inputs set functions ns (callee_of what) label o fresh depth old new world world_new result
  construction_of what it label o fresh depth old new world world_new result is constructs = subst (λ (c : Callee). InConstruction made meaning store tables inputs set functions ns c label o fresh depth old new world world_new result) (sym is) constructs

  -- ---- the throw itself

  abbrev Throwing : T → World T → World T → Result (machine.Outcome Control T) (FlowFault T) → Type 0
  Throwing cause world world_new answer = Acts made meaning store (λ reading x. tt) (λ reading. throw_error {X = Unit {0}} kinds.TypeError (reading cause)) world world_new answer

  refused_fault : (cause : T) (old : Kept T) (world world_new : World T) (f : FlowFault T) → Throwing cause world world_new (Err f) → Refuses made meaning store tables inputs set functions ns cause old old world world_new (Err f)
  refused_fault cause old world world_new (fault.Stop stop) acts = λ reading told turns read.
      sym (behind_end tables inputs set functions reading old.tasks (setting_of ns here) (stopped stop.rule (reading stop.need) (reading stop.have)) (state_of reading world_new told turns))
      ∙ ap (λ (o : Outcome Halt Jump (Unit {0}) State). behind tables inputs set functions reading old.tasks (setting_of ns here) (as_plan One o)) (sym (acts.says reading read told turns))
  refused_fault cause old world world_new fault.OutOfMemory acts = λ reading told turns read. tt

  -- a `?` hands on the fault
  pub refused_passes : (cause : T) (old : Kept T) (world world_new : World T) (f : FlowFault T) (result : Result Control (FlowFault T)) → IsErrAnd result (λ e. e ≡ f) → Throwing cause world world_new (Err f) → Refuses made meaning store tables inputs set functions ns cause old old world world_new result
  refused_passes cause old world world_new f (Ok x) is acts = absurd is
  refused_passes cause old world world_new f (Err e) is acts = subst (λ (g : FlowFault T). Refuses made meaning store tables inputs set functions ns cause old old world world_new (Err g)) (sym is) (refused_fault cause old world world_new f acts)

  pub refused : (cause : T) (old new : Kept T) (world world_new : World T) (answer : machine.Outcome Control T) (move : Control) → Throwing cause world world_new (Ok answer) → IsThrow answer
      → move ≡ control.Jumps jump.Throws → new.tasks ≡ old.tasks → ((error : Labelled T) → answer ≡ outcomes.Throws error → new.loose ≡ error ∷ []) → Refuses made meaning store tables inputs set functions ns cause old new world world_new (Ok move)
  refused cause old new world world_new (outcomes.Throws v) move acts throws jumps tasks lies = λ reading told turns read.
      let t = state_of reading world_new told turns in
      ap (λ (m : Control). coming tables inputs set functions reading new m (setting_of ns here) t) jumps
      ∙ jumps_alone tables inputs set functions reading jump.Throws old new v (setting_of ns here) t tasks (lies v refl)
      ∙ ap (λ (o : Outcome Halt Jump (Unit {0}) State). behind tables inputs set functions reading old.tasks (setting_of ns here) (as_plan One o)) (sym (acts.says reading read told turns))
  refused cause old new world world_new (outcomes.Goes x) move acts throws jumps tasks lies = absurd throws
  refused cause old new world world_new (outcomes.Leaves why) move acts throws jumps tasks lies = absurd throws

  -- ---- what gives undefined

  pub nothing_given : (old new : Kept T) (world : World T) (frames : held.Kept T) (count depth : ℕ) (label out : T) → Begun made meaning store kind.Call old world count depth label
      → frames.frames ≡ take (length world.frames.frames - 1) world.frames.frames → label_at world.frames.frames (length world.frames.frames - 1) ≡ Some out
      → new.tasks ≡ old.tasks → new.loose ≡ record { value = undefined; label = out } ∷ []
      → InCall made meaning store tables inputs set functions ns empty_callee label depth old new world (record world { frames = frames }) (Ok control.Value)
  unfolding enter_call end_call popped union
  nothing_given old new world frames count depth label out in_frame cut labelled tasks lies = λ reading told turns read.
      let s = state_of reading world told turns in
      let place : length world.frames.frames - 1 ≡ depth = omega (arith, in_frame.frames) in
      gives_alone tables inputs set functions reading old new (record { value = undefined; label = out }) (setting_of ns here) (state_of reading (record world { frames = frames }) told turns) tasks lies
      ∙ ap₂ (λ (l : Label) (fs : List Frame). behind tables inputs set functions reading old.tasks (setting_of ns here) (Give (gave (record { value = undefined; label = l })) (record s { frames = fs })))
      (sym (read_label reading world.frames.frames depth out (sym (ap (label_at world.frames.frames) place) ∙ labelled)))
      (read_outside reading world.frames.frames frames.frames depth in_frame.frames cut)

  -- ---- functions of the script

  body_goes : (w : Continuation) (kept : List (Labelled T)) (old middle new : Kept T) (move : Control) (ss : Statements) → middle ≡ record { tasks = old.tasks ++ (w, kept) ∷ []; loose = [] } → StartsBody ss middle new move → (reading : T → Label) (s : State)
      → coming tables inputs set functions reading new move (setting_of ns here) s ≡ behind tables inputs set functions reading old.tasks (setting_of ns here) (and_plan (statements (planned tables inputs set functions) (asking tables inputs set functions) ss (setting_inside w (setting_above old.tasks (setting_of ns here))).env s) (after tables inputs set functions w (map (read_value reading) kept) (setting_above old.tasks (setting_of ns here))))
  body_goes w kept old middle new move ss is begins reading s =
      begins tables inputs set functions reading (setting_of ns here) s (ap (λ (k : Kept T). k.loose) is)
      ∙ ap (λ (k : Kept T). behind tables inputs set functions reading k.tasks (setting_of ns here) (statements (planned tables inputs set functions) (asking tables inputs set functions) ss (setting_above k.tasks (setting_of ns here)).env s)) is
      ∙ in_scope made meaning store tables inputs set functions reading old.tasks (w, kept) (setting_of ns here) (λ g. statements (planned tables inputs set functions) (asking tables inputs set functions) ss g.env s)

  pub script_called : (number : ℕ) (f : Function) (place : ℕ) (label : T) (this : Labelled T) (args : List (Labelled T)) (own : EnvId) (depth : ℕ) (old cleared middle new : Kept T) (world world_new : World T) (move : Control)
      → ((reading : T → Label) → nth 0 (lying reading old) ≡ read_value reading this) → ((reading : T → Label) → drop 2 (lying reading old) ≡ map (read_value reading) args)
      → Changes made meaning store (λ reading. with_call functions number f place (read_value reading this) (map (read_value reading) args)) world world_new → own.0 ≡ length world.records
      → cleared.tasks ≡ old.tasks → cleared.loose ≡ [] → middle ≡ record { tasks = cleared.tasks ++ (continuation.EndCall own depth, cleared.loose) ∷ []; loose = [] } → StartsBody (body_of f) middle new move
      → InCall made meaning store tables inputs set functions ns (of_script number f place) label depth old new world world_new (Ok move)
  unfolding enter_call
  script_called number f place label this args own depth old cleared middle new world world_new move first others changes is_own tasks none is begins = λ reading told turns read.
      let s = state_of reading world told turns in
      let P = planned tables inputs set functions in
      let A = asking tables inputs set functions in
      let e = setting_of ns here in
      let pushed_there : middle ≡ record { tasks = old.tasks ++ (continuation.EndCall own depth, []) ∷ []; loose = [] } = is ∙ ap₂ (λ (ts : List (Task T)) (vs : List (Labelled T)). record { tasks = ts ++ (continuation.EndCall own depth, vs) ∷ []; loose = [] }) tasks none in
      body_goes (continuation.EndCall own depth) [] old middle new move (body_of f) pushed_there begins reading (state_of reading world_new told turns)
      ∙ ap₂ (λ (n : ℕ) (u : State). behind tables inputs set functions reading old.tasks e (and_plan (statements P A (body_of f) (called_env n depth) u) (end_call depth))) (is_own ∙ sym (length-map world.records (read_record reading))) (changes.says reading read told turns)
      ∙ ap₂ (λ (v : Val) (vs : List Val). behind tables inputs set functions reading old.tasks e (and_plan (statements P A (body_of f) (called_env (length s.records) depth) (with_call functions number f place v vs s)) (end_call depth))) (sym (first reading)) (sym (others reading))

  pub script_constructs : (number : ℕ) (f : Function) (place : ℕ) (label : T) (o fresh : ObjId) (proto this again : Labelled T) (args : List (Labelled T)) (own : EnvId) (depth : ℕ) (old cleared laid middle new : Kept T) (world with_object world_new : World T) (move : Control)
      → ((reading : T → Label) → drop 1 (lying reading old) ≡ map (read_value reading) args)
      → ((reading : T → Label) → IsReading made meaning store reading → read_value reading proto ≡ prototype_of (read_heap reading world.heap) o.0)
      → ((reading : T → Label) → IsReading made meaning store reading → (told : List LabelledLine) (turns : ℕ) → state_of reading with_object told turns ≡ with_fresh (read_value reading proto) (state_of reading world told turns))
      → fresh.0 ≡ length world.heap → this.value ≡ value.Object fresh → again.value ≡ value.Object fresh → ((reading : T → Label) → IsReading made meaning store reading → reading this.label ≡ bottom)
      → Changes made meaning store (λ reading. with_call functions number f place (read_value reading this) (map (read_value reading) args)) with_object world_new → own.0 ≡ length with_object.records
      → cleared.tasks ≡ old.tasks → cleared.loose ≡ [] → laid.tasks ≡ cleared.tasks → laid.loose ≡ cleared.loose ++ again ∷ [] → middle ≡ record { tasks = laid.tasks ++ (continuation.EndNew own depth, laid.loose) ∷ []; loose = [] } → StartsBody (body_of f) middle new move
      → InConstruction made meaning store tables inputs set functions ns (of_script number f place) label o.0 (length world.heap) depth old new world world_new (Ok move)
  unfolding enter_call enter_construction
  script_constructs number f place label o fresh proto this again args own depth old cleared laid middle new world with_object world_new move others of_proto makes is_fresh is_this is_again empty changes is_own tasks none laid_tasks lies is begins = λ reading told turns read.
      let s = state_of reading world told turns in
      let sf = state_of reading with_object told turns in
      let P = planned tables inputs set functions in
      let A = asking tables inputs set functions in
      let e = setting_of ns here in
      let vs = map (read_value reading) args in
      let done : ℕ → State → Plan = λ n u. and_plan (statements P A (body_of f) (called_env n depth) u) (end_construction fresh.0 depth) in
      let pushed_there : middle ≡ record { tasks = old.tasks ++ (continuation.EndNew own depth, again ∷ []) ∷ []; loose = [] } = is ∙ ap₂ (λ (ts : List (Task T)) (ws : List (Labelled T)). record { tasks = ts ++ (continuation.EndNew own depth, ws) ∷ []; loose = [] }) (laid_tasks ∙ tasks) (lies ∙ ap (λ ws. ws ++ again ∷ []) none) in
      let this_is : read_value reading this ≡ unlabelled (value.Object (id (length s.heap))) =
      ap₂ (λ (v : Data) (l : Label). record { value = v; label = l }) (is_this ∙ ap (λ n. value.Object (id n)) (is_fresh ∙ sym (length-map world.heap (read_object reading)))) (empty reading read) in
      let object_is : sf ≡ with_fresh (prototype_of s.heap o.0) s = makes reading read told turns ∙ ap (λ p. with_fresh p s) (of_proto reading read) in
      let made_so : ℕ → List Val → Plan = λ n ws. and_plan (statements P A (body_of f) (called_env (length s.records) depth) (with_call functions number f place (unlabelled (value.Object (id (length s.heap)))) ws (with_fresh (prototype_of s.heap o.0) s))) (end_construction n depth) in
      body_goes (continuation.EndNew own depth) (again ∷ []) old middle new move (body_of f) pushed_there begins reading (state_of reading world_new told turns)
      ∙ ap (λ (v : Data). behind tables inputs set functions reading old.tasks e (and_plan (statements P A (body_of f) (called_env own.0 depth) (state_of reading world_new told turns)) (end_construction (object_or_default v).0 depth))) is_again
      ∙ ap₂ (λ (n : ℕ) (u : State). behind tables inputs set functions reading old.tasks e (done n u)) (is_own ∙ sym (length-map with_object.records (read_record reading))) (changes.says reading read told turns)
      ∙ ap₂ (λ (v : Val) (u : State). behind tables inputs set functions reading old.tasks e (done (length u.records) (with_call functions number f place v vs u))) this_is object_is
      ∙ ap₂ (λ (n : ℕ) (ws : List Val). behind tables inputs set functions reading old.tasks e (made_so n ws)) is_fresh (sym (others reading))

  -- ---- functions as values

  pub function_begins : (move : Control) (code : Function) (place : EnvId) (o : ObjId) (v : Labelled T) (old new : Kept T) (world world_new : World T)
      → ((vs : List Val) (e : Setting) (s : State) → next_plan tables inputs set functions move vs e s ≡ as_plan Value (make_function functions code e.env.place s))
      → (setting_above old.tasks (setting_of ns here)).env.place ≡ place.0 → Gives made meaning store (λ reading. make_function functions code place.0) (unlabelled (value.Object o)) world world_new
      → v.value ≡ value.Object o → ((reading : T → Label) → IsReading made meaning store reading → reading v.label ≡ bottom) → new.tasks ≡ old.tasks → new.loose ≡ v ∷ []
      → Begins made meaning store tables inputs set functions ns ns old new world world_new move (Ok control.Value)
  function_begins move code place o v old new world world_new plans there gives is_value empty tasks lies = λ reading told turns read.
      let s = state_of reading world told turns in
      let t = state_of reading world_new told turns in
      let e = setting_of ns here in
      gives_alone tables inputs set functions reading old new v e t tasks lies
      ∙ ap₂ (λ (u : Data) (l : Label). behind tables inputs set functions reading old.tasks e (Give (gave (record { value = u; label = l })) t)) is_value (empty reading read)
      ∙ ap (λ (outcome : Outcome Halt Jump Val State). behind tables inputs set functions reading old.tasks e (as_plan Value outcome)) (sym (gives.says reading read told turns))
      ∙ ap (λ (i : ℕ). behind tables inputs set functions reading old.tasks e (as_plan Value (make_function functions code i s))) (sym there)
      ∙ ap (behind tables inputs set functions reading old.tasks e) (sym (plans (lying reading old) (setting_above old.tasks e) s))

-- ---- an act that throws

module _ {S T : Type 0} (made : S → T → Type 0) (meaning : S → T → Label) (store : S) where
  abbrev Throws : T → World T → World T → machine.Outcome Control T → Type 0
  Throws cause world world_new answer = Acts made meaning store (λ reading x. tt) (λ reading. throw_error {X = Unit {0}} kinds.TypeError (reading cause)) world world_new (Ok answer)

  pub is_throw : (cause : T) (world world_new : World T) (answer : machine.Outcome Control T) → Throws cause world world_new answer → HasAnswer (λ x. ⊥) (made store) (Ok answer) → IsThrow answer
  is_throw cause world world_new (outcomes.Throws v) acts has = tt
  is_throw cause world world_new (outcomes.Goes x) acts has = absurd has
  is_throw cause world world_new (outcomes.Leaves why) acts has =
      no_leaving {X = Unit {0}} kinds.TypeError (meaning store cause) (state_of (meaning store) world [] 0) (state_of (meaning store) world_new [] 0) (left (leaving_name why)) (acts.says (meaning store) (record { agrees = λ label m. refl }) [] 0)

  -- what it throws has a label of the store, and the frame is left from inside which it is thrown
  abbrev pub error_of : (answer : machine.Outcome Control T) → IsThrow answer → Labelled T
  error_of (outcomes.Throws v) throws = v
  error_of (outcomes.Goes x) throws = absurd throws
  error_of (outcomes.Leaves why) throws = absurd throws

  pub error_is : (answer : machine.Outcome Control T) (throws : IsThrow answer) → answer ≡ outcomes.Throws (error_of answer throws)
  error_is (outcomes.Throws v) throws = refl
  error_is (outcomes.Goes x) throws = absurd throws
  error_is (outcomes.Leaves why) throws = absurd throws

  pub error_made : (answer : machine.Outcome Control T) (throws : IsThrow answer) → HasAnswer (λ x. ⊥) (made store) (Ok answer) → made store (error_of answer throws).label
  error_made (outcomes.Throws v) throws has = has
  error_made (outcomes.Goes x) throws has = absurd throws
  error_made (outcomes.Leaves why) throws has = absurd throws

  pub frame_left : (before_store : S) → ((reading : T → Label) → IsReading made meaning store reading → IsReading made meaning before_store reading) → (of : Kind) → is_try of ≡ false → (stack : Kept T) (world world_new : World T) (count depth : ℕ) (label : T) (answer : machine.Outcome Control T)
      → Begun made meaning before_store of stack world count depth label → Throws label world world_new answer → IsThrow answer → length world_new.frames.frames ≤ depth
  frame_left before_store earlier of quiet stack world world_new count depth label (outcomes.Throws v) in_frame acts throws =
      let reading = meaning store in
      let read : IsReading made meaning store reading = record { agrees = λ l m. refl } in
      let fs = map (seen_frame reading) world.frames.frames in
      let size : length (take depth fs) ≡ depth = length-take-le depth fs (omega (arith, length-map world.frames.frames (seen_frame reading), in_frame.frames)) in
      let some : 0 < length (take depth fs) = omega (arith, size, in_frame.deep) in
      let left_few = throw_leaves (take depth fs) (pushed of (reading label)) quiet some depth size (state_of reading world [] 0) (in_frame.innermost reading (earlier reading read)) {X = Unit {0}} kinds.TypeError (reading label) (thrown reading v) (state_of reading world_new [] 0) (acts.says reading read [] 0) in
      omega (arith, left_few, length-map world_new.frames.frames (seen_frame reading))
  frame_left before_store earlier of quiet stack world world_new count depth label (outcomes.Goes x) in_frame acts throws = absurd throws
  frame_left before_store earlier of quiet stack world world_new count depth label (outcomes.Leaves why) in_frame acts throws = absurd throws

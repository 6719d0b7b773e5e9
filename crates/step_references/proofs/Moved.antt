-- What calls leave.
use Rattle.std.proofs.Common.{refl, sym, ap, ap₂, subst, ◌∙◌, ◌≡◌, ◌+◌, ◌≤◌, ℕ, [], ◌∷◌, ◌++◌, length, Result, Ok, Err, IfOk, append-nil, List, arith}
use Rattle.std.specs.List.{All}
use Rattle.std.proofs.lemmas.List.Elements.{All-append}
use Rattle.flow_frames.specs.declared.faults.FlowFault.{FlowFault}
use Rattle.js_values.specs.declared.value.Labelled.{Labelled}
use Rattle.js_values.specs.Readings.{HasValue}
use Rattle.run_state.specs.declared.outcome.Outcome.{Outcome}
use Rattle.run_state.specs.declared.outcome.Outcome.TheVariants as outcome
use Rattle.run_state.specs.declared.outcome.SetLength.{SetLength}
use Rattle.run_state.specs.declared.world.World.{World}
use Rattle.origin_labels.specs.Label.{Label}
use Rattle.flow_meaning.specs.Scopes.{State, L}
use Rattle.run_state.specs.Acts.{Acts, HasAnswer}
use Rattle.run_state.proofs.ActLaws.{HasAnswer-weaker}
use Rattle.step_objects.proofs.Frames.{stands_by}
use Rattle.step_objects.specs.Standing.{FramesStand, StandsBy}
use Rattle.continuations.specs.Arrays.{counts_from}
use Rattle.continuations.specs.declared.continuation.Continuation.{Continuation}
use Rattle.continuations.specs.declared.continuation.Control.{Control}
use Rattle.continuations.specs.declared.continuation.Control.TheVariants as control
use Rattle.continuations.specs.Kept.{Kept, scope_of, scopes_of, waits, waiting, kept_operands}
use Rattle.continuations.specs.Loads.{Adds, load, lift, weight}
use Rattle.continuations.specs.Moving.{Rests, Stands}
use Rattle.continuations.specs.Pending.{Task, values_of}
use Rattle.continuations.specs.Resuming.{Keeps}
use Rattle.continuations.proofs.Keeping.{scopes_more, natives_more, kept_more}
use Rattle.continuations.proofs.Loads.{load_more}
use Rattle.step_references.specs.declared.handing_on.Went.TheVariants as went
use Rattle.step_references.specs.Moving.{Moved, Parts}
use Rattle.step_references.proofs.Loose.{both, only}

module _ {T : Type 0} where
  -- ---- frames

  -- as many frames as before, and then what another call leaves of them
  stands_level : (old middle new : World T) → length middle.frames.frames ≡ length old.frames.frames → (move : Control) → Stands middle new move → Stands old new move
  stands_level old middle new same (control.Jumps j) stands = subst (λ n. length new.frames.frames ≤ n) same stands
  stands_level old middle new same move stands = stands ∙ same

  -- a call that leaves the frames as they are
  pub stands_still : (old new : World T) → length new.frames.frames ≡ length old.frames.frames → (move : Control) → Stands old new move
  stands_still old new same (control.Jumps j) = omega (arith, same)
  stands_still old new same move = same

  -- ---- a stack by its parts

  abbrev pub stack_of : List (Task T) → List (Labelled T) → Kept T
  stack_of tasks loose = record { tasks = tasks; loose = loose }

  pub stack_is : {tasks : List (Task T)} {loose : List (Labelled T)} (stack : Kept T) → stack.tasks ≡ tasks → stack.loose ≡ loose → stack ≡ record { tasks = tasks; loose = loose }
  stack_is stack is lies = ap₂ stack_of is lies

  -- ---- what is left

  module _ {made : T → Type 0} where
    -- values lie there in the place of others
    pub rests_lying : {old new : Kept T} (move : Control) (vs : List (Labelled T)) → new.tasks ≡ old.tasks → new.loose ≡ vs → All (HasValue made) vs → length vs ≡ values_of move → Rests made old new move
    rests_lying {old} {new} move vs tasks lies has size = record {
      values = ap length lies ∙ size;
      scopes = ap scopes_of tasks;
      natives = ap waiting tasks;
      operands = λ all. subst (All (HasValue made)) (sym (ap₂ (λ ts us. kept_operands ts ++ us) tasks lies)) (All-append (HasValue made) (kept_operands old.tasks) vs all has);
    }

    -- the same calls behind another stack with the same work
    pub rests_popped : {old middle new : Kept T} {move : Control} → middle.tasks ≡ old.tasks → Rests made middle new move → Rests made old new move
    rests_popped {old} {middle} tasks rests = record {
      values = rests.values;
      scopes = rests.scopes ∙ ap scopes_of tasks;
      natives = rests.natives ∙ ap waiting tasks;
      operands = λ all. rests.operands (subst (λ ts. All (HasValue made) (kept_operands ts)) (sym tasks) all);
    }

    -- a call that keeps all values
    pub rests_keeping : {old new : Kept T} {move : Control} → All (HasValue made) old.loose → Keeps old new move → Rests made old new move
    rests_keeping {old} {new} has keeps = record {
      values = keeps.values;
      scopes = keeps.scopes;
      natives = keeps.natives;
      operands = λ all. subst (All (HasValue made)) (sym keeps.operands) (All-append (HasValue made) (kept_operands old.tasks) old.loose all has);
    }

    -- behind work that was added
    rests_behind : {old pushed new : Kept T} {move : Control} (w : Continuation) (vs : List (Labelled T)) → scope_of w ≡ [] → waits w ≡ 0 → pushed.tasks ≡ old.tasks ++ (w, vs) ∷ [] → All (HasValue made) vs → Rests made pushed new move → Rests made old new move
    rests_behind {old} {pushed} {new} w vs own alone tasks has rests = record {
      values = rests.values;
      scopes = rests.scopes ∙ ap scopes_of tasks ∙ scopes_more old.tasks (w, vs) ∙ ap (λ ds. scopes_of old.tasks ++ ds) own ∙ append-nil (scopes_of old.tasks);
      natives =
          let here = rests.natives in
          let there : waiting pushed.tasks ≡ waiting (old.tasks ++ (w, vs) ∷ []) = ap waiting tasks in
          let more = natives_more old.tasks (w, vs) in
          omega (arith, here, there, more, alone);
      operands = λ all. rests.operands (subst (All (HasValue made)) (sym (ap kept_operands tasks ∙ kept_more old.tasks (w, vs))) (All-append (HasValue made) (kept_operands old.tasks) vs all has));
    }

    -- values lie there, and the frames stay
    pub moved_lying : {n : ℕ} {old new : Kept T} {world : World T} (move : Control) (vs : List (Labelled T)) → new.tasks ≡ old.tasks → new.loose ≡ vs → All (HasValue made) vs → length vs ≡ values_of move → lift move ≤ n → Moved made n old new world world move
    moved_lying {n} {old} {new} {world} move vs tasks lies has size most = record {
      rests = rests_lying move vs tasks lies has size;
      adds = let here : load new.tasks ≡ load old.tasks = ap load tasks in omega (arith, here, most);
      stands = stands_still world world refl move;
    }

    -- a call that keeps all values
    pub moved_keeping : {n m : ℕ} {old new : Kept T} {world : World T} (move : Control) → All (HasValue made) old.loose → Keeps old new move → Adds n old new move → n ≤ m → Moved made m old new world world move
    moved_keeping {world = world} move has keeps adds most = record {
      rests = rests_keeping has keeps;
      adds = omega (arith, adds, most);
      stands = stands_still world world refl move;
    }

    -- work was added, and values lie above it
    pub moved_pushed : {n : ℕ} {old new : Kept T} {world : World T} (move : Control) (w : Continuation) (vs loose : List (Labelled T)) → new ≡ record { tasks = old.tasks ++ (w, vs) ∷ []; loose = loose } → scope_of w ≡ [] → waits w ≡ 0 → All (HasValue made) vs → All (HasValue made) loose → length loose ≡ values_of move → weight w + lift move ≤ n → Moved made n old new world world move
    moved_pushed {n} {old} {new} {world} move w vs loose laid own alone has lies size most = record {
      rests = rests_behind w vs own alone refl has (rests_lying {old = stack_of (old.tasks ++ (w, vs) ∷ []) []} move loose (ap (λ k. k.tasks) laid) (ap (λ k. k.loose) laid) lies size);
      adds =
          let here : load new.tasks ≡ load (old.tasks ++ (w, vs) ∷ []) = ap (λ k. load k.tasks) laid in
          let more = load_more old.tasks (w, vs) in
          omega (arith, here, more, most);
      stands = stands_still world world refl move;
    }

    -- a value for the `length` of an array is converted, and both wait
    rests_counted : {old new : Kept T} {move : Control} (how : SetLength) (array v : Labelled T) → made array.label → made v.label → counts_from how array v old new move → Rests made old new move
    rests_counted {old} {new} {move} how array v has_array has_value counts =
        let two = both (HasValue made) array v has_array has_value in
        record {
          values = ap length counts.loose ∙ ap values_of (sym counts.moves);
          scopes = counts.scopes;
          natives = counts.natives;
          operands = λ all. subst (All (HasValue made)) (sym counts.operands) (All-append (HasValue made) (kept_operands old.tasks ++ array ∷ v ∷ []) (array ∷ v ∷ []) (All-append (HasValue made) (kept_operands old.tasks) (array ∷ v ∷ []) all two) two);
        }

    -- the same above work that was added
    pub moved_counted : {n : ℕ} {old pushed new : Kept T} {world : World T} {move : Control} (how : SetLength) (array v : Labelled T) (w : Continuation) (vs : List (Labelled T)) → pushed ≡ record { tasks = old.tasks ++ (w, vs) ∷ []; loose = [] } → scope_of w ≡ [] → waits w ≡ 0 → All (HasValue made) vs → made array.label → made v.label
        → counts_from how array v pushed new move → Adds 10 pushed new move → weight w + 10 ≤ n → Moved made n old new world world move
    moved_counted {n} {old} {pushed} {new} {world} {move} how array v w vs laid own alone has has_array has_value counts adds most = record {
      rests = rests_behind {pushed = pushed} w vs own alone (ap (λ k. k.tasks) laid) has (rests_counted how array v has_array has_value counts);
      adds =
          let here : load pushed.tasks ≡ load (old.tasks ++ (w, vs) ∷ []) = ap (λ k. load k.tasks) laid in
          let more = load_more old.tasks (w, vs) in
          omega (arith, here, more, adds, most);
      stands = stands_still world world refl move;
    }

  -- ---- calls behind others

  -- behind acts that leave the frames, and values that were taken away
  pub moved_on : (made : T → Type 0) (n m : ℕ) (old middle new : Kept T) (world_old world_mid world_new : World T) (result : Result Control (FlowFault T)) → n ≤ m → middle.tasks ≡ old.tasks → length world_mid.frames.frames ≡ length world_old.frames.frames → IfOk result (Moved made n middle new world_mid world_new) → IfOk result (Moved made m old new world_old world_new)
  moved_on made n m old middle new world_old world_mid world_new (Ok move) most tasks same moved = record {
    rests = rests_popped tasks moved.rests;
    adds = let here : load middle.tasks ≡ load old.tasks = ap load tasks in let adds = moved.adds in omega (arith, here, adds, most);
    stands = stands_level world_old world_mid world_new same move moved.stands;
  }
  moved_on made n m old middle new world_old world_mid world_new (Err f) most tasks same moved = tt

  pub moved_popped : (made : T → Type 0) (n : ℕ) (old middle new : Kept T) (world_old world_new : World T) (result : Result Control (FlowFault T)) → middle.tasks ≡ old.tasks → IfOk result (Moved made n middle new world_old world_new) → IfOk result (Moved made n old new world_old world_new)
  moved_popped made n old middle new world_old world_new result tasks moved = moved_on made n n old middle new world_old world_old world_new result (omega arith) tasks refl moved

  pub moved_within : (made : T → Type 0) (n m : ℕ) (old new : Kept T) (world_old world_new : World T) (result : Result Control (FlowFault T)) → n ≤ m → IfOk result (Moved made n old new world_old world_new) → IfOk result (Moved made m old new world_old world_new)
  moved_within made n m old new world_old world_new result most moved = moved_on made n m old old new world_old world_old world_new result most refl refl moved

  -- behind work that was added
  pub moved_behind : (made : T → Type 0) (n m : ℕ) (old pushed new : Kept T) (world_old world_new : World T) (result : Result Control (FlowFault T)) (w : Continuation) (vs : List (Labelled T)) → n + weight w ≤ m → scope_of w ≡ [] → waits w ≡ 0 → pushed.tasks ≡ old.tasks ++ (w, vs) ∷ [] → All (HasValue made) vs
      → IfOk result (Moved made n pushed new world_old world_new) → IfOk result (Moved made m old new world_old world_new)
  moved_behind made n m old pushed new world_old world_new (Ok move) w vs most own alone tasks has moved = record {
    rests = rests_behind w vs own alone tasks has moved.rests;
    adds =
        let here : load pushed.tasks ≡ load (old.tasks ++ (w, vs) ∷ []) = ap load tasks in
        let more = load_more old.tasks (w, vs) in
        let adds = moved.adds in
        omega (arith, here, more, adds, most);
    stands = moved.stands;
  }
  moved_behind made n m old pushed new world_old world_new (Err f) w vs most own alone tasks has moved = tt

  -- ---- an act

  module _ {X : Type 0} where
    pub level_on : (has : T → Type 0) (world_old world_new : World T) (old new : Kept T) (answer : Result (Outcome X T) (FlowFault T)) (y : X) → StandsBy world_old world_new answer → Parts has old new answer (Ok (went.On y)) → length world_new.frames.frames ≡ length world_old.frames.frames
    level_on has world_old world_new old new (Ok (outcome.Goes x)) y stands parts = stands
    level_on has world_old world_new old new (Ok (outcome.Throws v)) y stands parts = absurd parts
    level_on has world_old world_new old new (Ok (outcome.Leaves why)) y stands parts = absurd parts
    level_on has world_old world_new old new (Err f) y stands parts = absurd parts

    pub has_on : (made : T → Type 0) (has : X → Type 0) (old new : Kept T) (answer : Result (Outcome X T) (FlowFault T)) (y : X) → HasAnswer has made answer → Parts made old new answer (Ok (went.On y)) → has y
    has_on made has old new (Ok (outcome.Goes x)) y answer parts = subst has parts.0 answer
    has_on made has old new (Ok (outcome.Throws v)) y answer parts = absurd parts
    has_on made has old new (Ok (outcome.Leaves why)) y answer parts = absurd parts
    has_on made has old new (Err f) y answer parts = absurd parts

    -- it doesn't go on
    pub moved_off : {made : T → Type 0} {n : ℕ} {world_old world_new : World T} (old new : Kept T) (answer : Result (Outcome X T) (FlowFault T)) (move : Control) → 6 ≤ n → HasAnswer (λ x. Unit {0}) made answer → StandsBy world_old world_new answer → Parts made old new answer (Ok (went.Off move)) → Moved made n old new world_old world_new move
    moved_off old new (Ok (outcome.Goes x)) move most has stands parts = absurd parts
    moved_off {made} {n} {world_old} {world_new} old new (Ok (outcome.Throws v)) move most has stands parts =
        subst (λ (k : Kept T). Moved made n old k world_old world_new move) (sym parts.1) (subst (λ m. Moved made n old (stack_of old.tasks (v ∷ [])) world_old world_new m) (sym parts.0) (record {
          rests = rests_lying _ (v ∷ []) refl refl (only (HasValue made) v has) refl;
          adds = omega (arith, most);
          stands = stands;
        }))
    moved_off {made} {n} {world_old} {world_new} old new (Ok (outcome.Leaves why)) move most has stands parts = record {
      rests = rests_popped refl parts.rests;
      adds = let adds = parts.adds in omega (arith, adds);
      stands = stands_still world_old world_new stands move;
    }
    moved_off old new (Err f) move most has stands parts = absurd parts

-- a call that does an act whose outcomes leave the frames, or fewer where it throws
pub stood : {S T X Y : Type 0} {made : S → T → Type 0} {meaning : S → T → Label} {store : S} {read : (T → Label) → X → Y} {act : (T → Label) → L Y} {old new : World T} {result : Result (Outcome X T) (FlowFault T)} → Acts made meaning store read act old new result → ((s : State) → FramesStand (act (meaning store) s) s) → StandsBy old new result
stood {made = made} {meaning} {store} {read} {act} {old} {new} {result} acts stands = stands_by made meaning store read act old new stands result acts

-- whatever an answer hands on, it hands on what it threw
pub has_whatever : {X T : Type 0} (has : X → Type 0) (made : T → Type 0) (result : Result (Outcome X T) (FlowFault T)) → HasAnswer has made result → HasAnswer (λ x. Unit {0}) made result
has_whatever has made result answer = HasAnswer-weaker has (λ x. Unit {0}) made made result (λ x h. tt) (λ label m. m) answer

-- Calls that take keys and that look at them, behind pending work.
use Rattle.std.proofs.Common.{refl, sym, ap, ap₂, subst, ◌∙◌, ◌≡◌, ◌<◌, ◌+◌, ◌-◌, ℕ, Bool, true, false, List, [], ◌∷◌, ◌++◌, map, take, length, get_or, Result, Ok, Err, IfErr, arith}
use Rattle.std.specs.List.{All}
use Rattle.std.specs.Result.{IsErrAnd}
use Rattle.std.proofs.lemmas.List.{length-map, length-take-le}
use Rattle.std.proofs.lemmas.List.Elements.{All-append, All-cons, All-take}
use Rattle.origin_labels.specs.Label.{Label}
use Rattle.origin_labels.specs.Stores.{IsKept}
use Rattle.origin_labels.proofs.StoreLaws.{IsKept-refl}
use Rattle.flow_policy.specs.Policies.{Tables}
use Rattle.flow_policy.specs.Inputs.{Given}
use Rattle.js_ast.specs.Functions.{FunctionCode}
use Rattle.es_meaning.specs.BuiltIns.{BuiltIns}
use Rattle.flow_frames.specs.declared.faults.FlowFault.{FlowFault}
use Rattle.js_ast.specs.Views.{view_stmt, view_target}
use Rattle.js_values.specs.declared.value.Labelled.{Labelled}
use Rattle.js_values.specs.Readings.{HasValue, read_value}
use Rattle.js_values.proofs.ReadingLaws.{IsReading-earlier}
use Rattle.es_meaning.specs.Outcomes.{Outcome, Goes}
use Rattle.es_meaning.specs.Evaluation.{visits}
use Rattle.es_meaning.specs.Plain.{key_text}
use Rattle.flow_meaning.specs.Scopes.{Halt, Jump, State, L}
use Rattle.flow_meaning.specs.Planned.{Plan, planned, asking}
use Rattle.step_objects.specs.Taking.{still, taken}
use Rattle.run_state.specs.declared.outcome.Outcome as machine
use Rattle.run_state.specs.declared.outcome.Outcome.TheVariants as outcome
use Rattle.run_state.specs.declared.world.World.{World}
use Rattle.run_state.specs.Acts.{Says, Acts, HasAnswer}
use Rattle.run_state.specs.Worlds.{state_of}
use Rattle.continuations.specs.declared.continuation.Enumeration.{Enumeration}
use Rattle.continuations.specs.declared.continuation.Control.{Control}
use Rattle.continuations.specs.declared.continuation.Control.TheVariants as control
use Rattle.continuations.specs.Kept.{Kept, scopes_of, waiting, kept_operands}
use Rattle.continuations.specs.Loads.{Adds}
use Rattle.continuations.specs.Settings.{Setting, entrance}
use Rattle.continuations.specs.Pending.{behind, setting_above, next_plan}
use Rattle.continuations.specs.Shapes.{labels_at, nth}
use Rattle.continuations.proofs.BranchLaws.{none_in_front}
use Rattle.step_references.specs.declared.handing_on.Went.TheVariants as went
use Rattle.continuations.specs.Moving.{BeginsWith, Planning, Rests, following}
use Rattle.step_references.specs.Moving.{Moved, Parts}
use Rattle.step_references.proofs.Loose.{lone}
use Rattle.step_references.proofs.Begun.{begun_err, begun_off, begun_on, moves_as, on_is}
use Rattle.step_references.proofs.Moved.{moved_off, rests_lying, stack_of}
use Rattle.step_objects.specs.Standing.{StandsBy}
use Rattle.step_statements.specs.Visiting.{laid_keys, visits_of, Fails, IfGoes, Looked, Sees, VisitsAlike}
use Rattle.step_statements.specs.declared.visits.Look.{Look}
use Rattle.step_statements.specs.declared.visits.Look.TheVariants as look
use Rattle.step_statements.proofs.KeyLaws.{none_left, left_laid, laid_has, length_laid}
use Rattle.step_statements.proofs.VisitPlans.{keys_taken, looked_on, look_as}

-- keys are laid above their object
pub keys_lie : {T : Type 0} (has : T → Type 0) (old middle between added new : Kept T) (object : Labelled T) (answer : Result (machine.Outcome (List (List ℕ)) T) (FlowFault T)) (keys : List (List ℕ)) (none : T) → length old.loose ≡ 1 → old.loose ≡ middle.loose ++ object ∷ []
    → Parts has middle between answer (Ok (went.On keys)) → added.loose ≡ between.loose ++ object ∷ [] → new.loose ≡ added.loose ++ laid_keys none keys → new.loose ≡ object ∷ laid_keys none keys
keys_lie has old middle between added new object answer keys none size top parts first others =
    let empty : between.loose ≡ [] = ap (λ (k : Kept _). k.loose) (on_is has middle between answer keys parts).1 ∙ none_in_front middle.loose old.loose object top size in
    others ∙ ap (λ vs. vs ++ laid_keys none keys) (first ∙ ap (λ vs. vs ++ object ∷ []) empty)

-- ---- what a call leaves

-- keys above their object
pub taken_rest : {T : Type 0} (x : Enumeration) (has : T → Type 0) (old new : Kept T) (object : Labelled T) (none : T) (keys : List (List ℕ)) (count : ℕ) → new.tasks ≡ old.tasks → new.loose ≡ object ∷ laid_keys none keys → count ≡ length keys → has object.label → has none → Rests has old new (control.Visits x count)
taken_rest x has old new object none keys count tasks lies many first others = record {
  values = let laid = length_laid none keys in let all = ap length lies in omega (arith, laid, all, many);
  scopes = ap scopes_of tasks;
  natives = ap waiting tasks;
  operands = λ all. subst (All (HasValue has)) (sym (ap₂ (λ ts vs. kept_operands ts ++ vs) tasks lies))
      (All-append (HasValue has) (kept_operands old.tasks) (object ∷ laid_keys none keys) all (All-cons (HasValue has) object (laid_keys none keys) first (laid_has has none keys others)));
}

-- what a call leaves that didn't go on, in one world
level_itself : {T X : Type 0} (world : World T) (answer : Result (machine.Outcome X T) (FlowFault T)) → StandsBy world world answer
level_itself world (Ok (outcome.Goes x)) = refl
level_itself world (Ok (outcome.Throws v)) = omega arith
level_itself world (Ok (outcome.Leaves why)) = refl
level_itself world (Err f) = tt

pub off_moved : {T X : Type 0} (has : T → Type 0) (world : World T) (old new : Kept T) (answer : Result (machine.Outcome X T) (FlowFault T)) (move : Control) → HasAnswer (λ x. Unit {0}) has answer → Parts has old new answer (Ok (went.Off move)) → Moved has 6 old new world world move
off_moved has world old new answer move thrown parts = moved_off {made = has} {n = 6} {world_old = world} {world_new = world} old new answer move (omega arith) thrown (level_itself world answer) parts

-- what is left where the uppermost key is gone
module _ {T : Type 0} (left : ℕ) (now new : Kept T) (gone : new ≡ record { tasks = now.tasks; loose = take left now.loose }) where
  pub gone_size : 0 < left → length now.loose ≡ left + 1 → length new.loose ≡ left - 1 + 1
  gone_size some size = ap (λ (k : Kept T). length k.loose) gone ∙ length-take-le left now.loose (omega (arith, size)) ∙ omega (arith, some)

  pub gone_has : (P : Labelled T → Type 0) → All P now.loose → All P new.loose
  gone_has P all = subst (λ (k : Kept T). All P k.loose) (sym gone) (All-take P left now.loose all)

-- a turn is one for a key that is still there
turn : {T : Type 0} (x : Enumeration) (left : ℕ) (old new : Kept T) (there : Bool) (move : Control) → Sees x left old new there (look.Goes move) → (move ≡ control.Visit x (left - 1)) × (new ≡ old)
turn x left old new true move sees = sees
turn x left old new false move sees = absurd sees

-- what is left where it is still there
module _ {T : Type 0} (x : Enumeration) (left : ℕ) (old between new : Kept T) (made_there : T → Type 0) (answer : Result (machine.Outcome Bool T) (FlowFault T)) (there : Bool) (parts : Parts made_there old between answer (Ok (went.On there))) where
  -- the same stack
  stays : new ≡ between → new ≡ old
  stays same = same ∙ (on_is made_there old between answer there parts).1

  pub seen_rest : (has : T → Type 0) (seen : Look) → Sees x left between new there seen → 0 < left → length old.loose ≡ left + 1 → All (HasValue has) old.loose → IfGoes (Rests has old new) seen
  seen_rest has look.Gone sees some size all = tt
  seen_rest has (look.Goes move) sees some size all =
      let both = turn x left between new there move sees in
      subst (λ k. Rests has old k move) (sym (stays both.1)) (subst (λ m. Rests has old old m) (sym both.0) (rests_lying {made = has} {old = old} {new = old} (control.Visit x (left - 1)) old.loose refl refl all (omega (arith, some, size))))

  pub seen_adds : (seen : Look) → Sees x left between new there seen → IfGoes (Adds 6 old new) seen
  seen_adds look.Gone sees = tt
  seen_adds (look.Goes move) sees =
      let both = turn x left between new there move sees in
      subst (λ k. Adds 6 old k move) (sym (stays both.1)) (subst (λ m. Adds 6 old old m) (sym both.0) (omega arith))

module _ {S T : Type 0} (made : S → T → Type 0) (meaning : S → T → Label) (x : Enumeration) where
  -- ---- the keys are taken

  module _ (store : S) (old middle : Kept T) (object given : Labelled T) (size : length old.loose ≡ 1) (top : old.loose ≡ middle.loose ++ object ∷ []) (tasks : middle.tasks ≡ old.tasks) (copied : given ≡ object)
      (world_old world_new : World T) (answer : Result (machine.Outcome (List (List ℕ)) T) (FlowFault T)) (acts : Acts made meaning store (λ reading (keys : List (List ℕ)). keys) (λ reading. taken (read_value reading given)) world_old world_new answer) where
    abbrev keys_of : Planning T
    keys_of tables inputs set functions reading e = next_plan tables inputs set functions (control.Keys x) (map (read_value reading) old.loose) e

    abbrev visited : Tables → Given → BuiltIns → List FunctionCode → (T → Label) → Setting → List (List ℕ) → State → Plan
    visited tables inputs set functions reading e keys = visits (planned tables inputs set functions) (entrance tables inputs set functions) (asking tables inputs set functions) (labels_at (view_stmt x.of.now)) (view_target x.target.now) (view_stmt x.body.now) (read_value reading given) keys e.env

    same_keys : (tables : Tables) (inputs : Given) (set : BuiltIns) (functions : List FunctionCode) (reading : T → Label) (e : Setting) (s : State) → keys_of tables inputs set functions reading e s ≡ following (taken (read_value reading given) s) (visited tables inputs set functions reading e)
    same_keys tables inputs set functions reading e s =
        ap (λ vs. next_plan tables inputs set functions (control.Keys x) (map (read_value reading) vs) e s) (lone middle.loose old.loose object top size)
        ∙ ap (λ (v : Labelled T). next_plan tables inputs set functions (control.Keys x) (read_value reading v ∷ []) e s) (sym copied)
        ∙ keys_taken tables inputs set functions (labels_at (view_stmt x.of.now)) (view_target x.target.now) (view_stmt x.body.now) (read_value reading given) e.env s

    pub taking_goes : (room : S → ℕ) (firm : S → Bool) (between new : Kept T) (keys : List (List ℕ)) (none : T) (count : ℕ) → Parts (made store) middle between answer (Ok (went.On keys)) → new.tasks ≡ between.tasks → new.loose ≡ object ∷ laid_keys none keys
        → BeginsWith made meaning store keys_of old new world_old world_new (Ok (control.Visits x count))
    taking_goes room firm between new keys none count parts same lies =
        (begun_on {plan = keys_of} {old = old} {read = λ reading (ks : List (List ℕ)). ks} visited acts (λ tables inputs set functions reading f s is. sym (same_keys tables inputs set functions reading f s))
        {new = new} {world_last = world_new} {result = Ok (control.Visits x count)} (made store) middle between keys (IsKept-refl made meaning room firm store) parts tasks
        (record {
          begins = λ tables inputs set functions reading e told turns is.
              let s = state_of reading world_new told turns in
              ap₂ (λ ts vs. behind tables inputs set functions reading ts e (next_plan tables inputs set functions (control.Visits x count) (map (read_value reading) vs) (setting_above ts e) s)) same (lies ∙ ap (λ v. v ∷ laid_keys none keys) (sym copied))
              ∙ ap (λ ks. behind tables inputs set functions reading between.tasks e (visited tables inputs set functions reading (setting_above between.tasks e) ks s)) (left_laid reading given none keys);
        })).begins

    pub taking_off : (new : Kept T) (move : Control) → Parts (made store) middle new answer (Ok (went.Off move)) → BeginsWith made meaning store keys_of old new world_old world_new (Ok move)
    taking_off new move parts =
        (begun_off {plan = keys_of} {old = old} {read = λ reading (ks : List (List ℕ)). ks} visited acts (λ tables inputs set functions reading f s is. sym (same_keys tables inputs set functions reading f s)) (made store) middle parts tasks).begins

    pub taking_fails : (between new : Kept T) (f : FlowFault T) (result : Result Control (FlowFault T)) → Parts (made store) middle between answer (Err f) → IsErrAnd result (λ g. g ≡ f) → BeginsWith made meaning store keys_of old new world_old world_new result
    taking_fails between new f result parts failed =
        (begun_err {plan = keys_of} {old = old} {read = λ reading (ks : List (List ℕ)). ks} visited acts (λ tables inputs set functions reading f s is. sym (same_keys tables inputs set functions reading f s)) {new = new} {result = result} (made store) middle between f parts tasks failed).begins

  -- ---- a key that is looked at

  module _ (store : S) (left : ℕ) (old : Kept T) (object key : Labelled T) (some : 0 < left) (size : length old.loose ≡ left + 1) (is_object : object ≡ get_or old.loose 0 object) (is_key : key ≡ get_or old.loose left key)
      (world_old world_new : World T) (answer : Result (machine.Outcome Bool T) (FlowFault T)) (acts : (tables : Tables) (inputs : Given) → Acts made meaning store (λ reading (b : Bool). b) (λ reading. still tables inputs (read_value reading object) (key_text key.value)) world_old world_new answer) where
    abbrev asks : Tables → Given → (T → Label) → L Bool
    asks tables inputs reading = still tables inputs (read_value reading object) (key_text key.value)

    same : (tables : Tables) (inputs : Given) (set : BuiltIns) (functions : List FunctionCode) (reading : T → Label) (e : Setting) (s : State) → visits_of x left old.loose tables inputs set functions reading e s ≡ following (asks tables inputs reading s) (looked_on x left old.loose tables inputs set functions reading e)
    same tables inputs set functions reading e s = look_as x left old.loose object key some size is_object is_key tables inputs set functions reading e s

    -- the plans at these tables and inputs
    abbrev here_of : Tables → Given → Planning T
    here_of tables inputs t i set functions reading e = visits_of x left old.loose tables inputs set functions reading e

    abbrev then_of : Tables → Given → Tables → Given → BuiltIns → List FunctionCode → (T → Label) → Setting → Bool → State → Plan
    then_of tables inputs t i set functions reading e = looked_on x left old.loose tables inputs set functions reading e

    -- it is still there
    look_goes : (room : S → ℕ) (firm : S → Bool) (between : Kept T) → Parts (made store) old between answer (Ok (went.On true)) → BeginsWith made meaning store (visits_of x left old.loose) old between world_old world_new (Ok (control.Visit x (left - 1)))
    look_goes room firm between parts tables inputs =
        (begun_on {plan = here_of tables inputs} {old = old} {read = λ reading (b : Bool). b} (then_of tables inputs) (acts tables inputs) (λ t i set functions reading f s is. sym (same tables inputs set functions reading f s))
        {new = between} {world_last = world_new} {result = Ok (control.Visit x (left - 1))} (made store) old between true (IsKept-refl made meaning room firm store) parts refl
        (record { begins = λ t i set functions reading e told turns is. ap (λ (k : Kept T). behind t i set functions reading between.tasks e (next_plan t i set functions (control.Visit x (left - 1)) (map (read_value reading) k.loose) (setting_above between.tasks e) (state_of reading world_new told turns))) (on_is (made store) old between answer true parts).1 })).begins tables inputs

    -- it is gone: the others are visited
    look_gone : (between new : Kept T) → Parts (made store) old between answer (Ok (went.On false)) → new.tasks ≡ between.tasks → new.loose ≡ take (length between.loose - 1) between.loose
        → (new ≡ record { tasks = old.tasks; loose = take left old.loose }) × VisitsAlike made meaning store x left old.loose world_old (left - 1) new.loose world_new
    look_gone between new parts tasks rest =
        let part = on_is (made store) old between answer false parts in
        let fewer : length old.loose - 1 ≡ left = omega (arith, size) in
        let is_rest : new.loose ≡ take left old.loose = rest ∙ ap (λ (k : Kept T). take (length k.loose - 1) k.loose) part.1 ∙ ap (λ n. take n old.loose) fewer in (
          ap₂ stack_of (tasks ∙ ap (λ (k : Kept T). k.tasks) part.1) is_rest,
          λ tables inputs set functions reading e told turns is.
              let s = state_of reading world_old told turns in
              let t = state_of reading world_new told turns in
              let says : asks tables inputs reading s ≡ Goes false t = subst (λ (a : Result (machine.Outcome Bool T) (FlowFault T)). Says (λ (b : Bool). b) reading (asks tables inputs reading s) t a) part.0 ((acts tables inputs).says reading is told turns) in
              same tables inputs set functions reading e s
              ∙ ap (λ (p : Outcome Halt Jump Bool State). following p (looked_on x left old.loose tables inputs set functions reading e)) says
              ∙ ap (λ vs. visits_of x (left - 1) vs tables inputs set functions reading e t) (sym is_rest),
        )

    pub look_ends : (room : S → ℕ) (firm : S → Bool) (between new : Kept T) (there : Bool) (seen : Look) → Parts (made store) old between answer (Ok (went.On there)) → Sees x left between new there seen → Looked made meaning store x left old new world_old world_new seen
    look_ends room firm between new true (look.Goes move) parts sees =
        subst (λ k. BeginsWith made meaning store (visits_of x left old.loose) old k world_old world_new (Ok move)) (sym sees.1)
        (subst (λ m. BeginsWith made meaning store (visits_of x left old.loose) old between world_old world_new (Ok m)) (sym sees.0) (look_goes room firm between parts))
    look_ends room firm between new true look.Gone parts sees = absurd sees
    look_ends room firm between new false (look.Goes move) parts sees = absurd sees
    look_ends room firm between new false look.Gone parts sees = look_gone between new parts sees.0 sees.1

    -- the look didn't end
    pub look_off : (new : Kept T) (move : Control) → Parts (made store) old new answer (Ok (went.Off move)) → BeginsWith made meaning store (visits_of x left old.loose) old new world_old world_new (Ok move)
    look_off new move parts tables inputs =
        (begun_off {plan = here_of tables inputs} {old = old} {read = λ reading (b : Bool). b} (then_of tables inputs) (acts tables inputs) (λ t i set functions reading f s is. sym (same tables inputs set functions reading f s)) (made store) old parts refl).begins tables inputs

    pub look_fails : (between new : Kept T) (f : FlowFault T) (result : Result Look (FlowFault T)) → Parts (made store) old between answer (Err f) → IsErrAnd result (λ g. g ≡ f) → IfErr result (Fails made meaning store x left old new world_old world_new)
    look_fails between new f (Ok seen) parts failed = tt
    look_fails between new f (Err g) parts failed = λ tables inputs.
        (begun_err {plan = here_of tables inputs} {old = old} {read = λ reading (b : Bool). b} (then_of tables inputs) (acts tables inputs) (λ t i set functions reading f s is. sym (same tables inputs set functions reading f s)) {new = new} {result = Err g} (made store) old between f parts refl failed).begins tables inputs

  -- ---- looks behind one another

  module _ (room : S → ℕ) (firm : S → Bool) (earlier later : S) (kept : IsKept made meaning room firm earlier later) (count left : ℕ) (loose : List (Labelled T)) (world : World T) where
    pub alike_on : (left_next : ℕ) (loose_now loose_next : List (Labelled T)) (world_now world_next : World T) → VisitsAlike made meaning earlier x count loose world left loose_now world_now → VisitsAlike made meaning later x left loose_now world_now left_next loose_next world_next
        → VisitsAlike made meaning later x count loose world left_next loose_next world_next
    alike_on left_next loose_now loose_next world_now world_next so_far more tables inputs set functions reading e told turns is =
        so_far tables inputs set functions reading e told turns (IsReading-earlier made meaning room firm earlier later reading kept is) ∙ more tables inputs set functions reading e told turns is

    -- what the last look came to is what all of them do
    pub visits_on : (old now new : Kept T) (world_now world_new : World T) (result : Result Control (FlowFault T)) → now.tasks ≡ old.tasks → VisitsAlike made meaning earlier x count loose world left now.loose world_now
        → BeginsWith made meaning later (visits_of x left now.loose) now new world_now world_new result → BeginsWith made meaning later (visits_of x count loose) old new world world_new result
    visits_on old now new world_now world_new result tasks alike begins tables inputs set functions reading e told turns is =
        let s = state_of reading world told turns in
        let t = state_of reading world_now told turns in
        moves_as tables inputs set functions reading new e (state_of reading world_new told turns) (behind tables inputs set functions reading now.tasks e (visits_of x left now.loose tables inputs set functions reading (setting_above now.tasks e) t)) (behind tables inputs set functions reading old.tasks e (visits_of x count loose tables inputs set functions reading (setting_above old.tasks e) s)) result
        (ap (λ ts. behind tables inputs set functions reading ts e (visits_of x left now.loose tables inputs set functions reading (setting_above ts e) t)) tasks
        ∙ ap (λ p. behind tables inputs set functions reading old.tasks e p) (sym (alike tables inputs set functions reading (setting_above old.tasks e) told turns (IsReading-earlier made meaning room firm earlier later reading kept is))))
        (begins tables inputs set functions reading e told turns is)

    pub visits_failed : (old now new : Kept T) (world_now world_new : World T) (f : FlowFault T) (result : Result Control (FlowFault T)) → now.tasks ≡ old.tasks → VisitsAlike made meaning earlier x count loose world left now.loose world_now
        → Fails made meaning later x left now new world_now world_new f → IsErrAnd result (λ g. g ≡ f) → BeginsWith made meaning later (visits_of x count loose) old new world world_new result
    visits_failed old now new world_now world_new f (Ok move) tasks alike fails failed = absurd failed
    visits_failed old now new world_now world_new f (Err g) tasks alike fails failed =
        subst (λ h. BeginsWith made meaning later (visits_of x count loose) old new world world_new (Err h)) (sym failed) (visits_on old now new world_now world_new (Err f) tasks alike fails)

  -- no key is left
  pub visits_over : (store : S) (count left : ℕ) (old now new : Kept T) (world world_now : World T) → now.tasks ≡ old.tasks → new.tasks ≡ now.tasks → length now.loose ≡ 1 → VisitsAlike made meaning store x count old.loose world left now.loose world_now
      → BeginsWith made meaning store (visits_of x count old.loose) old new world world_now (Ok control.Done)
  unfolding visits
  visits_over store count left old now new world world_now tasks same one alike tables inputs set functions reading e told turns is =
      let t = state_of reading world_now told turns in
      let f = setting_above old.tasks e in
      let vs = map (read_value reading) now.loose in
      let none = none_left vs (length-map now.loose (read_value reading) ∙ one) in
      ap (λ ts. behind tables inputs set functions reading ts e (next_plan tables inputs set functions control.Done (map (read_value reading) new.loose) (setting_above ts e) t)) (same ∙ tasks)
      ∙ ap (λ ks. behind tables inputs set functions reading old.tasks e (visits (planned tables inputs set functions) (entrance tables inputs set functions) (asking tables inputs set functions) (labels_at (view_stmt x.of.now)) (view_target x.target.now) (view_stmt x.body.now) (nth 0 vs) ks f.env t)) (sym none)
      ∙ ap (λ p. behind tables inputs set functions reading old.tasks e p) (sym (alike tables inputs set functions reading f told turns is))

-- What work says of what lies loose, by what it waits for.
use Rattle.std.proofs.Common.{refl, sym, ap, ap₂, subst, ◌∙◌, ◌≡◌, ◌+◌, ◌-◌, ℕ, Bool, true, false, List, [], ◌∷◌, ◌++◌, map, take, drop, length, append-nil, take-append-drop, length-drop, arith, Result}
use Rattle.std.proofs.lemmas.List.{take_at, drop_at, nil_from_length, length-take-le}
use Rattle.origin_labels.specs.Label.{Label, bottom}
use Rattle.origin_labels.specs.Stores.{IsKept}
use Rattle.flow_policy.specs.Policies.{Tables}
use Rattle.flow_policy.specs.Inputs.{Given}
use Rattle.js_ast.specs.Functions.{FunctionCode}
use Rattle.js_ast.specs.Trees.{Clauses, no_clauses, case, default}
use Rattle.js_ast.specs.Views.{view_clauses}
use Rattle.flow_frames.specs.declared.faults.FlowFault.{FlowFault}
use Rattle.flow_frames.specs.Held.{Held}
use Rattle.js_values.specs.declared.value.Labelled.{Labelled}
use Rattle.js_values.specs.Readings.{IsReading, read_value}
use Rattle.js_values.proofs.ReadingLaws.{IsReading-earlier}
use Rattle.native_protocol.specs.Steps.{Steps}
use Rattle.es_meaning.specs.BuiltIns.{BuiltIns}
use Rattle.es_meaning.specs.Environments.{Env}
use Rattle.es_meaning.specs.Plain.{undefined}
use Rattle.flow_meaning.specs.Scopes.{Val, State}
use Rattle.flow_meaning.specs.Planned.{Plan, gave, end_branch, end_round, end_call, end_construction, end_block, end_handler, end_last}
use Rattle.run_state.specs.declared.world.World.{World}
use Rattle.run_state.specs.Worlds.{state_of}
use Rattle.continuations.specs.declared.continuation.Continuation.{Continuation}
use Rattle.continuations.specs.declared.continuation.Continuation.TheVariants as continuation
use Rattle.continuations.specs.declared.continuation.Control.{Control}
use Rattle.continuations.specs.Kept.{Kept, waits}
use Rattle.continuations.specs.Pending.{Task, owns, env_above, setting_inside, setting_above, after, behind, fallen, first_or_undefined}
use Rattle.continuations.specs.Settings.{Setting, setting_of}
use Rattle.continuations.specs.Resuming.{coming, with_frames, Resumes, ResumesBeside, ResumesDone, ResumesBehind, ResumesDoneBehind, ResumesIn, ResumesDoneIn}
use Rattle.step_references.specs.Moving.{Resumed, ResumedAt}
use Rattle.continuations.specs.Moving.{Moves}
use Rattle.continuations.specs.Going.{here}
use Rattle.continuations.specs.Going.{Resumes as ResumesHere}
use Rattle.continuations.specs.Invariant.{awaits}
use Rattle.step_core.specs.Continuing.{acts, answers, scoped, leads, operates, raises, continued, GoesAlone, GoesIn, GoesActing}

pub one_value : {X : Type 0} (xs : List X) → length xs ≡ 1 → (x : X) × (xs ≡ x ∷ [])
one_value [] size = absurd (omega (arith, size))
one_value (x ∷ []) size = (x, refl)
one_value (x ∷ y ∷ xs) size = absurd (omega (arith, size))

pub two_values : {X : Type 0} (xs : List X) → length xs ≡ 2 → (x : X) × (y : X) × (xs ≡ x ∷ y ∷ [])
two_values [] size = absurd (omega (arith, size))
two_values (x ∷ []) size = absurd (omega (arith, size))
two_values (x ∷ y ∷ []) size = (x, y, refl)
two_values (x ∷ y ∷ z ∷ xs) size = absurd (omega (arith, size))

-- the environment above pending work, in a setting
pub env_of : {T : Type 0} (tasks : List (Task T)) (e : Setting) → (setting_above tasks e).env ≡ env_above tasks e.env
unfolding setting_above env_above
env_of [] e = refl
env_of (w ∷ tasks) e = env_of tasks (setting_inside w.0 e)

-- the record in which a part is evaluated, whatever built-ins wait
pub place_present : {T : Type 0} (tasks : List (Task T)) (natives : List Steps) (n : ℕ) → (env_above tasks here).place ≡ n → (setting_above tasks (setting_of natives here)).env.place ≡ n
place_present tasks natives n is = ap (λ (e : Env ℕ). e.place) (env_of tasks (setting_of natives here)) ∙ is

-- a call comes to another plan that is equal
pub moves_as : {T : Type 0} (tables : Tables) (inputs : Given) (set : BuiltIns) (functions : List FunctionCode) (reading : T → Label) (stack : Kept T) (e : Setting) (s : State) (plan other : Plan) (result : Result Control (FlowFault T)) → plan ≡ other
    → Moves tables inputs set functions reading stack e s plan result → Moves tables inputs set functions reading stack e s other result
moves_as tables inputs set functions reading stack e s plan other result same moves = subst (λ p. Moves tables inputs set functions reading stack e s p result) same moves

-- of so many values and one more, those and the one
one_above : {X : Type 0} (n : ℕ) (xs : List X) → length xs ≡ n + 1 → (x : X) × (length (take n xs) ≡ n) × (xs ≡ take n xs ++ x ∷ [])
one_above n xs size =
    let one = one_value (drop n xs) (omega (arith, size, length-drop n xs)) in
    (one.0, length-take-le n xs (omega (arith, size)), sym (take-append-drop n xs) ∙ ap (λ ys. take n xs ++ ys) one.1)

module _ {T : Type 0} (tables : Tables) (inputs : Given) (set : BuiltIns) (functions : List FunctionCode) (reading : T → Label) where
  -- what lies loose, in two parts
  pub parted : (w : Continuation) (below above loose : List (Labelled T)) (e : Setting) (s : State) → length below ≡ owns w → loose ≡ below ++ above
      → continued tables inputs set functions reading w loose e s ≡ after tables inputs set functions w (map (read_value reading) below) e (gave (first_or_undefined (map (read_value reading) above))) s
  parted w below above loose e s size is =
      ap₂ (λ vs us. after tables inputs set functions w (map (read_value reading) vs) e (gave (first_or_undefined (map (read_value reading) us))) s) (ap (take (owns w)) is ∙ take_at below above (owns w) size) (ap (drop (owns w)) is ∙ drop_at below above (owns w) size)

  -- the statements of a clause don't look at a value
  unseen_fall : (i : ℕ) (cs : Clauses) (e : Env ℕ) (v u : Val) (s : State) → fallen tables inputs set functions i cs e (gave v) s ≡ fallen tables inputs set functions i cs e (gave u) s
  unseen_fall i no_clauses e v u s = refl
  unseen_fall i (case c ss cs) e v u s = refl
  unseen_fall i (default ss cs) e v u s = refl

  -- nor does any work that waits for the end of a part
  unseen : (w : Continuation) (vs : List Val) (e : Setting) (v u : Val) (s : State) → awaits w ≡ 0 → after tables inputs set functions w vs e (gave v) s ≡ after tables inputs set functions w vs e (gave u) s
  unfolding end_branch end_round end_call end_construction end_block end_handler end_last
  unseen (continuation.Statements ss) vs e v u s none = refl
  unseen (continuation.Declared r) vs e v u s none = refl
  unseen (continuation.Turned r) vs e v u s none = refl
  unseen (continuation.Visited x count) vs e v u s none = refl
  unseen (continuation.EndBranch false depth) vs e v u s none = refl
  unseen (continuation.EndBranch true depth) vs e v u s none = absurd (omega (arith, none))
  unseen (continuation.Falls cs i) vs e v u s none = unseen_fall i (view_clauses cs.now) e.env v u s
  unseen (continuation.EndRound turn depth of) vs e v u s none = refl
  unseen (continuation.EndLabel depth text) vs e v u s none = refl
  unseen (continuation.EndCall own depth) vs e v u s none = refl
  unseen (continuation.EndNew own depth) vs e v u s none = refl
  unseen (continuation.EndBlock b depth) vs e v u s none = refl
  unseen (continuation.EndHandler b own depth) vs e v u s none = refl
  unseen (continuation.EndLast waiting) vs e v u s none = refl
  unseen (continuation.EndTry depth) vs e v u s none = refl
  unseen _ vs e v u s none = absurd (omega (arith, none))

  -- so one may be forgotten
  pub forgotten : (w : Continuation) (loose below : List (Labelled T)) (e : Setting) (s : State) → awaits w ≡ 0 → length loose ≡ owns w + 1 → below ≡ take (length loose - 1) loose
      → continued tables inputs set functions reading w below e s ≡ continued tables inputs set functions reading w loose e s
  forgotten w loose below e s none size is =
      let place : length loose - 1 ≡ owns w = omega (arith, size) in
      let front : below ≡ take (owns w) loose = is ∙ ap (λ n. take n loose) place in
      let many : length (take (owns w) loose) ≡ owns w = length-take-le (owns w) loose (omega (arith, size)) in
      parted w (take (owns w) loose) [] below e s many (front ∙ sym (append-nil (take (owns w) loose)))
      ∙ unseen w (map (read_value reading) (take (owns w) loose)) e (first_or_undefined []) (first_or_undefined (map (read_value reading) (drop (owns w) loose))) s none

  -- and undefined without an origin stands for the end of a part
  pub supplied : (w : Continuation) (loose more : List (Labelled T)) (label : T) (e : Setting) (s : State) → length loose ≡ owns w → reading label ≡ bottom → more ≡ loose ++ record { value = undefined; label = label } ∷ []
      → continued tables inputs set functions reading w more e s ≡ continued tables inputs set functions reading w loose e s
  supplied w loose more label e s size none is =
      parted w loose (record { value = undefined; label = label } ∷ []) more e s size is
      ∙ ap (λ l. after tables inputs set functions w (map (read_value reading) loose) e (gave (record { value = undefined; label = l })) s) none
      ∙ sym (parted w loose [] loose e s size (sym (append-nil loose)))

module _ {T : Type 0} (w : Continuation) (old new : Kept T) (move : Control) where
  abbrev GoesOn : Type 0
  GoesOn = (tables : Tables) (inputs : Given) (set : BuiltIns) (functions : List FunctionCode) (reading : T → Label) (e : Setting) (s : State) → coming tables inputs set functions reading new move e s ≡ behind tables inputs set functions reading old.tasks e (continued tables inputs set functions reading w old.loose (setting_above old.tasks e) s)

  goes_value : owns w ≡ 0 → length old.loose ≡ 1 → Resumes w old new move → GoesOn
  goes_value none size goes tables inputs set functions reading e s =
      let one = one_value old.loose size in
      goes tables inputs set functions reading e s one.0 one.1 ∙ ap (λ p. behind tables inputs set functions reading old.tasks e p) (sym (parted tables inputs set functions reading w [] (one.0 ∷ []) old.loose (setting_above old.tasks e) s (sym none) one.1))

  goes_end : owns w ≡ 0 → length old.loose ≡ 0 → ResumesDone w old new move → GoesOn
  goes_end none size goes tables inputs set functions reading e s =
      let is = nil_from_length old.loose size in
      goes tables inputs set functions reading e s is ∙ ap (λ p. behind tables inputs set functions reading old.tasks e p) (sym (parted tables inputs set functions reading w [] [] old.loose (setting_above old.tasks e) s (sym none) is))

  goes_behind : length old.loose ≡ owns w + 1 → ResumesBehind w old new move → GoesOn
  goes_behind size goes tables inputs set functions reading e s =
      let below = take (owns w) old.loose in
      let split = one_above (owns w) old.loose size in
      goes tables inputs set functions reading e s below split.0 split.2 ∙ ap (λ p. behind tables inputs set functions reading old.tasks e p) (sym (parted tables inputs set functions reading w below (split.0 ∷ []) old.loose (setting_above old.tasks e) s split.1 split.2))

  goes_beside : owns w ≡ 1 → length old.loose ≡ 2 → ResumesBeside w old new move → GoesOn
  goes_beside one size goes tables inputs set functions reading e s =
      let both = two_values old.loose size in
      goes tables inputs set functions reading e s both.0 both.1 both.2 ∙ ap (λ p. behind tables inputs set functions reading old.tasks e p) (sym (parted tables inputs set functions reading w (both.0 ∷ []) (both.1 ∷ []) old.loose (setting_above old.tasks e) s (sym one) both.2))

  goes_done_behind : length old.loose ≡ owns w → ResumesDoneBehind w old new move → GoesOn
  goes_done_behind size goes tables inputs set functions reading e s =
      goes tables inputs set functions reading e s ∙ ap (λ p. behind tables inputs set functions reading old.tasks e p) (sym (parted tables inputs set functions reading w old.loose [] old.loose (setting_above old.tasks e) s size (sym (append-nil old.loose))))

-- work that needs the stack alone
pub goes_alone : {T : Type 0} → (w : Continuation) (old new : Kept T) (move : Control) → acts w ≡ false → scoped w ≡ false → leads w ≡ false → raises w ≡ false → answers w ≡ false → length old.loose ≡ owns w + awaits w → GoesAlone w old new move → GoesOn w old new move
goes_alone (continuation.BinaryDone o) old new move idle never led raised asks size goes = absurd cc
goes_alone (continuation.AssignTo n) old new move idle never led raised asks size goes = absurd cc
goes_alone (continuation.CompoundDone o n) old new move idle never led raised asks size goes = absurd cc
goes_alone (continuation.Variable n ds) old new move idle never led raised asks size goes = absurd cc
goes_alone (continuation.MemberBase how text) old new move idle never led raised asks size goes = absurd cc
goes_alone (continuation.IndexKey how) old new move idle never led raised asks size goes = absurd cc
goes_alone (continuation.EndBranch gives depth) old new move idle never led raised asks size goes = absurd cc
goes_alone (continuation.EndRound turn depth of) old new move idle never led raised asks size goes = absurd cc
goes_alone (continuation.EndLabel depth text) old new move idle never led raised asks size goes = absurd cc
goes_alone (continuation.EndTry depth) old new move idle never led raised asks size goes = absurd cc
goes_alone continuation.InstanceDone old new move idle never led raised asks size goes = absurd cc
goes_alone (continuation.Compared cs i) old new move idle never led raised asks size goes = absurd cc
goes_alone (continuation.EndNew own depth) old new move idle never led raised asks size goes = absurd cc
goes_alone (continuation.EndLast waiting) old new move idle never led raised asks size goes = absurd cc
goes_alone (continuation.Falls cs i) old new move idle never led raised asks size goes = absurd cc
goes_alone (continuation.EndCall own depth) old new move idle never led raised asks size goes = absurd cc
goes_alone (continuation.EndBlock b depth) old new move idle never led raised asks size goes = absurd cc
goes_alone (continuation.EndHandler b own depth) old new move idle never led raised asks size goes = absurd cc
goes_alone (continuation.ConvertedLeft o) old new move idle never led raised asks size goes = absurd cc
goes_alone (continuation.Operate o) old new move idle never led raised asks size goes = absurd cc
goes_alone continuation.KeyHas old new move idle never led raised asks size goes = absurd cc
goes_alone (continuation.KeyOf how) old new move idle never led raised asks size goes = absurd cc
goes_alone (continuation.Counted how o t) old new move idle never led raised asks size goes = absurd cc
goes_alone (continuation.CountedNumber how o t) old new move idle never led raised asks size goes = absurd cc
goes_alone continuation.InstanceTest old new move idle never led raised asks size goes = absurd cc
goes_alone (continuation.LengthOnce how) old new move idle never led raised asks size goes = absurd cc
goes_alone (continuation.LengthTwice how) old new move idle never led raised asks size goes = absurd cc
goes_alone (continuation.Answered count to) old new move idle never led raised asks size goes = absurd cc
goes_alone (continuation.CompoundRight o x t) old new move idle never led raised asks size goes = goes_behind (continuation.CompoundRight o x t) old new move size goes
goes_alone (continuation.CalledBy es) old new move idle never led raised asks size goes = goes_beside (continuation.CalledBy es) old new move refl size goes
goes_alone continuation.GiveBehind old new move idle never led raised asks size goes = goes_beside continuation.GiveBehind old new move refl size goes
goes_alone (continuation.Argument f count rest) old new move idle never led raised asks size goes = goes_behind (continuation.Argument f count rest) old new move size goes
goes_alone (continuation.Property ps count) old new move idle never led raised asks size goes = goes_behind (continuation.Property ps count) old new move size goes
goes_alone (continuation.Item is place count) old new move idle never led raised asks size goes = goes_behind (continuation.Item is place count) old new move size goes
goes_alone (continuation.IndexBase how x) old new move idle never led raised asks size goes = goes_behind (continuation.IndexBase how x) old new move size goes
goes_alone (continuation.Visited x count) old new move idle never led raised asks size goes = goes_done_behind (continuation.Visited x count) old new move (omega (arith, size)) goes
goes_alone (continuation.Statements ss) old new move idle never led raised asks size goes = goes_end (continuation.Statements ss) old new move refl size goes
goes_alone (continuation.Declared r) old new move idle never led raised asks size goes = goes_end (continuation.Declared r) old new move refl size goes
goes_alone (continuation.Turned r) old new move idle never led raised asks size goes = goes_end (continuation.Turned r) old new move refl size goes
goes_alone w old new move idle never led raised asks size goes = goes_value w old new move refl size goes

module _ {S T : Type 0} (made : S → T → Type 0) (meaning : S → T → Label) (store : S) where
  module _ (w : Continuation) (old new : Kept T) (frames_old frames_new : List (Held T)) (move : Control) where
    abbrev GoesOnIn : Type 0
    GoesOnIn = (tables : Tables) (inputs : Given) (set : BuiltIns) (functions : List FunctionCode) (reading : T → Label) (e : Setting) (s : State) → IsReading made meaning store reading
        → coming tables inputs set functions reading new move e (with_frames reading frames_new s) ≡ behind tables inputs set functions reading old.tasks e (continued tables inputs set functions reading w old.loose (setting_above old.tasks e) (with_frames reading frames_old s))

    goes_value_in : owns w ≡ 0 → length old.loose ≡ 1 → ResumesIn made meaning store w old new frames_old frames_new move → GoesOnIn
    goes_value_in none size goes tables inputs set functions reading e s read =
        let one = one_value old.loose size in
        goes tables inputs set functions reading e s one.0 read one.1 ∙ ap (λ p. behind tables inputs set functions reading old.tasks e p) (sym (parted tables inputs set functions reading w [] (one.0 ∷ []) old.loose (setting_above old.tasks e) (with_frames reading frames_old s) (sym none) one.1))

    goes_end_in : owns w ≡ 0 → length old.loose ≡ 0 → ResumesDoneIn made meaning store w old new frames_old frames_new move → GoesOnIn
    goes_end_in none size goes tables inputs set functions reading e s read =
        let is = nil_from_length old.loose size in
        goes tables inputs set functions reading e s read is ∙ ap (λ p. behind tables inputs set functions reading old.tasks e p) (sym (parted tables inputs set functions reading w [] [] old.loose (setting_above old.tasks e) (with_frames reading frames_old s) (sym none) is))

  -- work in frames
  pub goes_in : (w : Continuation) (old new : Kept T) (frames_old frames_new : List (Held T)) (move : Control) → scoped w ≡ true → length old.loose ≡ owns w + awaits w
      → GoesIn made meaning store w old new frames_old frames_new move → GoesOnIn w old new frames_old frames_new move
  goes_in (continuation.AndRight r) old new frames_old frames_new move yes_scoped size goes = goes_value_in (continuation.AndRight r) old new frames_old frames_new move refl size goes
  goes_in (continuation.OrRight r) old new frames_old frames_new move yes_scoped size goes = goes_value_in (continuation.OrRight r) old new frames_old frames_new move refl size goes
  goes_in (continuation.Choose a b) old new frames_old frames_new move yes_scoped size goes = goes_value_in (continuation.Choose a b) old new frames_old frames_new move refl size goes
  goes_in (continuation.ChooseStmt s) old new frames_old frames_new move yes_scoped size goes = goes_value_in (continuation.ChooseStmt s) old new frames_old frames_new move refl size goes
  goes_in (continuation.ChooseStmts s t) old new frames_old frames_new move yes_scoped size goes = goes_value_in (continuation.ChooseStmts s t) old new frames_old frames_new move refl size goes
  goes_in (continuation.Tested r) old new frames_old frames_new move yes_scoped size goes = goes_value_in (continuation.Tested r) old new frames_old frames_new move refl size goes
  goes_in (continuation.Enumerated x) old new frames_old frames_new move yes_scoped size goes = goes_value_in (continuation.Enumerated x) old new frames_old frames_new move refl size goes
  goes_in (continuation.EndBranch true depth) old new frames_old frames_new move yes_scoped size goes = goes_value_in (continuation.EndBranch true depth) old new frames_old frames_new move refl size goes
  goes_in (continuation.EndBranch false depth) old new frames_old frames_new move yes_scoped size goes = goes_end_in (continuation.EndBranch false depth) old new frames_old frames_new move refl size goes
  goes_in (continuation.EndRound turn depth of) old new frames_old frames_new move yes_scoped size goes = goes_end_in (continuation.EndRound turn depth of) old new frames_old frames_new move refl size goes
  goes_in (continuation.EndLabel depth text) old new frames_old frames_new move yes_scoped size goes = goes_end_in (continuation.EndLabel depth text) old new frames_old frames_new move refl size goes
  goes_in (continuation.EndTry depth) old new frames_old frames_new move yes_scoped size goes = goes_end_in (continuation.EndTry depth) old new frames_old frames_new move refl size goes
  goes_in _ old new frames_old frames_new move yes_scoped size goes = absurd cc

  -- ---- work that acts on the run's state

  module _ (w : Continuation) (old new : Kept T) (world_old world_new : World T) (result : Result Control (FlowFault T)) where
    abbrev GoesOnActing : Type 0
    GoesOnActing = (tables : Tables) (inputs : Given) (set : BuiltIns) (functions : List FunctionCode) (natives : List Steps) (reading : T → Label) (told : _) (turns : ℕ) → IsReading made meaning store reading
        → Moves tables inputs set functions reading new (setting_of natives here) (state_of reading world_new told turns) (behind tables inputs set functions reading old.tasks (setting_of natives here) (continued tables inputs set functions reading w old.loose (setting_above old.tasks (setting_of natives here)) (state_of reading world_old told turns))) result

    acts_as : (tables : Tables) (inputs : Given) (set : BuiltIns) (functions : List FunctionCode) (natives : List Steps) (reading : T → Label) (told : _) (turns : ℕ) (below above : List (Labelled T)) → length below ≡ owns w → old.loose ≡ below ++ above
        → Moves tables inputs set functions reading new (setting_of natives here) (state_of reading world_new told turns) (behind tables inputs set functions reading old.tasks (setting_of natives here) (after tables inputs set functions w (map (read_value reading) below) (setting_above old.tasks (setting_of natives here)) (gave (first_or_undefined (map (read_value reading) above))) (state_of reading world_old told turns))) result
        → Moves tables inputs set functions reading new (setting_of natives here) (state_of reading world_new told turns) (behind tables inputs set functions reading old.tasks (setting_of natives here) (continued tables inputs set functions reading w old.loose (setting_above old.tasks (setting_of natives here)) (state_of reading world_old told turns))) result
    acts_as tables inputs set functions natives reading told turns below above size is moves =
        let s = state_of reading world_old told turns in
        let f = setting_above old.tasks (setting_of natives here) in
        moves_as tables inputs set functions reading new (setting_of natives here) (state_of reading world_new told turns) (behind tables inputs set functions reading old.tasks (setting_of natives here) (after tables inputs set functions w (map (read_value reading) below) f (gave (first_or_undefined (map (read_value reading) above))) s)) (behind tables inputs set functions reading old.tasks (setting_of natives here) (continued tables inputs set functions reading w old.loose f s)) result
        (ap (λ p. behind tables inputs set functions reading old.tasks (setting_of natives here) p) (sym (parted tables inputs set functions reading w below above old.loose f s size is)))
        moves

    acts_behind : length old.loose ≡ owns w + 1 → Resumed made meaning store w old new world_old world_new result → GoesOnActing
    acts_behind size goes tables inputs set functions natives reading told turns read =
        let below = take (owns w) old.loose in
        let split = one_above (owns w) old.loose size in
        acts_as tables inputs set functions natives reading told turns below (split.0 ∷ []) split.1 split.2 (goes.resumes tables inputs set functions reading (setting_of natives here) told turns below split.0 read split.2)

    acts_at : length old.loose ≡ owns w + 1 → ResumedAt made meaning store (env_above old.tasks here).place w old new world_old world_new result → GoesOnActing
    acts_at size goes tables inputs set functions natives reading told turns read =
        let below = take (owns w) old.loose in
        let split = one_above (owns w) old.loose size in
        acts_as tables inputs set functions natives reading told turns below (split.0 ∷ []) split.1 split.2 (goes.resumes tables inputs set functions reading (setting_of natives here) told turns below split.0 read (ap (λ e. e.place) (env_of old.tasks (setting_of natives here))) split.2)

  pub goes_acting : (w : Continuation) (old new : Kept T) (world_old world_new : World T) (result : Result Control (FlowFault T)) → acts w ≡ true → length old.loose ≡ owns w + awaits w
      → GoesActing made meaning store w old new world_old world_new result → GoesOnActing w old new world_old world_new result
  goes_acting (continuation.Unary o) old new world_old world_new result acting size goes = acts_behind (continuation.Unary o) old new world_old world_new result size goes
  goes_acting (continuation.BinaryDone o) old new world_old world_new result acting size goes = acts_behind (continuation.BinaryDone o) old new world_old world_new result size goes
  goes_acting (continuation.AssignTo n) old new world_old world_new result acting size goes = acts_behind (continuation.AssignTo n) old new world_old world_new result size goes
  goes_acting (continuation.CompoundDone o n) old new world_old world_new result acting size goes = acts_behind (continuation.CompoundDone o n) old new world_old world_new result size goes
  goes_acting (continuation.MemberBase how text) old new world_old world_new result acting size goes = acts_behind (continuation.MemberBase how text) old new world_old world_new result size goes
  goes_acting (continuation.IndexKey how) old new world_old world_new result acting size goes = acts_behind (continuation.IndexKey how) old new world_old world_new result size goes
  goes_acting continuation.InstanceDone old new world_old world_new result acting size goes = acts_behind continuation.InstanceDone old new world_old world_new result size goes
  goes_acting (continuation.ConvertedLeft o) old new world_old world_new result acting size goes = acts_behind (continuation.ConvertedLeft o) old new world_old world_new result size goes
  goes_acting (continuation.Operate o) old new world_old world_new result acting size goes = acts_behind (continuation.Operate o) old new world_old world_new result size goes
  goes_acting (continuation.UnaryConverted o) old new world_old world_new result acting size goes = acts_behind (continuation.UnaryConverted o) old new world_old world_new result size goes
  goes_acting continuation.KeyHas old new world_old world_new result acting size goes = acts_behind continuation.KeyHas old new world_old world_new result size goes
  goes_acting (continuation.KeyOf how) old new world_old world_new result acting size goes = acts_behind (continuation.KeyOf how) old new world_old world_new result size goes
  goes_acting (continuation.Counted how o t) old new world_old world_new result acting size goes = acts_behind (continuation.Counted how o t) old new world_old world_new result size goes
  goes_acting (continuation.CountedNumber how o t) old new world_old world_new result acting size goes = acts_behind (continuation.CountedNumber how o t) old new world_old world_new result size goes
  goes_acting continuation.InstanceTest old new world_old world_new result acting size goes = acts_behind continuation.InstanceTest old new world_old world_new result size goes
  goes_acting (continuation.LengthOnce how) old new world_old world_new result acting size goes = acts_behind (continuation.LengthOnce how) old new world_old world_new result size goes
  goes_acting (continuation.LengthTwice how) old new world_old world_new result acting size goes = acts_behind (continuation.LengthTwice how) old new world_old world_new result size goes
  goes_acting (continuation.VariablesBehind ds) old new world_old world_new result acting size goes = acts_at (continuation.VariablesBehind ds) old new world_old world_new result size goes
  goes_acting (continuation.Variable n ds) old new world_old world_new result acting size goes = acts_at (continuation.Variable n ds) old new world_old world_new result size goes
  goes_acting _ old new world_old world_new result acting size goes = absurd cc

  -- behind a call that only changed what lies loose, and that in a way that the work doesn't see
  pub resumes_prepared : (room : S → ℕ) (firm : S → Bool) (before : S) (w : Continuation) (old middle new : Kept T) (world_old world_new : World T) (result : Result Control (FlowFault T)) → IsKept made meaning room firm before store → middle.tasks ≡ old.tasks
      → ((tables : Tables) (inputs : Given) (set : BuiltIns) (functions : List FunctionCode) (reading : T → Label) (e : Setting) (s : State) → IsReading made meaning before reading → continued tables inputs set functions reading w middle.loose e s ≡ continued tables inputs set functions reading w old.loose e s)
      → (tables : Tables) (inputs : Given) (set : BuiltIns) (functions : List FunctionCode) (natives : List Steps) → ResumesHere made meaning store tables inputs set functions w natives natives middle new world_old world_new result → ResumesHere made meaning store tables inputs set functions w natives natives old new world_old world_new result
  resumes_prepared room firm before w old middle new world_old world_new result kept tasks same tables inputs set functions natives resumes reading told turns read =
      let s = state_of reading world_old told turns in
      moves_as tables inputs set functions reading new (setting_of natives here) (state_of reading world_new told turns) (behind tables inputs set functions reading middle.tasks (setting_of natives here) (continued tables inputs set functions reading w middle.loose (setting_above middle.tasks (setting_of natives here)) s)) (behind tables inputs set functions reading old.tasks (setting_of natives here) (continued tables inputs set functions reading w old.loose (setting_above old.tasks (setting_of natives here)) s)) result
      (ap (λ ts. behind tables inputs set functions reading ts (setting_of natives here) (continued tables inputs set functions reading w middle.loose (setting_above ts (setting_of natives here)) s)) tasks
      ∙ ap (λ p. behind tables inputs set functions reading old.tasks (setting_of natives here) p) (same tables inputs set functions reading (setting_above old.tasks (setting_of natives here)) s (IsReading-earlier made meaning room firm before store reading kept read)))
      (resumes reading told turns read)

-- work that is neither a directive's nor a built-in's, as the default arm of a `match` knows it
pub no_directive : (w : Continuation) → ((e : _) → w ≡ continuation.Raise e → ⊥) → raises w ≡ false
no_directive (continuation.Raise e) none = absurd (none e refl)
no_directive _ none = refl

pub no_answer : (w : Continuation) → ((count : _) (to : _) → w ≡ continuation.Answered count to → ⊥) → answers w ≡ false
no_answer (continuation.Answered count to) none = absurd (none count to refl)
no_answer _ none = refl

pub none_waits : (w : Continuation) → ((count : _) (to : _) → w ≡ continuation.Answered count to → ⊥) → waits w ≡ 0
none_waits (continuation.Answered count to) none = absurd (none count to refl)
none_waits _ none = refl

-- work of an operator acts without a look at the record in which it stands
pub acts_anywhere : {S T : Type 0} (made : S → T → Type 0) (meaning : S → T → Label) (store : S) (w : Continuation) (old new : Kept T) (world_old world_new : World T) (result : Result Control (FlowFault T)) → operates w ≡ true
    → Resumed made meaning store w old new world_old world_new result → GoesActing made meaning store w old new world_old world_new result
acts_anywhere made meaning store (continuation.Variable n ds) old new world_old world_new result none resumed = absurd (cc none)
acts_anywhere made meaning store (continuation.VariablesBehind ds) old new world_old world_new result none resumed = absurd (cc none)
acts_anywhere made meaning store _ old new world_old world_new result operates resumed = resumed

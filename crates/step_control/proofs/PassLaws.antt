-- A jump, and the work that it passes or that it reaches.
use Rattle.std.proofs.Common.{refl, sym, ap, ap₂, ◌∙◌, ◌≡◌, ◌+◌, ◌<◌, ◌≤◌, ℕ, Bool, false, Some, None, List, [], ◌∷◌, ◌++◌, map, take, length, arith}
use Rattle.std.proofs.lemmas.Bool.{lt-ltb, le-ltb}
use Rattle.std.proofs.lemmas.List.{length-map, take_all}
use Rattle.origin_labels.specs.Label.{Label, union}
use Rattle.flow_frames.specs.Held.{Held, meant_at, seen_frame}
use Rattle.js_values.specs.declared.value.Labelled.{Labelled}
use Rattle.es_meaning.specs.Outcomes.{Goes, Jumps, ret, and_then}
use Rattle.es_meaning.specs.Operations.{Ty, One, Value}
use Rattle.es_meaning.specs.Plain.{undefined, choose}
use Rattle.flow_meaning.specs.Erased.{unlabelled}
use Rattle.flow_meaning.specs.Scopes.{Val, State, Jump, Left, caught, cut_to, popped, settled}
use Rattle.flow_meaning.specs.Planned.{Give, gave, jumped, as_plan, end_branch, end_round, end_first, end_last, end_putting, end_instance}
use Rattle.std.specs.Borrow.{Bor}
use Rattle.js_ast.specs.declared.trees.Stmt.{Stmt}
use Rattle.js_values.specs.Readings.{read_value}
use Rattle.continuations.specs.declared.continuation.Jump as moves
use Rattle.continuations.specs.Shapes.{jump_of}
use Rattle.continuations.specs.declared.continuation.Counting.TheVariants as counting
use Rattle.continuations.specs.declared.continuation.Continuation.{Continuation}
use Rattle.continuations.specs.declared.continuation.Continuation.TheVariants as continuation
use Rattle.continuations.specs.declared.continuation.Control.TheVariants as control
use Rattle.continuations.specs.Kept.{Kept, may_stay, scope_of}
use Rattle.continuations.specs.Settings.{Setting}
use Rattle.flow_policy.specs.Policies.{Tables}
use Rattle.flow_policy.specs.Inputs.{Given}
use Rattle.js_ast.specs.Functions.{FunctionCode}
use Rattle.es_meaning.specs.BuiltIns.{BuiltIns}
use Rattle.js_ast.specs.Trees.{Clauses, no_clauses, case, default}
use Rattle.es_meaning.specs.Environments.{Env}
use Rattle.js_ast.specs.Views.{view_clauses}
use Rattle.continuations.specs.Pending.{after, behind, fallen, result_type, setting_above}
use Rattle.continuations.specs.Resuming.{with_frames, Passes, PassesIn, LeavesAt}
use Rattle.continuations.proofs.BranchLaws.{last_two}
use Rattle.continuations.proofs.Handed.{gives_alone, jumps_alone}

-- ---- what pending work says of a jump

-- the end of a scope whose frame was left hands it on
passes_branch : (t : Ty) (depth : ℕ) (j : Jump) (s : State) → length s.frames ≤ depth → end_branch t depth (jumped j) s ≡ Give (jumped j) s
unfolding end_branch popped
passes_branch t depth j s few =
    ap (λ b. as_plan t (and_then (choose b (Goes (record { label = meant_at s.frames depth; how = caught j }) (cut_to depth s)) (Jumps j (cut_to depth s))) (λ (l : Left _). ret (settled t l)))) (le-ltb depth (length s.frames) few)
    ∙ ap (λ fs. Give (jumped j) (record s { frames = fs })) (take_all depth s.frames few)

passes_round : (depth : ℕ) (j : Jump) (s : State) → length s.frames ≤ depth → end_round depth (jumped j) s ≡ Give (jumped j) s
unfolding end_round popped
passes_round depth j s few =
    ap (λ b. as_plan One (and_then (choose b (Goes (record { label = meant_at s.frames depth; how = caught j }) (cut_to depth s)) (Jumps j (cut_to depth s))) (λ (l : Left (Unit {0})). ret tt))) (le-ltb depth (length s.frames) few)
    ∙ ap (λ fs. Give (jumped j) (record s { frames = fs })) (take_all depth s.frames few)

-- and so do clauses that are left of a `switch`
pub fallen_passes : (tables : Tables) (inputs : Given) (set : BuiltIns) (functions : List FunctionCode) (i : ℕ) (cs : Clauses) (e : Env ℕ) (j : Jump) (s : State) → fallen tables inputs set functions i cs e (jumped j) s ≡ Give (jumped j) s
fallen_passes tables inputs set functions i no_clauses e j s = refl
fallen_passes tables inputs set functions i (case c ss cs) e j s = refl
fallen_passes tables inputs set functions i (default ss cs) e j s = refl

-- where the frame still stands, the scope is over
reaches_value : (depth : ℕ) (j : Jump) (s : State) → depth < length s.frames → end_branch Value depth (jumped j) s ≡ Give (gave (record { value = undefined; label = meant_at s.frames depth })) (cut_to depth s)
unfolding end_branch popped union
reaches_value depth j s stands =
    ap (λ b. as_plan Value (and_then (choose b (Goes (record { label = meant_at s.frames depth; how = caught j }) (cut_to depth s)) (Jumps j (cut_to depth s))) (λ (l : Left _). ret (settled Value l)))) (lt-ltb depth (length s.frames) stands)

reaches_branch : (depth : ℕ) (j : Jump) (s : State) → depth < length s.frames → end_branch One depth (jumped j) s ≡ Give (gave (unlabelled undefined)) (cut_to depth s)
unfolding end_branch popped
reaches_branch depth j s stands =
    ap (λ b. as_plan One (and_then (choose b (Goes (record { label = meant_at s.frames depth; how = caught j }) (cut_to depth s)) (Jumps j (cut_to depth s))) (λ (l : Left _). ret (settled One l)))) (lt-ltb depth (length s.frames) stands)

reaches_round : (depth : ℕ) (j : Jump) (s : State) → depth < length s.frames → end_round depth (jumped j) s ≡ Give (gave (unlabelled undefined)) (cut_to depth s)
unfolding end_round popped
reaches_round depth j s stands =
    ap (λ b. as_plan One (and_then (choose b (Goes (record { label = meant_at s.frames depth; how = caught j }) (cut_to depth s)) (Jumps j (cut_to depth s))) (λ (l : Left (Unit {0})). ret tt))) (lt-ltb depth (length s.frames) stands)

-- ---- what a call comes to

module _ {S T : Type 0} (made : S → T → Type 0) (meaning : S → T → Label) (store : S) (m : moves.Jump) (depth : ℕ) where
  -- the frame was left before
  module _ (stack : Kept T) (frames : List (Held T)) (few : length frames ≤ depth) where
    few_read : (reading : T → Label) → length (map (seen_frame reading) frames) ≤ depth
    few_read reading = omega (arith, few, length-map frames (seen_frame reading))

    pub branch_passed : (gives : Bool) → PassesIn made meaning store m (continuation.EndBranch gives depth) stack stack frames frames (control.Jumps m)
    branch_passed gives = λ tables inputs set functions reading e s value read loose.
        jumps_alone tables inputs set functions reading m stack stack value e (with_frames reading frames s) refl loose
        ∙ ap (λ p. behind tables inputs set functions reading stack.tasks e p) (sym (passes_branch (result_type gives) depth (jump_of m (read_value reading value)) (with_frames reading frames s) (few_read reading)))

    pub round_passed : (turn : Bool) (of : Bor Stmt) → PassesIn made meaning store m (continuation.EndRound turn depth of) stack stack frames frames (control.Jumps m)
    round_passed turn of = λ tables inputs set functions reading e s value read loose.
        jumps_alone tables inputs set functions reading m stack stack value e (with_frames reading frames s) refl loose
        ∙ ap (λ p. behind tables inputs set functions reading stack.tasks e p) (sym (passes_round depth (jump_of m (read_value reading value)) (with_frames reading frames s) (few_read reading)))

    pub label_passed : (text : Bor (List ℕ)) → PassesIn made meaning store m (continuation.EndLabel depth text) stack stack frames frames (control.Jumps m)
    label_passed text = λ tables inputs set functions reading e s value read loose.
        jumps_alone tables inputs set functions reading m stack stack value e (with_frames reading frames s) refl loose
        ∙ ap (λ p. behind tables inputs set functions reading stack.tasks e p) (sym (passes_round depth (jump_of m (read_value reading value)) (with_frames reading frames s) (few_read reading)))

    pub try_passed : PassesIn made meaning store m (continuation.EndTry depth) stack stack frames frames (control.Jumps m)
    try_passed = λ tables inputs set functions reading e s value read loose.
        jumps_alone tables inputs set functions reading m stack stack value e (with_frames reading frames s) refl loose
        ∙ ap (λ p. behind tables inputs set functions reading stack.tasks e p) (sym (passes_round depth (jump_of m (read_value reading value)) (with_frames reading frames s) (few_read reading)))

  -- the frame is left
  module _ (old alone : Kept T) (frames_old frames_new : List (Held T)) (deep : length frames_old ≡ depth + 1) (keep : alone.tasks ≡ old.tasks) (outside : (reading : T → Label) → map (seen_frame reading) frames_new ≡ take depth (map (seen_frame reading) frames_old)) where
    stands_read : (reading : T → Label) → depth < length (map (seen_frame reading) frames_old)
    stands_read reading = omega (arith, deep, length-map frames_old (seen_frame reading))

    -- nothing is given
    pub branch_reached : PassesIn made meaning store m (continuation.EndBranch Bool.false depth) old alone frames_old frames_new control.Done
    branch_reached = λ tables inputs set functions reading e s value read loose.
        ap₂ (λ ts fs. behind tables inputs set functions reading ts e (Give (gave (unlabelled undefined)) (record s { frames = fs }))) keep (outside reading)
        ∙ ap (λ p. behind tables inputs set functions reading old.tasks e p) (sym (reaches_branch depth (jump_of m (read_value reading value)) (with_frames reading frames_old s) (stands_read reading)))

    pub round_reached : (turn : Bool) (of : Bor Stmt) → PassesIn made meaning store m (continuation.EndRound turn depth of) old alone frames_old frames_new control.Done
    round_reached turn of = λ tables inputs set functions reading e s value read loose.
        ap₂ (λ ts fs. behind tables inputs set functions reading ts e (Give (gave (unlabelled undefined)) (record s { frames = fs }))) keep (outside reading)
        ∙ ap (λ p. behind tables inputs set functions reading old.tasks e p) (sym (reaches_round depth (jump_of m (read_value reading value)) (with_frames reading frames_old s) (stands_read reading)))

    pub label_reached : (text : Bor (List ℕ)) → PassesIn made meaning store m (continuation.EndLabel depth text) old alone frames_old frames_new control.Done
    label_reached text = λ tables inputs set functions reading e s value read loose.
        ap₂ (λ ts fs. behind tables inputs set functions reading ts e (Give (gave (unlabelled undefined)) (record s { frames = fs }))) keep (outside reading)
        ∙ ap (λ p. behind tables inputs set functions reading old.tasks e p) (sym (reaches_round depth (jump_of m (read_value reading value)) (with_frames reading frames_old s) (stands_read reading)))

    pub try_reached : PassesIn made meaning store m (continuation.EndTry depth) old alone frames_old frames_new control.Done
    try_reached = λ tables inputs set functions reading e s value read loose.
        ap₂ (λ ts fs. behind tables inputs set functions reading ts e (Give (gave (unlabelled undefined)) (record s { frames = fs }))) keep (outside reading)
        ∙ ap (λ p. behind tables inputs set functions reading old.tasks e p) (sym (reaches_round depth (jump_of m (read_value reading value)) (with_frames reading frames_old s) (stands_read reading)))

    -- undefined is given, with the frame's label
    pub value_reached : (new : Kept T) (label : T) → alone.loose ≡ [] → new.tasks ≡ alone.tasks → new.loose ≡ alone.loose ++ record { value = undefined; label = label } ∷ []
        → ((reading : T → Label) → meant_at (map (seen_frame reading) frames_old) depth ≡ reading label)
        → PassesIn made meaning store m (continuation.EndBranch Bool.true depth) old new frames_old frames_new control.Value
    value_reached new label none same laid labelled = λ tables inputs set functions reading e s value read loose.
        let given : Labelled T = record { value = undefined; label = label } in
        gives_alone tables inputs set functions reading old new given e (with_frames reading frames_new s) (same ∙ keep) (laid ∙ ap (λ vs. vs ++ given ∷ []) none)
        ∙ ap₂ (λ l fs. behind tables inputs set functions reading old.tasks e (Give (gave (record { value = undefined; label = l })) (record s { frames = fs }))) (sym (labelled reading)) (outside reading)
        ∙ ap (λ p. behind tables inputs set functions reading old.tasks e p) (sym (reaches_value depth (jump_of m (read_value reading value)) (with_frames reading frames_old s) (stands_read reading)))

-- a jump passes all work without a frame of its own in which it may not stay
pub work_passes : (tables : Tables) (inputs : Given) (set : BuiltIns) (functions : List FunctionCode) (w : Continuation) (vs : List Val) (e : Setting) (j : Jump) (s : State) → scope_of w ≡ [] → may_stay w ≡ false
    → after tables inputs set functions w vs e (jumped j) s ≡ Give (jumped j) s
unfolding end_first end_last end_putting end_instance
work_passes tables inputs set functions (continuation.Falls cs i) vs e j s none goes = fallen_passes tables inputs set functions i (view_clauses cs.now) e.env j s
work_passes tables inputs set functions (continuation.EndBranch gives depth) vs e j s none goes = absurd cc
work_passes tables inputs set functions (continuation.EndRound turn depth of) vs e j s none goes = absurd cc
work_passes tables inputs set functions (continuation.EndLabel depth text) vs e j s none goes = absurd cc
work_passes tables inputs set functions (continuation.EndCall own depth) vs e j s none goes = absurd cc
work_passes tables inputs set functions (continuation.EndNew own depth) vs e j s none goes = absurd cc
work_passes tables inputs set functions (continuation.EndTry depth) vs e j s none goes = absurd cc
work_passes tables inputs set functions (continuation.EndBlock x depth) vs e j s none goes = absurd cc
work_passes tables inputs set functions (continuation.EndHandler x own depth) vs e j s none goes = absurd cc
work_passes tables inputs set functions (continuation.Counted counting.Prefix o t) vs e j s none goes = refl
work_passes tables inputs set functions (continuation.Counted counting.Postfix o t) vs e j s none goes = refl
work_passes tables inputs set functions (continuation.CountedNumber counting.Prefix o t) vs e j s none goes = refl
work_passes tables inputs set functions (continuation.CountedNumber counting.Postfix o t) vs e j s none goes = refl
work_passes tables inputs set functions (continuation.Answered count None) vs e j s none goes = refl
work_passes tables inputs set functions (continuation.Answered count (Some to)) vs e j s none goes = refl
work_passes tables inputs set functions w vs e j s none goes = refl

module _ {T : Type 0} where
  -- and goes on with its value, once the operands of the work were dropped
  pub jump_passes : (w : Continuation) (j : moves.Jump) (old middle alone new : Kept T) (popped : Labelled T) → scope_of w ≡ [] → may_stay w ≡ false
      → old.loose ≡ middle.loose ++ popped ∷ [] → middle.tasks ≡ old.tasks → alone.tasks ≡ middle.tasks → alone.loose ≡ [] → new.tasks ≡ alone.tasks → new.loose ≡ alone.loose ++ popped ∷ []
      → Passes j w old new (control.Jumps j)
  jump_passes w j old middle alone new popped none goes top stays cleared empty same laid = λ tables inputs set functions reading e s kept value loose.
      let both = last_two middle.loose kept popped value (sym top ∙ loose) in
      jumps_alone tables inputs set functions reading j old new popped e s (same ∙ cleared ∙ stays) (laid ∙ ap (λ vs. vs ++ popped ∷ []) empty)
      ∙ ap (λ (v : Labelled T). behind tables inputs set functions reading old.tasks e (Give (jumped (jump_of j (read_value reading v))) s)) both.1
      ∙ sym (ap (λ p. behind tables inputs set functions reading old.tasks e p) (work_passes tables inputs set functions w (map (read_value reading) kept) (setting_above old.tasks e) (jump_of j (read_value reading value)) s none goes))

-- The ends of calls and of constructions.
use Rattle.std.proofs.Common.{refl, sym, ap, ap₂, subst, ◌∙◌, ◌≡◌, ◌<◌, ◌≤◌, ◌+◌, ℕ, zero, suc, Bool, List, [], ◌∷◌, ◌++◌, map, take, drop, length, append_assoc, arith, Ok}
use Rattle.std.specs.List.{All}
use Rattle.std.proofs.lemmas.Bool.{lt-ltb, le-ltb}
use Rattle.std.proofs.lemmas.List.{length-map, length_push, nil_from_length, take_all}
use Rattle.std.proofs.lemmas.List.Elements.{All-append, All-weaker}
use Rattle.origin_labels.specs.Label.{Label, union}
use Rattle.origin_labels.specs.Stores.{IsKept}
use Rattle.flow_policy.specs.Policies.{Tables}
use Rattle.flow_policy.specs.Inputs.{Given}
use Rattle.flow_frames.specs.Held.{meant_at, seen_frame}
use Rattle.flow_frames.specs.Frames.{Frame}
use Rattle.js_ast.specs.Functions.{FunctionCode}
use Rattle.js_values.specs.declared.ids.EnvId.{EnvId}
use Rattle.js_values.specs.declared.value.Labelled.{Labelled}
use Rattle.js_values.specs.Readings.{IsReading, HasValue, read_value}
use Rattle.js_values.proofs.ReadingLaws.{HasHeap-kept, HasRecords-kept}
use Rattle.es_meaning.specs.Operations.{Value}
use Rattle.es_meaning.specs.Outcomes.{Goes, Jumps, ret, and_then}
use Rattle.es_meaning.specs.Plain.{undefined, choose, object_or, object_or_default}
use Rattle.es_meaning.specs.BuiltIns.{BuiltIns}
use Rattle.flow_meaning.specs.Erased.{unlabelled}
use Rattle.flow_meaning.specs.Scopes.{Val, State, LabelledLine, Jump, Left, caught, popped, cut_to, answer, construction}
use Rattle.flow_meaning.specs.Planned.{Plan, Give, as_plan, gave, jumped, end_call, end_construction}
use Rattle.run_state.specs.declared.world.World.{World}
use Rattle.run_state.specs.Worlds.{state_of}
use Rattle.continuations.specs.declared.continuation.Jump as moves
use Rattle.continuations.specs.declared.continuation.Jump.TheVariants.{Throws, Returns, Leaves}
use Rattle.continuations.specs.declared.continuation.Control.{Control}
use Rattle.continuations.specs.declared.continuation.Control.TheVariants as control
use Rattle.continuations.specs.declared.continuation.Continuation.TheVariants as continuation
use Rattle.continuations.specs.Going.{Passes, Resumes, here}
use Rattle.continuations.specs.Kept.{Kept, kept_operands, operands_of, scopes_of, waiting}
use Rattle.continuations.specs.Pending.{behind, first_or_undefined, values_of}
use Rattle.continuations.specs.Resuming.{coming}
use Rattle.continuations.specs.Shapes.{jump_of, nth}
use Rattle.continuations.specs.Invariant.{Invariant, depths, running}
use Rattle.continuations.proofs.EndLaws.{last_has}
use Rattle.continuations.proofs.Handed.{gives_alone, jumps_alone}
use Rattle.continuations.specs.Settings.{Setting, setting_of}
use Rattle.step_jumps.specs.Calling.{Answers}
use Rattle.step_jumps.proofs.StandLaws.{front_has, last_depths, one_more}
use Rattle.native_protocol.specs.Steps.{Steps}

-- ---- what the meaning says

-- a value with the frame's label besides, outside the frame
abbrev Gives : ℕ → Val → State → Plan
Gives depth v t = Give (gave (record { value = v.value; label = union v.label (meant_at t.frames depth) })) (cut_to depth t)

call_ends : (depth : ℕ) (v : Val) (t : State) → end_call depth (gave v) t ≡ Gives depth (unlabelled undefined) t
unfolding end_call popped
call_ends depth v t = refl

construction_ends : (fresh depth : ℕ) (v : Val) (t : State) → end_construction fresh depth (gave v) t ≡ Gives depth (unlabelled (object_or fresh undefined)) t
unfolding end_construction popped
construction_ends fresh depth v t = refl

call_reached : (depth : ℕ) (j : Jump) (t : State) → depth < length t.frames → end_call depth (jumped j) t ≡ Gives depth j.value t
unfolding end_call popped
call_reached depth j t there = ap (λ b. as_plan Value (and_then (choose b (Goes (record { label = meant_at t.frames depth; how = caught j }) (cut_to depth t)) (Jumps j (cut_to depth t))) (λ (l : Left (Unit {0})). ret (answer l)))) (lt-ltb depth (length t.frames) there)

construction_reached : (fresh depth : ℕ) (j : Jump) (t : State) → depth < length t.frames → end_construction fresh depth (jumped j) t ≡ Gives depth (record { value = object_or fresh j.value.value; label = j.value.label }) t
unfolding end_construction popped
construction_reached fresh depth j t there = ap (λ b. as_plan Value (and_then (choose b (Goes (record { label = meant_at t.frames depth; how = caught j }) (cut_to depth t)) (Jumps j (cut_to depth t))) (λ (l : Left (Unit {0})). ret (construction fresh l)))) (lt-ltb depth (length t.frames) there)

call_passes : (depth : ℕ) (j : Jump) (t : State) → length t.frames ≤ depth → end_call depth (jumped j) t ≡ Give (jumped j) t
unfolding end_call popped
call_passes depth j t few =
    ap (λ b. as_plan Value (and_then (choose b (Goes (record { label = meant_at t.frames depth; how = caught j }) (cut_to depth t)) (Jumps j (cut_to depth t))) (λ (l : Left (Unit {0})). ret (answer l)))) (le-ltb depth (length t.frames) few)
    ∙ ap (λ fs. Give (jumped j) (record t { frames = fs })) (take_all depth t.frames few)

construction_passes : (fresh depth : ℕ) (j : Jump) (t : State) → length t.frames ≤ depth → end_construction fresh depth (jumped j) t ≡ Give (jumped j) t
unfolding end_construction popped
construction_passes fresh depth j t few =
    ap (λ b. as_plan Value (and_then (choose b (Goes (record { label = meant_at t.frames depth; how = caught j }) (cut_to depth t)) (Jumps j (cut_to depth t))) (λ (l : Left (Unit {0})). ret (construction fresh l)))) (le-ltb depth (length t.frames) few)
    ∙ ap (λ fs. Give (jumped j) (record t { frames = fs })) (take_all depth t.frames few)

jump_value : (j : moves.Jump) (v : Val) → (jump_of j v).value ≡ v
jump_value Throws v = refl
jump_value (Returns to) v = refl
jump_value (Leaves n to) v = refl

abbrev head_or : {X : Type 0} → X → List X → X
head_or x [] = x
head_or x (y ∷ ys) = y

pub same_head : {X : Type 0} {x y : X} → x ∷ [] ≡ y ∷ [] → x ≡ y
same_head {x = x} e = ap (head_or x) e

module _ {X : Type 0} (P : X → Type 0) where
  one_has : (x : X) → P x → All P (x ∷ [])
  one_has x holds zero d lt = holds
  one_has x holds (suc k) d lt = absurd (omega (arith, lt))

module _ {S T : Type 0} (made : S → T → Type 0) (meaning : S → T → Label) where
  -- ---- where the frame stands

  module _ {count natives : ℕ} (store : S) (stack : Kept T) (world : World T) (depth : ℕ) where
    innermost : (move : Control) → Invariant made meaning store stack world count (scopes_of stack.tasks ++ depth ∷ []) natives move → depth ≡ suc (length (scopes_of stack.tasks))
    innermost move stands = (last_depths (scopes_of stack.tasks) depth stands.scopes).1

    pub at_inner : (move : Control) → Invariant made meaning store stack world count (scopes_of stack.tasks ++ depth ∷ []) natives move → 0 < depth
    at_inner move stands = let deep = innermost move stands in omega (arith, deep)

    pub at_end : Invariant made meaning store stack world count (scopes_of stack.tasks ++ depth ∷ []) natives control.Value → length world.frames.frames ≡ depth + 1
    at_end stands = let all = stands.frames in let deep = innermost control.Value stands in omega (arith, all, deep, one_more (scopes_of stack.tasks) depth)

    pub at_jump : (j : moves.Jump) → Invariant made meaning store stack world count (scopes_of stack.tasks ++ depth ∷ []) natives (control.Jumps j) → depth < length world.frames.frames → length world.frames.frames ≡ depth + 1
    at_jump j stands there = let few = stands.frames in let deep = innermost (control.Jumps j) stands in omega (arith, few, deep, there, one_more (scopes_of stack.tasks) depth)

    -- its frame was left before
    pub standing_passing : (new : Kept T) (j : moves.Jump) → Invariant made meaning store stack world count (scopes_of stack.tasks ++ depth ∷ []) natives (control.Jumps j) → length world.frames.frames ≤ depth
        → new.tasks ≡ stack.tasks → All (HasValue (made store)) (operands_of new) → length new.loose ≡ 1 → Invariant made meaning store new world 1 (scopes_of new.tasks) natives (control.Jumps j)
    standing_passing new j stands few tasks operands one =
        let deep = innermost (control.Jumps j) stands in
        record {
          belongs = stands.belongs;
          operands = operands;
          values = one;
          scopes = subst (λ ts. scopes_of ts ≡ depths (length (scopes_of ts))) (sym tasks) (last_depths (scopes_of stack.tasks) depth stands.scopes).0;
          frames = subst (λ ts. length world.frames.frames ≤ suc (length (scopes_of ts))) (sym tasks) (omega (arith, few, deep));
          records = stands.records;
          natives = stands.natives ∙ ap (λ ts. waiting ts + 0) (sym tasks);
        }

  -- ---- a value is given

  module _ (store : S) (depth : ℕ) (value : Labelled T) (old new : Kept T) (before after : World T) (move : Control) (a : Answers made meaning store depth value old new before after move) where
    pub answered : (tables : Tables) (inputs : Given) (set : BuiltIns) (functions : List FunctionCode) (reading : T → Label) (e : Setting) (told : List LabelledLine) (turns : ℕ) → IsReading made meaning store reading
        → coming tables inputs set functions reading new move e (state_of reading after told turns) ≡ behind tables inputs set functions reading old.tasks e (Gives depth (read_value reading value) (state_of reading before told turns))
    answered tables inputs set functions reading e told turns read =
        let v : Labelled T = record { value = value.value; label = a.label } in
        ap (λ m. coming tables inputs set functions reading new m e (state_of reading after told turns)) a.gives
        ∙ gives_alone tables inputs set functions reading old new v e (state_of reading after told turns) a.tasks a.alone
        ∙ ap₂ (λ l t. behind tables inputs set functions reading old.tasks e (Give (gave (record { value = value.value; label = l })) t)) (a.means reading read)
        (ap (λ w. state_of reading w told turns) a.rest ∙ ap (λ (fs : List Frame). record (state_of reading before told turns) { frames = fs }) (a.outside reading))

    pub standing_answered : {count natives : ℕ} (room : S → ℕ) (firm : S → Bool) (earlier : S) (kept : IsKept made meaning room firm earlier store) (stack : Kept T) (first : Control) → Invariant made meaning earlier stack before count (scopes_of stack.tasks ++ depth ∷ []) natives first → running first ≡ 0
        → old.tasks ≡ stack.tasks → length before.frames.frames ≡ depth + 1 → Invariant made meaning store new after (values_of move) (scopes_of new.tasks) natives move
    standing_answered {natives = natives} room firm earlier kept stack first stands ready tasks frame =
        let same : new.tasks ≡ stack.tasks = a.tasks ∙ tasks in
        let below = All-weaker (HasValue (made earlier)) (HasValue (made store)) (λ v m. (kept.labels v.label m).0) (kept_operands stack.tasks) (front_has (HasValue (made earlier)) (kept_operands stack.tasks) stack.loose stands.operands) in
        let v : Labelled T = record { value = value.value; label = a.label } in
        let deep = (last_depths (scopes_of stack.tasks) depth stands.scopes).1 in
        let less = a.shallower in
        let size : length after.frames.frames ≡ suc (length (scopes_of stack.tasks)) = omega (arith, less, frame, deep) in
        subst (λ m. Invariant made meaning store new after (values_of m) (scopes_of new.tasks) natives m) (sym a.gives)
        (subst (λ w. Invariant made meaning store new w 1 (scopes_of new.tasks) natives control.Value) (sym a.rest) (record {
          belongs = record {
            frames = a.belong;
            catch = a.catch;
            heap = HasHeap-kept made meaning room firm earlier store kept before.heap stands.belongs.heap;
            records = HasRecords-kept made meaning room firm earlier store kept before.records stands.belongs.records;
            started = stands.belongs.started;
          };
          operands = subst (All (HasValue (made store))) (ap₂ (λ ts vs. kept_operands ts ++ vs) (sym same) (sym a.alone)) (All-append (HasValue (made store)) (kept_operands stack.tasks) (v ∷ []) below (one_has (HasValue (made store)) v a.made_there));
          values = ap length a.alone;
          scopes = subst (λ ts. scopes_of ts ≡ depths (length (scopes_of ts))) (sym same) (last_depths (scopes_of stack.tasks) depth stands.scopes).0;
          frames = size ∙ ap (λ ts. suc (length (scopes_of ts))) (sym same);
          records = stands.records;
          natives = omega (arith, stands.natives, ready, ap waiting same);
        }))

    module _ (tables : Tables) (inputs : Given) (set : BuiltIns) (functions : List FunctionCode) (natives : List Steps) (own : EnvId) (stack : Kept T) (tasks : old.tasks ≡ stack.tasks) where
      -- with another plan, behind the work that was there
      answered_as : (reading : T → Label) (told : List LabelledLine) (turns : ℕ) → IsReading made meaning store reading → (q : Plan) → Gives depth (read_value reading value) (state_of reading before told turns) ≡ q
          → coming tables inputs set functions reading new move (setting_of natives here) (state_of reading after told turns) ≡ behind tables inputs set functions reading stack.tasks (setting_of natives here) q
      answered_as reading told turns read q same =
          answered tables inputs set functions reading (setting_of natives here) told turns read
          ∙ ap (λ ts. behind tables inputs set functions reading ts (setting_of natives here) (Gives depth (read_value reading value) (state_of reading before told turns))) tasks
          ∙ ap (behind tables inputs set functions reading stack.tasks (setting_of natives here)) same

      there_read : (reading : T → Label) → depth < length before.frames.frames → depth < length (map (seen_frame reading) before.frames.frames)
      there_read reading there = omega (arith, there, length-map before.frames.frames (seen_frame reading))

      pub call_done : ((reading : T → Label) → IsReading made meaning store reading → read_value reading value ≡ unlabelled undefined)
          → Resumes made meaning store tables inputs set functions (continuation.EndCall own depth) natives natives stack new before after (Ok move)
      call_done is = λ reading told turns read.
          let t = state_of reading before told turns in
          let v = first_or_undefined (map (read_value reading) (drop 0 stack.loose)) in
          answered_as reading told turns read (end_call depth (gave v) t) (ap (λ u. Gives depth u t) (is reading read) ∙ sym (call_ends depth v t))

      pub call_given : (j : moves.Jump) (given : Labelled T) → value ≡ given → depth < length before.frames.frames
          → Passes made meaning store tables inputs set functions j (continuation.EndCall own depth) given natives natives stack new before after (Ok move)
      call_given j given same there = λ reading told turns read.
          let t = state_of reading before told turns in
          let k = jump_of j (read_value reading given) in
          answered_as reading told turns read (end_call depth (jumped k) t)
          (ap (λ u. Gives depth (read_value reading u) t) same ∙ ap (λ u. Gives depth u t) (sym (jump_value j (read_value reading given))) ∙ sym (call_reached depth k t (there_read reading there)))

      pub construction_done : (fresh : Labelled T) → stack.loose ≡ fresh ∷ [] → ((reading : T → Label) → IsReading made meaning store reading → read_value reading value ≡ unlabelled (object_or (object_or_default fresh.value).0 undefined))
          → Resumes made meaning store tables inputs set functions (continuation.EndNew own depth) natives natives stack new before after (Ok move)
      construction_done fresh alone is = λ reading told turns read.
          let t = state_of reading before told turns in
          let v = first_or_undefined (map (read_value reading) (drop 1 stack.loose)) in
          answered_as reading told turns read (end_construction (object_or_default (nth 0 (map (read_value reading) (take 1 stack.loose))).value).0 depth (gave v) t)
          (ap (λ u. Gives depth u t) (is reading read)
          ∙ sym (construction_ends (object_or_default fresh.value).0 depth v t)
          ∙ ap (λ us. end_construction (object_or_default (nth 0 (map (read_value reading) (take 1 us))).value).0 depth (gave v) t) (sym alone))

      pub construction_given : (j : moves.Jump) (fresh popped_value given : Labelled T) → stack.loose ≡ fresh ∷ popped_value ∷ [] → drop 1 stack.loose ≡ given ∷ [] → value.label ≡ popped_value.label → value.value ≡ object_or (object_or_default fresh.value).0 popped_value.value → depth < length before.frames.frames
          → Passes made meaning store tables inputs set functions j (continuation.EndNew own depth) given natives natives stack new before after (Ok move)
      construction_given j fresh popped_value given both above label chosen there = λ reading told turns read.
          let t = state_of reading before told turns in
          let k = jump_of j (read_value reading given) in
          let same : popped_value ≡ given = same_head (sym (ap (drop 1) both) ∙ above) in
          let n = (object_or_default fresh.value).0 in
          answered_as reading told turns read (end_construction (object_or_default (nth 0 (map (read_value reading) (take 1 stack.loose))).value).0 depth (jumped k) t)
          (ap₂ (λ x l. Gives depth (record { value = x; label = reading l }) t) (chosen ∙ ap (λ u. object_or n u.value) same) (label ∙ ap (λ (u : Labelled T). u.label) same)
          ∙ ap (λ (u : Val). Gives depth (record { value = object_or n u.value; label = u.label }) t) (sym (jump_value j (read_value reading given)))
          ∙ sym (construction_reached n depth k t (there_read reading there))
          ∙ ap (λ us. end_construction (object_or_default (nth 0 (map (read_value reading) (take 1 us))).value).0 depth (jumped k) t) (sym both))

  -- ---- where the frame was left before

  module _ (store : S) (tables : Tables) (inputs : Given) (set : BuiltIns) (functions : List FunctionCode) (natives : List Steps) (own : EnvId) (depth : ℕ) (j : moves.Jump) (stack : Kept T) (world : World T) (few : length world.frames.frames ≤ depth) where
    few_read : (reading : T → Label) → length (map (seen_frame reading) world.frames.frames) ≤ depth
    few_read reading = omega (arith, few, length-map world.frames.frames (seen_frame reading))

    pub call_passed : (given : Labelled T) → stack.loose ≡ given ∷ [] → Passes made meaning store tables inputs set functions j (continuation.EndCall own depth) given natives natives stack stack world world (Ok (control.Jumps j))
    call_passed given alone = λ reading told turns read.
        let t = state_of reading world told turns in
        jumps_alone tables inputs set functions reading j stack stack given (setting_of natives here) t refl alone
        ∙ ap (behind tables inputs set functions reading stack.tasks (setting_of natives here)) (sym (call_passes depth (jump_of j (read_value reading given)) t (few_read reading)))

    pub construction_passed : (new : Kept T) (fresh popped_value given : Labelled T) → stack.loose ≡ fresh ∷ popped_value ∷ [] → drop 1 stack.loose ≡ given ∷ [] → new.tasks ≡ stack.tasks → new.loose ≡ popped_value ∷ []
        → Passes made meaning store tables inputs set functions j (continuation.EndNew own depth) given natives natives stack new world world (Ok (control.Jumps j))
    construction_passed new fresh popped_value given both above tasks alone = λ reading told turns read.
        let t = state_of reading world told turns in
        let same : popped_value ≡ given = same_head (sym (ap (drop 1) both) ∙ above) in
        jumps_alone tables inputs set functions reading j stack new given (setting_of natives here) t tasks (alone ∙ ap (λ v. v ∷ []) same)
        ∙ ap (behind tables inputs set functions reading stack.tasks (setting_of natives here)) (sym (construction_passes (object_or_default (nth 0 (map (read_value reading) (take 1 stack.loose))).value).0 depth (jump_of j (read_value reading given)) t (few_read reading)))

-- two values that were popped
pub both_popped : {X : Type 0} (one two three : List X) (fresh v : X) → one ≡ two ++ v ∷ [] → two ≡ three ++ fresh ∷ [] → length one ≡ 2 → (one ≡ fresh ∷ v ∷ []) × (three ≡ [])
both_popped one two three fresh v is then_is size =
    let whole = is ∙ ap (λ xs. xs ++ v ∷ []) then_is in
    let none : three ≡ [] = nil_from_length three (let all = ap length is in let some = ap length then_is in omega (arith, size, all, some, length_push two v, length_push three fresh)) in
    (whole ∙ ap (λ xs. (xs ++ fresh ∷ []) ++ v ∷ []) none, none)

pub one_popped : {X : Type 0} (one two : List X) (v : X) → one ≡ two ++ v ∷ [] → length one ≡ 1 → (one ≡ v ∷ []) × (two ≡ [])
one_popped one two v is size =
    let none : two ≡ [] = nil_from_length two (let all = ap length is in omega (arith, size, all, length_push two v)) in
    (is ∙ ap (λ xs. xs ++ v ∷ []) none, none)

-- the uppermost value has what all operands have, and so have the operands of which it alone is left loose
module _ {T : Type 0} (P : Labelled T → Type 0) (stack : Kept T) (rest : List (Labelled T)) where
  pub top_has : (v : Labelled T) → stack.loose ≡ rest ++ v ∷ [] → All P (operands_of stack) → P v
  top_has v top all = last_has P (kept_operands stack.tasks ++ rest) (operands_of stack) v (ap (λ vs. kept_operands stack.tasks ++ vs) top ∙ sym (append_assoc (kept_operands stack.tasks) rest (v ∷ []))) all

  pub operands_alone : (new : Kept T) (v : Labelled T) → stack.loose ≡ rest ++ v ∷ [] → new.tasks ≡ stack.tasks → new.loose ≡ v ∷ [] → All P (operands_of stack) → All P (operands_of new)
  operands_alone new v top tasks alone all =
      subst (All P) (ap₂ (λ ts vs. kept_operands ts ++ vs) (sym tasks) (sym alone)) (All-append P (kept_operands stack.tasks) (v ∷ []) (front_has P (kept_operands stack.tasks) stack.loose all) (one_has P v (top_has v top all)))

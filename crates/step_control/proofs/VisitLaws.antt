-- `for in`: its frame, and its turns.
use Rattle.std.proofs.Common.{sym, ap, ap₂, subst, ◌∙◌, ◌≡◌, ◌+◌, ℕ, true, false, List, [], ◌∷◌, ◌++◌, map, take, length, arith}
use Rattle.std.proofs.Math.Seq.{take-append_seam}
use Rattle.std.proofs.lemmas.List.{length-append, length-map}
use Rattle.origin_labels.specs.Label.{Label, bottom}
use Rattle.flow_policy.specs.Policies.{Tables}
use Rattle.flow_policy.specs.Inputs.{Given}
use Rattle.js_ast.specs.Functions.{FunctionCode}
use Rattle.es_meaning.specs.BuiltIns.{BuiltIns}
use Rattle.flow_frames.specs.declared.kind.Kind.{Kind}
use Rattle.flow_frames.specs.declared.kind.Kind.TheVariants as kind
use Rattle.flow_frames.specs.Changes.{pushed}
use Rattle.flow_frames.specs.Held.{Held, seen_frame}
use Rattle.js_values.specs.declared.value.Labelled.{Labelled}
use Rattle.js_values.specs.Readings.{IsReading, read_value}
use Rattle.js_ast.specs.Views.{view_stmt, view_target}
use Rattle.es_meaning.specs.Environments.{Env, with_around}
use Rattle.es_meaning.specs.Operations.{One, Visit}
use Rattle.es_meaning.specs.Plain.{key_text}
use Rattle.es_meaning.specs.Evaluation.{enumerated, with_keys, target_step, visit_body, visit_turn, visit_step, visited}
use Rattle.flow_meaning.specs.Scopes.{Val, State, pushed_on}
use Rattle.flow_meaning.specs.Planned.{and_plan, with_result, end_round, planned, asking}
use Rattle.continuations.specs.declared.continuation.Enumeration.{Enumeration}
use Rattle.continuations.specs.declared.continuation.Continuation.TheVariants as continuation
use Rattle.continuations.specs.declared.continuation.Control.{Control}
use Rattle.continuations.specs.declared.continuation.Control.TheVariants as control
use Rattle.continuations.specs.Kept.{Kept}
use Rattle.continuations.specs.Pending.{Task, setting_inside, setting_above, next_plan, after_task, behind, keys_left, visit_of}
use Rattle.continuations.specs.Resuming.{BeginsBeside, ResumesIn, with_frames}
use Rattle.continuations.specs.Shapes.{nth, labels_at}
use Rattle.continuations.proofs.BranchLaws.{last_one, none_in_front}
use Rattle.continuations.proofs.ScopeLaws.{in_scope}
use Rattle.continuations.proofs.Steps.{values_more}
use Rattle.continuations.proofs.Uses.{nth_kept, nth_behind}
use Rattle.continuations.specs.Settings.{Setting, entrance}

-- a turn with these values
abbrev visit_with : Enumeration → Val → List ℕ → List (List ℕ) → Visit Val
visit_with x object key others = record { labels = labels_at (view_stmt x.of.now); target = view_target x.target.now; body = view_stmt x.body.now; object = object; key = key; others = others }

-- a turn by the object and the keys behind its own, which is uppermost
visit_parts : (x : Enumeration) (count : ℕ) (us : List Val) (k : Val) → length us ≡ count + 1 → visit_of x count (us ++ k ∷ []) ≡ visit_with x (nth 0 us) (key_text k.value) (keys_left us)
visit_parts x count us k size =
    let object : nth 0 (us ++ k ∷ []) ≡ nth 0 us = nth_kept 0 us (k ∷ []) (omega (arith, size)) in
    let key : nth (count + 1) (us ++ k ∷ []) ≡ k = subst (λ n. nth n (us ++ k ∷ []) ≡ k) size (nth_behind us k []) in
    let front : take (count + 1) (us ++ k ∷ []) ≡ us = subst (λ n. take n (us ++ k ∷ []) ≡ us) size (take-append_seam us (k ∷ [])) in
    ap (λ o. visit_with x o (key_text (nth (count + 1) (us ++ k ∷ [])).value) (keys_left (take (count + 1) (us ++ k ∷ [])))) object
    ∙ ap₂ (λ (v : Val) vs. visit_with x (nth 0 us) (key_text v.value) (keys_left vs)) key front

module _ {S T : Type 0} (made : S → T → Type 0) (meaning : S → T → Label) (store : S) where
  -- the state in a frame that was opened
  entered_state : (kind : Kind) (frames_old frames_new : List (Held T)) (label : T) (reading : T → Label) (s : State)
      → ((reading : T → Label) → IsReading made meaning store reading → map (seen_frame reading) frames_new ≡ map (seen_frame reading) frames_old ++ pushed kind (reading label) ∷ [])
      → ((reading : T → Label) → IsReading made meaning store reading → reading label ≡ bottom)
      → IsReading made meaning store reading → with_frames reading frames_new s ≡ pushed_on kind bottom (with_frames reading frames_old s)
  entered_state kind frames_old frames_new label reading s entered reads read =
      ap (λ fs. record s { frames = fs }) (entered reading read ∙ ap (λ l. map (seen_frame reading) frames_old ++ pushed kind l ∷ []) (reads reading read))

  -- the keys of a value are visited in a frame of their own
  pub enumeration_begins : (x : Enumeration) (old middle added new : Kept T) (object : Labelled T) (frames_old frames_new : List (Held T)) (depth : ℕ) (label : T)
      → length old.loose ≡ 1 → old.loose ≡ middle.loose ++ object ∷ [] → middle.tasks ≡ old.tasks
      → added ≡ record { tasks = middle.tasks ++ (continuation.EndRound false depth x.of, middle.loose) ∷ []; loose = [] } → new.tasks ≡ added.tasks → new.loose ≡ added.loose ++ object ∷ [] → depth ≡ length frames_old
      → ((reading : T → Label) → IsReading made meaning store reading → map (seen_frame reading) frames_new ≡ map (seen_frame reading) frames_old ++ pushed kind.Loop (reading label) ∷ [])
      → ((reading : T → Label) → IsReading made meaning store reading → reading label ≡ bottom)
      → ResumesIn made meaning store (continuation.Enumerated x) old new frames_old frames_new (control.Keys x)
  unfolding enumerated
  enumeration_begins x old middle added new object frames_old frames_new depth label one top stays is same laid deep entered reads = λ tables inputs set functions reading e s value read loose.
      let t : State = with_frames reading frames_new s in
      let before : State = with_frames reading frames_old s in
      let f = setting_above old.tasks e in
      let w : Task T = (continuation.EndRound false depth x.of, []) in
      let size : depth ≡ length before.frames = deep ∙ sym (length-map frames_old (seen_frame reading)) in
      let tasks : new.tasks ≡ old.tasks ++ w ∷ [] = same ∙ ap (λ k. k.tasks) is ∙ ap₂ (λ ts vs. ts ++ (continuation.EndRound false depth x.of, vs) ∷ []) stays (none_in_front middle.loose old.loose object top one) in
      let lies : new.loose ≡ object ∷ [] = laid ∙ ap (λ k. k.loose ++ object ∷ []) is in
      let keys = λ (v : Labelled T) (g : Env ℕ) (u : State). with_keys (planned tables inputs set functions) (entrance tables inputs set functions) (asking tables inputs set functions) (labels_at (view_stmt x.of.now)) (view_target x.target.now) (view_stmt x.body.now) (read_value reading v) g u in
      ap₂ (λ ts vs. behind tables inputs set functions reading ts e (next_plan tables inputs set functions (control.Keys x) (map (read_value reading) vs) (setting_above ts e) t)) tasks lies
      ∙ in_scope made meaning store tables inputs set functions reading old.tasks w e (λ g. keys object g.env t)
      ∙ ap₂ (λ d u. behind tables inputs set functions reading old.tasks e (and_plan (keys object (with_around false (labels_at (view_stmt x.of.now)) d f.env) u) (end_round d))) size (entered_state kind.Loop frames_old frames_new label reading s entered reads read)
      ∙ ap (λ v. behind tables inputs set functions reading old.tasks e (and_plan (keys v (with_around false (labels_at (view_stmt x.of.now)) (length before.frames) f.env) (pushed_on kind.Loop bottom before)) (end_round (length before.frames)))) (last_one middle.loose object value (sym top ∙ loose))

  -- a turn, in a frame of its own: the target is given the key, then the body is done, and then the other keys are visited
  pub visit_begins : (x : Enumeration) (count : ℕ) (old middle first second third new : Kept T) (key : Labelled T) (frames_old frames_new : List (Held T)) (depth : ℕ) (label : T) (next : Control)
      → length old.loose ≡ count + 2 → old.loose ≡ middle.loose ++ key ∷ [] → middle.tasks ≡ old.tasks
      → first ≡ record { tasks = middle.tasks ++ (continuation.Visited x count, middle.loose) ∷ []; loose = [] }
      → second ≡ record { tasks = first.tasks ++ (continuation.EndRound true depth x.of, first.loose) ∷ []; loose = [] }
      → third ≡ record { tasks = second.tasks ++ (continuation.VisitBody x.body, second.loose) ∷ []; loose = [] }
      → new.tasks ≡ third.tasks → new.loose ≡ third.loose ++ key ∷ [] → depth ≡ length frames_old
      → ((reading : T → Label) → IsReading made meaning store reading → map (seen_frame reading) frames_new ≡ map (seen_frame reading) frames_old ++ pushed kind.Turn (reading label) ∷ [])
      → ((reading : T → Label) → IsReading made meaning store reading → reading label ≡ bottom)
      → ((tables : Tables) (inputs : Given) (set : BuiltIns) (functions : List FunctionCode) (v : Val) (e : Setting) (s : State) → next_plan tables inputs set functions next (v ∷ []) e s ≡ target_step (planned tables inputs set functions) (entrance tables inputs set functions) (asking tables inputs set functions) (view_target x.target.now) (key_text v.value) e.env.place s)
      → BeginsBeside made meaning store (λ tables inputs set functions vs e. visit_step (planned tables inputs set functions) (entrance tables inputs set functions) (asking tables inputs set functions) (visit_of x count vs) e.env) old new frames_old frames_new next
  unfolding visit_step visit_turn visited visit_body
  visit_begins x count old middle first second third new key frames_old frames_new depth label next size top stays is_first is_second is_third same laid deep entered reads gives = λ tables inputs set functions reading e s read.
      let t : State = with_frames reading frames_new s in
      let before : State = with_frames reading frames_old s in
      let f = setting_above old.tasks e in
      let us = map (read_value reading) middle.loose in
      let k = read_value reading key in
      let a : Task T = (continuation.Visited x count, middle.loose) in
      let b : Task T = (continuation.EndRound true depth x.of, []) in
      let c : Task T = (continuation.VisitBody x.body, []) in
      let tasks : new.tasks ≡ ((old.tasks ++ a ∷ []) ++ b ∷ []) ++ c ∷ [] =
      same ∙ ap (λ s. s.tasks) is_third ∙ ap (λ s. s.tasks ++ (continuation.VisitBody x.body, s.loose) ∷ []) is_second
      ∙ ap (λ s. (s.tasks ++ (continuation.EndRound true depth x.of, s.loose) ∷ []) ++ c ∷ []) is_first ∙ ap (λ ts. ((ts ++ a ∷ []) ++ b ∷ []) ++ c ∷ []) stays in
      let lies : new.loose ≡ key ∷ [] = laid ∙ ap (λ s. s.loose ++ key ∷ []) is_third in
      let whole : length (middle.loose ++ key ∷ []) ≡ count + 2 = ap length (sym top) ∙ size in
      let few : length us ≡ count + 1 = omega (arith, whole, length-append middle.loose (key ∷ []), length-map middle.loose (read_value reading)) in
      let inside = setting_inside (continuation.EndRound true depth x.of) f in
      let visit = visit_with x (nth 0 us) (key_text k.value) (keys_left us) in
      let asks = λ (g : Setting). next_plan tables inputs set functions next (k ∷ []) g t in
      let turn = λ (g : Setting). and_plan (asks g) (after_task tables inputs set functions reading c g) in
      let round = λ (g : Setting). and_plan (turn (setting_inside (continuation.EndRound true depth x.of) g)) (after_task tables inputs set functions reading b g) in
      ap₂ (λ ts vs. behind tables inputs set functions reading ts e (next_plan tables inputs set functions next (map (read_value reading) vs) (setting_above ts e) t)) tasks lies
      ∙ in_scope made meaning store tables inputs set functions reading ((old.tasks ++ a ∷ []) ++ b ∷ []) c e asks
      ∙ in_scope made meaning store tables inputs set functions reading (old.tasks ++ a ∷ []) b e turn
      ∙ in_scope made meaning store tables inputs set functions reading old.tasks a e round
      ∙ ap (λ p. behind tables inputs set functions reading old.tasks e (and_plan (and_plan (and_plan p (after_task tables inputs set functions reading c inside)) (end_round depth)) (after_task tables inputs set functions reading a f))) (gives tables inputs set functions k inside t)
      ∙ ap₂ (λ d u. behind tables inputs set functions reading old.tasks e (and_plan (and_plan (visit_turn (planned tables inputs set functions) (entrance tables inputs set functions) (asking tables inputs set functions) visit (with_around true (labels_at (view_stmt x.of.now)) d f.env) u) (end_round d)) (with_result One (visited (planned tables inputs set functions) (entrance tables inputs set functions) (asking tables inputs set functions) visit f.env))))
      (deep ∙ sym (length-map frames_old (seen_frame reading))) (entered_state kind.Turn frames_old frames_new label reading s entered reads read)
      ∙ ap (λ v. behind tables inputs set functions reading old.tasks e (visit_step (planned tables inputs set functions) (entrance tables inputs set functions) (asking tables inputs set functions) v f.env before)) (sym (visit_parts x count us k few))
      ∙ ap (λ vs. behind tables inputs set functions reading old.tasks e (visit_step (planned tables inputs set functions) (entrance tables inputs set functions) (asking tables inputs set functions) (visit_of x count vs) f.env before)) (sym (ap (map (read_value reading)) top ∙ values_more reading middle.loose key))

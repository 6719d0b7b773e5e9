-- Each act on values, names and frames: where it isn't seen, and in two runs.
use Rattle.std.proofs.Common.{◌≡◌, ℕ, zero, suc, ◌<◌, ◌≤◌, List, [], ◌∷◌, ◌++◌, length, Bool, true, false, Option, Result, Ok, Err, nat_eq, ⊎_elim, refl, sym, ◌∙◌, ap, ap₂, subst, true≢false, arith}
use Rattle.std.proofs.lemmas.Bool.{eqb-true, eq-eqb}
use Rattle.std.proofs.lemmas.Option.{same_Some}
use Rattle.origin_labels.specs.Label.{Label, union, within}
use Rattle.flow_policy.specs.Policies.{Tables}
use Rattle.flow_frames.specs.declared.faults.Rule.{Rule}
use Rattle.flow_frames.specs.declared.faults.Rule.TheVariants.{W9}
use Rattle.flow_frames.specs.Frames.{Frame, context, inside}
use Rattle.flow_frames.specs.Held.{meant_at}
use Rattle.flow_frames.specs.Rules.{jump_need}
use Rattle.js_number.specs.declared.primitive.Primitive.{Primitive}
use Rattle.js_values.specs.declared.ids.ObjId.{ObjId}
use Rattle.js_values.specs.declared.value.Value.{Value}
use Rattle.js_values.specs.Objects.{Object}
use Rattle.native_protocol.specs.declared.request.ErrorKind.{ErrorKind}
use Rattle.native_protocol.specs.declared.request.ErrorKind.TheVariants as kinds
use Rattle.native_protocol.specs.declared.request.Seen.TheVariants as seen_as
use Rattle.js_ast.specs.declared.operators.UnaryOperator.{UnaryOperator}
use Rattle.js_ast.specs.declared.operators.BinaryOperator.{BinaryOperator}
use Rattle.es_meaning.specs.Outcomes.{out_of_turns, Goes, Jumps}
use Rattle.es_meaning.specs.Operators.{unary_of, binary_of, binary_with_object}
use Rattle.es_meaning.specs.Start.{error_prototype, start_heap}
use Rattle.es_meaning.specs.Plain.{seen_of}
use Rattle.flow_meaning.specs.Scopes.{Val, as_plain, State, Jump, L, guard, cut_to, raised_in, raise, reached, jump_to, jump}
use Rattle.flow_meaning.specs.Tracked.{engine_error, with_error, error_jump, throw_error, given, seen as seen_in, spend}
use Rattle.low_equal.specs.Observed.{Sees, Hides, view, IsSeen, IsHidden, Front}
use Rattle.low_equal.specs.LowEqual as low
use Rattle.low_equal.specs.LowEqual.{Pairing, Extends, Alike, seen, hidden, SameValue, primitives, objects, SameObject, both, Agree, plains, no_rows, seen_shape, ObjectsAgree, Both, IsFormed, no_keys, HeapsAgree, ScopesAgree, LowEqual}
use Rattle.low_equal.specs.Runs.{state_of, Same, Still, Fits, Confined, JumpsAgree, InStep, go, apart, Lockstep}
use Rattle.low_equal.specs.Runs as runs
use Rattle.low_equal.specs.Laws.{Nothing}
use Rattle.low_equal.proofs.Labels.{not_both, sees_or_hides, sees_second, sees_within}
use Rattle.low_equal.proofs.Views.{take_some, take_shorter, seen_take, seen_meant, take_stays, last_raised, raised_last, length_raised, top_stays, tops_hidden, seen_top}
use Rattle.low_equal.proofs.Agreement.{extends_refl, alike_map, alike_join, value_more, agree_more, records_more, both_map}
use Rattle.low_equal.proofs.Heaps.{pair_new, with_objects, extends_objects, start_stands, new_left, new_both}
use Rattle.low_equal.proofs.Lines.{front_refl, lines_refl, positions_refl}
use Rattle.low_equal.proofs.States.{low_sym, low_frames, low_heap, low_turns, low_seen, same_frames, same_context, low_cut, same_with, same_turns}
use Rattle.low_equal.proofs.Steps.{still_goes, still_jumps, still_ends, still_after, conf_ret, conf_ends, step_more, ends_first, ends_second}

module _ (observer : Label) (tables : Tables) where
  -- ---- rules

  pub still_guard : {X : Type 0} (b : Bool) (rule : Rule) (need have : Label) (m : L X) (s : State) → (b ≡ true → Still observer tables s (m s)) → Still observer tables s (guard b rule need have m s)
  unfolding guard
  still_guard true rule need have m s h = h refl
  still_guard false rule need have m s h = still_ends observer tables

  pub fits_guard : {X : Type 0} (b : Bool) (rule : Rule) (need have : Label) (m : L X) (n : ℕ) (s : State) → Fits n (m s) → Fits n (guard b rule need have m s)
  unfolding guard
  fits_guard true rule need have m n s h = h
  fits_guard false rule need have m n s h = tt

  pub adds_guard : {X : Type 0} (b : Bool) (rule : Rule) (need have : Label) (m : L X) (s : State) → Front s.lines (state_of (m s)).lines → Front s.lines (state_of (guard b rule need have m s)).lines
  unfolding guard
  adds_guard true rule need have m s h = h
  adds_guard false rule need have m s h = front_refl s.lines

  -- a rule that is asked of the state
  pub conf_under : {X : Type 0} (rule : Rule) (need have : State → Label) (m : State → L X) → ((s : State) → within (need s) (have s) ≡ true → IsHidden observer s → Still observer tables s (m s s))
      → ((s : State) → Fits (length s.frames) (m s s)) → ((s : State) → Front s.lines (state_of (m s s)).lines) → Confined observer tables (λ s. guard (within (need s) (have s)) rule (need s) (have s) (m s) s)
  conf_under rule need have m h k f = record {
    still = λ s p. still_guard (within (need s) (have s)) rule (need s) (have s) (m s) s (λ w. h s w p);
    fits = λ s. fits_guard (within (need s) (have s)) rule (need s) (have s) (m s) (length s.frames) s (k s);
    adds = λ s. adds_guard (within (need s) (have s)) rule (need s) (have s) (m s) s (f s);
  }

  -- rules in two runs: where one stops, it has shown what the other shows first
  pub after_guard : {X : Type 0} (P : Pairing → X → X → Type 0) {β γ : Pairing} (b c : Bool) (rule : Rule) (need have other allowed : Label) (m n : L X) (s t : State) → LowEqual observer tables γ s t
      → Front s.lines (state_of (m s)).lines → Front t.lines (state_of (n t)).lines → (b ≡ true → c ≡ true → InStep observer tables P β (m s) (n t)) → InStep observer tables P β (guard b rule need have m s) (guard c rule other allowed n t)
  unfolding guard
  after_guard P true true rule need have other allowed m n s t r f g h = h refl refl
  after_guard P true false rule need have other allowed m n s t r f g h = ends_second observer tables P r f
  after_guard P false true rule need have other allowed m n s t r f g h = ends_first observer tables P r g
  after_guard P false false rule need have other allowed m n s t r f g h = ends_first observer tables P r (front_refl t.lines)

  -- where both stop
  both_stop : {X : Type 0} (P : Pairing → X → X → Type 0) {β γ : Pairing} (b c : Bool) (rule : Rule) (need have other allowed : Label) (m n : L X) (s t : State) → LowEqual observer tables γ s t
      → b ≡ false → c ≡ false → InStep observer tables P β (guard b rule need have m s) (guard c rule other allowed n t)
  unfolding guard
  both_stop P true c rule need have other allowed m n s t r e f = absurd (true≢false e)
  both_stop P false true rule need have other allowed m n s t r e f = absurd (true≢false f)
  both_stop P false false rule need have other allowed m n s t r e f = ends_first observer tables P r (front_refl t.lines)

  -- by whether the context is seen
  pub goes_by : {X : Type 0} (P : Pairing → X → X → Type 0) {β γ : Pairing} {a b : X} {s t : State} → Extends β γ → LowEqual observer tables γ s t → (IsSeen observer s → P γ a b) → InStep observer tables P β (Goes a s) (Goes b t)
  goes_by P {γ = γ} {s = s} e r p = ⊎_elim (λ q. go γ e r q (p q)) (λ q. apart γ e r q tt tt) (sees_or_hides observer (context s.frames))

  -- ---- jumps

  conf_jump_to : {X : Type 0} (depth : ℕ) (cause : Label) (j : Jump) → Confined observer tables {X = X} (jump_to depth cause j)
  unfolding jump_to
  conf_jump_to depth cause j = conf_under W9 (λ s. jump_need s.frames depth cause) (λ s. meant_at s.frames depth) (λ s t. Jumps j (cut_to (suc depth) t))
      (λ s w p. still_jumps observer tables (cut_to (suc depth) s) (same_with observer tables (λ n. take_some (suc depth) s.frames (omega arith) n) (take_stays observer depth s.frames cause p w)) refl refl)
      (λ s. take_shorter (suc depth) s.frames) (λ s. front_refl s.lines)

  pub conf_jump : {X : Type 0} (cause : Label) (j : Jump) → Confined observer tables {X = X} (jump cause j)
  unfolding jump
  conf_jump cause j = record {
    still = λ s. (conf_jump_to (reached j.to s.frames) cause j).still s;
    fits = λ s. (conf_jump_to (reached j.to s.frames) cause j).fits s;
    adds = λ s. (conf_jump_to (reached j.to s.frames) cause j).adds s;
  }

  -- in a seen context a hidden cause always stops: no label there includes it
  pub hidden_cause : (depth : ℕ) (cause : Label) (s : State) → Hides observer cause → IsSeen observer s → within (jump_need s.frames depth cause) (meant_at s.frames depth) ≡ false
  hidden_cause depth cause s h v = go (within (jump_need s.frames depth cause) (meant_at s.frames depth)) refl
    where
      go : (b : Bool) → within (jump_need s.frames depth cause) (meant_at s.frames depth) ≡ b → b ≡ false
      go true w = absurd (not_both observer cause (sees_second observer (inside s.frames depth) cause (sees_within observer (jump_need s.frames depth cause) (meant_at s.frames depth) w (seen_meant observer depth s.frames v))) h)
      go false w = refl

  -- one jump in both
  pub jump_seen : {X : Type 0} (P : Pairing → X → X → Type 0) {γ : Pairing} (cause : Label) {j k : Jump} (s t : State) → JumpsAgree observer tables γ j k → LowEqual observer tables γ s t → IsSeen observer s → InStep observer tables P γ (jump cause j s) (jump cause k t)
  unfolding jump jump_to
  jump_seen P {γ} cause {j} {k} s t q r v = subst (λ d. InStep observer tables P γ (jump_to (reached j.to s.frames) cause j s) (jump_to d cause k t)) (ap₂ reached q.to (same_frames observer tables r v))
      (let d = reached j.to s.frames in
      after_guard P (within (jump_need s.frames d cause) (meant_at s.frames d)) (within (jump_need t.frames d cause) (meant_at t.frames d)) W9 _ _ _ _ (λ u. Jumps j (cut_to (suc d) u)) (λ u. Jumps k (cut_to (suc d) u)) s t r (front_refl s.lines) (front_refl t.lines)
      (λ w x. runs.jump γ (extends_refl γ) (low_cut observer tables (suc d) (omega arith) r) (seen_take observer (suc d) s.frames v) q))

  -- jumps with hidden causes
  jump_hidden : {X : Type 0} (P : Pairing → X → X → Type 0) {β γ : Pairing} (l m : Label) (j k : Jump) (s t : State) → Hides observer l → Hides observer m → LowEqual observer tables γ s t → IsSeen observer s → InStep observer tables P β (jump l j s) (jump m k t)
  unfolding jump jump_to
  jump_hidden P l m j k s t h i r v =
      both_stop P (within (jump_need s.frames (reached j.to s.frames) l) (meant_at s.frames (reached j.to s.frames))) (within (jump_need t.frames (reached k.to t.frames) m) (meant_at t.frames (reached k.to t.frames))) W9 _ _ _ _ _ _ s t r
      (hidden_cause (reached j.to s.frames) l s h v) (hidden_cause (reached k.to t.frames) m t i (low_seen observer tables r v))

  -- ---- errors of the engine

  pub prototype_below : (kind : ErrorKind) → (error_prototype kind).0 < length start_heap
  prototype_below kinds.Error = omega arith
  prototype_below kinds.EvalError = omega arith
  prototype_below kinds.RangeError = omega arith
  prototype_below kinds.ReferenceError = omega arith
  prototype_below kinds.SyntaxError = omega arith
  prototype_below kinds.TypeError = omega arith
  prototype_below kinds.UriError = omega arith

  error_formed : (kind : ErrorKind) (l : Label) (n : ℕ) → length start_heap ≤ n → IsFormed observer n (engine_error kind l)
  error_formed kind l n h = record {
    below = λ v q e. let is : (error_prototype kind) ≡ q = same_Some _ q e in let b = prototype_below kind in subst (λ (o : ObjId). o.0 < n) is (omega arith);
    target = tt;
    distinct = no_keys;
  }

  -- the start objects stand
  pub has_start : {β : Pairing} {h g : List (Object Label)} → HeapsAgree observer β h g → length start_heap ≤ length h
  has_start r = let b = start_stands observer r 18 (omega arith) in omega arith

  -- an error made where the context is hidden can't be told
  same_error : (kind : ErrorKind) (s : State) → Same observer tables s (with_error kind s)
  same_error kind s = record {
    looks = λ β u r. low_heap observer tables r (new_left observer (engine_error kind (context s.frames)) r.heap) r.records;
    frames = refl;
  }

  pub conf_throw : {X : Type 0} (kind : ErrorKind) (cause : Label) → Confined observer tables {X = X} (throw_error kind cause)
  unfolding throw_error
  conf_throw {X} kind cause = record {
    still = λ s p. let j = error_jump cause (length s.heap) in
        still_after observer tables (jump {X = X} cause j (with_error kind s)) (same_error kind s) (lines_refl observer tables s.lines) (positions_refl observer tables s.positions) ((conf_jump cause j).still (with_error kind s) p);
    fits = λ s. (conf_jump cause (error_jump cause (length s.heap))).fits (with_error kind s);
    adds = λ s. (conf_jump cause (error_jump cause (length s.heap))).adds (with_error kind s);
  }

  -- two errors made in one context agree
  errors_agree : {γ : Pairing} {h g : List (Object Label)} (kind : ErrorKind) (l : Label) → HeapsAgree observer γ h g → Sees observer l → ObjectsAgree observer γ (engine_error kind l) (engine_error kind l)
  errors_agree kind l r p = record {
    class = refl;
    inner = plains;
    links = seen p refl (both (r.starts (error_prototype kind).0 (prototype_below kind)));
    shapes = seen_shape p refl refl no_rows;
  }

  -- and are paired
  with_errors : {γ : Pairing} (kind : ErrorKind) (s t : State) → LowEqual observer tables γ s t → IsSeen observer s → LowEqual observer tables (with_objects γ (length s.heap) (length t.heap)) (with_error kind s) (with_error kind t)
  with_errors {γ} kind s t r v =
      subst (λ l. LowEqual observer tables δ (with_error kind s) (record t { heap = t.heap ++ engine_error kind l ∷ [] })) (same_context observer tables r v)
      (low_heap observer tables r
      (new_both observer (engine_error kind (context s.frames)) (engine_error kind (context s.frames)) (error_formed kind _ _ (has_start r.heap)) (error_formed kind _ _ (has_start (low_sym observer tables r).heap))
      (errors_agree kind (context s.frames) r.heap v) r.heap)
      (record { paired = λ i j p. both_map (λ a b x. records_more observer (extends_objects γ (length s.heap) (length t.heap)) x) (r.records.paired i j p); one_to_one = r.records.one_to_one; left = r.records.left; right = r.records.right }))
    where
      δ : Pairing
      δ = with_objects γ (length s.heap) (length t.heap)

  pub thrown_both : {X : Type 0} (P : Pairing → X → X → Type 0) {γ : Pairing} (kind : ErrorKind) {l m : Label} (s t : State) → Alike observer l m (Unit {0}) → LowEqual observer tables γ s t → IsSeen observer s → InStep observer tables P γ (throw_error kind l s) (throw_error kind m t)
  unfolding throw_error
  thrown_both P {γ} kind {l} s t (seen p e u) r v = subst (λ x. InStep observer tables P γ (throw_error kind l s) (throw_error kind x t)) e
      (step_more observer tables P (extends_objects γ (length s.heap) (length t.heap))
      (jump_seen P l (with_error kind s) (with_error kind t) (record { exit = refl; to = refl; value = seen p refl (objects (pair_new γ.objects (length s.heap) (length t.heap))) }) (with_errors kind s t r v) v))
  thrown_both P kind {l} {m} s t (hidden h i) r v = jump_hidden P l m (error_jump l (length s.heap)) (error_jump m (length t.heap)) (with_error kind s) (with_error kind t) h i (with_errors kind s t r v) v

  -- one cause that is seen: both errors are paired
  pub thrown_at : {X : Type 0} (P : Pairing → X → X → Type 0) {γ : Pairing} (kind : ErrorKind) {l m : Label} (s t : State) → Sees observer l → l ≡ m → LowEqual observer tables γ s t → IsSeen observer s
      → InStep observer tables P (with_objects γ (length s.heap) (length t.heap)) (throw_error kind l s) (throw_error kind m t)
  unfolding throw_error
  thrown_at P {γ} kind {l} s t p e r v = subst (λ x. InStep observer tables P (with_objects γ (length s.heap) (length t.heap)) (throw_error kind l s) (throw_error kind x t)) e
      (jump_seen P l (with_error kind s) (with_error kind t) (record { exit = refl; to = refl; value = seen p refl (objects (pair_new γ.objects (length s.heap) (length t.heap))) }) (with_errors kind s t r v) v)

  pub lock_throw : {X : Type 0} (P : Pairing → X → X → Type 0) {β : Pairing} (kind : ErrorKind) {l m : Label} → Alike observer l m (Unit {0}) → Lockstep observer tables P β (throw_error kind l) (throw_error kind m)
  lock_throw P kind a = record { steps = λ γ e s t r v. thrown_both P kind s t a r v }

  -- ---- the innermost frame is raised

  same_raised : (l : Label) (s : State) → IsHidden observer s → Same observer tables s (raised_in l s)
  same_raised l s p =
      let e = raised_last s.frames l in
      same_with observer tables (λ n. subst (λ (fs : List Frame). 0 < length fs) (sym e) (let q = length_raised l s.frames in omega arith)) (ap (view observer) e ∙ top_stays observer l s.frames p)

  pub conf_raise : (l : Label) → Confined observer tables (raise l)
  unfolding raise
  conf_raise l = record {
    still = λ s p. still_goes observer tables (raised_in l s) (same_raised l s p) refl refl;
    fits = λ s. subst (λ (fs : List Frame). length fs ≤ length s.frames) (sym (raised_last s.frames l)) (let q = length_raised l s.frames in omega arith);
    adds = λ s. front_refl s.lines;
  }

  tops_alike : {l m : Label} (fs : List Frame) → Alike observer l m (Unit {0}) → view observer (last_raised l fs) ≡ view observer (last_raised m fs)
  tops_alike fs (seen p e u) = ap (λ x. view observer (last_raised x fs)) e
  tops_alike {l} {m} fs (hidden h k) = tops_hidden observer l m fs h k

  raised_both : {γ : Pairing} {l m : Label} (s t : State) → Alike observer l m (Unit {0}) → LowEqual observer tables γ s t → IsSeen observer s → LowEqual observer tables γ (raised_in l s) (raised_in m t)
  raised_both {l = l} {m = m} s t a r v = low_frames observer tables r
      (subst (λ (fs : List Frame). 0 < length fs) (sym (raised_last s.frames l)) (let q = length_raised l s.frames in let n = r.some in omega arith))
      (ap (view observer) (raised_last s.frames l) ∙ tops_alike s.frames a ∙ ap (λ (fs : List Frame). view observer (last_raised m fs)) (same_frames observer tables r v) ∙ sym (ap (view observer) (raised_last t.frames m)))

  -- where the frame is still seen, so is what raised it
  pub lock_raise : (Q : Type 0) {β : Pairing} {l m : Label} → Alike observer l m (Unit {0}) → (Sees observer l → Q) → Lockstep observer tables (λ γ a b. Q) β (raise l) (raise m)
  unfolding raise
  lock_raise Q {l = l} a h = record {
    steps = λ γ e s t r v. goes_by (λ γ a b. Q) (extends_refl γ) (raised_both s t a r v)
        (λ q. h (seen_top observer l s.frames r.some (subst (λ (fs : List Frame). Sees observer (context fs)) (raised_last s.frames l) q)));
  }

  -- ---- turns

  conf_spend : (n : ℕ) → Confined observer tables (spend n)
  unfolding spend
  conf_spend zero = conf_ends observer tables (as_plain out_of_turns)
  conf_spend (suc n) = record { still = λ s p. still_goes observer tables (record s { turns = n }) (same_turns observer tables n) refl refl; fits = λ s. omega arith; adds = λ s. front_refl s.lines }

  pub conf_tick : Confined observer tables (λ s. spend s.turns s)
  conf_tick = record { still = λ s. (conf_spend s.turns).still s; fits = λ s. (conf_spend s.turns).fits s; adds = λ s. (conf_spend s.turns).adds s }

  after_spend : {γ : Pairing} (n m : ℕ) (s t : State) → LowEqual observer tables γ s t → IsSeen observer s → InStep observer tables Nothing γ (spend n s) (spend m t)
  unfolding spend
  after_spend zero m s t r v = ends_first observer tables Nothing r ((conf_spend m).adds t)
  after_spend (suc n) zero s t r v = ends_second observer tables Nothing r (front_refl s.lines)
  after_spend (suc n) (suc m) s t r v = go _ (extends_refl _) (low_turns observer tables n m r) v tt

  pub lock_tick : (β : Pairing) → Lockstep observer tables Nothing β (λ s. spend s.turns s) (λ s. spend s.turns s)
  lock_tick β = record { steps = λ γ e s t r v. after_spend s.turns t.turns s t r v }

  -- ---- operators

  pub conf_given : (l : Label) (r : Result Primitive (List ℕ)) → Confined observer tables (given l r)
  unfolding given
  conf_given l (Ok v) = conf_ret observer tables _
  conf_given l (Err name) = conf_ends observer tables _

  adds_given : (l : Label) (r : Result Primitive (List ℕ)) (s : State) → Front s.lines (state_of (given l r s)).lines
  adds_given l r s = (conf_given l r).adds s

  given_hidden : {γ : Pairing} (l m : Label) (x y : Result Primitive (List ℕ)) (s t : State) → Hides observer l → Hides observer m → LowEqual observer tables γ s t → IsSeen observer s → InStep observer tables (Agree observer) γ (given l x s) (given m y t)
  unfolding given
  given_hidden l m (Ok v) (Ok u) s t h k r w = go _ (extends_refl _) r w (hidden h k)
  given_hidden l m (Err name) y s t h k r w = ends_first observer tables (Agree observer) r (adds_given m y t)
  given_hidden l m (Ok v) (Err name) s t h k r w = ends_second observer tables (Agree observer) r (front_refl s.lines)

  given_seen : {γ : Pairing} (l : Label) (x : Result Primitive (List ℕ)) (s t : State) → Sees observer l → LowEqual observer tables γ s t → IsSeen observer s → InStep observer tables (Agree observer) γ (given l x s) (given l x t)
  unfolding given
  given_seen l (Ok v) s t p r w = go _ (extends_refl _) r w (seen p refl primitives)
  given_seen l (Err name) s t p r w = ends_first observer tables (Agree observer) r (front_refl t.lines)

  after_given : {γ : Pairing} {l m : Label} {x y : Result Primitive (List ℕ)} (s t : State) → Alike observer l m (x ≡ y) → LowEqual observer tables γ s t → IsSeen observer s → InStep observer tables (Agree observer) γ (given l x s) (given m y t)
  after_given {γ} {l} {m} {x} {y} s t (seen p e q) r w =
      subst (λ n. InStep observer tables (Agree observer) γ (given l x s) (given n y t)) e (subst (λ z. InStep observer tables (Agree observer) γ (given l x s) (given l z t)) q (given_seen l x s t p r w))
  after_given {l = l} {m = m} {x = x} {y = y} s t (hidden h k) r w = given_hidden l m x y s t h k r w

  -- what can be asked of values that are the same
  class_same : {γ : Pairing} {p q : Option (Object Label)} → Both (ObjectsAgree observer γ) p q → seen_of (λ (x : Object Label). seen_as.Object x.class) p ≡ seen_of (λ (x : Object Label). seen_as.Object x.class) q
  class_same (low.both_stand r) = ap (λ c. seen_as.Object c) r.class

  pub seen_same : {γ : Pairing} {h g : List (Object Label)} {v u : Value} → HeapsAgree observer γ h g → SameValue γ v u → seen_in h v ≡ seen_in g u
  unfolding seen_in
  seen_same r primitives = refl
  seen_same r (objects p) = class_same (r.paired _ _ p)

  pub conf_unary : (o : UnaryOperator) (v : Val) → Confined observer tables (λ s. given v.label (unary_of o (seen_in s.heap v.value)) s)
  conf_unary o v = record {
    still = λ s. (conf_given v.label (unary_of o (seen_in s.heap v.value))).still s;
    fits = λ s. (conf_given v.label (unary_of o (seen_in s.heap v.value))).fits s;
    adds = λ s. (conf_given v.label (unary_of o (seen_in s.heap v.value))).adds s;
  }

  pub lock_unary : {β : Pairing} (o : UnaryOperator) {v u : Val} → Agree observer β v u
      → Lockstep observer tables (Agree observer) β (λ s. given v.label (unary_of o (seen_in s.heap v.value)) s) (λ s. given u.label (unary_of o (seen_in s.heap u.value)) s)
  lock_unary o a = record { steps = λ γ e s t r w. after_given s t (alike_map observer (λ x. ap (unary_of o) (seen_same r.heap (value_more observer e x))) a) r w }

  -- numbers of paired objects are equal in both or in neither
  equal_tests : (a b c d : ℕ) → (a ≡ c → b ≡ d) × (b ≡ d → a ≡ c) → nat_eq a c ≡ nat_eq b d
  equal_tests a b c d h = go (nat_eq a c) (nat_eq b d) refl refl
    where
      go : (x y : Bool) → nat_eq a c ≡ x → nat_eq b d ≡ y → x ≡ y
      go true true p q = refl
      go false false p q = refl
      go true false p q = absurd (true≢false (sym (eq-eqb b d (h.0 (eqb-true a c p))) ∙ q))
      go false true p q = absurd (true≢false (sym (eq-eqb a c (h.1 (eqb-true b d q))) ∙ p))

  binary_same : {γ : Pairing} {h g : List (Object Label)} (o : BinaryOperator) {v v' u u' : Value} → HeapsAgree observer γ h g → SameValue γ v v' → SameValue γ u u' → binary_of o v u ≡ binary_of o v' u'
  unfolding binary_of
  binary_same o r primitives primitives = refl
  binary_same o r primitives (objects q) = refl
  binary_same o r (objects p) primitives = refl
  binary_same o r (objects {o = a} {q = b} p) (objects {o = c} {q = d} q) = ap (binary_with_object o) (equal_tests a.0 b.0 c.0 d.0 (r.one_to_one a.0 b.0 c.0 d.0 p q))

  pub lock_binary : {β : Pairing} (o : BinaryOperator) {v v' u u' : Val} → Agree observer β v v' → Agree observer β u u'
      → Lockstep observer tables (Agree observer) β (given (union v.label u.label) (binary_of o v.value u.value)) (given (union v'.label u'.label) (binary_of o v'.value u'.value))
  lock_binary o a b = record { steps = λ γ e s t r w. after_given s t (alike_join observer (λ x y. binary_same o r.heap x y) (agree_more observer e a) (agree_more observer e b)) r w }

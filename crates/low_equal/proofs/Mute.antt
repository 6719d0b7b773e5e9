-- One run whose cause can't be seen, from a state whose context is seen: it goes on to a state that looks the same, with a hidden result, or it ends. It never
-- jumps, since rule W9 stops a jump with a hidden cause. Two such runs are in step, whatever they do.
use Rattle.std.proofs.Common.{◌≡◌, ℕ, ◌≤◌, List, [], ◌∷◌, ◌++◌, length, take, Bool, true, false, nat_lt, refl, sym, ◌∙◌, ap, subst, true≢false, arith}
use Rattle.origin_labels.specs.Label.{Label, within}
use Rattle.flow_policy.specs.Policies.{Tables}
use Rattle.flow_frames.specs.declared.kind.Kind.{Kind}
use Rattle.flow_frames.specs.declared.faults.Rule.{Rule}
use Rattle.flow_frames.specs.declared.faults.Rule.TheVariants.{W9}
use Rattle.flow_frames.specs.Held.{meant_at}
use Rattle.flow_frames.specs.Changes.{pushed}
use Rattle.flow_frames.specs.Rules.{jump_need}
use Rattle.native_protocol.specs.declared.request.ErrorKind.{ErrorKind}
use Rattle.es_meaning.specs.Outcomes.{Outcome, Goes, Jumps, Ends, and_then, ret, ◌>>=◌}
use Rattle.es_meaning.specs.Plain.{choose}
use Rattle.flow_meaning.specs.Scopes.{Val, Halt, State, Jump, L, guard, pushed_on, cut_to, caught, Left, popped, scope, settled_value, answer, reached, jump_to, jump}
use Rattle.flow_meaning.specs.Tracked.{error_jump, with_error, throw_error}
use Rattle.low_equal.specs.Observed.{Hides, view, IsSeen, Front, SameLines}
use Rattle.low_equal.specs.LowEqual.{Pairing, hidden, Agree, LowEqual}
use Rattle.low_equal.specs.Runs.{state_of, Fits, Same, Still, Confined, InStep, go, first_ends, second_ends, Lockstep}
use Rattle.low_equal.proofs.Labels.{hides_second}
use Rattle.low_equal.proofs.Views.{take_some, length_pushed, view_take, views_seen, hidden_frame, hidden_pushed}
use Rattle.low_equal.proofs.Agreement.{extends_refl}
use Rattle.low_equal.proofs.Lines.{lines_refl, lines_sym, lines_trans, lines_front, front_lines, fronts_trans}
use Rattle.low_equal.proofs.States.{low_frames, low_seen, same_refl, same_trans, same_right, same_hidden}
use Rattle.low_equal.proofs.Steps.{pushed_hidden}
use Rattle.low_equal.proofs.Acts.{hidden_cause}

-- a list with one element more, cut to its length
take_pushed : {A : Type 0} (xs : List A) (x : A) → take (length xs) (xs ++ x ∷ []) ≡ xs
take_pushed [] x = refl
take_pushed (y ∷ xs) x = ap (λ (ys : List _). y ∷ ys) (take_pushed xs x)

-- no result, so that the run ends
abbrev pub Never : {X : Type 0} → X → Type 0
Never a = ⊥

module _ (observer : Label) (tables : Tables) where
  -- an outcome from a state, where such results can't be seen
  pub data Mute {X : Type 0} (P : X → Type 0) (s : State) : Outcome Halt Jump X State → Type 0 where
    mutes : {a : X} {t : State} → Same observer tables s t → SameLines observer tables s.lines t.lines → P a → Mute P s (Goes a t)
    mute_ends : {halt : Halt} {t : State} → SameLines observer tables s.lines t.lines → Mute P s (Ends halt t)

  -- a computation that is so from each state whose context is seen
  pub record Mum {X : Type 0} (P : X → Type 0) (m : L X) : Type 0 where
    pub mute : (s : State) → IsSeen observer s → Mute P s (m s)

  -- a value whose label is hidden
  abbrev pub HiddenVal : Val → Type 0
  HiddenVal v = Hides observer v.label

  pub same_seen : {s t : State} → Same observer tables s t → IsSeen observer s → IsSeen observer t
  same_seen {s} {t} h w = views_seen observer s.frames t.frames h.frames w

  -- ---- what is mute

  pub mute_here : {X : Type 0} (P : X → Type 0) {a : X} (s : State) → P a → Mute P s (Goes a s)
  mute_here P s p = mutes (same_refl observer tables s) (lines_refl observer tables s.lines) p

  pub mute_end : {X : Type 0} (P : X → Type 0) {halt : Halt} (s : State) → Mute P s (Ends halt s)
  mute_end P s = mute_ends (lines_refl observer tables s.lines)

  pub mute_more : {X : Type 0} (P Q : X → Type 0) {s : State} {o : Outcome Halt Jump X State} → ((a : X) → P a → Q a) → Mute P s o → Mute Q s o
  mute_more P Q f (mutes h l p) = mutes h l (f _ p)
  mute_more P Q f (mute_ends l) = mute_ends l

  -- from a state that looks the same
  pub mute_behind : {X : Type 0} (P : X → Type 0) {s t : State} {o : Outcome Halt Jump X State} → Same observer tables s t → SameLines observer tables s.lines t.lines → Mute P t o → Mute P s o
  mute_behind P h l (mutes k m p) = mutes (same_trans observer tables h k) (lines_trans observer tables l m) p
  mute_behind P h l (mute_ends m) = mute_ends (lines_trans observer tables l m)

  pub mum_ret : {X : Type 0} (P : X → Type 0) {a : X} → P a → Mum P (λ s. Goes a s)
  mum_ret P p = record { mute = λ s w. mute_here P s p }

  pub mum_ends : {X : Type 0} (P : X → Type 0) (halt : Halt) → Mum P (λ s. Ends halt s)
  mum_ends P halt = record { mute = λ s w. mute_end P s }

  pub mum_more : {X : Type 0} (P Q : X → Type 0) {m : L X} → ((a : X) → P a → Q a) → Mum P m → Mum Q m
  mum_more P Q f m = record { mute = λ s w. mute_more P Q f (m.mute s w) }

  -- what is done at each state
  pub mum_at : {X : Type 0} (P : X → Type 0) (m : State → L X) → ((s : State) → Mum P (m s)) → Mum P (λ s. m s s)
  mum_at P m c = record { mute = λ s w. (c s).mute s w }

  -- one after the other
  pub mum_bind : {X Y : Type 0} (P : X → Type 0) (Q : Y → Type 0) {m : L X} (f : X → L Y) → Mum P m → ((a : X) → P a → Mum Q (f a)) → Mum Q (m >>= f)
  mum_bind {X} {Y} P Q {m} f c h = record { mute = λ s w. next s w (c.mute s w) }
    where
      next : (s : State) → IsSeen observer s → {o : Outcome Halt Jump X State} → Mute P s o → Mute Q s (and_then o f)
      next s w (mutes {a = a} {t = t} k l p) = mute_behind Q k l ((h a p).mute t (same_seen k w))
      next s w (mute_ends l) = mute_ends l

  -- a rule
  pub mute_guard : {X : Type 0} (P : X → Type 0) (b : Bool) (rule : Rule) (need have : Label) (m : L X) (s : State) → (b ≡ true → Mute P s (m s)) → Mute P s (guard b rule need have m s)
  unfolding guard
  mute_guard P true rule need have m s h = h refl
  mute_guard P false rule need have m s h = mute_end P s

  -- an exception whose cause is hidden is stopped
  stopped_at : {X : Type 0} (P : X → Type 0) (b : Bool) (rule : Rule) (need have : Label) (m : L X) (s t : State) → b ≡ false → SameLines observer tables s.lines t.lines → Mute P s (guard b rule need have m t)
  unfolding guard
  stopped_at P true rule need have m s t e l = absurd (true≢false e)
  stopped_at P false rule need have m s t e l = mute_ends l

  pub mum_throw : {X : Type 0} (P : X → Type 0) (kind : ErrorKind) (cause : Label) → Hides observer cause → Mum P (throw_error {X = X} kind cause)
  unfolding throw_error jump jump_to
  mum_throw P kind cause h = record {
    mute = λ s w.
        let depth = reached (error_jump cause (length s.heap)).to s.frames in
        stopped_at P (within (jump_need s.frames depth cause) (meant_at s.frames depth)) W9 _ _ _ s (with_error kind s) (hidden_cause observer tables depth cause (with_error kind s) h w) (lines_refl observer tables s.lines);
  }

  -- ---- a frame whose label is hidden

  -- the frames below it look as before
  view_behind : (k : Kind) (l : Label) (s t : State) → Same observer tables (pushed_on k l s) t → view observer (take (length s.frames) t.frames) ≡ view observer s.frames
  view_behind k l s t h = view_take observer (length s.frames) t.frames ∙ ap (take (length s.frames)) (sym h.frames)
      ∙ sym (view_take observer (length s.frames) (s.frames ++ pushed k l ∷ [])) ∙ ap (view observer) (take_pushed s.frames (pushed k l))

  same_behind : (k : Kind) (l : Label) (s t : State) → Hides observer l → IsSeen observer s → Same observer tables (pushed_on k l s) t → Same observer tables s (cut_to (length s.frames) t)
  same_behind k l s t h w q = record {
    looks = λ β u r. let a = q.looks β (pushed_on k l u) (pushed_hidden observer tables k l l h h r w) in
        low_frames observer tables a (take_some (length s.frames) t.frames r.some a.some) (view_behind k l s t q ∙ r.frames);
    frames = sym (view_behind k l s t q);
  }

  -- it still stands, and is still hidden
  stands_hidden : (k : Kind) (l : Label) (s t : State) → Hides observer l → IsSeen observer s → Same observer tables (pushed_on k l s) t → length t.frames ≤ length (s.frames ++ pushed k l ∷ [])
      → (nat_lt (length s.frames) (length t.frames) ≡ true) × Hides observer (meant_at t.frames (length s.frames))
  stands_hidden k l s t h w q f =
      let n = length_pushed s.frames (pushed k l) in
      hidden_frame observer (length s.frames) t.frames (omega arith) (same_hidden observer tables q (hidden_pushed observer s.frames (pushed k l) h))
      (views_seen observer s.frames (take (length s.frames) t.frames) (sym (view_behind k l s t q)) w)

  -- a jump that has reached it or passes
  abbrev left_by : {X : Type 0} → ℕ → Bool → Jump → State → Outcome Halt Jump (Left X) State
  left_by d b j t = choose b (Goes (record { label = meant_at t.frames d; how = caught j }) (cut_to d t)) (Jumps j (cut_to d t))

  mute_popped : {X : Type 0} (k : Kind) (l : Label) (s : State) (o : Outcome Halt Jump X State) → Hides observer l → IsSeen observer s → Still observer tables (pushed_on k l s) o → Fits (length (pushed_on k l s).frames) o
      → Mute (λ (c : Left X). Hides observer c.label) s (popped (length s.frames) o)
  unfolding popped
  mute_popped k l s (Goes a t) h w q f = mutes (same_behind k l s t h w (q.same tt)) q.lines (stands_hidden k l s t h w (q.same tt) f).1
  mute_popped {X} k l s (Jumps j t) h w q f =
      let x = stands_hidden k l s t h w (q.same tt) f in
      subst (λ b. Mute (λ (c : Left X). Hides observer c.label) s (left_by {X = X} (length s.frames) b j t)) (sym x.0) (mutes (same_behind k l s t h w (q.same tt)) q.lines x.1)
  mute_popped k l s (Ends halt t) h w q f = mute_ends q.lines

  -- a scope with a hidden label, round whatever is confined
  pub mum_scope : {X : Type 0} (k : Kind) (l : Label) {m : ℕ → L X} → Hides observer l → ((d : ℕ) → Confined observer tables (m d)) → Mum (λ (c : Left X). Hides observer c.label) (scope k l m)
  mum_scope k l {m} h c = record {
    mute = λ s w. mute_popped k l s (m (length s.frames) (pushed_on k l s)) h w ((c (length s.frames)).still (pushed_on k l s) (hidden_pushed observer s.frames (pushed k l) h)) ((c (length s.frames)).fits (pushed_on k l s));
  }

  -- and what it gives as a value: that of a built-in, and that of a function of the script
  pub mum_settled : (k : Kind) (l : Label) {m : ℕ → L Val} → Hides observer l → ((d : ℕ) → Confined observer tables (m d)) → Mum HiddenVal (scope k l m >>= λ c. ret (settled_value c))
  mum_settled k l h c = mum_bind (λ (x : Left Val). Hides observer x.label) HiddenVal (λ x. ret (settled_value x)) (mum_scope k l h c) (λ x p. mum_ret HiddenVal (hides_second observer _ x.label p))

  pub mum_answered : (k : Kind) (l : Label) {m : ℕ → L (Unit {0})} → Hides observer l → ((d : ℕ) → Confined observer tables (m d)) → Mum HiddenVal (scope k l m >>= λ c. ret (answer c))
  mum_answered k l h c = mum_bind (λ (x : Left (Unit {0})). Hides observer x.label) HiddenVal (λ x. ret (answer x)) (mum_scope k l h c) (λ x p. mum_ret HiddenVal (hides_second observer _ x.label p))

  -- ---- two runs

  -- each goes on by itself
  pub mute_both : {X : Type 0} (P : X → Type 0) (Q : Pairing → X → X → Type 0) {γ : Pairing} {s t : State} {o p : Outcome Halt Jump X State} → ((a b : X) → P a → P b → Q γ a b) → LowEqual observer tables γ s t → IsSeen observer s
      → Mute P s o → Mute P t p → InStep observer tables Q γ o p
  mute_both P Q {γ} {t = t} h r w (mutes {a = a} {t = s'} x l p) (mutes {a = b} y m q) = go γ (extends_refl γ) (same_right observer tables y γ s' (x.looks γ t r)) (same_seen x w) (h a b p q)
  mute_both P Q h r w (mutes x l p) (mute_ends m) = second_ends (lines_front observer tables (lines_trans observer tables (lines_sym observer tables m) (lines_trans observer tables (lines_sym observer tables r.lines) l)))
  mute_both P Q h r w (mute_ends l) (mutes y m q) = first_ends (lines_front observer tables (lines_trans observer tables (lines_sym observer tables l) (lines_trans observer tables r.lines m)))
  mute_both P Q h r w (mute_ends l) (mute_ends m) = first_ends (lines_front observer tables (lines_trans observer tables (lines_sym observer tables l) (lines_trans observer tables r.lines m)))

  pub values_apart : {γ : Pairing} {s t : State} {o p : Outcome Halt Jump Val State} → LowEqual observer tables γ s t → IsSeen observer s → Mute HiddenVal s o → Mute HiddenVal t p → InStep observer tables (Agree observer) γ o p
  values_apart r w a b = mute_both HiddenVal (Agree observer) (λ v u h k. hidden h k) r w a b

  pub lock_mum : {X : Type 0} (P : X → Type 0) (Q : Pairing → X → X → Type 0) {β : Pairing} {m n : L X} → ((γ : Pairing) (a b : X) → P a → P b → Q γ a b) → Mum P m → Mum P n → Lockstep observer tables Q β m n
  lock_mum P Q h c d = record { steps = λ γ e s t r w. mute_both P Q (h γ) r w (c.mute s w) (d.mute t (low_seen observer tables r w)) }

  pub lock_hidden : {β : Pairing} {m n : L Val} → Mum HiddenVal m → Mum HiddenVal n → Lockstep observer tables (Agree observer) β m n
  lock_hidden c d = lock_mum HiddenVal (Agree observer) (λ γ v u h k. hidden h k) c d

  -- one that ends, and another that has shown no less
  pub stops_first : {X : Type 0} (Q : Pairing → X → X → Type 0) {γ : Pairing} {s t : State} {o p : Outcome Halt Jump X State} → LowEqual observer tables γ s t → Mute Never s o → Front t.lines (state_of p).lines → InStep observer tables Q γ o p
  stops_first Q r (mutes x l never) f = absurd never
  stops_first Q r (mute_ends l) f = first_ends (fronts_trans observer tables (lines_front observer tables (lines_trans observer tables (lines_sym observer tables l) r.lines)) (front_lines observer tables f))

  pub stops_second : {X : Type 0} (Q : Pairing → X → X → Type 0) {γ : Pairing} {s t : State} {o p : Outcome Halt Jump X State} → LowEqual observer tables γ s t → Front s.lines (state_of o).lines → Mute Never t p → InStep observer tables Q γ o p
  stops_second Q r f (mutes x l never) = absurd never
  stops_second Q r f (mute_ends l) = second_ends (fronts_trans observer tables (lines_front observer tables (lines_trans observer tables (lines_sym observer tables l) (lines_sym observer tables r.lines))) (front_lines observer tables f))

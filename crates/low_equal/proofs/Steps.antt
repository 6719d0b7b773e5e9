-- One run where the observer doesn't see the context, and two runs in step: what follows each other, and scopes.
use Rattle.std.proofs.Common.{◌≡◌, ℕ, suc, ◌≤◌, ◌<◌, List, [], ◌∷◌, ◌++◌, length, take, Bool, true, false, nat_lt, ⊎_elim, refl, sym, ◌∙◌, ap, subst, arith}
use Rattle.origin_labels.specs.Label.{Label}
use Rattle.flow_policy.specs.Policies.{Tables}
use Rattle.flow_frames.specs.declared.kind.Kind.{Kind}
use Rattle.flow_frames.specs.Frames.{Frame, context}
use Rattle.flow_frames.specs.Held.{meant_at}
use Rattle.flow_frames.specs.Changes.{pushed}
use Rattle.es_meaning.specs.Outcomes.{Outcome, Goes, Jumps, Ends, and_then, ◌>>=◌}
use Rattle.es_meaning.specs.Plain.{choose}
use Rattle.flow_meaning.specs.Scopes.{Halt, State, Jump, L, pushed_on, cut_to, Came, ended, caught, Left, popped, scope}
use Rattle.low_equal.specs.Observed.{Sees, Hides, view, IsSeen, IsHidden, Front, SameLines, FrontLines}
use Rattle.low_equal.specs.LowEqual.{Pairing, Extends, Alike, seen, hidden, PositionsAgree, LowEqual}
use Rattle.low_equal.specs.Runs.{state_of, IsLive, Fits, Same, Still, Confined, JumpsAgree, InStep, go, jump, apart, first_ends, second_ends, Lockstep}
use Rattle.low_equal.proofs.Labels.{sees_or_hides}
use Rattle.low_equal.proofs.Views.{take_all, length_take, take_some, length_pushed, view_take, seen_take, seen_meant, hidden_frame, view_pushed, views_pushed, seen_pushed, hidden_pushed, hidden_under}
use Rattle.low_equal.proofs.Agreement.{extends_refl, extends_trans}
use Rattle.low_equal.proofs.Lines.{front_refl, front_trans, lines_refl, lines_sym, lines_trans, lines_front, front_lines, fronts_trans, positions_refl, positions_trans}
use Rattle.low_equal.proofs.States.{low_frames, low_hidden, low_seen, same_frames, low_cut, same_refl, same_trans, same_right, same_hidden}

-- what a scope leaves
pub data CameAgree (observer : Label) (tables : Tables) {X : Type 0} (P : Pairing → X → X → Type 0) (β : Pairing) : Came X → Came X → Type 0 where
  both_ended : {a b : X} → P β a b → CameAgree observer tables P β (ended a) (ended b)
  both_caught : {j k : Jump} → JumpsAgree observer tables β j k → CameAgree observer tables P β (caught j) (caught k)

abbrev pub LeftAgree : Label → Tables → {X : Type 0} → (Pairing → X → X → Type 0) → Pairing → Left X → Left X → Type 0
LeftAgree observer tables P β c d = Alike observer c.label d.label (CameAgree observer tables P β c.how d.how)

module _ (observer : Label) (tables : Tables) where
  -- ---- one run

  -- states with the same lines and positions
  pub still_live : {X : Type 0} {s : State} (o : Outcome Halt Jump X State) → Same observer tables s (state_of o) → SameLines observer tables s.lines (state_of o).lines
      → PositionsAgree observer tables s.positions (state_of o).positions → Still observer tables s o
  still_live o h l p = record { same = λ v. h; lines = l; positions = p }

  -- an act that changes neither
  pub still_goes : {X : Type 0} {a : X} {s : State} (t : State) → Same observer tables s t → s.lines ≡ t.lines → s.positions ≡ t.positions → Still observer tables s (Goes a t)
  still_goes {s = s} t h l p = record { same = λ v. h; lines = subst (SameLines observer tables s.lines) l (lines_refl observer tables s.lines); positions = subst (PositionsAgree observer tables s.positions) p (positions_refl observer tables s.positions) }

  pub still_jumps : {X : Type 0} {j : Jump} {s : State} (t : State) → Same observer tables s t → s.lines ≡ t.lines → s.positions ≡ t.positions → Still observer tables {X = X} s (Jumps j t)
  still_jumps {s = s} t h l p = record { same = λ v. h; lines = subst (SameLines observer tables s.lines) l (lines_refl observer tables s.lines); positions = subst (PositionsAgree observer tables s.positions) p (positions_refl observer tables s.positions) }

  pub still_ends : {X : Type 0} {halt : Halt} {s : State} → Still observer tables {X = X} s (Ends halt s)
  still_ends {s = s} = record { same = λ v. absurd v; lines = lines_refl observer tables s.lines; positions = positions_refl observer tables s.positions }

  pub still_after : {X : Type 0} {s t : State} (o : Outcome Halt Jump X State) → Same observer tables s t → SameLines observer tables s.lines t.lines → PositionsAgree observer tables s.positions t.positions
      → Still observer tables t o → Still observer tables s o
  still_after {s = s} {t = t} o h l p k = record { same = λ v. same_trans observer tables h (k.same v); lines = lines_trans observer tables l k.lines; positions = positions_trans observer tables s.positions t.positions (state_of o).positions p k.positions }

  pub fits_more : {X : Type 0} (m n : ℕ) → m ≤ n → (o : Outcome Halt Jump X State) → Fits m o → Fits n o
  fits_more m n h (Goes a s) k = omega arith
  fits_more m n h (Jumps j s) k = omega arith
  fits_more m n h (Ends halt s) k = tt

  pub conf_ret : {X : Type 0} (a : X) → Confined observer tables {X = X} (λ s. Goes a s)
  conf_ret a = record { still = λ s h. still_goes s (same_refl observer tables s) refl refl; fits = λ s. omega arith; adds = λ s. front_refl s.lines }

  pub conf_ends : {X : Type 0} (halt : Halt) → Confined observer tables {X = X} (λ s. Ends halt s)
  conf_ends halt = record { still = λ s h. still_ends; fits = λ s. tt; adds = λ s. front_refl s.lines }

  still_then : {X Y : Type 0} (f : X → L Y) → ((a : X) → Confined observer tables (f a)) → (s : State) → IsHidden observer s → (o : Outcome Halt Jump X State) → Still observer tables s o → Still observer tables s (and_then o f)
  still_then f h s p (Goes a t) q = still_after (f a t) (q.same tt) q.lines q.positions ((h a).still t (same_hidden observer tables (q.same tt) p))
  still_then f h s p (Jumps j t) q = record { same = λ v. q.same tt; lines = q.lines; positions = q.positions }
  still_then f h s p (Ends halt t) q = record { same = λ v. absurd v; lines = q.lines; positions = q.positions }

  fits_then : {X Y : Type 0} (f : X → L Y) → ((a : X) → Confined observer tables (f a)) → (n : ℕ) (o : Outcome Halt Jump X State) → Fits n o → Fits n (and_then o f)
  fits_then f h n (Goes a t) q = fits_more (length t.frames) n q (f a t) ((h a).fits t)
  fits_then f h n (Jumps j t) q = q
  fits_then f h n (Ends halt t) q = tt

  pub adds_then : {X Y : Type 0} (f : X → L Y) → ((a : X) → Confined observer tables (f a)) → (o : Outcome Halt Jump X State) → Front (state_of o).lines (state_of (and_then o f)).lines
  adds_then f h (Goes a t) = (h a).adds t
  adds_then f h (Jumps j t) = front_refl t.lines
  adds_then f h (Ends halt t) = front_refl t.lines

  pub conf_bind : {X Y : Type 0} {m : L X} (f : X → L Y) → Confined observer tables m → ((a : X) → Confined observer tables (f a)) → Confined observer tables (m >>= f)
  conf_bind {m = m} f c h = record {
    still = λ s p. still_then f h s p (m s) (c.still s p);
    fits = λ s. fits_then f h (length s.frames) (m s) (c.fits s);
    adds = λ s. front_trans (c.adds s) (adds_then f h (m s));
  }

  -- ---- a scope in one run

  -- a jump that stays or passes, by a test
  by_choice : {X : Type 0} (P : Outcome Halt Jump X State → Type 0) (b : Bool) {o p : Outcome Halt Jump X State} → P o → P p → P (choose b o p)
  by_choice P true x y = x
  by_choice P false x y = y

  popped_state : {X : Type 0} (d : ℕ) (o : Outcome Halt Jump X State) → IsLive o → state_of (popped d o) ≡ cut_to d (state_of o)
  unfolding popped
  popped_state d (Goes a t) v = refl
  popped_state {X} d (Jumps j t) v = by_choice (λ o. state_of o ≡ cut_to d t) (nat_lt d (length t.frames)) refl refl
  popped_state d (Ends halt t) v = absurd v

  pub popped_lines : {X : Type 0} (d : ℕ) (o : Outcome Halt Jump X State) → (state_of (popped d o)).lines ≡ (state_of o).lines
  unfolding popped
  popped_lines d (Goes a t) = refl
  popped_lines d (Jumps j t) = by_choice (λ o. (state_of o).lines ≡ t.lines) (nat_lt d (length t.frames)) refl refl
  popped_lines d (Ends halt t) = refl

  popped_positions : {X : Type 0} (d : ℕ) (o : Outcome Halt Jump X State) → (state_of (popped d o)).positions ≡ (state_of o).positions
  unfolding popped
  popped_positions d (Goes a t) = refl
  popped_positions d (Jumps j t) = by_choice (λ o. (state_of o).positions ≡ t.positions) (nat_lt d (length t.frames)) refl refl
  popped_positions d (Ends halt t) = refl

  popped_live : {X : Type 0} (d : ℕ) (o : Outcome Halt Jump X State) → IsLive o → IsLive (popped d o)
  unfolding popped
  popped_live d (Goes a t) v = tt
  popped_live d (Jumps j t) v = by_choice IsLive (nat_lt d (length t.frames)) tt tt
  popped_live d (Ends halt t) v = absurd v

  live_back : {X : Type 0} (d : ℕ) (o : Outcome Halt Jump X State) → IsLive (popped d o) → IsLive o
  unfolding popped
  live_back d (Goes a t) v = tt
  live_back d (Jumps j t) v = tt
  live_back d (Ends halt t) v = v

  popped_fits : {X : Type 0} (d : ℕ) (o : Outcome Halt Jump X State) → Fits d (popped d o)
  unfolding popped
  popped_fits d (Goes a t) = length_take d t.frames
  popped_fits d (Jumps j t) = by_choice (Fits d) (nat_lt d (length t.frames)) (length_take d t.frames) (length_take d t.frames)
  popped_fits d (Ends halt t) = tt

  -- a frame pushed where the context is hidden can't be told
  same_pushed : (k : Kind) (l : Label) (s : State) → IsHidden observer s → Same observer tables s (pushed_on k l s)
  same_pushed k l s p = record {
    looks = λ β u r. low_frames observer tables r (let e = length_pushed s.frames (pushed k l) in omega arith) (view_pushed observer s.frames (pushed k l) p ∙ r.frames);
    frames = sym (view_pushed observer s.frames (pushed k l) p);
  }

  -- and what is cut behind it neither
  same_cut : (k : Kind) (l : Label) (s t : State) → IsHidden observer s → Same observer tables (pushed_on k l s) t → Same observer tables s (cut_to (length s.frames) t)
  same_cut k l s t p h =
      let q = same_trans observer tables (same_pushed k l s p) h in
      let e : view observer (take (length s.frames) t.frames) ≡ view observer s.frames =
      view_take observer (length s.frames) t.frames ∙ ap (take (length s.frames)) (sym q.frames) ∙ sym (view_take observer (length s.frames) s.frames) ∙ ap (view observer) (take_all (length s.frames) s.frames (omega arith)) in
      record {
        looks = λ β u r. let a = q.looks β u r in low_frames observer tables a (take_some (length s.frames) t.frames r.some a.some) (e ∙ r.frames);
        frames = sym e;
      }

  pub conf_scope : {X : Type 0} (k : Kind) (l : Label) {m : ℕ → L X} → ((d : ℕ) → Confined observer tables (m d)) → Confined observer tables (scope k l m)
  conf_scope k l {m} c = record {
    still = λ s p.
        let o = m (length s.frames) (pushed_on k l s) in
        let q = (c (length s.frames)).still (pushed_on k l s) (hidden_under observer s.frames (pushed k l) p) in
        record {
          same = λ v. let w = live_back (length s.frames) o v in subst (Same observer tables s) (sym (popped_state (length s.frames) o w)) (same_cut k l s (state_of o) p (q.same w));
          lines = subst (SameLines observer tables s.lines) (sym (popped_lines (length s.frames) o)) q.lines;
          positions = subst (PositionsAgree observer tables s.positions) (sym (popped_positions (length s.frames) o)) q.positions;
        };
    fits = λ s. popped_fits (length s.frames) (m (length s.frames) (pushed_on k l s));
    adds = λ s. subst (Front s.lines) (sym (popped_lines (length s.frames) (m (length s.frames) (pushed_on k l s)))) ((c (length s.frames)).adds (pushed_on k l s));
  }

  -- ---- two runs

  pub step_more : {X : Type 0} (P : Pairing → X → X → Type 0) {β γ : Pairing} {o p : Outcome Halt Jump X State} → Extends β γ → InStep observer tables P γ o p → InStep observer tables P β o p
  step_more P h (go δ e r v p) = go δ (extends_trans h e) r v p
  step_more P h (jump δ e r v p) = jump δ (extends_trans h e) r v p
  step_more P h (apart δ e r v a b) = apart δ (extends_trans h e) r v a b
  step_more P h (first_ends f) = first_ends f
  step_more P h (second_ends f) = second_ends f

  pub shows : {β : Pairing} {s t : State} {X : Type 0} (o p : Outcome Halt Jump X State) → LowEqual observer tables β s t → Still observer tables s o → Still observer tables t p → SameLines observer tables (state_of o).lines (state_of p).lines
  shows o p r a b = lines_trans observer tables (lines_sym observer tables a.lines) (lines_trans observer tables r.lines b.lines)

  both_apart : {X : Type 0} (P : Pairing → X → X → Type 0) {β γ : Pairing} {s t : State} → Extends β γ → LowEqual observer tables γ s t → IsHidden observer s → (o p : Outcome Halt Jump X State)
      → IsLive o → IsLive p → Still observer tables s o → Still observer tables t p → InStep observer tables P β o p
  both_apart P {β} {γ} {s} {t} e r h o p l m a b =
      apart γ e (same_right observer tables (b.same m) γ (state_of o) ((a.same l).looks γ t r)) (same_hidden observer tables (a.same l) h) l m

  -- from states that look the same, in a context that isn't seen, each goes on by itself
  pub apart_after : {X : Type 0} (P : Pairing → X → X → Type 0) {β γ : Pairing} {s t : State} → Extends β γ → LowEqual observer tables γ s t → IsHidden observer s → (o p : Outcome Halt Jump X State)
      → Still observer tables s o → Still observer tables t p → InStep observer tables P β o p
  apart_after P e r h (Goes x s) (Goes y t) a b = both_apart P e r h (Goes x s) (Goes y t) tt tt a b
  apart_after P e r h (Goes x s) (Jumps k t) a b = both_apart P e r h (Goes x s) (Jumps k t) tt tt a b
  apart_after P e r h (Jumps j s) (Goes y t) a b = both_apart P e r h (Jumps j s) (Goes y t) tt tt a b
  apart_after P e r h (Jumps j s) (Jumps k t) a b = both_apart P e r h (Jumps j s) (Jumps k t) tt tt a b
  apart_after P e r h (Ends x s) p a b = first_ends (lines_front observer tables (shows (Ends x s) p r a b))
  apart_after P e r h o (Ends x t) a b = second_ends (lines_front observer tables (lines_sym observer tables (shows o (Ends x t) r a b)))

  pub lock_ret : {X : Type 0} (P : Pairing → X → X → Type 0) (β : Pairing) {a b : X} → ((γ : Pairing) → Extends β γ → P γ a b) → Lockstep observer tables P β (λ s. Goes a s) (λ s. Goes b s)
  lock_ret P β h = record { steps = λ γ e s t r v. go γ (extends_refl γ) r v (h γ e) }

  -- an end on one side
  pub ends_first : {X : Type 0} (P : Pairing → X → X → Type 0) {β γ : Pairing} {halt : Halt} {s t : State} {p : Outcome Halt Jump X State} → LowEqual observer tables γ s t → Front t.lines (state_of p).lines → InStep observer tables P β (Ends halt s) p
  ends_first P r f = first_ends (fronts_trans observer tables (lines_front observer tables r.lines) (front_lines observer tables f))

  pub ends_second : {X : Type 0} (P : Pairing → X → X → Type 0) {β γ : Pairing} {halt : Halt} {s t : State} {o : Outcome Halt Jump X State} → LowEqual observer tables γ s t → Front s.lines (state_of o).lines → InStep observer tables P β o (Ends halt t)
  ends_second P r f = second_ends (fronts_trans observer tables (lines_front observer tables (lines_sym observer tables r.lines)) (front_lines observer tables f))

  -- one after the other
  pub then_after : {X Y : Type 0} (P : Pairing → X → X → Type 0) (Q : Pairing → Y → Y → Type 0) (f g : X → L Y) → ((a : X) → Confined observer tables (f a)) → ((a : X) → Confined observer tables (g a))
      → {β : Pairing} {o p : Outcome Halt Jump X State} → InStep observer tables P β o p → ((γ : Pairing) → Extends β γ → (a b : X) → P γ a b → Lockstep observer tables Q γ (f a) (g b)) → InStep observer tables Q β (and_then o f) (and_then p g)
  then_after P Q f g cf cg (go {a = a} {b = b} {s = s} {t = t} γ e r v q) h = step_more Q e ((h γ e a b q).steps γ (extends_refl γ) s t r v)
  then_after P Q f g cf cg (jump γ e r v q) h = jump γ e r v q
  then_after P Q f g cf cg (apart {o = Goes a s} {p = Goes b t} γ e r v x y) h = apart_after Q e r v (f a s) (g b t) ((cf a).still s v) ((cg b).still t (low_hidden observer tables r v))
  then_after P Q f g cf cg (apart {o = Goes a s} {p = Jumps k t} γ e r v x y) h = apart_after Q e r v (f a s) (Jumps k t) ((cf a).still s v) (still_jumps t (same_refl observer tables t) refl refl)
  then_after P Q f g cf cg (apart {o = Jumps j s} {p = Goes b t} γ e r v x y) h = apart_after Q e r v (Jumps j s) (g b t) (still_jumps s (same_refl observer tables s) refl refl) ((cg b).still t (low_hidden observer tables r v))
  then_after P Q f g cf cg (apart {o = Jumps j s} {p = Jumps k t} γ e r v x y) h = apart γ e r v tt tt
  then_after P Q f g cf cg (apart {o = Ends halt s} γ e r v x y) h = absurd x
  then_after P Q f g cf cg (apart {p = Ends halt t} γ e r v x y) h = absurd y
  then_after P Q f g cf cg (first_ends {p = p} z) h = first_ends (fronts_trans observer tables z (front_lines observer tables (adds_then g cg p)))
  then_after P Q f g cf cg (second_ends {o = o} z) h = second_ends (fronts_trans observer tables z (front_lines observer tables (adds_then f cf o)))

  pub lock_bind : {X Y : Type 0} (P : Pairing → X → X → Type 0) (Q : Pairing → Y → Y → Type 0) {β : Pairing} {m n : L X} (f g : X → L Y) → Lockstep observer tables P β m n
      → ((a : X) → Confined observer tables (f a)) → ((a : X) → Confined observer tables (g a)) → ((γ : Pairing) → Extends β γ → (a b : X) → P γ a b → Lockstep observer tables Q γ (f a) (g b))
      → Lockstep observer tables Q β (m >>= f) (n >>= g)
  lock_bind P Q {m = m} {n = n} f g l cf cg h = record { steps = λ γ e s t r v. then_after P Q f g cf cg (l.steps γ e s t r v) (λ δ d a b p. h δ (extends_trans e d) a b p) }

  -- ---- a scope in two runs

  -- the same frame pushed
  pub pushed_seen : {γ : Pairing} {s t : State} (k : Kind) (l : Label) → LowEqual observer tables γ s t → IsSeen observer s → LowEqual observer tables γ (pushed_on k l s) (pushed_on k l t)
  pushed_seen {s = s} {t = t} k l r v = low_frames observer tables r (let e = length_pushed s.frames (pushed k l) in omega arith) (ap (λ (fs : List Frame). view observer (fs ++ pushed k l ∷ [])) (same_frames observer tables r v))

  -- hidden ones
  pub pushed_hidden : {γ : Pairing} {s t : State} (k : Kind) (l m : Label) → Hides observer l → Hides observer m → LowEqual observer tables γ s t → IsSeen observer s → LowEqual observer tables γ (pushed_on k l s) (pushed_on k m t)
  pushed_hidden {s = s} {t = t} k l m p q r v = low_frames observer tables r (let e = length_pushed s.frames (pushed k l) in omega arith)
      (views_pushed observer s.frames (pushed k l) (pushed k m) p q ∙ ap (λ (fs : List Frame). view observer (fs ++ pushed k m ∷ [])) (same_frames observer tables r v))

  scope_after : {X : Type 0} (P : Pairing → X → X → Type 0) (k : Kind) {l l' : Label} {β : Pairing} {m n : ℕ → L X} → ((d : ℕ) → Confined observer tables (m d)) → ((d : ℕ) → Confined observer tables (n d))
      → (Sees observer l → (d : ℕ) → Lockstep observer tables P β (m d) (n d)) → Alike observer l l' (Unit {0}) → (γ : Pairing) → Extends β γ → (d : ℕ) (s t : State) → LowEqual observer tables γ s t → IsSeen observer s
      → InStep observer tables P γ (m d (pushed_on k l s)) (n d (pushed_on k l' t))
  scope_after P k {l} {m = m} {n = n} cm cn h (seen p q u) γ e d s t r v =
      subst (λ x. InStep observer tables P γ (m d (pushed_on k l s)) (n d (pushed_on k x t))) q ((h p d).steps γ e (pushed_on k l s) (pushed_on k l t) (pushed_seen k l r v) (seen_pushed observer s.frames (pushed k l) v p))
  scope_after P k {l} {l'} {m = m} {n = n} cm cn h (hidden p q) γ e d s t r v =
      apart_after P (extends_refl γ) (pushed_hidden k l l' p q r v) (hidden_pushed observer s.frames (pushed k l) p) (m d (pushed_on k l s)) (n d (pushed_on k l' t))
      ((cm d).still (pushed_on k l s) (hidden_pushed observer s.frames (pushed k l) p)) ((cn d).still (pushed_on k l' t) (hidden_pushed observer t.frames (pushed k l') q))

  -- the frame at a depth is popped in both: it was seen, and both are in step; or both were behind one that is still hidden; or it was the hidden one

  -- where the hidden frame itself is popped, a run has come to it
  abbrev came_back : {X : Type 0} (d : ℕ) (o : Outcome Halt Jump X State) → IsLive o → nat_lt d (length (state_of o).frames) ≡ true → Left X
  came_back d (Goes a s) v e = record { label = meant_at s.frames d; how = ended a }
  came_back d (Jumps j s) v e = record { label = meant_at s.frames d; how = caught j }
  came_back d (Ends halt s) v e = absurd v

  came_label : {X : Type 0} (d : ℕ) (o : Outcome Halt Jump X State) (v : IsLive o) (e : nat_lt d (length (state_of o).frames) ≡ true) → (came_back d o v e).label ≡ meant_at (state_of o).frames d
  came_label d (Goes a s) v e = refl
  came_label d (Jumps j s) v e = refl
  came_label d (Ends halt s) v e = absurd v

  -- a jump at the frame at a depth, which it has reached or passes
  abbrev popped_by : {X : Type 0} → ℕ → Bool → Jump → State → Outcome Halt Jump (Left X) State
  popped_by d b j s = choose b (Goes (record { label = meant_at s.frames d; how = caught j }) (cut_to d s)) (Jumps j (cut_to d s))

  popped_back : {X : Type 0} (d : ℕ) (o : Outcome Halt Jump X State) (v : IsLive o) (e : nat_lt d (length (state_of o).frames) ≡ true) → popped d o ≡ Goes (came_back d o v e) (cut_to d (state_of o))
  unfolding popped
  popped_back d (Goes a s) v e = refl
  popped_back {X} d (Jumps j s) v e = ap (λ (b : Bool). popped_by {X = X} d b j s) e
  popped_back d (Ends halt s) v e = absurd v

  live_fits : {X : Type 0} (n : ℕ) (o : Outcome Halt Jump X State) → IsLive o → Fits n o → length (state_of o).frames ≤ n
  live_fits n (Goes a s) v f = f
  live_fits n (Jumps j s) v f = f
  live_fits n (Ends halt s) v f = absurd v

  pub popped_apart : {X : Type 0} (R : Pairing → Left X → Left X → Type 0) → ((γ : Pairing) (c e : Left X) → Hides observer c.label → Hides observer e.label → R γ c e) → (d : ℕ) {β γ : Pairing} (o p : Outcome Halt Jump X State) → 0 < d → Extends β γ → LowEqual observer tables γ (state_of o) (state_of p) → IsHidden observer (state_of o)
      → IsLive o → IsLive p → Fits (suc d) o → Fits (suc d) p → InStep observer tables R β (popped d o) (popped d p)
  popped_apart {X} R hid d {β} {γ} o p n e r h a b f g = ⊎_elim (λ s. shown s) (λ s. still s) (sees_or_hides observer (context (take d (state_of o).frames)))
    where
      cut : LowEqual observer tables γ (cut_to d (state_of o)) (cut_to d (state_of p))
      cut = low_cut observer tables d n r

      shown : Sees observer (context (take d (state_of o).frames)) → InStep observer tables R β (popped d o) (popped d p)
      shown s =
          let x = hidden_frame observer d (state_of o).frames (live_fits (suc d) o a f) h s in
          let y = hidden_frame observer d (state_of p).frames (live_fits (suc d) p b g) (low_hidden observer tables r h) (low_seen observer tables cut s) in
          subst (λ z. InStep observer tables R β z (popped d p)) (sym (popped_back d o a x.0))
          (subst (λ z. InStep observer tables R β (Goes (came_back d o a x.0) (cut_to d (state_of o))) z) (sym (popped_back d p b y.0))
          (go γ e cut s (hid γ _ _ (subst (Hides observer) (sym (came_label d o a x.0)) x.1) (subst (Hides observer) (sym (came_label d p b y.0)) y.1))))

      still : Hides observer (context (take d (state_of o).frames)) → InStep observer tables R β (popped d o) (popped d p)
      still s = apart γ e (subst (λ z. LowEqual observer tables γ z (state_of (popped d p))) (sym (popped_state d o a)) (subst (LowEqual observer tables γ (cut_to d (state_of o))) (sym (popped_state d p b)) cut))
          (subst (IsHidden observer) (sym (popped_state d o a)) s) (popped_live d o a) (popped_live d p b)

  -- of scopes whose labels are hidden, all that is told of what they leave is that
  live_popped : {X : Type 0} (R : Pairing → Left X → Left X → Type 0) → ((γ : Pairing) (c e : Left X) → Hides observer c.label → Hides observer e.label → R γ c e) → (d : ℕ) {γ : Pairing} {s t : State} (o p : Outcome Halt Jump X State) → 0 < d → LowEqual observer tables γ s t → IsHidden observer s
      → IsLive o → IsLive p → Still observer tables s o → Still observer tables t p → Fits (suc d) o → Fits (suc d) p → InStep observer tables R γ (popped d o) (popped d p)
  live_popped R hid d {γ} {s} {t} o p n r h l m a b f g = popped_apart R hid d o p n (extends_refl γ) (same_right observer tables (b.same m) γ (state_of o) ((a.same l).looks γ t r)) (same_hidden observer tables (a.same l) h) l m f g

  pub hidden_popped : {X : Type 0} (R : Pairing → Left X → Left X → Type 0) → ((γ : Pairing) (c e : Left X) → Hides observer c.label → Hides observer e.label → R γ c e) → (d : ℕ) {γ : Pairing} {s t : State} (o p : Outcome Halt Jump X State) → 0 < d → LowEqual observer tables γ s t → IsHidden observer s
      → Still observer tables s o → Still observer tables t p → Fits (suc d) o → Fits (suc d) p → InStep observer tables R γ (popped d o) (popped d p)
  unfolding popped
  hidden_popped R hid d (Goes x s) (Goes y t) n r h a b f g = live_popped R hid d (Goes x s) (Goes y t) n r h tt tt a b f g
  hidden_popped R hid d (Goes x s) (Jumps k t) n r h a b f g = live_popped R hid d (Goes x s) (Jumps k t) n r h tt tt a b f g
  hidden_popped R hid d (Jumps j s) (Goes y t) n r h a b f g = live_popped R hid d (Jumps j s) (Goes y t) n r h tt tt a b f g
  hidden_popped R hid d (Jumps j s) (Jumps k t) n r h a b f g = live_popped R hid d (Jumps j s) (Jumps k t) n r h tt tt a b f g
  hidden_popped R hid d (Ends x s) p n r h a b f g = first_ends (subst (FrontLines observer tables s.lines) (sym (popped_lines d p)) (lines_front observer tables (shows (Ends x s) p r a b)))
  hidden_popped R hid d o (Ends x t) n r h a b f g = second_ends (subst (FrontLines observer tables t.lines) (sym (popped_lines d o)) (lines_front observer tables (lines_sym observer tables (shows o (Ends x t) r a b))))

  popped_jump : {X : Type 0} (P : Pairing → X → X → Type 0) (d : ℕ) {β γ : Pairing} {j k : Jump} (s t : State) → Extends β γ → LowEqual observer tables γ (cut_to d s) (cut_to d t) → IsSeen observer (cut_to d s) → JumpsAgree observer tables γ j k
      → (fs : List Frame) → s.frames ≡ fs → t.frames ≡ fs → Sees observer (meant_at fs d) → InStep observer tables (LeftAgree observer tables {X = X} P) β (popped d (Jumps j s)) (popped d (Jumps k t))
  unfolding popped
  popped_jump {X} P d {β} {γ} {j} {k} s t e r v q fs x y m = subst (λ b. InStep observer tables (LeftAgree observer tables P) β (popped_by {X = X} d (nat_lt d (length s.frames)) j s) (popped_by d b k t)) (ap (λ (gs : List Frame). nat_lt d (length gs)) (x ∙ sym y)) (by_flag (nat_lt d (length s.frames)))
    where
      label_seen : Sees observer (meant_at s.frames d)
      label_seen = subst (λ (gs : List Frame). Sees observer (meant_at gs d)) (sym x) m

      by_flag : (b : Bool) → InStep observer tables (LeftAgree observer tables P) β (popped_by {X = X} d b j s) (popped_by d b k t)
      by_flag true = go γ e r v (seen label_seen (ap (λ (gs : List Frame). meant_at gs d) (x ∙ sym y)) (both_caught q))
      by_flag false = jump γ e r v q

  pub popped_after : {X : Type 0} (P : Pairing → X → X → Type 0) (d : ℕ) {β : Pairing} {o p : Outcome Halt Jump X State} → 0 < d → Fits (suc d) o → Fits (suc d) p → InStep observer tables P β o p → InStep observer tables (LeftAgree observer tables P) β (popped d o) (popped d p)
  unfolding popped
  popped_after P d n f g (go {a = a} {b = b} {s = s} {t = t} γ e r v q) =
      let is = same_frames observer tables r v in
      go γ e (low_cut observer tables d n r) (seen_take observer d s.frames v) (seen (seen_meant observer d s.frames v) (ap (λ (gs : List Frame). meant_at gs d) is) (both_ended q))
  popped_after P d n f g (jump {s = s} {t = t} γ e r v q) =
      let is = same_frames observer tables r v in
      popped_jump P d s t e (low_cut observer tables d n r) (seen_take observer d s.frames v) q s.frames refl (sym is) (seen_meant observer d s.frames v)
  popped_after P d n f g (apart {o = o} {p = p} γ e r v a b) = popped_apart (LeftAgree observer tables P) (λ δ c i x y. hidden x y) d o p n e r v a b f g
  popped_after P d n f g (first_ends {s = s} {p = p} z) = first_ends (subst (FrontLines observer tables s.lines) (sym (popped_lines d p)) z)
  popped_after P d n f g (second_ends {t = t} {o = o} z) = second_ends (subst (FrontLines observer tables t.lines) (sym (popped_lines d o)) z)

  -- a scope in two runs: where its label is seen, they go in step; where not, each by itself
  pub lock_scope : {X : Type 0} (P : Pairing → X → X → Type 0) (k : Kind) {l l' : Label} {β : Pairing} {m n : ℕ → L X} → Alike observer l l' (Unit {0}) → ((d : ℕ) → Confined observer tables (m d)) → ((d : ℕ) → Confined observer tables (n d))
      → (Sees observer l → (d : ℕ) → Lockstep observer tables P β (m d) (n d)) → Lockstep observer tables (LeftAgree observer tables P) β (scope k l m) (scope k l' n)
  lock_scope {X} P k {l} {l'} {m = m} {n = n} a cm cn h = record {
    steps = λ γ e s t r v.
        let d = length s.frames in
        let is : length s.frames ≡ length t.frames = ap (λ (fs : List Frame). length fs) (same_frames observer tables r v) in
        let x = length_pushed s.frames (pushed k l) in
        let y = length_pushed t.frames (pushed k l') in
        subst (λ d'. InStep observer tables (LeftAgree observer tables P) γ (popped d (m d (pushed_on k l s))) (popped d' (n d' (pushed_on k l' t)))) is
        (popped_after P d r.some (fits_more (length (pushed_on k l s).frames) (suc d) (omega arith) _ ((cm d).fits (pushed_on k l s))) (fits_more (length (pushed_on k l' t).frames) (suc d) (omega arith) _ ((cn d).fits (pushed_on k l' t)))
        (scope_after P k cm cn h a γ e d s t r v));
  }

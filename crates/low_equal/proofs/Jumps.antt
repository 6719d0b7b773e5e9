-- Jumps, directives and `try`: where they aren't seen, and in two runs.
use Rattle.std.proofs.Common.{◌≡◌, ℕ, ◌≤◌, ◌<◌, ◌&&◌, List, length, Bool, true, false, nat_lt, Option, Some, None, refl, sym, ap, subst, arith}
use Rattle.origin_labels.specs.Label.{Label, bottom, within}
use Rattle.flow_policy.specs.Policies.{Tables}
use Rattle.flow_policy.specs.Inputs.{Given}
use Rattle.flow_frames.specs.declared.kind.Kind.TheVariants as kind
use Rattle.flow_frames.specs.declared.faults.Rule.TheVariants.{W10}
use Rattle.flow_frames.specs.Frames.{Frame}
use Rattle.flow_frames.specs.Held.{meant_at}
use Rattle.flow_frames.specs.Changes.{raised, changed_at}
use Rattle.flow_frames.specs.Rules.{raise_need}
use Rattle.origin_labels.specs.Label.{label_of}
use Rattle.es_meaning.specs.Outcomes.{Exit, returns, leaves, Outcome, Goes, Jumps, Ends, ret, ◌>>=◌}
use Rattle.es_meaning.specs.Environments.{Env, Leaving, thrown, returned, left_by, find_around, aimed}
use Rattle.es_meaning.specs.Plain.{choose, is_throw}
use Rattle.std.specs.Option.{option_map}
use Rattle.flow_meaning.specs.Scopes.{Val, Halt, State, Jump, L, innermost, raise_frame, frame_of, quieted_in, quiet, Came, ended, caught, stay, react, resume, finish, tried, attempt}
use Rattle.flow_meaning.specs.Tracked.{jumps_to, raises, raised_by}
use Rattle.low_equal.specs.Observed.{Sees, view, IsSeen, IsHidden, Front, FrontLines}
use Rattle.low_equal.specs.LowEqual.{Pairing, Extends, seen, Agree, LowEqual}
use Rattle.low_equal.specs.Runs.{state_of, IsLive, Fits, Confined, JumpsAgree, InStep, go, jump, apart, first_ends, second_ends, Lockstep}
use Rattle.low_equal.specs.Laws.{EnvsAgree, Nothing}
use Rattle.low_equal.proofs.Labels.{sees_bottom}
use Rattle.low_equal.proofs.Views.{length_changed, calm, context_calm, raise_stays, calm_stays}
use Rattle.low_equal.proofs.Agreement.{extends_refl, extends_trans, agree_more}
use Rattle.low_equal.proofs.Lines.{front_refl}
use Rattle.low_equal.proofs.States.{low_frames, same_frames, same_with}
use Rattle.low_equal.proofs.Steps.{CameAgree, both_ended, both_caught, LeftAgree, still_goes, conf_ret, conf_ends, conf_bind, conf_scope, lock_ret, lock_bind, lock_scope, ends_first}
use Rattle.low_equal.proofs.Acts.{conf_under, after_guard, goes_by, conf_jump, jump_seen}
use Rattle.low_equal.proofs.References.{conf_at}

-- jumps from environments that agree go to one frame
pub aimed_same : {β : Pairing} {e d : Env ℕ} → EnvsAgree β e d → (leaving : Leaving) → aimed 0 leaving e ≡ aimed 0 leaving d
aimed_same r thrown = refl
aimed_same r returned = ap (λ (n : ℕ). Some (returns, n)) r.call
aimed_same r (left_by turn label) = ap (λ a. option_map (λ f. (leaves f.0, f.1)) (find_around turn label a)) r.around

module _ (observer : Label) (tables : Tables) where
  jumps_more : {β γ : Pairing} {j k : Jump} → Extends β γ → JumpsAgree observer tables β j k → JumpsAgree observer tables γ j k
  jumps_more h q = record { exit = q.exit; to = q.to; value = agree_more observer h q.value }

  -- ---- jumps

  pub conf_jumps : (o : Option (Exit × ℕ)) (v : Val) → Confined observer tables (jumps_to o v)
  unfolding jumps_to
  conf_jumps None v = conf_ret observer tables tt
  conf_jumps (Some to) v = let j : Jump = record { exit = to.0; to = to.1; value = v } in
      record { still = λ s. (conf_jump observer tables bottom j).still s; fits = λ s. (conf_jump observer tables bottom j).fits s; adds = λ s. (conf_jump observer tables bottom j).adds s }

  pub lock_jumps : {β : Pairing} (o : Option (Exit × ℕ)) {v u : Val} → Agree observer β v u → Lockstep observer tables Nothing β (jumps_to o v) (jumps_to o u)
  unfolding jumps_to
  lock_jumps {β} None a = lock_ret observer tables Nothing β (λ γ e. tt)
  lock_jumps (Some to) a = record { steps = λ γ e s t r w. jump_seen observer tables Nothing bottom s t (record { exit = refl; to = refl; value = agree_more observer e a }) r w }

  -- ---- directives

  conf_frame : (d : ℕ) (l : Label) → Confined observer tables (raise_frame d l)
  unfolding raise_frame
  conf_frame d l = conf_under observer tables W10 (λ s. raise_need s.frames d) (λ s. meant_at s.frames d) (λ s t. Goes tt (record t { frames = raised t.frames d l }))
      (λ s w p. still_goes observer tables (record s { frames = raised s.frames d l }) (same_with observer tables (λ n. subst (λ k. 0 < k) (sym (length_changed _ s.frames d)) n) (raise_stays observer d l s.frames p w)) refl refl)
      (λ s. subst (λ k. k ≤ length s.frames) (sym (length_changed _ s.frames d)) (omega arith)) (λ s. front_refl s.lines)

  frame_seen : {γ : Pairing} (d : ℕ) (l : Label) (s t : State) → LowEqual observer tables γ s t → IsSeen observer s → InStep observer tables Nothing γ (raise_frame d l s) (raise_frame d l t)
  unfolding raise_frame
  frame_seen {γ} d l s t r v = after_guard observer tables Nothing (within (raise_need s.frames d) (meant_at s.frames d)) (within (raise_need t.frames d) (meant_at t.frames d)) W10 _ _ _ _
      (λ u. Goes tt (record u { frames = raised u.frames d l })) (λ u. Goes tt (record u { frames = raised u.frames d l })) s t r (front_refl s.lines) (front_refl t.lines)
      (λ w x. goes_by observer tables Nothing (extends_refl γ) (low_frames observer tables r (subst (λ k. 0 < k) (sym (length_changed _ s.frames d)) r.some) (ap (λ (fs : List Frame). view observer (raised fs d l)) (same_frames observer tables r v))) (λ q. tt))

  pub conf_raises : (leaving : Leaving) (o : Option (Exit × ℕ)) (l : Label) → Confined observer tables (raises leaving o l)
  unfolding raises
  conf_raises leaving None l = conf_ret observer tables tt
  conf_raises leaving (Some to) l = conf_at observer tables (λ s. raise_frame (frame_of leaving to.1 s.frames) l) (λ s. conf_frame (frame_of leaving to.1 s.frames) l)

  raises_after : {γ : Pairing} (leaving : Leaving) (o : Option (Exit × ℕ)) (l : Label) (s t : State) → LowEqual observer tables γ s t → IsSeen observer s → InStep observer tables Nothing γ (raises leaving o l s) (raises leaving o l t)
  unfolding raises
  raises_after {γ} leaving None l s t r v = go γ (extends_refl γ) r v tt
  raises_after {γ} leaving (Some to) l s t r v = subst (λ d. InStep observer tables Nothing γ (raise_frame (frame_of leaving to.1 s.frames) l s) (raise_frame d l t)) (ap (λ (fs : List Frame). frame_of leaving to.1 fs) (same_frames observer tables r v))
      (frame_seen (frame_of leaving to.1 s.frames) l s t r v)

  pub conf_raised_by : (inputs : Given) (leaving : Leaving) (to : Option (Exit × ℕ)) (o : Option (List ℕ)) → Confined observer tables (raised_by tables inputs leaving to o)
  unfolding raised_by
  conf_raised_by inputs leaving to None = conf_ends observer tables _
  conf_raised_by inputs leaving to (Some os) = conf_at observer tables (λ s. raises leaving to (label_of os)) (λ s. conf_raises leaving to (label_of os))

  pub lock_raised_by : {β : Pairing} (first second : Given) (leaving : Leaving) (to : Option (Exit × ℕ)) (o : Option (List ℕ)) → Lockstep observer tables Nothing β (raised_by tables first leaving to o) (raised_by tables second leaving to o)
  unfolding raised_by
  lock_raised_by first second leaving to None = record { steps = λ γ e s t r v. ends_first observer tables Nothing r (front_refl t.lines) }
  lock_raised_by first second leaving to (Some os) = record { steps = λ γ e s t r v. raises_after leaving to (label_of os) s t r v }

  -- ---- a jump that stays where it has come to

  by_choice : {X : Type 0} (P : Outcome Halt Jump X State → Type 0) (b : Bool) {o p : Outcome Halt Jump X State} → P o → P p → P (choose b o p)
  by_choice P true x y = x
  by_choice P false x y = y

  stay_state : {X : Type 0} (d : ℕ) (o : Outcome Halt Jump X State) → state_of (stay d o) ≡ state_of o
  unfolding stay
  stay_state d (Goes a t) = refl
  stay_state {X} d (Jumps j t) = by_choice (λ o. state_of o ≡ t) (nat_lt d (length t.frames)) refl refl
  stay_state d (Ends halt t) = refl

  stay_live : {X : Type 0} (d : ℕ) (o : Outcome Halt Jump X State) → IsLive o → IsLive (stay d o)
  unfolding stay
  stay_live d (Goes a t) v = tt
  stay_live d (Jumps j t) v = by_choice IsLive (nat_lt d (length t.frames)) tt tt
  stay_live d (Ends halt t) v = absurd v

  live_stay : {X : Type 0} (d : ℕ) (o : Outcome Halt Jump X State) → IsLive (stay d o) → IsLive o
  unfolding stay
  live_stay d (Goes a t) v = tt
  live_stay d (Jumps j t) v = tt
  live_stay d (Ends halt t) v = v

  stay_fits : {X : Type 0} (n d : ℕ) (o : Outcome Halt Jump X State) → Fits n o → Fits n (stay d o)
  unfolding stay
  stay_fits n d (Goes a t) h = h
  stay_fits n d (Jumps j t) h = by_choice (Fits n) (nat_lt d (length t.frames)) h h
  stay_fits n d (Ends halt t) h = tt

  conf_stay : {X : Type 0} (d : ℕ) {m : L X} → Confined observer tables m → Confined observer tables (λ s. stay d (m s))
  conf_stay d {m} c = record {
    still = λ s p. let q = c.still s p in let e = sym (stay_state d (m s)) in record {
      same = λ v. subst (Rattle.low_equal.specs.Runs.Same observer tables s) e (q.same (live_stay d (m s) v));
      lines = subst (λ (x : State). Rattle.low_equal.specs.Observed.SameLines observer tables s.lines x.lines) e q.lines;
      positions = subst (λ (x : State). Rattle.low_equal.specs.LowEqual.PositionsAgree observer tables s.positions x.positions) e q.positions;
    };
    fits = λ s. stay_fits (length s.frames) d (m s) (c.fits s);
    adds = λ s. subst (λ (x : State). Front s.lines x.lines) (sym (stay_state d (m s))) (c.adds s);
  }

  abbrev stayed : {X : Type 0} → Bool → Jump → State → Outcome Halt Jump (Came X) State
  stayed b j s = choose b (Goes (caught j) s) (Jumps j s)

  stay_after : {X : Type 0} (P : Pairing → X → X → Type 0) (d : ℕ) {β : Pairing} {o p : Outcome Halt Jump X State} → InStep observer tables P β o p → InStep observer tables (CameAgree observer tables P) β (stay d o) (stay d p)
  unfolding stay
  stay_after P d (go γ e r v q) = go γ e r v (both_ended q)
  stay_after {X} P d {β} (jump {j = j} {k = k} {s = s} {t = t} γ e r v q) =
      subst (λ b. InStep observer tables (CameAgree observer tables P) β (stayed {X = X} (nat_lt d (length s.frames)) j s) (stayed b k t)) (ap (λ (fs : List Frame). nat_lt d (length fs)) (same_frames observer tables r v)) (by_flag (nat_lt d (length s.frames)))
    where
      by_flag : (b : Bool) → InStep observer tables (CameAgree observer tables P) β (stayed {X = X} b j s) (stayed b k t)
      by_flag true = go γ e r v (both_caught q)
      by_flag false = jump γ e r v q
  stay_after P d (apart {o = o} {p = p} γ e r v a b) =
      apart γ e (subst (λ x. LowEqual observer tables γ x (state_of (stay d p))) (sym (stay_state d o)) (subst (LowEqual observer tables γ (state_of o)) (sym (stay_state d p)) r))
      (subst (IsHidden observer) (sym (stay_state d o)) v) (stay_live d o a) (stay_live d p b)
  stay_after P d (first_ends {s = s} {p = p} z) = first_ends (subst (λ (x : State). FrontLines observer tables s.lines x.lines) (sym (stay_state d p)) z)
  stay_after P d (second_ends {t = t} {o = o} z) = second_ends (subst (λ (x : State). FrontLines observer tables t.lines x.lines) (sym (stay_state d o)) z)

  lock_stay : {X : Type 0} (P : Pairing → X → X → Type 0) (d : ℕ) {β : Pairing} {m n : L X} → Lockstep observer tables P β m n → Lockstep observer tables (CameAgree observer tables P) β (λ s. stay d (m s)) (λ s. stay d (n s))
  lock_stay P d l = record { steps = λ γ e s t r v. stay_after P d (l.steps γ e s t r v) }

  -- ---- the innermost frame catches no longer

  pub conf_quiet : Confined observer tables quiet
  unfolding quiet
  conf_quiet = record {
    still = λ s p. still_goes observer tables (quieted_in s) (same_with observer tables (λ n. subst (λ k. 0 < k) (sym (length_changed calm s.frames (innermost s.frames))) n) (calm_stays observer (innermost s.frames) s.frames (omega arith) p)) refl refl;
    fits = λ s. subst (λ k. k ≤ length s.frames) (sym (length_changed calm s.frames (innermost s.frames))) (omega arith);
    adds = λ s. front_refl s.lines;
  }

  lock_quiet : {β : Pairing} → Lockstep observer tables Nothing β quiet quiet
  unfolding quiet
  lock_quiet = record {
    steps = λ γ e s t r v. go γ (extends_refl γ)
        (low_frames observer tables r (subst (λ k. 0 < k) (sym (length_changed calm s.frames (innermost s.frames))) r.some) (ap (λ (fs : List Frame). view observer (changed_at calm fs (innermost fs))) (same_frames observer tables r v)))
        (subst (Sees observer) (sym (context_calm s.frames (innermost s.frames))) v) tt;
  }

  -- ---- `try`

  pub conf_choice : {X : Type 0} (b : Bool) {m n : L X} → Confined observer tables m → Confined observer tables n → Confined observer tables (choose b m n)
  conf_choice true c d = c
  conf_choice false c d = d

  lock_choice : {X : Type 0} (P : Pairing → X → X → Type 0) {β : Pairing} (b : Bool) {m n m' n' : L X} → Lockstep observer tables P β m m' → Lockstep observer tables P β n n' → Lockstep observer tables P β (choose b m n) (choose b m' n')
  lock_choice P true l k = l
  lock_choice P false l k = k

  abbrev Comes : Pairing → Came (Unit {0}) → Came (Unit {0}) → Type 0
  Comes β c d = CameAgree observer tables Nothing β c d

  came_more : {β γ : Pairing} {c d : Came (Unit {0})} → Extends β γ → Comes β c d → Comes γ c d
  came_more h (both_ended p) = both_ended tt
  came_more h (both_caught q) = both_caught (jumps_more h q)

  conf_react : (handles finishes : Bool) {h : Val → L (Unit {0})} → ((v : Val) → Confined observer tables (h v)) → (d : ℕ) (c : Came (Unit {0})) → Confined observer tables (react handles finishes h d c)
  unfolding react
  conf_react handles finishes ch d (ended u) = conf_ret observer tables (ended u)
  conf_react handles finishes {h} ch d (caught j) = conf_choice (handles && is_throw j.exit)
      (conf_bind observer tables (λ u s. stay d (h j.value s)) (conf_choice finishes (conf_ret observer tables tt) conf_quiet) (λ u. conf_stay d (ch j.value))) (conf_ret observer tables (caught j))

  lock_react : (handles finishes : Bool) {β : Pairing} {h k : Val → L (Unit {0})} → ((v : Val) → Confined observer tables (h v)) → ((v : Val) → Confined observer tables (k v))
      → ((γ : Pairing) → Extends β γ → (v u : Val) → Agree observer γ v u → Lockstep observer tables Nothing γ (h v) (k u)) → (d : ℕ) {c e : Came (Unit {0})} → Comes β c e → Lockstep observer tables Comes β (react handles finishes h d c) (react handles finishes k d e)
  unfolding react
  lock_react handles finishes {β} ch ck l d (both_ended p) = lock_ret observer tables Comes β (λ γ e. both_ended tt)
  lock_react handles finishes {β} {h} {k} ch ck l d (both_caught {j = j} {k = i} q) =
      subst (λ x. Lockstep observer tables Comes β (choose (handles && is_throw j.exit) (choose finishes (ret tt) quiet >>= λ (u : Unit {0}) s. stay d (h j.value s)) (ret (caught j))) (choose (handles && is_throw x) (choose finishes (ret tt) quiet >>= λ (u : Unit {0}) s. stay d (k i.value s)) (ret (caught i)))) q.exit
      (lock_choice Comes (handles && is_throw j.exit)
      (lock_bind observer tables Nothing Comes (λ u s. stay d (h j.value s)) (λ u s. stay d (k i.value s)) (lock_choice Nothing finishes (lock_ret observer tables Nothing β (λ γ e. tt)) lock_quiet)
      (λ u. conf_stay d (ch j.value)) (λ u. conf_stay d (ck i.value)) (λ γ e a b p. lock_stay Nothing d (l γ e j.value i.value (agree_more observer e q.value))))
      (lock_ret observer tables Comes β (λ γ e. both_caught (jumps_more e q))))

  pub conf_resume : (c : Came (Unit {0})) (u : Unit {0}) → Confined observer tables (resume c u)
  unfolding resume
  conf_resume (ended a) u = conf_ret observer tables tt
  conf_resume (caught j) u = record { still = λ s. (conf_jump observer tables bottom j).still s; fits = λ s. (conf_jump observer tables bottom j).fits s; adds = λ s. (conf_jump observer tables bottom j).adds s }

  lock_resume : {β : Pairing} {c d : Came (Unit {0})} (a b : Unit {0}) → Comes β c d → Lockstep observer tables Nothing β (resume c a) (resume d b)
  unfolding resume
  lock_resume {β} a b (both_ended p) = lock_ret observer tables Nothing β (λ γ e. tt)
  lock_resume a b (both_caught q) = record { steps = λ γ e s t r v. jump_seen observer tables Nothing bottom s t (jumps_more e q) r v }

  conf_finish : (finishes : Bool) {m : L (Unit {0})} → Confined observer tables m → (c : Came (Unit {0})) → Confined observer tables (finish finishes m c)
  unfolding finish
  conf_finish finishes {m} cm c = conf_bind observer tables (λ u. choose finishes m (ret tt) >>= resume c) conf_quiet (λ u. conf_bind observer tables (resume c) (conf_choice finishes cm (conf_ret observer tables tt)) (λ a. conf_resume c a))

  lock_finish : (finishes : Bool) {β : Pairing} {m n : L (Unit {0})} → Confined observer tables m → Confined observer tables n → ((γ : Pairing) → Extends β γ → Lockstep observer tables Nothing γ m n) → {c d : Came (Unit {0})} → Comes β c d
      → Lockstep observer tables Nothing β (finish finishes m c) (finish finishes n d)
  unfolding finish
  lock_finish finishes {β} {m} {n} cm cn l {c} {d} q =
      lock_bind observer tables Nothing Nothing (λ u. choose finishes m (ret tt) >>= resume c) (λ u. choose finishes n (ret tt) >>= resume d) lock_quiet
      (λ u. conf_bind observer tables (resume c) (conf_choice finishes cm (conf_ret observer tables tt)) (λ a. conf_resume c a)) (λ u. conf_bind observer tables (resume d) (conf_choice finishes cn (conf_ret observer tables tt)) (λ a. conf_resume d a))
      (λ γ e a b p. lock_bind observer tables Nothing Nothing (resume c) (resume d) (lock_choice Nothing finishes (l γ e) (lock_ret observer tables Nothing γ (λ δ f. tt)))
      (λ x. conf_resume c x) (λ x. conf_resume d x) (λ δ f x y z. lock_resume x y (came_more (extends_trans e f) q)))

  module _ (handles finishes : Bool) where
    conf_tried : {m n : L (Unit {0})} {h : Val → L (Unit {0})} → Confined observer tables m → ((v : Val) → Confined observer tables (h v)) → Confined observer tables n → (d : ℕ) → Confined observer tables (tried handles finishes m h n d)
    conf_tried {m} {n} {h} cm ch cn d = conf_bind observer tables (finish finishes n) (conf_bind observer tables (react handles finishes h d) (conf_stay d cm) (λ c. conf_react handles finishes ch d c)) (λ c. conf_finish finishes cn c)

    pub conf_attempt : {m n : L (Unit {0})} {h : Val → L (Unit {0})} → Confined observer tables m → ((v : Val) → Confined observer tables (h v)) → Confined observer tables n → Confined observer tables (attempt handles finishes m h n)
    conf_attempt cm ch cn = conf_bind observer tables _ (conf_scope observer tables kind.Try bottom (λ d. conf_tried cm ch cn d)) (λ c. conf_ret observer tables tt)

    pub lock_attempt : {β : Pairing} {m n m' n' : L (Unit {0})} {h h' : Val → L (Unit {0})} → Confined observer tables m → Confined observer tables m' → ((v : Val) → Confined observer tables (h v)) → ((v : Val) → Confined observer tables (h' v))
        → Confined observer tables n → Confined observer tables n' → ((γ : Pairing) → Extends β γ → Lockstep observer tables Nothing γ m m')
        → ((γ : Pairing) → Extends β γ → (v u : Val) → Agree observer γ v u → Lockstep observer tables Nothing γ (h v) (h' u)) → ((γ : Pairing) → Extends β γ → Lockstep observer tables Nothing γ n n')
        → Lockstep observer tables Nothing β (attempt handles finishes m h n) (attempt handles finishes m' h' n')
    lock_attempt {β} {m} {n} {m'} {n'} {h} {h'} cm cm' ch ch' cn cn' lm lh ln =
        lock_bind observer tables (LeftAgree observer tables Nothing) Nothing (λ c. ret tt) (λ c. ret tt)
        (lock_scope observer tables Nothing kind.Try (seen (sees_bottom observer) refl tt) (λ d. conf_tried cm ch cn d) (λ d. conf_tried cm' ch' cn' d)
        (λ p d. lock_bind observer tables Comes Nothing (finish finishes n) (finish finishes n')
        (lock_bind observer tables Comes Comes (react handles finishes h d) (react handles finishes h' d) (lock_stay Nothing d (lm β (extends_refl β))) (λ c. conf_react handles finishes ch d c) (λ c. conf_react handles finishes ch' d c)
        (λ γ e c c' q. lock_react handles finishes ch ch' (λ δ f v u a. lh δ (extends_trans e f) v u a) d q))
        (λ c. conf_finish finishes cn c) (λ c. conf_finish finishes cn' c) (λ γ e c c' q. lock_finish finishes cn cn' (λ δ f. ln δ (extends_trans e f)) q)))
        (λ c. conf_ret observer tables tt) (λ c. conf_ret observer tables tt) (λ γ e a b z. lock_ret observer tables Nothing γ (λ δ f. tt))

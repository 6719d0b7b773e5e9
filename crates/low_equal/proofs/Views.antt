-- What is seen of frames: how they are pushed, cut and raised.
use Rattle.std.proofs.Common.{◌≡◌, ℕ, zero, suc, ◌+◌, ◌≤◌, ◌<◌, List, [], ◌∷◌, ◌++◌, length, take, drop, Bool, true, false, cond, nat_lt, ⊎_elim, refl, sym, ◌∙◌, ap, subst, true≢false, arith}
use Rattle.std.proofs.lemmas.Bool.{lt-ltb, ltb-true}
use Rattle.origin_labels.specs.Label.{Label, bottom, union, within}
use Rattle.flow_frames.specs.Frames.{Frame, context, inside}
use Rattle.flow_frames.specs.Held.{meant_at}
use Rattle.flow_frames.specs.Changes.{changed_at, raised}
use Rattle.flow_frames.specs.Rules.{jump_need, raise_need}
use Rattle.flow_meaning.specs.Scopes.{innermost}
use Rattle.low_equal.specs.Observed as observed
use Rattle.low_equal.specs.Observed.{Sees, Hides, Mask, shown, veiled}
use Rattle.low_equal.proofs.Labels.{cond_true, cond_false, not_both, sees_or_hides, sees_union, sees_first, sees_second, hides_first, hides_second, hidden_first, hidden_second, sees_bottom, sees_within}

-- ---- lists

pub take_all : {A : Type 0} (d : ℕ) (xs : List A) → length xs ≤ d → take d xs ≡ xs
take_all zero [] h = refl
take_all zero (x ∷ xs) h = absurd (omega arith)
take_all (suc d) [] h = refl
take_all (suc d) (x ∷ xs) h = ap (λ (ys : List _). x ∷ ys) (take_all d xs (omega arith))

pub length_take : {A : Type 0} (d : ℕ) (xs : List A) → length (take d xs) ≤ d
length_take zero xs = omega arith
length_take (suc d) [] = omega arith
length_take (suc d) (x ∷ xs) = let h = length_take d xs in omega arith

pub take_shorter : {A : Type 0} (d : ℕ) (xs : List A) → length (take d xs) ≤ length xs
take_shorter zero xs = omega arith
take_shorter (suc d) [] = omega arith
take_shorter (suc d) (x ∷ xs) = let h = take_shorter d xs in omega arith

pub take_some : {A : Type 0} (d : ℕ) (xs : List A) → 0 < d → 0 < length xs → 0 < length (take d xs)
take_some zero xs h k = absurd (omega arith)
take_some (suc d) [] h k = absurd (omega arith)
take_some (suc d) (x ∷ xs) h k = omega arith

pub length_pushed : {A : Type 0} (xs : List A) (x : A) → length (xs ++ x ∷ []) ≡ suc (length xs)
length_pushed [] x = refl
length_pushed (y ∷ xs) x = ap suc (length_pushed xs x)

-- ---- the innermost frame

-- the frames, of which the innermost is raised
abbrev pub last_raised : Label → List Frame → List Frame
last_raised label [] = []
last_raised label (f ∷ []) = record f { label = union f.label label } ∷ []
last_raised label (f ∷ g ∷ fs) = f ∷ last_raised label (g ∷ fs)

-- the number of the innermost of two frames and more
innermost_more : (f g : Frame) (fs : List Frame) → innermost (f ∷ g ∷ fs) ≡ suc (innermost (g ∷ fs))
innermost_more f g fs = omega arith

-- to raise the innermost frame is to raise the last
pub raised_last : (fs : List Frame) (label : Label) → raised fs (innermost fs) label ≡ last_raised label fs
unfolding changed_at
raised_last [] label = refl
raised_last (f ∷ []) label = refl
raised_last (f ∷ g ∷ fs) label = ap (λ n. raised (f ∷ g ∷ fs) n label) (innermost_more f g fs) ∙ ap (λ (r : List Frame). f ∷ r) (raised_last (g ∷ fs) label)

-- a raise keeps the number of frames
pub length_raised : (label : Label) (fs : List Frame) → length (last_raised label fs) ≡ length fs
length_raised label [] = refl
length_raised label (f ∷ []) = refl
length_raised label (f ∷ g ∷ fs) = ap suc (length_raised label (g ∷ fs))

-- a change of one frame keeps their number
pub length_changed : {X : Type 0} (change : X → X) (xs : List X) (d : ℕ) → length (changed_at change xs d) ≡ length xs
unfolding changed_at
length_changed change [] d = refl
length_changed change (x ∷ xs) zero = refl
length_changed change (x ∷ xs) (suc d) = ap suc (length_changed change xs d)

-- a frame that catches no longer
abbrev pub calm : Frame → Frame
calm f = record f { active = false }

-- and the context is the same
pub context_calm : (fs : List Frame) (d : ℕ) → context (changed_at calm fs d) ≡ context fs
unfolding changed_at context
context_calm [] d = refl
context_calm (f ∷ fs) zero = refl
context_calm (f ∷ fs) (suc d) = ap (λ l. union f.label l) (context_calm fs d)

-- what is inside a deeper frame
inside_suc : (f : Frame) (fs : List Frame) (d : ℕ) → inside (f ∷ fs) (suc d) ≡ inside fs d
inside_suc f fs d =
    let e : suc d + 1 ≡ suc (d + 1) = omega arith in
    ap (λ n. context (drop n (f ∷ fs))) e

-- ---- masks

abbrev unmask : List Mask → List Frame
unmask [] = []
unmask (shown f ∷ ms) = f ∷ unmask ms
unmask (veiled ∷ ms) = unmask ms

abbrev clear : List Mask → Bool
clear [] = true
clear (shown f ∷ ms) = clear ms
clear (veiled ∷ ms) = false

module _ (observer : Label) where
  abbrev pub view : List Frame → List Mask
  view fs = observed.view observer fs

  pub view_seen : (f : Frame) (fs : List Frame) → Sees observer f.label → view (f ∷ fs) ≡ shown f ∷ view fs
  view_seen f fs p = cond_true _ _ _ p

  pub view_hidden : (f : Frame) (fs : List Frame) → Hides observer f.label → view (f ∷ fs) ≡ veiled ∷ []
  view_hidden f fs p = cond_false _ _ _ p

  -- ---- contexts

  -- who sees the context sees the outermost frame
  pub sees_head : (f : Frame) (fs : List Frame) → Sees observer (context (f ∷ fs)) → Sees observer f.label
  unfolding context
  sees_head f fs p = sees_first observer f.label (context fs) p

  -- and those inside it
  pub sees_tail : (f : Frame) (fs : List Frame) → Sees observer (context (f ∷ fs)) → Sees observer (context fs)
  unfolding context
  sees_tail f fs p = sees_second observer f.label (context fs) p

  -- who sees a frame and those inside it sees the context
  pub sees_whole : (f : Frame) (fs : List Frame) → Sees observer f.label → Sees observer (context fs) → Sees observer (context (f ∷ fs))
  unfolding context
  sees_whole f fs p q = sees_union observer f.label (context fs) p q

  -- a context is hidden by the outermost frame
  pub hides_head : (f : Frame) (fs : List Frame) → Hides observer f.label → Hides observer (context (f ∷ fs))
  unfolding context
  hides_head f fs p = hides_first observer f.label (context fs) p

  -- or by those inside it
  pub hides_tail : (f : Frame) (fs : List Frame) → Hides observer (context fs) → Hides observer (context (f ∷ fs))
  unfolding context
  hides_tail f fs p = hides_second observer f.label (context fs) p

  -- where the outermost frame is seen, those inside it are hidden
  pub hidden_tail : (f : Frame) (fs : List Frame) → Hides observer (context (f ∷ fs)) → Sees observer f.label → Hides observer (context fs)
  unfolding context
  hidden_tail f fs p q = hidden_second observer f.label (context fs) p q

  -- where those inside it are seen, the outermost frame is hidden
  pub hidden_head : (f : Frame) (fs : List Frame) → Hides observer (context (f ∷ fs)) → Sees observer (context fs) → Hides observer f.label
  unfolding context
  hidden_head f fs p q = hidden_first observer f.label (context fs) p q

  -- the context of no frames is seen
  pub sees_none : Sees observer (context [])
  unfolding context
  sees_none = sees_bottom observer

  no_frames : Hides observer (context []) → ⊥
  unfolding context
  no_frames p = not_both observer bottom (sees_bottom observer) p

  -- ---- frames that look alike

  all_there : (fs : List Frame) → Sees observer (context fs) → unmask (view fs) ≡ fs
  all_there [] p = refl
  all_there (f ∷ fs) p = ap unmask (view_seen f fs (sees_head f fs p)) ∙ ap (λ (gs : List Frame). f ∷ gs) (all_there fs (sees_tail f fs p))

  clear_seen : (fs : List Frame) → Sees observer (context fs) → clear (view fs) ≡ true
  clear_seen [] p = refl
  clear_seen (f ∷ fs) p = ap clear (view_seen f fs (sees_head f fs p)) ∙ clear_seen fs (sees_tail f fs p)

  clear_hidden : (fs : List Frame) → Hides observer (context fs) → clear (view fs) ≡ false
  clear_hidden [] p = absurd (no_frames p)
  clear_hidden (f ∷ fs) p = ⊎_elim
      (λ q. ap clear (view_seen f fs q) ∙ clear_hidden fs (hidden_tail f fs p q))
      (λ q. ap clear (view_hidden f fs q)) (sees_or_hides observer f.label)

  pub views_seen : (fs gs : List Frame) → view fs ≡ view gs → Sees observer (context fs) → Sees observer (context gs)
  views_seen fs gs e p = ⊎_elim (λ q. q) (λ q. absurd (true≢false (sym (clear_seen fs p) ∙ ap clear e ∙ clear_hidden gs q))) (sees_or_hides observer (context gs))

  pub views_hidden : (fs gs : List Frame) → view fs ≡ view gs → Hides observer (context fs) → Hides observer (context gs)
  views_hidden fs gs e p = ⊎_elim (λ q. absurd (not_both observer (context fs) (views_seen gs fs (sym e) q) p)) (λ q. q) (sees_or_hides observer (context gs))

  -- frames that look alike and are seen are the same
  pub views_equal : (fs gs : List Frame) → view fs ≡ view gs → Sees observer (context fs) → fs ≡ gs
  views_equal fs gs e p = sym (all_there fs p) ∙ ap unmask e ∙ all_there gs (views_seen fs gs e p)

  -- a frame is seen, or a hidden one
  views_some : (fs : List Frame) → 0 < length fs → 0 < length (view fs)
  views_some [] h = absurd (omega arith)
  views_some (f ∷ fs) h = ⊎_elim
      (λ q. subst (λ (ms : List Mask). 0 < length ms) (sym (view_seen f fs q)) (omega arith))
      (λ q. subst (λ (ms : List Mask). 0 < length ms) (sym (view_hidden f fs q)) (omega arith)) (sees_or_hides observer f.label)

  pub some_other : (fs gs : List Frame) → view fs ≡ view gs → 0 < length fs → 0 < length gs
  some_other fs [] e h = let k = views_some fs h in let q = ap length e in absurd (omega arith)
  some_other fs (g ∷ gs) e h = omega arith

  -- ---- cuts

  pub view_take : (d : ℕ) (fs : List Frame) → view (take d fs) ≡ take d (view fs)
  view_take zero fs = refl
  view_take (suc d) [] = refl
  view_take (suc d) (f ∷ fs) = ⊎_elim
      (λ q. view_seen f (take d fs) q ∙ ap (λ (ms : List Mask). shown f ∷ ms) (view_take d fs) ∙ sym (ap (take (suc d)) (view_seen f fs q)))
      (λ q. view_hidden f (take d fs) q ∙ sym (ap (λ (ms : List Mask). veiled ∷ ms) (take_all d [] (omega arith))) ∙ sym (ap (take (suc d)) (view_hidden f fs q))) (sees_or_hides observer f.label)

  pub seen_take : (d : ℕ) (fs : List Frame) → Sees observer (context fs) → Sees observer (context (take d fs))
  seen_take zero fs p = sees_none
  seen_take (suc d) [] p = p
  seen_take (suc d) (f ∷ fs) p = sees_whole f (take d fs) (sees_head f fs p) (seen_take d fs (sees_tail f fs p))

  pub seen_meant : (d : ℕ) (fs : List Frame) → Sees observer (context fs) → Sees observer (meant_at fs d)
  seen_meant zero [] p = sees_bottom observer
  seen_meant (suc d) [] p = sees_bottom observer
  seen_meant zero (f ∷ fs) p = sees_head f fs p
  seen_meant (suc d) (f ∷ fs) p = seen_meant d fs (sees_tail f fs p)

  -- a hidden context that a cut shows is hidden by the frame at the cut's depth
  pub hidden_frame : (d : ℕ) (fs : List Frame) → length fs ≤ suc d → Hides observer (context fs) → Sees observer (context (take d fs)) → (nat_lt d (length fs) ≡ true) × Hides observer (meant_at fs d)
  hidden_frame d [] h p q = absurd (no_frames p)
  hidden_frame zero (f ∷ []) h p q = (refl, hidden_head f [] p sees_none)
  hidden_frame zero (f ∷ g ∷ fs) h p q = absurd (omega arith)
  hidden_frame (suc d) (f ∷ fs) h p q =
      let r = hidden_frame d fs (omega arith) (hidden_tail f fs p (sees_head f (take d fs) q)) (sees_tail f (take d fs) q) in
      let l = ltb-true d (length fs) r.0 in
      (lt-ltb (suc d) (suc (length fs)) (omega arith), r.1)

  -- a jump that rule W9 allows in a hidden context can't be told
  pub take_stays : (d : ℕ) (fs : List Frame) (cause : Label) → Hides observer (context fs) → within (jump_need fs d cause) (meant_at fs d) ≡ true → view (take (suc d) fs) ≡ view fs
  take_stays d [] cause p w = refl
  take_stays zero (f ∷ fs) cause p w = ⊎_elim
      (λ q. absurd (not_both observer (context fs) (sees_first observer (context fs) cause (sees_within observer (union (context fs) cause) f.label w q)) (hidden_tail f fs p q)))
      (λ q. view_hidden f [] q ∙ sym (view_hidden f fs q)) (sees_or_hides observer f.label)
  take_stays (suc d) (f ∷ fs) cause p w = ⊎_elim
      (λ q. view_seen f (take (suc d) fs) q ∙ ap (λ (ms : List Mask). shown f ∷ ms) (take_stays d fs cause (hidden_tail f fs p q) (ap (λ l. within (union l cause) (meant_at fs d)) (sym (inside_suc f fs d)) ∙ w)) ∙ sym (view_seen f fs q))
      (λ q. view_hidden f (take (suc d) fs) q ∙ sym (view_hidden f fs q)) (sees_or_hides observer f.label)

  -- ---- raises and changes of one frame

  -- a raise that rule W10 allows in a hidden context can't be told
  pub raise_stays : (d : ℕ) (l : Label) (fs : List Frame) → Hides observer (context fs) → within (raise_need fs d) (meant_at fs d) ≡ true → view (raised fs d l) ≡ view fs
  unfolding changed_at
  raise_stays d l [] p w = refl
  raise_stays zero l (f ∷ fs) p w = ⊎_elim
      (λ q. absurd (not_both observer (context fs) (sees_within observer (context fs) f.label w q) (hidden_tail f fs p q)))
      (λ q. view_hidden (record f { label = union f.label l }) fs (hides_first observer f.label l q) ∙ sym (view_hidden f fs q)) (sees_or_hides observer f.label)
  raise_stays (suc d) l (f ∷ fs) p w = ⊎_elim
      (λ q. view_seen f (raised fs d l) q ∙ ap (λ (ms : List Mask). shown f ∷ ms) (raise_stays d l fs (hidden_tail f fs p q) (ap (λ x. within x (meant_at fs d)) (sym (inside_suc f fs d)) ∙ w)) ∙ sym (view_seen f fs q))
      (λ q. view_hidden f (raised fs d l) q ∙ sym (view_hidden f fs q)) (sees_or_hides observer f.label)

  -- that the innermost frame of a hidden context catches no longer can't be told either
  pub calm_stays : (d : ℕ) (fs : List Frame) → length fs ≤ suc d → Hides observer (context fs) → view (changed_at calm fs d) ≡ view fs
  unfolding changed_at
  calm_stays d [] h p = refl
  calm_stays zero (f ∷ []) h p = let q = hidden_head f [] p sees_none in view_hidden (calm f) [] q ∙ sym (view_hidden f [] q)
  calm_stays zero (f ∷ g ∷ fs) h p = absurd (omega arith)
  calm_stays (suc d) (f ∷ fs) h p = ⊎_elim
      (λ q. view_seen f (changed_at calm fs d) q ∙ ap (λ (ms : List Mask). shown f ∷ ms) (calm_stays d fs (omega arith) (hidden_tail f fs p q)) ∙ sym (view_seen f fs q))
      (λ q. view_hidden f (changed_at calm fs d) q ∙ sym (view_hidden f fs q)) (sees_or_hides observer f.label)

  -- ---- raises of the innermost frame

  raised_hidden : (l : Label) (f : Frame) → Hides observer f.label → view (record f { label = union f.label l } ∷ []) ≡ veiled ∷ []
  raised_hidden l f p = view_hidden (record f { label = union f.label l }) [] (hides_first observer f.label l p)

  raised_by_hidden : (l : Label) (f : Frame) → Hides observer l → view (record f { label = union f.label l } ∷ []) ≡ veiled ∷ []
  raised_by_hidden l f p = view_hidden (record f { label = union f.label l }) [] (hides_second observer f.label l p)

  -- in a hidden context it can't be told
  pub top_stays : (l : Label) (fs : List Frame) → Hides observer (context fs) → view (last_raised l fs) ≡ view fs
  top_stays l [] p = refl
  top_stays l (f ∷ []) p = let q = hidden_head f [] p sees_none in raised_hidden l f q ∙ sym (view_hidden f [] q)
  top_stays l (f ∷ g ∷ fs) p = ⊎_elim
      (λ q. view_seen f (last_raised l (g ∷ fs)) q ∙ ap (λ (ms : List Mask). shown f ∷ ms) (top_stays l (g ∷ fs) (hidden_tail f (g ∷ fs) p q)) ∙ sym (view_seen f (g ∷ fs) q))
      (λ q. view_hidden f (last_raised l (g ∷ fs)) q ∙ sym (view_hidden f (g ∷ fs) q)) (sees_or_hides observer f.label)

  -- nor by which hidden label
  pub tops_hidden : (l m : Label) (fs : List Frame) → Hides observer l → Hides observer m → view (last_raised l fs) ≡ view (last_raised m fs)
  tops_hidden l m [] p q = refl
  tops_hidden l m (f ∷ []) p q = raised_by_hidden l f p ∙ sym (raised_by_hidden m f q)
  tops_hidden l m (f ∷ g ∷ fs) p q = ⊎_elim
      (λ r. view_seen f (last_raised l (g ∷ fs)) r ∙ ap (λ (ms : List Mask). shown f ∷ ms) (tops_hidden l m (g ∷ fs) p q) ∙ sym (view_seen f (last_raised m (g ∷ fs)) r))
      (λ r. view_hidden f (last_raised l (g ∷ fs)) r ∙ sym (view_hidden f (last_raised m (g ∷ fs)) r)) (sees_or_hides observer f.label)

  -- where the context is still seen, so is the label
  pub seen_top : (l : Label) (fs : List Frame) → 0 < length fs → Sees observer (context (last_raised l fs)) → Sees observer l
  seen_top l [] h p = absurd (omega arith)
  seen_top l (f ∷ []) h p = sees_second observer f.label l (sees_head (record f { label = union f.label l }) [] p)
  seen_top l (f ∷ g ∷ fs) h p = seen_top l (g ∷ fs) (omega arith) (sees_tail f (last_raised l (g ∷ fs)) p)

  -- ---- pushes

  -- in a hidden context it can't be told
  pub view_pushed : (fs : List Frame) (f : Frame) → Hides observer (context fs) → view (fs ++ f ∷ []) ≡ view fs
  view_pushed [] f p = absurd (no_frames p)
  view_pushed (g ∷ fs) f p = ⊎_elim
      (λ q. view_seen g (fs ++ f ∷ []) q ∙ ap (λ (ms : List Mask). shown g ∷ ms) (view_pushed fs f (hidden_tail g fs p q)) ∙ sym (view_seen g fs q))
      (λ q. view_hidden g (fs ++ f ∷ []) q ∙ sym (view_hidden g fs q)) (sees_or_hides observer g.label)

  -- nor which hidden frame
  pub views_pushed : (fs : List Frame) (f g : Frame) → Hides observer f.label → Hides observer g.label → view (fs ++ f ∷ []) ≡ view (fs ++ g ∷ [])
  views_pushed [] f g p q = view_hidden f [] p ∙ sym (view_hidden g [] q)
  views_pushed (h ∷ fs) f g p q = ap (λ (ms : List Mask). cond (observed_by h) (shown h ∷ ms) (veiled ∷ [])) (views_pushed fs f g p q)
    where
      observed_by : Frame → Bool
      observed_by k = Rattle.origin_labels.specs.Label.sees observer k.label

  pub seen_pushed : (fs : List Frame) (f : Frame) → Sees observer (context fs) → Sees observer f.label → Sees observer (context (fs ++ f ∷ []))
  seen_pushed [] f p q = sees_whole f [] q sees_none
  seen_pushed (g ∷ fs) f p q = sees_whole g (fs ++ f ∷ []) (sees_head g fs p) (seen_pushed fs f (sees_tail g fs p) q)

  pub hidden_pushed : (fs : List Frame) (f : Frame) → Hides observer f.label → Hides observer (context (fs ++ f ∷ []))
  hidden_pushed [] f p = hides_head f [] p
  hidden_pushed (g ∷ fs) f p = hides_tail g (fs ++ f ∷ []) (hidden_pushed fs f p)

  pub hidden_under : (fs : List Frame) (f : Frame) → Hides observer (context fs) → Hides observer (context (fs ++ f ∷ []))
  hidden_under [] f p = absurd (no_frames p)
  hidden_under (g ∷ fs) f p = ⊎_elim (λ q. hides_tail g (fs ++ f ∷ []) (hidden_under fs f (hidden_tail g fs p q))) (λ q. hides_head g (fs ++ f ∷ []) q) (sees_or_hides observer g.label)

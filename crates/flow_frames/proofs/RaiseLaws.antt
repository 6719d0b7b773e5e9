-- Laws of the loops over frames, and of a raise.
use Rattle.std.proofs.Common.{arith, refl, ap, ap₂, sym, ◌∙◌, subst, ◌≡◌, ◌<◌, ◌+◌, ℕ, Bool, List, [], ◌∷◌, ◌++◌, length, take, drop, map, set, get_or}
use Rattle.std.specs.List.{All}
use Rattle.std.proofs.lemmas.List.{take_more_set, map_more, map_push, map-set, get_or-map, set-get_or, length-map}
use Rattle.std.proofs.lemmas.List.Elements.{All-head, All-tail, All-same, All-push, All-weaker}
use Rattle.std.proofs.lemmas.List.Edits.{map_over_more}
use Rattle.origin_labels.specs.Label.{Label, IsLabel, union}
use Rattle.origin_labels.specs.Stores.{IsKept}
use Rattle.origin_labels.proofs.LabelLaws.{union-assoc}
use Rattle.flow_frames.specs.Frames.{context}
use Rattle.flow_frames.specs.Held.{Held, seen, seen_frame}
use Rattle.flow_frames.specs.Changes.{changed_at, raised}
use Rattle.flow_frames.specs.Standing.{HasMade, Stand}
use Rattle.flow_frames.specs.Views.{held, HasNext, moved_on}
use Rattle.flow_frames.specs.declared.frame.Frame.{Frame}
use Rattle.origin_labels.proofs.StoreLaws.{IsKept-trans}
use Rattle.flow_frames.proofs.ContextLaws.{union_swap, context-push, seen-kept}
use Rattle.flow_frames.proofs.StandingLaws.{Stand-kept}

-- what is held stays the same where only a next total is put aside
pub held-set : {L : Type 0} (frames : List (Frame L)) (i : ℕ) (x : Frame L) (next : L) → i < length frames → map held (set frames i (record (get_or frames i x) { next_total = next })) ≡ map held frames
held-set frames i x next lt =
    map-set held frames i (record (get_or frames i x) { next_total = next }) ∙ ap (set (map held frames) i) (sym (get_or-map held frames i x (held x) lt)) ∙ set-get_or (map held frames) i (held x)

-- a frame that moves on in its place
pub moved_on-set : {L : Type 0} (frames now : List (Frame L)) (i : ℕ) (x : Frame L) → i < length frames → now ≡ map moved_on (take i frames) ++ drop i frames → x ≡ get_or now i x → set now i (moved_on (get_or now i x)) ≡ map moved_on (take (i + 1) frames) ++ drop (i + 1) frames
moved_on-set frames now i x lt so_far read = map_over_more moved_on frames now i (get_or now i x) lt so_far (ap (get_or now i) read)

-- where frames hold the same, what is so of each frame held in one list is so in the other
pub All-held : {L : Type 0} (P : Held L → Type 0) (xs ys : List (Frame L)) → map held xs ≡ map held ys → All (λ f. P (held f)) ys → All (λ f. P (held f)) xs
All-held P xs ys same all k d lt =
    let within : k < length ys = omega (arith, length-map xs held, length-map ys held, ap length same) in
    subst P (sym (get_or-map held ys k d (held d) within) ∙ ap (λ (hs : List (Held _)). get_or hs k (held d)) (sym same) ∙ get_or-map held xs k d (held d) lt) (all k d within)

-- what is so of each mapped element is so of the elements as they are mapped
pub All-unmap : {X Y : Type 0} (f : X → Y) (P : Y → Type 0) (xs : List X) → All P (map f xs) → All (λ x. P (f x)) xs
All-unmap f P xs all k d lt = subst P (get_or-map f xs k d (f d) lt) (all k (f d) (omega (arith, length-map xs f)))

-- what is so of each held frame is so of the frames as they are held
pub All-unheld : {L : Type 0} (P : Held L → Type 0) (frames : List (Frame L)) → All P (map held frames) → All (λ f. P (held f)) frames
All-unheld P frames all = All-unmap held P frames all

module _ {S L : Type 0} (made : S → L → Type 0) (meaning : S → L → Label) where
  -- the context of the frames so far, with the next one
  pub context-more : (store : S) (frames : List (Frame L)) (i : ℕ) (x : Frame L) → i < length frames → IsLabel (meaning store (get_or frames i x).label) → union (context (seen meaning store (map held (take i frames)))) (meaning store (get_or frames i x).label) ≡ context (seen meaning store (map held (take (i + 1) frames)))
  context-more store frames i x lt l =
      let here = held (get_or frames i x) in
      let outer = map held (take i frames) in
      sym (ap (λ (hs : List (Held L)). context (seen meaning store hs)) (map_more held frames i x lt)
      ∙ ap context (map_push (seen_frame (meaning store)) outer here)
      ∙ context-push (seen meaning store outer) (seen_frame (meaning store) here) l)

  -- the next totals so far, with that of the next frame
  pub HasNext-more : (room : S → ℕ) (firm : S → Bool) (old new : S) (label : Label) (frames : List (Frame L)) (i : ℕ) (f : Frame L) → i < length frames → IsKept made meaning room firm old new → All (HasNext made meaning old label) (take i frames) → HasNext made meaning new label f → All (HasNext made meaning new label) (take (i + 1) (set frames i f))
  HasNext-more room firm old new label frames i f lt kept so_far here =
      All-same (HasNext made meaning new label) _ _ (take_more_set frames i f lt)
      (All-push (HasNext made meaning new label) (take i frames) f
      (All-weaker (HasNext made meaning old label) (HasNext made meaning new label)
      (λ k h. let total = kept.labels k.total h.0 in let next = kept.labels k.next_total h.1 in (total.0, next.0, next.1 ∙ h.2 ∙ ap (λ (x : Label). union x label) (sym total.1)))
      (take i frames) so_far) here)

  -- frames that move on are seen as they were
  pub seen-moved_on : (store : S) (frames : List (Frame L)) → seen meaning store (map held (map moved_on frames)) ≡ seen meaning store (map held frames)
  seen-moved_on store [] = refl
  seen-moved_on store (f ∷ frames) = ap (◌∷◌ (seen_frame (meaning store) (held f))) (seen-moved_on store frames)

  module _ (rising : (store : S) (label : L) → made store label → IsLabel (meaning store label)) where
    -- frames that move on by a label stand where that label is outside too
    pub Stand-moved_on : (store : S) (label : Label) → IsLabel label → (outside : Label) (frames : List (Frame L)) → All (HasNext made meaning store label) frames → Stand made meaning store outside (map held frames) → Stand made meaning store (union outside label) (map held (map moved_on frames))
    Stand-moved_on store label l outside [] next s = tt
    Stand-moved_on store label l outside (f ∷ frames) next s =
        let m = meaning store f.label in
        let here = All-head (HasNext made meaning store label) f frames next in
        let swap = union_swap outside m label (rising store f.label s.0.0) l in (
          (s.0.0, here.1),
          here.2 ∙ ap (λ (x : Label). union x label) s.1 ∙ swap,
          subst (λ (x : Label). Stand made meaning store x (map held (map moved_on frames))) swap (Stand-moved_on store label l (union outside m) frames (All-tail (HasNext made meaning store label) f frames next) s.2),
        )

    -- frames of which the first is raised by a label, and which all move on by it, still stand
    pub Stand-raised : (store : S) (label : Label) → IsLabel label → (outside : Label) (frames : List (Frame L)) (x : Frame L) (joined : L) → 0 < length frames → made store joined → meaning store joined ≡ union (meaning store (get_or frames 0 x).label) label → All (HasNext made meaning store label) frames → Stand made meaning store outside (map held frames) → Stand made meaning store outside (map held (map moved_on (set frames 0 (record (get_or frames 0 x) { label = joined }))))
    Stand-raised store label l outside [] x joined some j e next s = absurd (omega arith)
    Stand-raised store label l outside (f ∷ frames) x joined some j e next s =
        let m = meaning store f.label in
        let here = All-head (HasNext made meaning store label) f frames next in
        let regroup = union-assoc outside m label l ∙ ap (union outside) (sym e) in (
          (j, here.1),
          here.2 ∙ ap (λ (x : Label). union x label) s.1 ∙ regroup,
          subst (λ (x : Label). Stand made meaning store x (map held (map moved_on frames))) regroup (Stand-moved_on store label l (union outside m) frames (All-tail (HasNext made meaning store label) f frames next) s.2),
        )

  -- frames of which the first is raised are seen so
  pub seen-raised : (store : S) (label : Label) (frames : List (Frame L)) (x : Frame L) (joined : L) → 0 < length frames → meaning store joined ≡ union (meaning store (get_or frames 0 x).label) label → seen meaning store (map held (map moved_on (set frames 0 (record (get_or frames 0 x) { label = joined })))) ≡ raised (seen meaning store (map held frames)) 0 label
  unfolding changed_at
  seen-raised store label [] x joined some e = absurd (omega arith)
  seen-raised store label (f ∷ frames) x joined some e = ap₂ (λ (y : Label) ys. record { kind = f.kind; label = y; active = f.active } ∷ ys) e (seen-moved_on store frames)

-- the whole of a raise: the label of the first frame is joined in one store, and the next totals are made in a later one
module _ {S L : Type 0} (made : S → L → Type 0) (meaning : S → L → Label) (rising : (store : S) (label : L) → made store label → IsLabel (meaning store label)) (room : S → ℕ) (firm : S → Bool)
    (old middle new : S) (first : IsKept made meaning room firm old middle) (second : IsKept made meaning room firm middle new)
    (label joined : L) (label_made : made old label) (joined_made : made middle joined) (before after : List (Frame L)) (some : 0 < length before) (x y : Frame L)
    (joined_means : meaning middle joined ≡ union (meaning old (get_or before 0 x).label) (meaning old label))
    (before_made : All (HasMade made old) (map held before)) (next : All (HasNext made meaning new (meaning middle label)) after) (same : map held after ≡ map held before) where
  -- there are as many frames as before
  still_some : 0 < length after
  still_some = omega (arith, length-map after held, length-map before held, ap length same)

  -- the first frame is held as before
  same_first : held (get_or after 0 y) ≡ held (get_or before 0 x)
  same_first = sym (get_or-map held after 0 y (held x) still_some) ∙ ap (λ (hs : List (Held L)). get_or hs 0 (held x)) same ∙ get_or-map held before 0 x (held x) some

  -- the joined label means the union in the later store too
  still_means : meaning new joined ≡ union (meaning new (get_or after 0 y).label) (meaning old label)
  still_means =
      let here = All-unheld (HasMade made old) before before_made 0 x some in
      let kept = (IsKept-trans made meaning room firm old middle new first second).labels (get_or before 0 x).label here.0 in
      (second.labels joined joined_made).1 ∙ joined_means
      ∙ ap (λ (l : Label). union l (meaning old label)) (sym kept.1 ∙ ap (λ (h : Held L). meaning new h.label) (sym same_first))

  -- the next totals are those with the label as the old store means it
  next_means : All (HasNext made meaning new (meaning old label)) after
  next_means = subst (λ (l : Label). All (HasNext made meaning new l) after) (first.labels label label_made).1 next

  -- the frames still stand
  pub raise-Stand : (outside : Label) → Stand made meaning old outside (map held before) → Stand made meaning new outside (map held (map moved_on (set after 0 (record (get_or after 0 y) { label = joined }))))
  raise-Stand outside s =
      Stand-raised made meaning rising new (meaning old label) (rising old label label_made) outside after y joined still_some (second.labels joined joined_made).0 still_means next_means
      (subst (λ (hs : List (Held L)). Stand made meaning new outside hs) (sym same) (Stand-kept made meaning room firm old new outside (map held before) (IsKept-trans made meaning room firm old middle new first second) s))

  -- the first frame is seen with the label joined, and the others as before
  pub raise-seen : seen meaning new (map held (map moved_on (set after 0 (record (get_or after 0 y) { label = joined })))) ≡ raised (seen meaning old (map held before)) 0 (meaning old label)
  raise-seen = seen-raised made meaning new (meaning old label) after y joined still_some still_means
      ∙ ap (λ (frames : List _). raised frames 0 (meaning old label)) (ap (seen meaning new) same
      ∙ seen-kept made meaning room firm old new (map held before) (IsKept-trans made meaning room firm old middle new first second) (All-weaker (HasMade made old) (λ (h : Held L). made old h.label) (λ h p. p.0) (map held before) before_made))

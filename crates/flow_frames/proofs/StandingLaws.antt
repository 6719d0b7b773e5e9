-- Laws of frames that belong to a store, by the counting of totals from the outside inwards.
use Rattle.std.proofs.Common.{refl, ap, sym, ◌∙◌, subst, ◌≡◌, ◌+◌, ℕ, suc, zero, Bool, List, [], ◌∷◌, ◌++◌, take, drop, Some, add-one}
use Rattle.std.specs.List.{slice_get, All}
use Rattle.std.proofs.lemmas.List.{take-map}
use Rattle.std.proofs.lemmas.List.Elements.{All-nil, All-cons, All-head, All-tail, All-weaker}
use Rattle.std.proofs.lemmas.Option.{none-some, same_Some}
use Rattle.origin_labels.specs.Label.{Label, IsLabel, bottom, union}
use Rattle.origin_labels.specs.Stores.{IsKept}
use Rattle.origin_labels.proofs.LabelLaws.{IsLabel-bottom, IsLabel-union, union-assoc, union-bottom}
use Rattle.flow_frames.specs.Frames.{context}
use Rattle.flow_frames.specs.Held.{Held, Belong, seen, seen_frame}
use Rattle.flow_frames.specs.Changes.{changed_at, quieted}
use Rattle.flow_frames.specs.Standing.{HasMade, Stand}
use Rattle.flow_frames.proofs.ContextLaws.{IsLabel-context, context-nil, context-cons, context-one, bottom-union}

module _ {S L : Type 0} (made : S → L → Type 0) (meaning : S → L → Label) where
  -- frames that stand in a store stand in each later one that keeps it
  pub Stand-kept : (room : S → ℕ) (firm : S → Bool) (old new : S) (outside : Label) (frames : List (Held L)) → IsKept made meaning room firm old new → Stand made meaning old outside frames → Stand made meaning new outside frames
  Stand-kept room firm old new outside [] kept s = tt
  Stand-kept room firm old new outside (h ∷ frames) kept s =
      let label = kept.labels h.label s.0.0 in
      let total = kept.labels h.total s.0.1 in
      ((label.0, total.0), total.1 ∙ s.1 ∙ ap (union outside) (sym label.1), subst (λ (x : Label). Stand made meaning new (union outside x) frames) (sym label.1) (Stand-kept room firm old new (union outside (meaning old h.label)) frames kept s.2))

  -- the outermost of frames that stand do
  pub Stand-take : (store : S) (outside : Label) (n : ℕ) (frames : List (Held L)) → Stand made meaning store outside frames → Stand made meaning store outside (take n frames)
  Stand-take store outside zero frames s = tt
  Stand-take store outside (suc n) [] s = tt
  Stand-take store outside (suc n) (h ∷ frames) s = (s.0, s.1, Stand-take store (union outside (meaning store h.label)) n frames s.2)

  -- frames stand whichever of them catch
  pub Stand-quieted : (store : S) (outside : Label) (frames : List (Held L)) (depth : ℕ) → Stand made meaning store outside frames → Stand made meaning store outside (quieted frames depth)
  unfolding changed_at
  Stand-quieted store outside [] depth s = tt
  Stand-quieted store outside (h ∷ frames) zero s = s
  Stand-quieted store outside (h ∷ frames) (suc depth) s = (s.0, s.1, Stand-quieted store (union outside (meaning store h.label)) frames depth s.2)

  -- the store made the labels and totals of frames that stand
  pub made-from_Stand : (store : S) (outside : Label) (frames : List (Held L)) → Stand made meaning store outside frames → All (HasMade made store) frames
  made-from_Stand store outside [] s = All-nil (HasMade made store)
  made-from_Stand store outside (h ∷ frames) s = All-cons (HasMade made store) h frames s.0 (made-from_Stand store (union outside (meaning store h.label)) frames s.2)

  module _ (rising : (store : S) (label : L) → made store label → IsLabel (meaning store label)) where
    -- the frames further in stand within what is decided outside them
    pub Stand-drop : (store : S) (outside : Label) → IsLabel outside → (n : ℕ) (frames : List (Held L)) → Stand made meaning store outside frames → Stand made meaning store (union outside (context (take n (seen meaning store frames)))) (drop n frames)
    Stand-drop store outside l zero frames s = subst (λ (x : Label). Stand made meaning store x frames) (sym (ap (union outside) context-nil ∙ union-bottom outside l)) s
    Stand-drop store outside l (suc n) [] s = tt
    Stand-drop store outside l (suc n) (h ∷ frames) s =
        let m = meaning store h.label in
        let rest = take n (seen meaning store frames) in
        subst (λ (x : Label). Stand made meaning store x (drop n frames)) (union-assoc outside m (context rest) (IsLabel-context rest) ∙ ap (union outside) (sym (context-cons (seen_frame (meaning store) h) rest)))
        (Stand-drop store (union outside m) (IsLabel-union outside m (rising store h.label s.0.0)) n frames s.2)

    -- frames stand with those that stand inside them
    pub Stand-append : (store : S) (outside : Label) → IsLabel outside → (outer inner : List (Held L)) → Stand made meaning store outside outer → Stand made meaning store (union outside (context (seen meaning store outer))) inner → Stand made meaning store outside (outer ++ inner)
    Stand-append store outside l [] inner s t = subst (λ (x : Label). Stand made meaning store x inner) (ap (union outside) context-nil ∙ union-bottom outside l) t
    Stand-append store outside l (h ∷ outer) inner s t =
        let m = meaning store h.label in
        let rest = seen meaning store outer in (
          s.0,
          s.1,
          Stand-append store (union outside m) (IsLabel-union outside m (rising store h.label s.0.0)) outer inner s.2
              (subst (λ (x : Label). Stand made meaning store x inner) (ap (union outside) (context-cons (seen_frame (meaning store) h) rest) ∙ sym (union-assoc outside m (context rest) (IsLabel-context rest))) t),
        )

    -- the total of a frame that stands means what is outside, and the labels up to and with it
    total_means : (store : S) (outside : Label) (frames : List (Held L)) → Stand made meaning store outside frames → (depth : ℕ) (h : Held L) → slice_get frames depth ≡ Some h → meaning store h.total ≡ union outside (context (take (depth + 1) (seen meaning store frames)))
    total_means store outside [] s depth h e = absurd (none-some h e)
    total_means store outside (k ∷ frames) s zero h e =
        subst (λ (x : Held L). meaning store x.total ≡ union outside (context (take (0 + 1) (seen meaning store (k ∷ frames))))) (same_Some k h e)
        (s.1 ∙ ap (union outside) (sym (context-one (seen_frame (meaning store) k) (rising store k.label s.0.0))))
    total_means store outside (k ∷ frames) s (suc depth) h e =
        let m = meaning store k.label in
        let rest = take (suc depth) (seen meaning store frames) in
        rw add-one (rw add-one at (total_means store (union outside m) frames s.2 depth h e) ∙ union-assoc outside m (context rest) (IsLabel-context rest) ∙ ap (union outside) (sym (context-cons (seen_frame (meaning store) k) rest)))

    -- frames with such totals stand
    stand_from_totals : (store : S) (outside : Label) (frames : List (Held L)) → All (λ h. made store h.label) frames → All (λ h. made store h.total) frames → ((depth : ℕ) (h : Held L) → slice_get frames depth ≡ Some h → meaning store h.total ≡ union outside (context (take (depth + 1) (seen meaning store frames)))) → Stand made meaning store outside frames
    stand_from_totals store outside [] labels totals unions = tt
    stand_from_totals store outside (k ∷ frames) labels totals unions =
        let m = meaning store k.label in
        let label = All-head (λ (h : Held L). made store h.label) k frames labels in (
          (label, All-head (λ (h : Held L). made store h.total) k frames totals),
          unions 0 k refl ∙ ap (union outside) (context-one (seen_frame (meaning store) k) (rising store k.label label)),
          stand_from_totals store (union outside m) frames (All-tail (λ (h : Held L). made store h.label) k frames labels) (All-tail (λ (h : Held L). made store h.total) k frames totals)
              (λ depth h e. let rest = take (suc depth) (seen meaning store frames) in
              let here = rw add-one at (unions (suc depth) h e) in
              rw add-one (here ∙ ap (union outside) (context-cons (seen_frame (meaning store) k) rest) ∙ sym (union-assoc outside m (context rest) (IsLabel-context rest)))),
        )

    -- frames that belong to a store stand in it, with nothing outside
    pub Stand-from_Belong : (store : S) (frames : List (Held L)) → Belong made meaning store frames → Stand made meaning store bottom frames
    Stand-from_Belong store frames b = stand_from_totals store bottom frames b.labels b.totals (λ depth h e. b.unions depth h e ∙ sym (bottom-union (context (take (depth + 1) (seen meaning store frames)))))

    -- frames that stand in a store with nothing outside belong to it
    pub Belong-from_Stand : (store : S) (frames : List (Held L)) → Stand made meaning store bottom frames → Belong made meaning store frames
    Belong-from_Stand store frames s = record {
      labels = All-weaker (HasMade made store) (λ (h : Held L). made store h.label) (λ h p. p.0) frames (made-from_Stand store bottom frames s);
      totals = All-weaker (HasMade made store) (λ (h : Held L). made store h.total) (λ h p. p.1) frames (made-from_Stand store bottom frames s);
      unions = λ depth h e. total_means store bottom frames s depth h e ∙ bottom-union (context (take (depth + 1) (seen meaning store frames)));
    }

    -- frames that belong to a store belong to each later one that keeps it
    pub Belong-kept : (room : S → ℕ) (firm : S → Bool) (old new : S) (frames : List (Held L)) → IsKept made meaning room firm old new → Belong made meaning old frames → Belong made meaning new frames
    Belong-kept room firm old new frames kept b = Belong-from_Stand new frames (Stand-kept room firm old new bottom frames kept (Stand-from_Belong old frames b))

    -- the outermost of frames that belong to a store do
    pub Belong-take : (store : S) (n : ℕ) (frames : List (Held L)) → Belong made meaning store frames → Belong made meaning store (take n frames)
    Belong-take store n frames b = Belong-from_Stand store (take n frames) (Stand-take store bottom n frames (Stand-from_Belong store frames b))

    -- frames belong to a store whichever of them catch
    pub Belong-quieted : (store : S) (frames : List (Held L)) (depth : ℕ) → Belong made meaning store frames → Belong made meaning store (quieted frames depth)
    Belong-quieted store frames depth b = Belong-from_Stand store (quieted frames depth) (Stand-quieted store bottom frames depth (Stand-from_Belong store frames b))

    -- a frame whose total is that of the whole belongs inside
    pub Belong-push : (store : S) (frames : List (Held L)) (h : Held L) → Belong made meaning store frames → made store h.label → made store h.total → meaning store h.total ≡ union (context (seen meaning store frames)) (meaning store h.label) → Belong made meaning store (frames ++ h ∷ [])
    Belong-push store frames h b label total means =
        Belong-from_Stand store (frames ++ h ∷ []) (Stand-append store bottom IsLabel-bottom frames (h ∷ []) (Stand-from_Belong store frames b)
        ((label, total), means ∙ ap (λ (x : Label). union x (meaning store h.label)) (sym (bottom-union (context (seen meaning store frames)))), tt))

    -- frames belong with those that stand inside them
    pub Belong-append : (store : S) (outer inner : List (Held L)) → Belong made meaning store outer → Stand made meaning store (context (seen meaning store outer)) inner → Belong made meaning store (outer ++ inner)
    Belong-append store outer inner b s =
        Belong-from_Stand store (outer ++ inner) (Stand-append store bottom IsLabel-bottom outer inner (Stand-from_Belong store outer b) (subst (λ (x : Label). Stand made meaning store x inner) (sym (bottom-union (context (seen meaning store outer)))) s))

    -- the frames further in stand within the context of those outside them
    pub Stand-inside : (store : S) (n : ℕ) (frames : List (Held L)) → Belong made meaning store frames → Stand made meaning store (context (seen meaning store (take n frames))) (drop n frames)
    Stand-inside store n frames b =
        subst (λ (x : Label). Stand made meaning store x (drop n frames)) (bottom-union (context (take n (seen meaning store frames))) ∙ ap context (take-map (seen_frame (meaning store)) n frames))
        (Stand-drop store bottom IsLabel-bottom n frames (Stand-from_Belong store frames b))

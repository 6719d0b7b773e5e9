-- What the calls on frames need of lists of frames.
use Rattle.std.proofs.Common.{arith, refl, ap, ap₂, sym, ◌∙◌, subst, ◌≡◌, ◌<◌, ◌+◌, ◌-◌, ◌&&◌, ℕ, suc, zero, Bool, true, false, List, [], ◌∷◌, ◌++◌, length, take, drop, map, get_or, set, Some, Result, Ok, Err, OnErr}
use Rattle.std.specs.List.{slice_get, All}
use Rattle.std.specs.Option.{option_map}
use Rattle.std.specs.Vec.{with_items}
use Rattle.std.specs.declared.vec.Vec.{Vec}
use borrow.Rule.Slice.PartMut.{put_mid, post_of}
use Rattle.std.proofs.lemmas.List.{take_all, take_rest, drop_all, take-map, drop-map, map_push, map-append, append-nil, length-map, length-take, length-drop, length-append, with_items_is}
use Rattle.std.proofs.lemmas.List.Elements.{All-take, All-drop, All-cons, All-head, All-tail, All-map}
use Rattle.std.proofs.lemmas.Option.{slice_get-map, slice_get_read, slice_get_within, none-some, get_or_from_slice_get}
use Rattle.origin_labels.specs.Label.{Label, IsLabel, union}
use Rattle.origin_labels.specs.Stores.{IsKept}
use Rattle.flow_frames.specs.Frames.{Frame as SeenFrame, context, inside}
use Rattle.flow_frames.specs.Held.{Held, Belong, BeginsWithRoot, AreFormed, kind_at, seen, seen_frame}
use Rattle.flow_frames.specs.Changes.{changed_at, raised, quieted}
use Rattle.flow_frames.specs.Kinds.{is_try}
use Rattle.flow_frames.specs.Standing.{Stand}
use Rattle.flow_frames.specs.Views.{held}
use Rattle.flow_frames.specs.declared.kind.Kind.{Kind}
use Rattle.flow_frames.specs.declared.frame.Frame.{Frame}
use Rattle.flow_frames.proofs.ContextLaws.{bottom-union, seen-kept}
use Rattle.flow_frames.proofs.StandingLaws.{Belong-from_Stand, Belong-kept, Belong-push, Belong-take, Belong-append, Stand-inside}
use Rattle.flow_frames.proofs.RaiseLaws.{All-unheld, All-unmap}

-- a fact is one for an error too
pub OnErr-from : {T E : Type 0} (r : Result T E) (P : Type 0) → P → OnErr r P
OnErr-from (Ok x) P p = tt
OnErr-from (Err e) P p = p

-- frames that begin with the Root are not none
pub some_from_root : {L : Type 0} (frames : List (Held L)) → BeginsWithRoot frames → 0 < length frames
some_from_root [] root = absurd (let none : ⊥ = cc in none)
some_from_root (h ∷ frames) root = omega arith

-- what is read at a place is held there
pub held_read : {L : Type 0} (frames : List (Frame L)) (i : ℕ) (x : Frame L) → i < length frames → x ≡ get_or frames i x → slice_get (map held frames) i ≡ Some (held x)
held_read frames i x lt read = slice_get-map held frames i ∙ ap (option_map held) (slice_get_read frames (length frames) i x refl lt read)

-- the last frame that is read is the last that is held
pub last_read : {L : Type 0} (frames : List (Frame L)) (view : List (Held L)) (n : ℕ) (x : Frame L) → map held frames ≡ view → BeginsWithRoot (map held frames) → n ≡ length frames → x ≡ get_or frames (n - 1) x → slice_get view (length view - 1) ≡ Some (held x)
last_read frames view n x same root len read =
    let some = some_from_root (map held frames) root in
    let within : n - 1 < length frames = omega (arith, length-map frames held) in
    let last : n - 1 ≡ length (map held frames) - 1 = omega (arith, length-map frames held) in
    subst (λ (hs : List (Held _)). slice_get hs (length hs - 1) ≡ Some (held x)) same (subst (λ (i : ℕ). slice_get (map held frames) i ≡ Some (held x)) last (held_read frames (n - 1) x within read))

-- a frame with a kind is there
pub kind_within : {L : Type 0} (frames : List (Held L)) (depth : ℕ) (kind : Kind) → kind_at frames depth ≡ Some kind → depth < length frames
kind_within [] depth kind e = absurd (none-some kind e)
kind_within (h ∷ frames) zero kind e = omega arith
kind_within (h ∷ frames) (suc depth) kind e = let rest = kind_within frames depth kind e in omega arith

-- a frame catches only if it is a Try frame
abbrev Tries : {L : Type 0} → Held L → Type 0
Tries h = (is_try h.kind && h.active) ≡ h.active

abbrev SeenTries : SeenFrame → Type 0
SeenTries f = (is_try f.kind && f.active) ≡ f.active

-- the first kind is seen as it is
kinds_seen : {L : Type 0} (meaning : L → Label) (frames : List (Held L)) → map (λ (h : Held L). h.kind) (take 1 frames) ≡ map (λ (f : SeenFrame). f.kind) (take 1 (map (seen_frame meaning) frames))
kinds_seen meaning [] = refl
kinds_seen meaning (h ∷ frames) = refl

-- a change at a place keeps the first kind, where it keeps kinds
first_changed : {X Y : Type 0} (kind : X → Y) (change : X → X) → ((x : X) → kind (change x) ≡ kind x) → (xs : List X) (place : ℕ) → map kind (take 1 (changed_at change xs place)) ≡ map kind (take 1 xs)
unfolding changed_at
first_changed kind change same [] place = refl
first_changed kind change same (x ∷ xs) zero = ap (λ k. k ∷ []) (same x)
first_changed kind change same (x ∷ xs) (suc place) = refl

-- a change at a place keeps what is so of each element, where it keeps it of one
All-changed_at : {X : Type 0} (P : X → Type 0) (change : X → X) → ((x : X) → P x → P (change x)) → (xs : List X) (place : ℕ) → All P xs → All P (changed_at change xs place)
unfolding changed_at
All-changed_at P change keeps [] place all = all
All-changed_at P change keeps (x ∷ xs) zero all = All-cons P (change x) xs (keeps x (All-head P x xs all)) (All-tail P x xs all)
All-changed_at P change keeps (x ∷ xs) (suc place) all = All-cons P x (changed_at change xs place) (All-head P x xs all) (All-changed_at P change keeps xs place (All-tail P x xs all))

-- a change at a place leaves what is before it
pub changed_at-split : {X : Type 0} (change : X → X) (xs : List X) (n : ℕ) → changed_at change xs n ≡ take n xs ++ changed_at change (drop n xs) 0
unfolding changed_at
changed_at-split change xs zero = refl
changed_at-split change [] (suc n) = refl
changed_at-split change (x ∷ xs) (suc n) = ap (◌∷◌ x) (changed_at-split change xs n)

-- frames that are made quiet are held so
pub quieted-set : {L : Type 0} (frames : List (Frame L)) (depth : ℕ) (x : Frame L) → depth < length frames → x ≡ get_or frames depth x → map held (set frames depth (record x { active = false })) ≡ quieted (map held frames) depth
unfolding changed_at
quieted-set [] depth x lt read = absurd (omega arith)
quieted-set (f ∷ frames) zero x lt read = ap (λ (y : Frame _). held (record y { active = false }) ∷ map held frames) read
quieted-set (f ∷ frames) (suc depth) x lt read = ap (◌∷◌ (held f)) (quieted-set frames depth x (omega arith) read)

-- the outermost of formed frames, one at least, are formed
pub AreFormed-taken : {L : Type 0} (frames items : List (Frame L)) (n : ℕ) → 0 < n → items ≡ take n frames → AreFormed (map held frames) → AreFormed (map held items)
AreFormed-taken frames items n some taken formed =
    subst AreFormed (sym (ap (map held) taken ∙ sym (take-map held n frames))) (first (map held frames) n some ∙ formed.0, All-take Tries n (map held frames) formed.1)
  where
    first : {L : Type 0} (hs : List (Held L)) (n : ℕ) → 0 < n → map (λ (h : Held L). h.kind) (take 1 (take n hs)) ≡ map (λ (h : Held L). h.kind) (take 1 hs)
    first hs zero some = absurd (omega arith)
    first [] (suc n) some = refl
    first (h ∷ hs) (suc n) some = refl

-- formed frames are formed whichever Try frames catch
pub AreFormed-quieted : {L : Type 0} (frames : List (Held L)) (depth : ℕ) → AreFormed frames → AreFormed (quieted frames depth)
AreFormed-quieted frames depth formed = (
  first_changed (λ (h : Held _). h.kind) (λ h. record h { active = false }) (λ h. refl) frames depth ∙ formed.0,
  All-changed_at Tries (λ h. record h { active = false }) (λ h tries. none (is_try h.kind)) frames depth formed.1,
)
  where
    none : (b : Bool) → (b && false) ≡ false
    none true = refl
    none false = refl

-- formed frames are formed where the label of one is raised
pub AreFormed-raised : {S L : Type 0} (meaning : S → L → Label) (old new : S) (was now : List (Held L)) (depth : ℕ) (label : Label) → seen meaning new now ≡ raised (seen meaning old was) depth label → AreFormed was → AreFormed now
AreFormed-raised meaning old new was now depth label e formed = (
  kinds_seen (meaning new) now ∙ ap (λ fs. map (λ (f : SeenFrame). f.kind) (take 1 fs)) e ∙ first_changed (λ (f : SeenFrame). f.kind) (λ f. record f { label = union f.label label }) (λ f. refl) (seen meaning old was) depth ∙ sym (kinds_seen (meaning old) was) ∙ formed.0,
  All-unmap (seen_frame (meaning new)) SeenTries now (subst (All SeenTries) (sym e)
      (All-changed_at SeenTries (λ f. record f { label = union f.label label }) (λ f tries. tries) (seen meaning old was) depth (All-map SeenTries (seen_frame (meaning old)) was formed.1))),
)

-- the part of the frames inside a depth, as a slice gives it
pub seen-inside : {S L : Type 0} (meaning : S → L → Label) (store : S) (frames : List (Frame L)) (depth : ℕ) → context (seen meaning store (map held (take (length frames - (depth + 1)) (drop (depth + 1) frames)))) ≡ inside (seen meaning store (map held frames)) depth
seen-inside meaning store frames depth =
    ap (λ (fs : List (Frame _)). context (seen meaning store (map held fs))) (take_rest frames (depth + 1))
    ∙ ap (λ (hs : List (Held _)). context (seen meaning store hs)) (sym (drop-map held (depth + 1) frames))
    ∙ ap context (sym (drop-map (seen_frame (meaning store)) (depth + 1) (map held frames)))

-- the frames from a depth on, as a slice gives them
pub held_from : {L : Type 0} (frames items : List (Frame L)) (view : List (Held L)) (depth : ℕ) → frames ≡ items → map held items ≡ view → map held (take (length frames - depth) (drop depth frames)) ≡ drop depth view
held_from frames items view depth same is =
    ap (map held) (take_rest frames depth) ∙ sym (drop-map held depth frames) ∙ ap (drop depth) (ap (map held) same ∙ is)

-- the frames after a slice of those from a depth on was written
pub held_written : {L Z : Type 0} (v : Vec (Frame L) Z) (frames written : List (Frame L)) (view : List (Held L)) (depth : ℕ) → frames ≡ v.items → map held v.items ≡ view → depth < length view → length written ≡ length (take (length frames - depth) (drop depth frames)) → map held (with_items v (put_mid depth (length frames - depth) frames written)).items ≡ take depth view ++ map held written
held_written v frames written view depth same is lt len =
    let items : length frames ≡ v.len = omega (arith, v.ok.0, ap length same) in
    let within : depth < length frames = omega (arith, ap length same, ap length is, length-map v.items held) in
    let none : post_of depth (length frames - depth) frames ≡ [] = drop_all (length frames - depth) (drop depth frames) (omega (arith, length-drop depth frames)) in
    let parts : put_mid depth (length frames - depth) frames written ≡ take depth frames ++ written = ap (λ (rest : List (Frame _)). take depth frames ++ (written ++ rest)) none ∙ ap (λ (rest : List (Frame _)). take depth frames ++ rest) (append-nil written) in
    let fits : length (put_mid depth (length frames - depth) frames written) ≡ v.len = omega (arith, ap length parts, length-append (take depth frames) written, length-take depth frames, len, length-take (length frames - depth) (drop depth frames), length-drop depth frames) in
    ap (map held) (with_items_is v (put_mid depth (length frames - depth) frames written) fits ∙ parts)
    ∙ map-append held (take depth frames) written ∙ ap (λ (hs : List (Held _)). hs ++ map held written) (sym (take-map held depth frames) ∙ ap (take depth) (ap (map held) same ∙ is))

module _ {S L : Type 0} (made : S → L → Type 0) (meaning : S → L → Label) where
  -- the labels inside a depth were made
  pub made-inside : (store : S) (frames : List (Frame L)) (n m : ℕ) → All (λ h. made store h.label) (map held frames) → All (λ f. made store f.label) (take n (drop m frames))
  made-inside store frames n m labels = All-take (λ (f : Frame L). made store f.label) n (drop m frames) (All-drop (λ (f : Frame L). made store f.label) m frames (All-unheld (λ h. made store h.label) frames labels))

  -- the total of the last frame means the context
  pub last_total : (store : S) (frames : List (Held L)) (h : Held L) → Belong made meaning store frames → slice_get frames (length frames - 1) ≡ Some h → made store h.total × (meaning store h.total ≡ context (seen meaning store frames))
  last_total store frames h b e =
      let within = slice_get_within frames (length frames - 1) h e in
      let there = b.totals (length frames - 1) h within in (
        subst (λ (x : Held L). made store x.total) (let here : get_or frames (length frames - 1) h ≡ h = get_or_from_slice_get frames (length frames - 1) h h e in here) there,
        b.unions (length frames - 1) h e ∙ ap context (take_all (length frames - 1 + 1) (seen meaning store frames) (omega (arith, length-map frames (seen_frame (meaning store))))),
      )

  module _ (rising : (store : S) (label : L) → made store label → IsLabel (meaning store label)) where
    -- the Root alone belongs where its total means its label
    pub Belong-one : (store : S) (h : Held L) → made store h.label → made store h.total → meaning store h.total ≡ meaning store h.label → Belong made meaning store (h ∷ [])
    Belong-one store h label total means = Belong-from_Stand made meaning rising store (h ∷ []) ((label, total), means ∙ sym (bottom-union (meaning store h.label)), tt)

    -- a frame that is pushed belongs, where its total was made
    pub push-Belong : (room : S → ℕ) (firm : S → Bool) (old new : S) (frames : List (Held L)) (h : Held L) → IsKept made meaning room firm old new → Belong made meaning old frames → made old h.label → made new h.total → meaning new h.total ≡ union (context (seen meaning old frames)) (meaning old h.label) → Belong made meaning new (frames ++ h ∷ [])
    push-Belong room firm old new frames h kept b label total means =
        let later = kept.labels h.label label in
        Belong-push made meaning rising new frames h (Belong-kept made meaning rising room firm old new frames kept b) later.0 total
        (means ∙ ap₂ (λ fs (x : Label). union (context fs) x) (sym (seen-kept made meaning room firm old new frames kept b.labels)) (sym later.1))

  -- a frame that is pushed is seen behind the others
  pub push-seen : (room : S → ℕ) (firm : S → Bool) (old new : S) (frames : List (Held L)) (h : Held L) → IsKept made meaning room firm old new → Belong made meaning old frames → made old h.label → seen meaning new (frames ++ h ∷ []) ≡ seen meaning old frames ++ record { kind = h.kind; label = meaning old h.label; active = h.active } ∷ []
  push-seen room firm old new frames h kept b label =
      map_push (seen_frame (meaning new)) frames h
      ∙ ap₂ (λ fs (x : Label). fs ++ record { kind = h.kind; label = x; active = h.active } ∷ []) (seen-kept made meaning room firm old new frames kept b.labels) (kept.labels h.label label).1

-- a raise of the frames from a depth on, in a store that is kept
module _ {S L : Type 0} (made : S → L → Type 0) (meaning : S → L → Label) (rising : (store : S) (label : L) → made store label → IsLabel (meaning store label)) (room : S → ℕ) (firm : S → Bool)
    (old new : S) (kept : IsKept made meaning room firm old new) (frames given written : List (Held L)) (depth : ℕ) (belong : Belong made meaning old frames) (from : given ≡ drop depth frames) where
  -- the outermost frames are seen as before
  outer_seen : seen meaning new (take depth frames) ≡ seen meaning old (take depth frames)
  outer_seen = seen-kept made meaning room firm old new (take depth frames) kept (All-take (λ (h : Held L). made old h.label) depth frames belong.labels)

  -- the frame at the depth is seen raised
  pub raise_from-seen : (label : Label) → seen meaning new written ≡ raised (seen meaning old given) 0 label → seen meaning new (take depth frames ++ written) ≡ raised (seen meaning old frames) depth label
  raise_from-seen label e =
      let change = λ (f : SeenFrame). record f { label = union f.label label } in
      map-append (seen_frame (meaning new)) (take depth frames) written
      ∙ ap₂ (λ (xs ys : List SeenFrame). xs ++ ys) (outer_seen ∙ sym (take-map (seen_frame (meaning old)) depth frames))
      (e ∙ ap (λ (fs : List SeenFrame). changed_at change fs 0) (ap (seen meaning old) from ∙ sym (drop-map (seen_frame (meaning old)) depth frames)))
      ∙ sym (changed_at-split change (seen meaning old frames) depth)

  -- the frames still belong
  pub raise_from-Belong : ((outside : Label) → Stand made meaning old outside given → Stand made meaning new outside written) → Belong made meaning new (take depth frames ++ written)
  raise_from-Belong stands =
      Belong-append made meaning rising new (take depth frames) written (Belong-kept made meaning rising room firm old new (take depth frames) kept (Belong-take made meaning rising old depth frames belong))
      (subst (λ (fs : List SeenFrame). Stand made meaning new (context fs) written) (sym outer_seen)
      (stands (context (seen meaning old (take depth frames))) (subst (λ (hs : List (Held L)). Stand made meaning old (context (seen meaning old (take depth frames))) hs) (sym from) (Stand-inside made meaning rising old depth frames belong))))

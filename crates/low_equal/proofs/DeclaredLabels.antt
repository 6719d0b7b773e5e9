-- Labels of which each origin is declared, and lists of what has such labels.
use Rattle.std.proofs.Common.{◌≡◌, ℕ, zero, suc, ◌+◌, ◌<◌, Bool, true, false, ◌==◌, cond, nat_lt, List, [], ◌∷◌, ◌++◌, take, drop, Option, Some, None, slice_get, slice_set, ltb-true}
use Rattle.std.specs.List.{AllByRecursion}
use Rattle.std.proofs.lemmas.Bool.{and_parts}
use Rattle.origin_labels.specs.Label.{Label, bottom, union, with_origin, label_of}
use Rattle.flow_frames.specs.Frames.{Frame, context, inside}
use Rattle.flow_frames.specs.Held.{meant_at}
use Rattle.flow_frames.specs.Changes.{changed_at, raised}
use Rattle.es_meaning.specs.Requested.{are_origins}

-- ---- lists of which each element is so

abbrev pub Each : {X : Type 0} → (X → Type 0) → List X → Type 0
Each P xs = AllByRecursion P xs

-- an element that there may be is so
abbrev pub IfThere : {X : Type 0} → (X → Type 0) → Option X → Type 0
IfThere P None = Unit {0}
IfThere P (Some x) = P x

module _ {X : Type 0} (P : X → Type 0) where
  -- one more
  pub each_push : (xs : List X) (x : X) → Each P xs → P x → Each P (xs ++ x ∷ [])
  each_push [] x h p = (p, tt)
  each_push (y ∷ xs) x h p = (h.0, each_push xs x h.1 p)

  -- two lists
  pub each_append : (xs ys : List X) → Each P xs → Each P ys → Each P (xs ++ ys)
  each_append [] ys h k = k
  each_append (x ∷ xs) ys h k = (h.0, each_append xs ys h.1 k)

  -- so many of them
  pub each_take : (n : ℕ) (xs : List X) → Each P xs → Each P (take n xs)
  each_take zero xs h = tt
  each_take (suc n) [] h = tt
  each_take (suc n) (x ∷ xs) h = (h.0, each_take n xs h.1)

  -- those behind them
  pub each_drop : (n : ℕ) (xs : List X) → Each P xs → Each P (drop n xs)
  each_drop zero xs h = h
  each_drop (suc n) [] h = tt
  each_drop (suc n) (x ∷ xs) h = each_drop n xs h.1

  -- that at a place
  pub each_at : (xs : List X) (i : ℕ) → Each P xs → IfThere P (slice_get xs i)
  each_at [] i h = tt
  each_at (x ∷ xs) zero h = h.0
  each_at (x ∷ xs) (suc i) h = each_at xs i h.1

  -- another at a place
  pub each_set : (xs : List X) (i : ℕ) (x : X) → Each P xs → P x → Each P (slice_set xs i x)
  each_set [] i x h p = tt
  each_set (y ∷ xs) zero x h p = (p, h.1)
  each_set (y ∷ xs) (suc i) x h p = (h.0, each_set xs i x h.1 p)

module _ (count : ℕ) where
  -- ---- labels

  -- each origin is declared
  pub record Own (label : Label) : Type 0 where
    pub below : Each (λ origin. origin < count) label

  -- no origin
  pub own_bottom : Own bottom
  own_bottom = record { below = tt }

  -- one more origin
  pub own_with : (origin : ℕ) (label : Label) → origin < count → Own label → Own (with_origin origin label)
  unfolding with_origin
  own_with origin [] lt h = record { below = (lt, tt) }
  own_with origin (k ∷ label) lt h = by_case (nat_lt origin k) (origin == k) (own_with origin label lt (record { below = h.below.1 }))
    where
      by_case : (b c : Bool) → Own (with_origin origin label) → Own (cond b (origin ∷ k ∷ label) (cond c (k ∷ label) (k ∷ with_origin origin label)))
      by_case true c q = record { below = (lt, h.below) }
      by_case false true q = h
      by_case false false q = record { below = (h.below.0, q.below) }

  -- the origins of two labels
  pub own_union : (a b : Label) → Own a → Own b → Own (union a b)
  unfolding union
  own_union [] b h q = q
  own_union (k ∷ a) b h q = own_with k (union a b) h.below.0 (own_union a b (record { below = h.below.1 }) q)

  -- origins that are named
  pub own_label_of : (origins : List ℕ) → Each (λ origin. origin < count) origins → Own (label_of origins)
  unfolding label_of
  own_label_of [] h = own_bottom
  own_label_of (k ∷ origins) h = own_with k (label_of origins) h.0 (own_label_of origins h.1)

  -- origins that pass the test
  pub own_origins : (origins : List ℕ) → are_origins count origins ≡ true → Each (λ origin. origin < count) origins
  own_origins [] e = tt
  own_origins (k ∷ origins) e = let both = and_parts (nat_lt k count) (are_origins count origins) e in (ltb-true k count both.0, own_origins origins both.1)

  -- ---- frames

  -- the labels of frames
  abbrev pub OwnFrames : List Frame → Type 0
  OwnFrames frames = Each (λ f. Own f.label) frames

  -- all of them
  pub own_context : (frames : List Frame) → OwnFrames frames → Own (context frames)
  unfolding context
  own_context [] h = own_bottom
  own_context (f ∷ frames) h = own_union f.label (context frames) h.0 (own_context frames h.1)

  -- those inside a frame
  pub own_inside : (frames : List Frame) (depth : ℕ) → OwnFrames frames → Own (inside frames depth)
  own_inside frames depth h = own_context (drop (depth + 1) frames) (each_drop (λ f. Own f.label) (depth + 1) frames h)

  -- that of a frame
  pub own_meant : (frames : List Frame) (depth : ℕ) → OwnFrames frames → Own (meant_at frames depth)
  own_meant [] depth h = own_bottom
  own_meant (f ∷ frames) zero h = h.0
  own_meant (f ∷ frames) (suc depth) h = own_meant frames depth h.1

  -- a frame is raised
  pub own_raised : (frames : List Frame) (depth : ℕ) (label : Label) → OwnFrames frames → Own label → OwnFrames (raised frames depth label)
  unfolding changed_at
  own_raised [] depth label h q = tt
  own_raised (f ∷ frames) zero label h q = (own_union f.label label h.0 q, h.1)
  own_raised (f ∷ frames) (suc depth) label h q = (h.0, own_raised frames depth label h.1 q)

  -- a frame catches no longer
  pub own_quieted : (frames : List Frame) (depth : ℕ) → OwnFrames frames → OwnFrames (changed_at (λ f. record f { active = false }) frames depth)
  unfolding changed_at
  own_quieted [] depth h = tt
  own_quieted (f ∷ frames) zero h = h
  own_quieted (f ∷ frames) (suc depth) h = (h.0, own_quieted frames depth h.1)

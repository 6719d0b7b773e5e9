-- Loops over the nodes of a list: what was told so far, and what the rest tells, give what the whole list tells.
use Rattle.std.proofs.Common.{refl, sym, ap, ◌∙◌, ◌≡◌, ◌<◌, ◌≤◌, ◌+◌, ℕ, List, [], ◌∷◌, ◌++◌, length, take, drop, get_or, Option, Some, None}
use Rattle.std.proofs.lemmas.List.{take_more, drop_more, at_drop_all}
use Rattle.js_faults.specs.declared.fault.EarlyError.{EarlyError}
use Rattle.js_faults.specs.Faults.{Order, earlier_by, by_kind, earlier}
use Rattle.js_faults.proofs.Told.{earlier_by_assoc}

module _ {T : Type 0} (order : Order T) where
  pub none_behind : (f : Option T) → earlier_by order f None ≡ f
  none_behind None = refl
  none_behind (Some f) = refl

  -- a loop goes on by one node, of which something is told that depends on the nodes in front of it
  pub goes_on_behind : {X : Type 0} (F : List X → List X → Option T) (f : List X → X → Option T) (xs : List X) (i : ℕ) (x : X) (first told next whole : Option T)
      → ((front : List X) (x : X) (rest : List X) → F front (x ∷ rest) ≡ earlier_by order (f front x) (F (front ++ x ∷ []) rest)) → i < length xs → x ≡ get_or xs i x
      → earlier_by order first (F (take i xs) (drop i xs)) ≡ whole → told ≡ f (take i xs) x → next ≡ earlier_by order first told → earlier_by order next (F (take (i + 1) xs) (drop (i + 1) xs)) ≡ whole
  goes_on_behind F f xs i x first told next whole step lt is so_far one now =
      let after = F (take i xs ++ x ∷ []) (drop (i + 1) xs) in
      let here : F (take i xs) (drop i xs) ≡ earlier_by order told after = ap (F (take i xs)) (drop_more xs i x lt ∙ ap (λ y. y ∷ drop (i + 1) xs) (sym is)) ∙ step (take i xs) x (drop (i + 1) xs) ∙ ap (λ one. earlier_by order one after) (sym one) in
      ap (λ front. earlier_by order next (F front (drop (i + 1) xs))) (take_more xs i x lt ∙ ap (λ y. take i xs ++ y ∷ []) (sym is))
      ∙ ap (λ told. earlier_by order told after) now ∙ sym (earlier_by_assoc order first told after) ∙ ap (earlier_by order first) (sym here) ∙ so_far

  -- a loop goes on by one node
  pub goes_on : {X : Type 0} (F : List X → Option T) (f : X → Option T) (xs : List X) (i : ℕ) (x : X) (first told next whole : Option T)
      → ((x : X) (rest : List X) → F (x ∷ rest) ≡ earlier_by order (f x) (F rest)) → i < length xs → x ≡ get_or xs i x
      → earlier_by order first (F (drop i xs)) ≡ whole → told ≡ f x → next ≡ earlier_by order first told → earlier_by order next (F (drop (i + 1) xs)) ≡ whole
  goes_on F f xs i x first told next whole step lt is so_far one now = goes_on_behind (λ front. F) (λ front. f) xs i x first told next whole (λ front. step) lt is so_far one now

  -- a loop ends
  pub ends : {X : Type 0} (F : List X → Option T) (xs : List X) (i : ℕ) (first whole : Option T)
      → F [] ≡ None → length xs ≤ i → earlier_by order first (F (drop i xs)) ≡ whole → first ≡ whole
  ends F xs i first whole none le so_far = sym (none_behind first) ∙ ap (earlier_by order first) (sym (at_drop_all F xs i le ∙ none)) ∙ so_far

-- ---- early errors

pub last_none : (f : Option EarlyError) → earlier f None ≡ f
last_none f = none_behind by_kind f

pub told_more_behind : {X : Type 0} (F : List X → List X → Option EarlyError) (f : List X → X → Option EarlyError) (xs : List X) (i : ℕ) (x : X) (first told next whole : Option EarlyError)
    → ((front : List X) (x : X) (rest : List X) → F front (x ∷ rest) ≡ earlier (f front x) (F (front ++ x ∷ []) rest)) → i < length xs → x ≡ get_or xs i x
    → earlier first (F (take i xs) (drop i xs)) ≡ whole → told ≡ f (take i xs) x → next ≡ earlier first told → earlier next (F (take (i + 1) xs) (drop (i + 1) xs)) ≡ whole
told_more_behind F f = goes_on_behind by_kind F f

pub told_more : {X : Type 0} (F : List X → Option EarlyError) (f : X → Option EarlyError) (xs : List X) (i : ℕ) (x : X) (first told next whole : Option EarlyError)
    → ((x : X) (rest : List X) → F (x ∷ rest) ≡ earlier (f x) (F rest)) → i < length xs → x ≡ get_or xs i x
    → earlier first (F (drop i xs)) ≡ whole → told ≡ f x → next ≡ earlier first told → earlier next (F (drop (i + 1) xs)) ≡ whole
told_more F f = goes_on by_kind F f

pub told_all : {X : Type 0} (F : List X → Option EarlyError) (xs : List X) (i : ℕ) (first whole : Option EarlyError)
    → F [] ≡ None → length xs ≤ i → earlier first (F (drop i xs)) ≡ whole → first ≡ whole
told_all F = ends by_kind F

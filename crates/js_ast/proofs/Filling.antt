-- Slots that are filled by functions in turn.
use Rattle.std.proofs.Common.{refl, ap, sym, ◌∙◌, ◌≡◌, ◌<◌, ◌≤◌, ◌+◌, ℕ, List, [], ◌∷◌, ◌++◌, length, drop, get_or, Option}
use Rattle.std.proofs.lemmas.List.{drop_more, at_drop_all}
use Rattle.js_ast.specs.Functions.{FunctionCode}
use Rattle.js_ast.specs.Lent.{put, filled}

-- no function
pub filled_none : (first : ℕ) (slots : List (Option (ℕ × FunctionCode))) → filled first slots [] ≡ slots
unfolding filled
filled_none first slots = refl

-- a function, and then others
pub filled_first : (first : ℕ) (slots : List (Option (ℕ × FunctionCode))) (f : ℕ × FunctionCode) (fs : List (ℕ × FunctionCode)) → filled first slots (f ∷ fs) ≡ filled first (put first slots f) fs
unfolding filled
filled_first first slots f fs = refl

-- functions behind others
pub filled_append : (first : ℕ) (slots : List (Option (ℕ × FunctionCode))) (fs gs : List (ℕ × FunctionCode)) → filled first slots (fs ++ gs) ≡ filled first (filled first slots fs) gs
unfolding filled
filled_append first slots [] gs = refl
filled_append first slots (f ∷ fs) gs = filled_append first (put first slots f) fs gs

pub ruleset parts = (filled_none, filled_first, filled_append)

-- a loop over the nodes of a list goes on by one node
pub goes_on : {X : Type 0} (F : List X → List (ℕ × FunctionCode)) (f : X → List (ℕ × FunctionCode)) (first : ℕ) (xs : List X) (i : ℕ) (x : X) (slots more whole : List (Option (ℕ × FunctionCode)))
    → ((x : X) (rest : List X) → F (x ∷ rest) ≡ f x ++ F rest) → i < length xs → x ≡ get_or xs i x
    → filled first slots (F (drop i xs)) ≡ whole → more ≡ filled first slots (f x) → filled first more (F (drop (i + 1) xs)) ≡ whole
goes_on F f first xs i x slots more whole step lt is so_far now =
    let rest = F (drop (i + 1) xs) in
    let here : F (drop i xs) ≡ f x ++ rest = ap F (drop_more xs i x lt ∙ ap (λ y. y ∷ drop (i + 1) xs) (sym is)) ∙ step x (drop (i + 1) xs) in
    ap (λ s. filled first s rest) now ∙ sym (filled_append first slots (f x) rest) ∙ sym (ap (filled first slots) here) ∙ so_far

-- it ends
pub ends : {X : Type 0} (F : List X → List (ℕ × FunctionCode)) (first : ℕ) (xs : List X) (i : ℕ) (slots whole : List (Option (ℕ × FunctionCode)))
    → F [] ≡ [] → length xs ≤ i → filled first slots (F (drop i xs)) ≡ whole → slots ≡ whole
ends F first xs i slots whole none le so_far = sym (filled_none first slots) ∙ sym (ap (filled first slots) (at_drop_all F xs i le ∙ none)) ∙ so_far

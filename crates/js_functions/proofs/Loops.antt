-- Loops over the nodes of a list that mark them in turn.
use Rattle.std.proofs.Common.{refl, sym, ap, ◌∙◌, ◌≡◌, ◌+◌, ◌<◌, ◌≤◌, ℕ, zero, suc, Bool, List, [], ◌∷◌, ◌++◌, length, take, drop, get_or, set, append_assoc, append-nil, arith}
use Rattle.std.proofs.lemmas.List.{drop_more, at_drop_all, take_all, drop-set-lt, get_or-set_other, take_more_set}
use Rattle.std.proofs.Math.Seq.{take-append_seam}
use Rattle.js_ast.specs.Functions.{FunctionCode, numbered, after}
use Rattle.js_functions.proofs.Numbered.{numbered_append, after_append, after_none}

-- what a list shows, and its marks and functions, are those of its first node and of the others
pub record IsRow {X V : Type 0} (seen : List X → V) (marks : List X → List (ℕ × FunctionCode)) (functions : V → List FunctionCode) (held_in_one : X → List (ℕ × FunctionCode)) (functions_one : X → List FunctionCode) : Type 0 where
  pub congruent : (y : X) (ys zs : List X) → seen ys ≡ seen zs → seen (y ∷ ys) ≡ seen (y ∷ zs)
  pub no_marks : marks [] ≡ []
  pub first_marks : (y : X) (ys : List X) → marks (y ∷ ys) ≡ held_in_one y ++ marks ys
  pub no_functions : functions (seen []) ≡ []
  pub first_functions : (y : X) (ys : List X) → functions (seen (y ∷ ys)) ≡ functions_one y ++ functions (seen ys)

-- the nodes in front of an index are marked, the others are as they were, and the list shows what it showed
pub record SoFar {X V : Type 0} (seen : List X → V) (marks : List X → List (ℕ × FunctionCode)) (functions : V → List FunctionCode) (whole : List X) (first : ℕ) (xs : List X) (i next : ℕ) : Type 0 where
  pub unvisited : (k : ℕ) (d : X) → i ≤ k → get_or xs k d ≡ get_or whole k d
  pub kept : seen xs ≡ seen whole
  pub marked : marks (take i xs) ++ numbered next (functions (seen (drop i xs))) ≡ numbered first (functions (seen whole))
  pub counted : after next (functions (seen (drop i xs))) ≡ after first (functions (seen whole))

module _ {X V : Type 0} (seen : List X → V) (marks : List X → List (ℕ × FunctionCode)) (functions : V → List FunctionCode) (held_in_one : X → List (ℕ × FunctionCode)) (functions_one : X → List FunctionCode) (row : IsRow seen marks functions held_in_one functions_one) where
  -- a list with another node that shows the same
  seen-set : (xs : List X) (i : ℕ) (x y : X) → i < length xs → ((rest : List X) → seen (y ∷ rest) ≡ seen (get_or xs i x ∷ rest)) → seen (set xs i y) ≡ seen xs
  seen-set (z ∷ zs) zero x y lt same = same zs
  seen-set (z ∷ zs) (suc i) x y lt same = row.congruent z (set zs i y) zs (seen-set zs i x y (omega arith) same)
  seen-set [] i x y lt same = absurd (omega arith)

  -- the marks of a last node
  held_in_last : (xs : List X) (y : X) → marks (xs ++ y ∷ []) ≡ marks xs ++ held_in_one y
  held_in_last [] y = row.first_marks y [] ∙ ap (λ ms. held_in_one y ++ ms) row.no_marks ∙ append-nil (held_in_one y) ∙ sym (ap (λ ms. ms ++ held_in_one y) row.no_marks)
  held_in_last (x ∷ xs) y = row.first_marks x (xs ++ y ∷ []) ∙ ap (λ ms. held_in_one x ++ ms) (held_in_last xs y) ∙ sym (append_assoc (held_in_one x) (marks xs) (held_in_one y)) ∙ sym (ap (λ ms. ms ++ held_in_one y) (row.first_marks x xs))

  -- no node is marked yet
  pub begins : (whole : List X) (first : ℕ) → SoFar seen marks functions whole first whole 0 first
  begins whole first = record { unvisited = λ k d le. refl; kept = refl; marked = ap (λ ms. ms ++ numbered first (functions (seen whole))) row.no_marks; counted = refl }

  -- a further node is marked
  pub goes_on : (whole : List X) (first : ℕ) (xs : List X) (i next : ℕ) (d y : X) (later : ℕ) → i < length whole → length xs ≡ length whole → SoFar seen marks functions whole first xs i next
      → ((rest : List X) → seen (y ∷ rest) ≡ seen (get_or xs i d ∷ rest)) → held_in_one y ≡ numbered next (functions_one (get_or xs i d)) → later ≡ after next (functions_one (get_or xs i d))
      → SoFar seen marks functions whole first (set xs i y) (i + 1) later
  goes_on whole first xs i next d y later within size so_far same marked counted =
      let lt : i < length xs = omega (arith, size, within) in
      let x = get_or xs i d in
      let others = functions (seen (drop (i + 1) xs)) in
      let before = marks (take i xs) in
      let here : functions (seen (drop i xs)) ≡ functions_one x ++ others = ap (λ ys. functions (seen ys)) (drop_more xs i d lt) ∙ row.first_functions x (drop (i + 1) xs) in
      let left : functions (seen (drop (i + 1) (set xs i y))) ≡ others = ap (λ ys. functions (seen ys)) (drop-set-lt (i + 1) xs i y (omega arith)) in
      let front : marks (take (i + 1) (set xs i y)) ≡ before ++ numbered next (functions_one x) = ap marks (take_more_set xs i y lt) ∙ held_in_last (take i xs) y ∙ ap (λ ms. before ++ ms) marked in
      let both : numbered next (functions_one x) ++ numbered later others ≡ numbered next (functions_one x ++ others) = ap (λ n. numbered next (functions_one x) ++ numbered n others) counted ∙ sym (numbered_append next (functions_one x) others) in
      record {
        unvisited = λ k d le. get_or-set_other xs i k y d (λ e. absurd (omega (arith, le, e))) ∙ so_far.unvisited k d (omega (arith, le));
        kept = seen-set xs i d y lt same ∙ so_far.kept;
        marked = ap (λ ms. ms ++ numbered later (functions (seen (drop (i + 1) (set xs i y))))) front ∙ ap (λ fs. (before ++ numbered next (functions_one x)) ++ numbered later fs) left
            ∙ append_assoc before (numbered next (functions_one x)) (numbered later others) ∙ ap (λ ms. before ++ ms) (both ∙ sym (ap (numbered next) here)) ∙ so_far.marked;
        counted = ap (after later) left ∙ ap (λ n. after n others) counted ∙ sym (ap (after next) here ∙ after_append next (functions_one x) others) ∙ so_far.counted;
      }

  -- all nodes are marked
  pub ends : (whole : List X) (first : ℕ) (xs : List X) (i next : ℕ) → length whole ≤ i → length xs ≡ length whole → SoFar seen marks functions whole first xs i next
      → (seen xs ≡ seen whole) × ((marks xs ≡ numbered first (functions (seen whole))) × (next ≡ after first (functions (seen whole))))
  ends whole first xs i next past size so_far =
      let le : length xs ≤ i = omega (arith, size, past) in
      let none : functions (seen (drop i xs)) ≡ [] = at_drop_all (λ ys. functions (seen ys)) xs i le ∙ row.no_functions in (
        so_far.kept,
        (
          sym (ap (λ ys. marks ys ++ numbered next (functions (seen (drop i xs)))) (take_all i xs le) ∙ ap (λ fs. marks xs ++ numbered next fs) none ∙ append-nil (marks xs)) ∙ so_far.marked,
          sym (ap (after next) none ∙ after_none next) ∙ so_far.counted,
        ),
      )

-- a list whose nodes are lent and put back is these nodes
pub put_back : {X : Type 0} (xs items : List X) (n : ℕ) → length xs ≡ n → take n (xs ++ drop (length xs) items) ≡ xs
put_back xs items n size = ap (λ k. take k (xs ++ drop (length xs) items)) (sym size) ∙ take-append_seam xs (drop (length xs) items)

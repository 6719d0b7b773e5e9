-- The pieces of a text, with the separator between them, are the text.
use Rattle.std.proofs.Common.{◌≡◌, ℕ, zero, suc, ◌+◌, Bool, true, false, cond, ltb, List, [], ◌∷◌, ◌++◌, length, take, drop, refl, sym, ap, ◌∙◌, ltb-true, take-append-drop}
use Rattle.std.proofs.lemmas.List.{drop-drop}
use lib.Pointwise.{bytes_decides}
use Rattle.string_natives.specs.Texts.{joined_by, piece_size, pieces_within, pieces}
use Rattle.string_natives.proofs.PieceLaws.{stands_there}

-- a list of pieces that begins with one
record Begins (ps : List (List ℕ)) : Type 0 where
  first : List ℕ
  more : List (List ℕ)
  is : ps ≡ first ∷ more

begins_by : (t : Bool) (x y : List ℕ) (xs ys : List (List ℕ)) → Begins (cond t (x ∷ xs) (y ∷ ys))
begins_by true x y xs ys = record { first = x; more = xs; is = refl }
begins_by false x y xs ys = record { first = y; more = ys; is = refl }

begins : (n : ℕ) (sep units : List ℕ) → Begins (pieces_within n sep units)
begins zero sep units = record { first = units; more = []; is = refl }
begins (suc n) sep units = begins_by (ltb (piece_size sep units) (length units)) (take (piece_size sep units) units) units (pieces_within n sep (drop (piece_size sep units + length sep) units)) []

joined_more : (sep piece : List ℕ) (ps : List (List ℕ)) → Begins ps → joined_by sep (piece ∷ ps) ≡ piece ++ (sep ++ joined_by sep ps)
joined_more sep piece ps b =
    ap (λ (qs : List (List ℕ)). joined_by sep (piece ∷ qs)) b.is ∙ ap (λ (qs : List (List ℕ)). piece ++ (sep ++ joined_by sep qs)) (sym b.is)

cut : (sep units : List ℕ) (k : ℕ) → sep ≡ take (length sep) (drop k units) → take k units ++ (sep ++ drop (k + length sep) units) ≡ units
cut sep units k e =
    ap (λ us. take k units ++ (us ++ drop (k + length sep) units)) e
    ∙ ap (λ us. take k units ++ (take (length sep) (drop k units) ++ us)) (sym (drop-drop (length sep) k units))
    ∙ ap (λ us. take k units ++ us) (take-append-drop (length sep) (drop k units))
    ∙ take-append-drop k units

joined_if : (t : Bool) (n : ℕ) (sep units : List ℕ) → ltb (piece_size sep units) (length units) ≡ t → joined_by sep (pieces_within n sep (drop (piece_size sep units + length sep) units)) ≡ drop (piece_size sep units + length sep) units
    → joined_by sep (cond t (take (piece_size sep units) units ∷ pieces_within n sep (drop (piece_size sep units + length sep) units)) (units ∷ [])) ≡ units
joined_if false n sep units e h = refl
joined_if true n sep units e h =
    joined_more sep (take (piece_size sep units) units) (pieces_within n sep (drop (piece_size sep units + length sep) units)) (begins n sep (drop (piece_size sep units + length sep) units))
    ∙ ap (λ us. take (piece_size sep units) units ++ (sep ++ us)) h
    ∙ cut sep units (piece_size sep units) ((bytes_decides sep (take (length sep) (drop (piece_size sep units) units))).0 (stands_there sep units (ltb-true (piece_size sep units) (length units) e)))

joined : (n : ℕ) (sep units : List ℕ) → joined_by sep (pieces_within n sep units) ≡ units
joined zero sep units = refl
joined (suc n) sep units = joined_if (ltb (piece_size sep units) (length units)) n sep units refl (joined n sep (drop (piece_size sep units + length sep) units))

pub pieces_join : (sep units : List ℕ) → joined_by sep (pieces sep units) ≡ units
pieces_join [] [] = refl
pieces_join (x ∷ xs) [] = joined zero (x ∷ xs) []
pieces_join [] (u ∷ us) = joined (length (u ∷ us)) [] (u ∷ us)
pieces_join (x ∷ xs) (u ∷ us) = joined (length (u ∷ us)) (x ∷ xs) (u ∷ us)

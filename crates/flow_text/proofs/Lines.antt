-- How lines and columns go on, unit by unit.
use Rattle.std.proofs.Common.{◌≡◌, ℕ, ◌+◌, ◌-◌, Bool, true, false, cond, not, List, [], ◌∷◌, ◌++◌, length, refl, ap, sym, ◌∙◌, arith}
use Rattle.std.proofs.lemmas.List.{reverse-append, map-id, length-drop}
use Rattle.std.proofs.lemmas.List.FromFn.{map-range_with_len_more}
use Rattle.std.proofs.lemmas.List.Sums.{sum_by-append, suffix_len-le-length}
use Rattle.std.specs.List.{range_with_len, count_by, after_last, suffix_len, prefix_len}
use Rattle.flow_text.specs.Places.{ends_line, line_of, column_of}

-- the next number is put behind
range_more : (n : ℕ) → range_with_len 0 (n + 1) ≡ range_with_len 0 n ++ n ∷ []
range_more n = sym (map-id (range_with_len 0 (n + 1))) ∙ map-range_with_len_more (λ k. k) 0 n n (omega arith) ∙ ap (λ (ks : List ℕ). ks ++ n ∷ []) (map-id (range_with_len 0 n))

-- one more element counts if it passes
count_more : (p : ℕ → Bool) (ks : List ℕ) (k : ℕ) → count_by p (ks ++ k ∷ []) ≡ count_by p ks + cond (p k) 1 0
count_more p ks k = sum_by-append (λ x. cond (p x) 1 0) ks (k ∷ []) ∙ ap (λ n. count_by p ks + n) (omega arith)

-- what stands after the last that passes is the longest end that doesn't
after_is_end : (p : ℕ → Bool) (ks : List ℕ) → length (after_last p ks) ≡ suffix_len (λ x. not (p x)) ks
after_is_end p ks = length-drop (length ks - suffix_len (λ x. not (p x)) ks) ks ∙ omega (arith, suffix_len-le-length (λ x. not (p x)) ks)

-- one more element that passes goes on with the longest end, and any other ends it
end_more : (p : ℕ → Bool) (ks : List ℕ) (k : ℕ) → suffix_len p (ks ++ k ∷ []) ≡ cond (p k) (1 + suffix_len p ks) 0
end_more p ks k = ap (prefix_len p) (reverse-append ks (k ∷ []))

-- one more element that passes leaves nothing behind it, and any other stands behind the last
after_more : (p : ℕ → Bool) (ks : List ℕ) (k : ℕ) → length (after_last p (ks ++ k ∷ [])) ≡ cond (p k) 0 (1 + length (after_last p ks))
after_more p ks k = rw (after_is_end p (ks ++ k ∷ []), after_is_end p ks, end_more (λ x. not (p x)) ks k) (flipped (p k) _)
  where
    flipped : (b : Bool) (n : ℕ) → cond (not b) (1 + n) 0 ≡ cond b 0 (1 + n)
    flipped true n = refl
    flipped false n = refl

-- at the beginning the line is the first
pub first_line : (text : List ℕ) → line_of text 0 ≡ 1
unfolding line_of
first_line text = refl

-- and so is the column
pub first_column : (text : List ℕ) → column_of text 0 ≡ 1
unfolding column_of
first_column text = refl

-- after a unit that ends a line the next line begins
pub line_after_end : (text : List ℕ) (i : ℕ) → ends_line text i ≡ true → line_of text (i + 1) ≡ line_of text i + 1
unfolding line_of
line_after_end text i is = rw (range_more i, count_more (ends_line text) (range_with_len 0 i) i, is) (omega arith)

-- and it begins at column 1
pub column_after_end : (text : List ℕ) (i : ℕ) → ends_line text i ≡ true → column_of text (i + 1) ≡ 1
unfolding column_of
column_after_end text i is = rw (range_more i, after_more (ends_line text) (range_with_len 0 i) i, is) refl

-- after any other unit the line goes on
pub line_goes_on : (text : List ℕ) (i : ℕ) → ends_line text i ≡ false → line_of text (i + 1) ≡ line_of text i
unfolding line_of
line_goes_on text i isnt = rw (range_more i, count_more (ends_line text) (range_with_len 0 i) i, isnt) (omega arith)

-- and its columns count on
pub column_goes_on : (text : List ℕ) (i : ℕ) → ends_line text i ≡ false → column_of text (i + 1) ≡ column_of text i + 1
unfolding column_of
column_goes_on text i isnt = rw (range_more i, after_more (ends_line text) (range_with_len 0 i) i, isnt) (omega arith)

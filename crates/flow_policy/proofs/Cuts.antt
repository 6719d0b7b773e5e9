-- Bytes that a byte cuts, and the lines and words that come of it.
use Rattle.std.proofs.Common.{arith, refl, sym, ap, ◌∙◌, eqb-true, inl, inr, ◌≡◌, ◌≢◌, ◌<◌, ℕ, Bool, true, false, cond, nat_lt, ◌==◌, not, List, [], ◌∷◌, ◌++◌, length, Option, Some, None, ltb-false}
use Rattle.std.specs.List.{slice_split, position, position_or_len, filter}
use Rattle.std.proofs.lemmas.Bool.{cond-true, cond-false, cases_Bool}
use Rattle.std.proofs.lemmas.List.Splits.{length-slice_split}
use Rattle.std.proofs.lemmas.List.Sums.{prefix_len-le-length}
use Rattle.std.specs.Option.{MatchOption, unwrap_or}
use denote.Ref.{Bor}
use Rattle.flow_policy.specs.Lines.{lines_of, lines_of_parts, without_cr, is_line_end}
use Rattle.flow_policy.specs.Words.{words_of, is_space}
use Rattle.flow_policy.specs.Words.{only_word, only_two}

unwrap_cond : (b : Bool) (n m : ℕ) → (b ≡ false → n ≡ m) → unwrap_or (cond b (Some n) None) m ≡ n
unwrap_cond true n m h = refl
unwrap_cond false n m h = sym (h refl)

-- the first place, or the length
pub position-unwrap : (p : ℕ → Bool) (xs : List ℕ) (o : Option ℕ) → o ≡ position p xs → unwrap_or o (length xs) ≡ position_or_len p xs
position-unwrap p xs o e =
    ap (λ (x : Option ℕ). unwrap_or x (length xs)) e
    ∙ unwrap_cond (nat_lt (position_or_len p xs) (length xs)) (position_or_len p xs) (length xs) (λ f. let ge = ltb-false (position_or_len p xs) (length xs) f in omega (arith, prefix_len-le-length (λ (x : ℕ). not (p x)) xs))

-- ---- lines

pub without_cr-push : (line : List ℕ) → without_cr (line ++ 13 ∷ []) ≡ line
unfolding without_cr
without_cr-push [] = refl
without_cr-push (b ∷ []) = refl
without_cr-push (b ∷ c ∷ line) = ap (λ (l : List ℕ). b ∷ l) (without_cr-push (c ∷ line))

pub without_cr-none : (line : List ℕ) → ((front : List ℕ) → line ≢ front ++ 13 ∷ []) → without_cr line ≡ line
unfolding without_cr
without_cr-none [] h = refl
without_cr-none (b ∷ []) h = elim (cases_Bool (b == 13)) as (λ _. without_cr (b ∷ []) ≡ b ∷ []) [
  | inl e ↦ absurd (h [] (ap (λ (x : ℕ). x ∷ []) (eqb-true b 13 e)))
  | inr e ↦ cond-false (b == 13) [] (b ∷ []) e
]
without_cr-none (b ∷ c ∷ line) h = ap (λ (l : List ℕ). b ∷ l) (without_cr-none (c ∷ line) (λ front e. h (b ∷ front) (ap (λ (l : List ℕ). b ∷ l) e)))

pub without_cr-is : (line : List ℕ) (d : Bor (List ℕ)) (o : Option (Bor (List ℕ))) → MatchOption o ((front : List ℕ) → line ≢ front ++ 13 ∷ []) (λ x. line ≡ x.now ++ 13 ∷ []) → d.now ≡ line → (unwrap_or o d).now ≡ without_cr line
without_cr-is line d None h e = e ∙ sym (without_cr-none line h)
without_cr-is line d (Some x) h e = sym (ap without_cr h ∙ without_cr-push x.now)

lines_of_parts-more : (part : List ℕ) (parts : List (List ℕ)) → 0 < length parts → lines_of_parts (part ∷ parts) ≡ without_cr part ∷ lines_of_parts parts
unfolding lines_of_parts
lines_of_parts-more part [] lt = absurd (omega arith)
lines_of_parts-more part (next ∷ parts) lt = refl

-- the first line ends at the first LF
pub lines_of-cut : (bytes line rest : List ℕ) → slice_split is_line_end bytes ≡ line ∷ slice_split is_line_end rest → lines_of bytes ≡ without_cr line ∷ lines_of rest
unfolding lines_of
lines_of-cut bytes line rest e = ap lines_of_parts e ∙ lines_of_parts-more line (slice_split is_line_end rest) (omega (arith, length-slice_split is_line_end rest))

pub lines_of-nil : lines_of [] ≡ []
unfolding lines_of lines_of_parts
lines_of-nil = refl

-- bytes without LF are one line
pub lines_of-one : (bytes : List ℕ) → slice_split is_line_end bytes ≡ bytes ∷ [] → (length bytes == 0) ≡ false → lines_of bytes ≡ bytes ∷ []
unfolding lines_of lines_of_parts
lines_of-one bytes e some = ap lines_of_parts e ∙ cond-false (length bytes == 0) [] (bytes ∷ []) some

pub lines_of-none : (bytes : List ℕ) → (length bytes == 0) ≡ true → lines_of bytes ≡ []
lines_of-none [] e = lines_of-nil
lines_of-none (b ∷ bytes) e = absurd (omega (arith, eqb-true (length (b ∷ bytes)) 0 e))

-- ---- words

-- a part before a space that is not empty is the first word
pub words_of-cut : (line word rest : List ℕ) → slice_split is_space line ≡ word ∷ slice_split is_space rest → (length word == 0) ≡ false → words_of line ≡ word ∷ words_of rest
unfolding words_of
words_of-cut line word rest e some =
    ap (filter (λ (w : List ℕ). not (length w == 0))) e ∙ cond-true (not (length word == 0)) (word ∷ words_of rest) (words_of rest) (ap not some)

pub words_of-skip : (line word rest : List ℕ) → slice_split is_space line ≡ word ∷ slice_split is_space rest → (length word == 0) ≡ true → words_of line ≡ words_of rest
unfolding words_of
words_of-skip line word rest e none =
    ap (filter (λ (w : List ℕ). not (length w == 0))) e ∙ cond-false (not (length word == 0)) (word ∷ words_of rest) (words_of rest) (ap not none)

pub words_of-one : (line : List ℕ) → slice_split is_space line ≡ line ∷ [] → (length line == 0) ≡ false → words_of line ≡ line ∷ []
unfolding words_of
words_of-one line e some =
    ap (filter (λ (w : List ℕ). not (length w == 0))) e ∙ cond-true (not (length line == 0)) (line ∷ []) [] (ap not some)

pub words_of-nil : words_of [] ≡ []
unfolding words_of
words_of-nil = refl

pub words_of-none : (line : List ℕ) → (length line == 0) ≡ true → words_of line ≡ []
words_of-none [] e = words_of-nil
words_of-none (b ∷ line) e = absurd (omega (arith, eqb-true (length (b ∷ line)) 0 e))

pub only_word-none : (words : List (List ℕ)) → words ≡ [] → only_word words ≡ None
unfolding only_word
only_word-none words e = ap only_word e

pub only_word-one : (words others : List (List ℕ)) (word : List ℕ) → words ≡ word ∷ others → others ≡ [] → only_word words ≡ Some word
unfolding only_word
only_word-one words others word e f = ap only_word (e ∙ ap (λ (ws : List (List ℕ)). word ∷ ws) f)

pub only_word-more : (words others more : List (List ℕ)) (word next : List ℕ) → words ≡ word ∷ others → others ≡ next ∷ more → only_word words ≡ None
unfolding only_word
only_word-more words others more word next e f = ap only_word (e ∙ ap (λ (ws : List (List ℕ)). word ∷ ws) f)

pub only_two-none : (words : List (List ℕ)) → words ≡ [] → only_two words ≡ None
unfolding only_two
only_two-none words e = ap only_two e

only_two-behind : (word : List ℕ) (others : List (List ℕ)) → only_word others ≡ None → only_two (word ∷ others) ≡ None
unfolding only_two only_word
only_two-behind word [] e = refl
only_two-behind word (next ∷ []) e = absurd cc
only_two-behind word (next ∷ third ∷ others) e = refl

only_two-at : (word second : List ℕ) (others : List (List ℕ)) → only_word others ≡ Some second → only_two (word ∷ others) ≡ Some (word, second)
unfolding only_two only_word
only_two-at word second [] e = absurd cc
only_two-at word second (next ∷ []) e = ap (λ (o : List ℕ). Some (word, o)) cc
only_two-at word second (next ∷ third ∷ others) e = absurd cc

pub only_two-not : (words others : List (List ℕ)) (word : List ℕ) → words ≡ word ∷ others → only_word others ≡ None → only_two words ≡ None
only_two-not words others word e f = ap only_two e ∙ only_two-behind word others f

pub only_two-two : (words others : List (List ℕ)) (word second : List ℕ) → words ≡ word ∷ others → only_word others ≡ Some second → only_two words ≡ Some (word, second)
only_two-two words others word second e f = ap only_two e ∙ only_two-at word second others f

-- Words that spaces cut.
use Rattle.std.proofs.Common.{refl, ◌≡◌, ◌+◌, ℕ, List, [], ◌∷◌, take, drop, Option, Some, None}
use Rattle.std.specs.List.{position}
use Rattle.flow_lists.proofs.Cuts.{cut_none, cut_at}
use Rattle.step_jumps.specs.Raising.{words_of, is_space, parts_of}

-- where there is no space, the units are the one word
pub word_alone : (xs : List ℕ) → position is_space xs ≡ None → words_of xs ≡ xs ∷ []
unfolding words_of
word_alone xs e = cut_none is_space xs e

-- the first word ends at the first space
pub word_at : (xs : List ℕ) (i : ℕ) → position is_space xs ≡ Some i → words_of xs ≡ take i xs ∷ words_of (drop (i + 1) xs)
unfolding words_of
word_at xs i e = (cut_at is_space xs i e).1

-- there is always a word
words_some : (xs : List ℕ) → (w : List ℕ) × (ws : List (List ℕ)) × (words_of xs ≡ w ∷ ws)
words_some xs = some (position is_space xs) refl
  where
    some : (p : Option ℕ) → position is_space xs ≡ p → (w : List ℕ) × (ws : List (List ℕ)) × (words_of xs ≡ w ∷ ws)
    some None e = (xs, [], word_alone xs e)
    some (Some i) e = (take i xs, words_of (drop (i + 1) xs), word_at xs i e)

-- five words are too many
pub five_words : (a b c d xs : List ℕ) → parts_of (a ∷ b ∷ c ∷ d ∷ words_of xs) ≡ None
five_words a b c d xs = let w = words_some xs in rw w.2 refl

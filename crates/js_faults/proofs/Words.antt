-- Words that spaces cut, and tests of names by their texts.
use Rattle.std.proofs.Common.{refl, ap, ◌≡◌, ◌+◌, ℕ, ◌||◌, List, [], ◌∷◌, take, drop, Option, Some, None}
use Rattle.std.specs.Str.{bytes_eq}
use Rattle.std.specs.List.{position, list_any}
use Rattle.flow_lists.proofs.Cuts.{cut_none, cut_at}
use Rattle.js_ast.specs.declared.trees.Ident.{Ident}
use Rattle.js_ast.specs.Views.{view_idents}
use Rattle.js_faults.specs.Directives.{words_of, is_space, parts_of}
use Rattle.js_faults.specs.Early.{has_text}

-- where there is no space, the units are the one word
pub word_alone : (xs : List ℕ) → position is_space xs ≡ None → words_of xs ≡ xs ∷ []
unfolding words_of
word_alone xs e = cut_none is_space xs e

-- the first word ends at the first space
pub word_at : (xs : List ℕ) (i : ℕ) → position is_space xs ≡ Some i → words_of xs ≡ take i xs ∷ words_of (drop (i + 1) xs)
unfolding words_of
word_at xs i e = (cut_at is_space xs i e).1

-- a name among the views of names is one among them
pub has_text_is : (text : List ℕ) (is : List Ident) → has_text text (view_idents is) ≡ list_any (λ i. bytes_eq i.text text) is
has_text_is text [] = refl
has_text_is text (i ∷ is) = ap (λ b. bytes_eq i.text text || b) (has_text_is text is)

-- there is always a word
pub words_some : (xs : List ℕ) → (w : List ℕ) × (ws : List (List ℕ)) × (words_of xs ≡ w ∷ ws)
words_some xs = some (position is_space xs) refl
  where
    some : (p : Option ℕ) → position is_space xs ≡ p → (w : List ℕ) × (ws : List (List ℕ)) × (words_of xs ≡ w ∷ ws)
    some None e = (xs, [], word_alone xs e)
    some (Some i) e = (take i xs, words_of (drop (i + 1) xs), word_at xs i e)

-- five words are too many
pub five_words : (a b c d xs : List ℕ) → parts_of (a ∷ b ∷ c ∷ d ∷ words_of xs) ≡ None
five_words a b c d xs = let w = words_some xs in rw w.2 refl

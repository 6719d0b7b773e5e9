-- Lists of parts, with the rows that `clap` keeps for them.
use Rattle.std.proofs.Common.{◌≡◌, ◌∙◌, ◌<◌, ◌≤◌, ◌+◌, ◌||◌, ℕ, Bool, cond, true, false, zero, suc, refl, sym, ap, arith, List, [], ◌∷◌, ◌++◌, length, Option, Some, None, option_map, is_some, find, true≢false, bytes_eq}
use Rattle.std.specs.Prelude.{slice_get, option_and_then}
use Rattle.std.specs.List.{list_all}
use Rattle.std.specs.Option.{option_map_or}
use Rattle.std.proofs.lemmas.Slice.Eq.{bytes_eq-Decides}
use Rattle.std.proofs.lemmas.Bool.{or_from, or_parts}
use Rattle.clap.specs.Walk.{Row, Text, at_row, first_of, has_row}
use Rattle.clap.specs.Takes.{is_given}
use Rattle.clap.specs.Facts.{explicit_source}
use Rattle.clap.specs.declared.parser.matches.ValueSource.TheVariants.{CommandLine}
use Rattle.clap.specs.declared.builder.value_parser.Reading.TheVariants.{AsWritten}
use Rattle.clap.proofs.WalkLemmas.{both}
use Rattle.command_line.specs.Commands.{Word, Part, an_option, a_word, words_in, values_of, is_known}

-- ---- names

pub same_name : (a b : Text) → bytes_eq a b ≡ true → a ≡ b
same_name a b e = (bytes_eq-Decides a b).0 e

pub name_is : (a b : Text) → a ≡ b → bytes_eq a b ≡ true
name_is a b e = (bytes_eq-Decides a b).1 e

-- a name that is known isn't one that isn't
pub differ : (known : Text → Bool) (a b : Text) → known a ≡ true → known b ≡ false → bytes_eq a b ≡ false
differ known a b p q = go (bytes_eq a b) refl
  where
    go : (c : Bool) → bytes_eq a b ≡ c → bytes_eq a b ≡ false
    go false e = e
    go true e = absurd (true≢false (sym p ∙ ap known (same_name a b e) ∙ q))

pub swapped : (a b : Text) → bytes_eq a b ≡ false → bytes_eq b a ≡ false
swapped a b p = go (bytes_eq b a) refl
  where
    go : (c : Bool) → bytes_eq b a ≡ c → bytes_eq b a ≡ false
    go false e = e
    go true e = absurd (true≢false (sym (name_is a b (sym (same_name b a e))) ∙ p))

-- ---- rows

abbrev pub id_at : List Text → ℕ → Text
id_at [] i = []
id_at (id ∷ ids) zero = id
id_at (id ∷ ids) (suc i) = id_at ids i

-- what is kept of a use with a value
abbrev pub a_row : Text → Text → Row
a_row id value = record { id = id; values = value ∷ []; count = None; source = Some CommandLine; reading = AsWritten }

-- the rows of parts, whose first word is the i-th
abbrev pub rows_from : List Text → ℕ → List Part → List Row
rows_from ids i [] = []
rows_from ids i (an_option name value ∷ parts) = a_row name value ∷ rows_from ids i parts
rows_from ids i (a_word word ∷ parts) = a_row (id_at ids i) word ∷ rows_from ids (suc i) parts

-- the number of the word after these parts
abbrev pub after : ℕ → List Part → ℕ
after i [] = i
after i (an_option name value ∷ parts) = after i parts
after i (a_word word ∷ parts) = after (suc i) parts

pub after_words : (parts : List Part) (i : ℕ) → after i parts ≡ i + length (words_in parts)
after_words [] i = omega arith
after_words (an_option name value ∷ parts) i = after_words parts i
after_words (a_word word ∷ parts) i =
    let later : after (suc i) parts ≡ suc i + length (words_in parts) = after_words parts (suc i) in
    omega arith

pub after-append : (xs ys : List Part) (i : ℕ) → after i (xs ++ ys) ≡ after (after i xs) ys
after-append [] ys i = refl
after-append (an_option name value ∷ xs) ys i = after-append xs ys i
after-append (a_word word ∷ xs) ys i = after-append xs ys (suc i)

pub rows_push_option : (ids : List Text) (parts : List Part) (i : ℕ) (name value : Word)
    → rows_from ids i (parts ++ an_option name value ∷ []) ≡ rows_from ids i parts ++ a_row name value ∷ []
rows_push_option ids [] i name value = refl
rows_push_option ids (an_option n v ∷ parts) i name value = ap (λ rows. a_row n v ∷ rows) (rows_push_option ids parts i name value)
rows_push_option ids (a_word w ∷ parts) i name value = ap (λ rows. a_row (id_at ids i) w ∷ rows) (rows_push_option ids parts (suc i) name value)

pub rows_push_word : (ids : List Text) (parts : List Part) (i : ℕ) (word : Word)
    → rows_from ids i (parts ++ a_word word ∷ []) ≡ rows_from ids i parts ++ a_row (id_at ids (after i parts)) word ∷ []
rows_push_word ids [] i word = refl
rows_push_word ids (an_option n v ∷ parts) i word = ap (λ rows. a_row n v ∷ rows) (rows_push_word ids parts i word)
rows_push_word ids (a_word w ∷ parts) i word = ap (λ rows. a_row (id_at ids i) w ∷ rows) (rows_push_word ids parts (suc i) word)

-- an id that has no row
pub no_row : (id : Text) (change : Row → List Row) (missing rows : List Row) → has_row id rows ≡ false → at_row id change missing rows ≡ rows ++ missing
no_row id change missing [] e = refl
no_row id change missing (r ∷ rs) e =
    let apart = or_parts (bytes_eq r.id id) (has_row id rs) e in
    (λ i. cond (apart.0 i) (change r ++ rs) (r ∷ at_row id change missing rs)) ∙ ap (λ rows. r ∷ rows) (no_row id change missing rs apart.1)

-- ---- values

pub words-append : (xs ys : List Part) → words_in (xs ++ ys) ≡ words_in xs ++ words_in ys
words-append [] ys = refl
words-append (an_option name value ∷ xs) ys = words-append xs ys
words-append (a_word word ∷ xs) ys = ap (λ words. word ∷ words) (words-append xs ys)

pub values-append : (wanted : Word) (xs ys : List Part) → values_of wanted (xs ++ ys) ≡ values_of wanted xs ++ values_of wanted ys
values-append wanted [] ys = refl
values-append wanted (an_option name value ∷ xs) ys = go (bytes_eq name wanted) (values-append wanted xs ys)
  where
    go : (b : Bool) → values_of wanted (xs ++ ys) ≡ values_of wanted xs ++ values_of wanted ys
        → cond b (value ∷ values_of wanted (xs ++ ys)) (values_of wanted (xs ++ ys)) ≡ cond b (value ∷ values_of wanted xs) (values_of wanted xs) ++ values_of wanted ys
    go true ih = ap (λ values. value ∷ values) ih
    go false ih = ih
values-append wanted (a_word word ∷ xs) ys = values-append wanted xs ys

-- ---- rows and values

module _ (known : Text → Bool) (ids : List Text) (apart : (i : ℕ) → known (id_at ids i) ≡ false) where
  -- a row of an option comes of a value
  pub some_values : (name : Text) → known name ≡ true → (parts : List Part) (i : ℕ) → has_row name (rows_from ids i parts) ≡ true → 1 ≤ length (values_of name parts)
  some_values name p [] i e = absurd (true≢false (sym e))
  some_values name p (an_option n v ∷ parts) i e = go (bytes_eq n name) e (some_values name p parts i)
    where
      go : (b : Bool) → (b || has_row name (rows_from ids i parts)) ≡ true → (has_row name (rows_from ids i parts) ≡ true → 1 ≤ length (values_of name parts))
          → 1 ≤ length (cond b (v ∷ values_of name parts) (values_of name parts))
      go true f ih = omega arith
      go false f ih = ih f
  some_values name p (a_word w ∷ parts) i e =
      let miss : bytes_eq (id_at ids i) name ≡ false = swapped name (id_at ids i) (differ known name (id_at ids i) p (apart i)) in
      let past : has_row name (rows_from ids i (a_word w ∷ parts)) ≡ has_row name (rows_from ids (suc i) parts) = λ j. miss j || has_row name (rows_from ids (suc i) parts) in
      some_values name p parts (suc i) (sym past ∙ e)

  pub no_values : (name : Text) → known name ≡ true → (parts : List Part) (i : ℕ) → has_row name (rows_from ids i parts) ≡ false → values_of name parts ≡ []
  no_values name p [] i e = refl
  no_values name p (an_option n v ∷ parts) i e = go (bytes_eq n name) e (no_values name p parts i)
    where
      go : (b : Bool) → (b || has_row name (rows_from ids i parts)) ≡ false → (has_row name (rows_from ids i parts) ≡ false → values_of name parts ≡ [])
          → cond b (v ∷ values_of name parts) (values_of name parts) ≡ []
      go true f ih = absurd (true≢false f)
      go false f ih = ih f
  no_values name p (a_word w ∷ parts) i e = no_values name p parts (suc i) (or_parts (bytes_eq (id_at ids i) name) (has_row name (rows_from ids (suc i) parts)) e).1

  -- the id of a word that is still to come has no row
  pub new_place : (k : ℕ) → ((j : ℕ) → j < k → bytes_eq (id_at ids j) (id_at ids k) ≡ false) → (parts : List Part) (i : ℕ) → after i parts ≤ k
      → list_all (is_known known) parts ≡ true → has_row (id_at ids k) (rows_from ids i parts) ≡ false
  new_place k fresh [] i le all = refl
  new_place k fresh (an_option n v ∷ parts) i le all =
      let split = both (known n) (list_all (is_known known) parts) all in
      or_from (bytes_eq n (id_at ids k)) (has_row (id_at ids k) (rows_from ids i parts)) (differ known n (id_at ids k) split.0 (apart k)) (new_place k fresh parts i le split.1)
  new_place k fresh (a_word w ∷ parts) i le all =
      let grows : after (suc i) parts ≡ suc i + length (words_in parts) = after_words parts (suc i) in
      let lt : i < k = omega arith in
      or_from (bytes_eq (id_at ids i) (id_at ids k)) (has_row (id_at ids k) (rows_from ids (suc i) parts)) (fresh i lt) (new_place k fresh parts (suc i) le all)

  -- the row of an option, and that of the t-th word
  pub find_option : (name : Text) → known name ≡ true → (parts : List Part) (i : ℕ)
      → find (λ (r : Row). bytes_eq r.id name) (rows_from ids i parts) ≡ option_map (a_row name) (slice_get (values_of name parts) 0)
  find_option name p [] i = refl
  find_option name p (an_option n v ∷ parts) i = go (bytes_eq n name) refl (find_option name p parts i)
    where
      go : (b : Bool) → bytes_eq n name ≡ b → find (λ (r : Row). bytes_eq r.id name) (rows_from ids i parts) ≡ option_map (a_row name) (slice_get (values_of name parts) 0)
          → cond b (Some (a_row n v)) (find (λ (r : Row). bytes_eq r.id name) (rows_from ids i parts)) ≡ option_map (a_row name) (slice_get (cond b (v ∷ values_of name parts) (values_of name parts)) 0)
      go true e ih = ap (λ m. Some (a_row m v)) (same_name n name e)
      go false e ih = ih
  find_option name p (a_word w ∷ parts) i =
      let miss : bytes_eq (id_at ids i) name ≡ false = swapped name (id_at ids i) (differ known name (id_at ids i) p (apart i)) in
      (λ j. cond (miss j) (Some (a_row (id_at ids i) w)) (find (λ (r : Row). bytes_eq r.id name) (rows_from ids (suc i) parts))) ∙ find_option name p parts (suc i)

  pub find_word : (t : ℕ) → ((j : ℕ) → j < t → bytes_eq (id_at ids j) (id_at ids t) ≡ false) → (parts : List Part) (i k : ℕ) → t ≡ i + k
      → list_all (is_known known) parts ≡ true → find (λ (r : Row). bytes_eq r.id (id_at ids t)) (rows_from ids i parts) ≡ option_map (a_row (id_at ids t)) (slice_get (words_in parts) k)
  find_word t fresh [] i k is all = refl
  find_word t fresh (an_option n v ∷ parts) i k is all =
      let split = both (known n) (list_all (is_known known) parts) all in
      let miss : bytes_eq n (id_at ids t) ≡ false = differ known n (id_at ids t) split.0 (apart t) in
      (λ j. cond (miss j) (Some (a_row n v)) (find (λ (r : Row). bytes_eq r.id (id_at ids t)) (rows_from ids i parts))) ∙ find_word t fresh parts i k is split.1
  find_word t fresh (a_word w ∷ parts) i zero is all =
      let same : i ≡ t = omega arith in
      let hit : bytes_eq (id_at ids i) (id_at ids t) ≡ true = name_is (id_at ids i) (id_at ids t) (ap (id_at ids) same) in
      (λ j. cond (hit j) (Some (a_row (id_at ids i) w)) (find (λ (r : Row). bytes_eq r.id (id_at ids t)) (rows_from ids (suc i) parts))) ∙ ap (λ m. Some (a_row (id_at ids m) w)) same
  find_word t fresh (a_word w ∷ parts) i (suc k) is all =
      let lt : i < t = omega arith in
      let later : t ≡ suc i + k = omega arith in
      (λ j. cond (fresh i lt j) (Some (a_row (id_at ids i) w)) (find (λ (r : Row). bytes_eq r.id (id_at ids t)) (rows_from ids (suc i) parts))) ∙ find_word t fresh parts (suc i) k later all

-- what a row says
pub first_is : (id : Text) (rows : List Row) (o : Option Word) → find (λ (r : Row). bytes_eq r.id id) rows ≡ option_map (a_row id) o → first_of id rows ≡ o
first_is id rows o e = ap (option_and_then (λ (r : Row). slice_get r.values 0)) e ∙ go o
  where
    go : (p : Option Word) → option_and_then (λ (r : Row). slice_get r.values 0) (option_map (a_row id) p) ≡ p
    go None = refl
    go (Some w) = refl

pub given_is : (id : Text) (rows : List Row) (o : Option Word) → find (λ (r : Row). bytes_eq r.id id) rows ≡ option_map (a_row id) o → is_given id rows ≡ is_some o
given_is id rows o e = ap (λ p. option_map_or (λ (r : Row). explicit_source r.source) p false) e ∙ go o
  where
    go : (p : Option Word) → option_map_or (λ (r : Row). explicit_source r.source) (option_map (a_row id) p) false ≡ is_some p
    go None = refl
    go (Some w) = refl

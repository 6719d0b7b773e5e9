-- Parts that make a command, and parts that make none.
use Rattle.std.proofs.Common.{◌≡◌, ◌∙◌, ◌≤◌, ◌+◌, ◌&&◌, ℕ, Bool, cond, true, false, refl, sym, ap, subst, arith, List, [], ◌∷◌, ◌++◌, length, Option, Some, None, append_assoc, length-append}
use Rattle.std.specs.Prelude.{⊤, nat_le}
use Rattle.std.specs.Str.Parse.{digits_value}
use Rattle.std.specs.List.{list_all, onto_first, slice_split}
use Rattle.std.proofs.lemmas.Bool.{and_left, and_right}
use Rattle.std.proofs.lemmas.List.Folds.{list_all-append}
use Rattle.clap.specs.Walk.{Row, Text}
use Rattle.clap.specs.Kinds.{Kinds}
use Rattle.flow_lists.specs.Lists.{are_names, is_comma, names_in}
use Rattle.flow_lists.specs.Names.{is_name, is_name_unit}
use Rattle.command_line.specs.Commands.{Word, Part, an_option, a_word, and_part, words_in, values_of, is_known, is_digit, number_to, most_turns, turns_in, observer_in}
use Rattle.command_line.proofs.Shapes.{IsHyphened}
use Rattle.command_line.proofs.Parts.{after, after_words, name_is, rows_from, values-append, words-append}

-- values of an option that state nothing
abbrev pub IsSpoilt : List Word → Type 0
IsSpoilt values = (turns_in values ≡ None) × (observer_in values ≡ None)

-- why parts make no command with n words and options with known names
pub data Faulty (known : Word → Bool) (n : ℕ) (parts : List Part) : Type 0 where
  unknown : list_all (is_known known) parts ≡ false → Faulty known n parts
  miscounted : (length (words_in parts) ≡ n → ⊥) → Faulty known n parts
  spoilt : (name : Word) → known name ≡ true → IsSpoilt (values_of name parts) → Faulty known n parts

-- the parts have n words, and options with known names, each at most once
pub record Good (known : Word → Bool) (n : ℕ) (parts : List Part) : Type 0 where
  pub all_known : list_all (is_known known) parts ≡ true
  pub count : length (words_in parts) ≡ n
  pub single : (wanted : Word) → length (values_of wanted parts) ≤ 1

-- behind these parts, words make no command
abbrev pub Refuses : (Word → Bool) → ℕ → List Part → Option (List Part) → Type 0
Refuses known n parts None = ⊤
Refuses known n parts (Some more) = Faulty known n (parts ++ more)

-- ---- values that begin with `-`

hyphen_number : (most : ℕ) (u : ℕ) (us : Word) → number_to most (45 ∷ u ∷ us) ≡ None
unfolding number_to
hyphen_number most u us =
    let word : Word = 45 ∷ u ∷ us in
    let spelled : ((nat_le 1 (length word) && nat_le (length word) 10) && list_all is_digit word) ≡ false = and_right (nat_le 1 (length word) && nat_le (length word) 10) (list_all is_digit word) refl in
    λ i. cond ((spelled i && nat_le 1 (digits_value 10 word)) && nat_le (digits_value 10 word) most) (Some (digits_value 10 word)) None

hyphen_name : (parts : List Word) → list_all is_name (onto_first 45 parts) ≡ false
unfolding is_name
hyphen_name [] = refl
hyphen_name (part ∷ parts) =
    let word : Word = 45 ∷ part in
    let spelled : ((nat_le 1 (length word) && nat_le (length word) 32) && list_all is_name_unit word) ≡ false = and_right (nat_le 1 (length word) && nat_le (length word) 32) (list_all is_name_unit word) refl in
    λ i. spelled i && list_all is_name parts

hyphen_names : (u : ℕ) (us : Word) → are_names (45 ∷ u ∷ us) ≡ false
unfolding names_in
hyphen_names u us = hyphen_name (slice_split is_comma (u ∷ us))

hyphen_spoils : (value : Word) → IsHyphened value → IsSpoilt (value ∷ [])
hyphen_spoils value h =
    let word : Word = 45 ∷ h.0 ∷ h.1 in
    let same : observer_in (value ∷ []) ≡ observer_in (word ∷ []) = ap (λ (w : Word). observer_in (w ∷ [])) h.2 in
    let none : observer_in (word ∷ []) ≡ None = λ i. cond (hyphen_names h.0 h.1 i) (Some (Some word)) None in
    (ap (number_to most_turns) h.2 ∙ hyphen_number most_turns h.0 h.1, same ∙ none)

hyphen_among : (front : List Word) (value : Word) (rest : List Word) → IsHyphened value → IsSpoilt (front ++ value ∷ rest)
hyphen_among [] value [] h = hyphen_spoils value h
hyphen_among [] value (x ∷ rest) h = (refl, refl)
hyphen_among (x ∷ []) value rest h = (refl, refl)
hyphen_among (x ∷ y ∷ front) value rest h = (refl, refl)

two_spoil : (values : List Word) → 2 ≤ length values → IsSpoilt values
two_spoil [] le = absurd (omega arith)
two_spoil (x ∷ []) le = absurd (omega arith)
two_spoil (x ∷ y ∷ values) le = (refl, refl)

-- ---- a part that is at fault

module _ (known : Word → Bool) (n : ℕ) (front : List Part) where
  pub faulty_name : (name value : Word) → known name ≡ false → (rest : List Part) → Faulty known n (front ++ an_option name value ∷ rest)
  faulty_name name value e rest = unknown (list_all-append (is_known known) front (an_option name value ∷ rest)
      ∙ and_right (list_all (is_known known) front) (list_all (is_known known) (an_option name value ∷ rest)) (and_left (known name) (list_all (is_known known) rest) e))

  pub faulty_word : (word : Word) → n ≤ after 0 front → (rest : List Part) → Faulty known n (front ++ a_word word ∷ rest)
  faulty_word word le rest = miscounted (λ e.
      let whole : length (words_in (front ++ a_word word ∷ rest)) ≡ length (words_in front) + length (word ∷ words_in rest) =
      ap length (words-append front (a_word word ∷ rest)) ∙ length-append (words_in front) (word ∷ words_in rest) in
      let here : after 0 front ≡ 0 + length (words_in front) = after_words front 0 in
      omega arith)

  values_here : (name value : Word) (rest : List Part) → values_of name (front ++ an_option name value ∷ rest) ≡ values_of name front ++ value ∷ values_of name rest
  values_here name value rest = values-append name front (an_option name value ∷ rest)
      ∙ ap (λ b. values_of name front ++ cond b (value ∷ values_of name rest) (values_of name rest)) (name_is name name refl)

  pub faulty_twice : (name value : Word) → known name ≡ true → 1 ≤ length (values_of name front) → (rest : List Part) → Faulty known n (front ++ an_option name value ∷ rest)
  faulty_twice name value p le rest =
      let long : length (values_of name front ++ value ∷ values_of name rest) ≡ length (values_of name front) + length (value ∷ values_of name rest) =
      length-append (values_of name front) (value ∷ values_of name rest) in
      let two : 2 ≤ length (values_of name front ++ value ∷ values_of name rest) = omega arith in
      spoilt name p (subst IsSpoilt (sym (values_here name value rest)) (two_spoil (values_of name front ++ value ∷ values_of name rest) two))

  pub faulty_hyphen : (name value : Word) → known name ≡ true → IsHyphened value → (rest : List Part) → Faulty known n (front ++ an_option name value ∷ rest)
  faulty_hyphen name value p h rest =
      spoilt name p (subst IsSpoilt (sym (values_here name value rest)) (hyphen_among (values_of name front) value (values_of name rest) h))

  pub refuses_part : (part : Part) → ((rest : List Part) → Faulty known n (front ++ part ∷ rest)) → (o : Option (List Part)) → Refuses known n front (and_part part o)
  refuses_part part h None = tt
  refuses_part part h (Some rest) = h rest

  pub refuses_more : (part : Part) (o : Option (List Part)) → Refuses known n (front ++ part ∷ []) o → Refuses known n front (and_part part o)
  refuses_more part None h = tt
  refuses_more part (Some rest) h = subst (Faulty known n) (append_assoc front (part ∷ []) rest) h

-- ---- what comes of words behind parts

pub data Came (known : Word → Bool) (ids : List Text) (fault : Kinds) (rows : List Row) (parts : List Part) (o : Option (List Part)) : Type 0 where
  took : (more : List Part) → o ≡ Some more → fault ≡ [] → rows ≡ rows_from ids 0 (parts ++ more) → Good known (length ids) (parts ++ more) → Came known ids fault rows parts o
  fell : (fault ≡ [] → ⊥) → Refuses known (length ids) parts o → Came known ids fault rows parts o

module _ (known : Word → Bool) (ids : List Text) (fault later : Kinds) (rows last : List Row) (same : fault ≡ later) (same_rows : rows ≡ last) where
  pub came_as : (parts : List Part) (o : Option (List Part)) → Came known ids later last parts o → Came known ids fault rows parts o
  came_as parts o (took more e f r g) = took more e (same ∙ f) (same_rows ∙ r) g
  came_as parts o (fell f h) = fell (λ e. f (sym same ∙ e)) h

  -- one more part
  pub came_more : (parts : List Part) (part : Part) (o : Option (List Part)) → Came known ids later last (parts ++ part ∷ []) o → Came known ids fault rows parts (and_part part o)
  came_more parts part o (took more e f r g) = took (part ∷ more) (ap (and_part part) e) (same ∙ f)
      (same_rows ∙ r ∙ ap (rows_from ids 0) (append_assoc parts (part ∷ []) more)) (subst (Good known (length ids)) (append_assoc parts (part ∷ []) more) g)
  came_more parts part o (fell f h) = fell (λ e. f (sym same ∙ e)) (refuses_more known (length ids) parts part o h)

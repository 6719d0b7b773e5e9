-- What the rows of the words behind a command word say, and what the definition says of the words.
use Rattle.std.proofs.Common.{◌≡◌, ◌∙◌, ◌<◌, ◌≤◌, ◌+◌, ◌||◌, ◌⊎◌, ⊎_elim, inl, inr, ℕ, Bool, cond, true, false, refl, sym, ap, arith, List, [], ◌∷◌, length, Option, Some, None, option_map, true≢false, codes}
use Rattle.std.specs.Prelude.{slice_get}
use Rattle.clap.specs.Walk.{Rule, Text, first_of}
use Rattle.flow_lists.specs.Lists.{are_names}
use Rattle.command_line.specs.Commands.{Word, Part, a_pair, a_run, are_known, is_observer, is_turns, observer_in, only_word, pair, pair_of, run, run_of, turns_in, values_of, words_in}
use Rattle.command_line.specs.Reading.{observer_by, pair_by, pair_read, run_by, run_read, turns_by}
use Rattle.command_line.proofs.Parts.{find_option, find_word, first_is, id_at, rows_from, same_name}
use Rattle.command_line.proofs.Tables.{Table, none_known, one_ids, one_rules, one_table, pair_ids, pair_rules, pair_table, run_ids, run_known, run_rules, run_table}
use Rattle.command_line.proofs.Faulty.{Faulty, Good, miscounted, spoilt, unknown}

turns_same : (values : List Word) → length values ≤ 1 → turns_by (slice_get values 0) ≡ turns_in values
turns_same [] le = refl
turns_same (x ∷ []) le = refl
turns_same (x ∷ y ∷ values) le = absurd (omega arith)

observer_same : (values : List Word) → length values ≤ 1 → observer_by (slice_get values 0) ≡ observer_in values
observer_same [] le = refl
observer_same (x ∷ []) le = refl
observer_same (x ∷ y ∷ values) le = absurd (omega arith)

if_none : {X : Type 0} (b : Bool) (o : Option X) → o ≡ None → cond b o None ≡ None
if_none true o e = e
if_none false o e = refl

either : (a b : Bool) → (a || b) ≡ true → (a ≡ true) ⊎ (b ≡ true)
either true b e = inl refl
either false b e = inr e

module _ (rules : List Rule) (known : Text → Bool) (ids : List Text) (t : Table rules known ids) (parts : List Part) (good : Good known (length ids) parts) where
  -- the j-th word, and the value of an option
  word_read : (j : ℕ) → j < length ids → first_of (id_at ids j) (rows_from ids 0 parts) ≡ slice_get (words_in parts) j
  word_read j lt =
      let same : j ≡ 0 + j = omega arith in
      first_is (id_at ids j) (rows_from ids 0 parts) (slice_get (words_in parts) j)
      (find_word known ids t.apart j (λ i less. t.distinct i j less lt) parts 0 j same good.all_known)

  value_read : (name : Word) → known name ≡ true → first_of name (rows_from ids 0 parts) ≡ slice_get (values_of name parts) 0
  value_read name e = first_is name (rows_from ids 0 parts) (slice_get (values_of name parts) 0) (find_option known ids t.apart name e parts 0)

-- ---- `run`

run_same : (script policy input : Word) (turns : Option ℕ) (observer : Option (Option Word))
    → option_map run (run_by (Some script) (Some policy) (Some input) turns observer) ≡ a_run script policy input turns observer
run_same script policy input (Some turns) (Some observer) = refl
run_same script policy input (Some turns) None = refl
run_same script policy input None observer = refl

pub run_reads : (parts : List Part) → Good run_known 3 parts → option_map run (run_read (rows_from run_ids 0 parts)) ≡ run_of (words_in parts) parts
unfolding run_read
run_reads parts good =
    let turns : first_of (codes "turns") (rows_from run_ids 0 parts) ≡ slice_get (values_of (codes "turns") parts) 0 =
    value_read run_rules run_known run_ids run_table parts good (codes "turns") refl in
    let observer : first_of (codes "observer") (rows_from run_ids 0 parts) ≡ slice_get (values_of (codes "observer") parts) 0 =
    value_read run_rules run_known run_ids run_table parts good (codes "observer") refl in
    let first : first_of (codes "script") (rows_from run_ids 0 parts) ≡ slice_get (words_in parts) 0 = word_read run_rules run_known run_ids run_table parts good 0 (omega arith) in
    let second : first_of (codes "policy") (rows_from run_ids 0 parts) ≡ slice_get (words_in parts) 1 = word_read run_rules run_known run_ids run_table parts good 1 (omega arith) in
    let third : first_of (codes "input") (rows_from run_ids 0 parts) ≡ slice_get (words_in parts) 2 = word_read run_rules run_known run_ids run_table parts good 2 (omega arith) in
    (λ i. option_map run (run_by (first i) (second i) (third i) (turns_by (turns i)) (observer_by (observer i)))) ∙ go (words_in parts) good.count
  where
    go : (words : List Word) → length words ≡ 3
        → option_map run (run_by (slice_get words 0) (slice_get words 1) (slice_get words 2) (turns_by (slice_get (values_of (codes "turns") parts) 0))
        (observer_by (slice_get (values_of (codes "observer") parts) 0))) ≡ run_of words parts
    go (a ∷ b ∷ c ∷ []) e =
        run_same a b c (turns_by (slice_get (values_of (codes "turns") parts) 0)) (observer_by (slice_get (values_of (codes "observer") parts) 0))
        ∙ (λ i. a_run a b c (turns_same (values_of (codes "turns") parts) (good.single (codes "turns")) i) (observer_same (values_of (codes "observer") parts) (good.single (codes "observer")) i))
        ∙ sym (ap (λ x. cond x (a_run a b c (turns_in (values_of (codes "turns") parts)) (observer_in (values_of (codes "observer") parts))) None) good.all_known)
    go [] e = absurd (omega arith)
    go (a ∷ []) e = absurd (omega arith)
    go (a ∷ b ∷ []) e = absurd (omega arith)
    go (a ∷ b ∷ c ∷ d ∷ words) e = absurd (omega arith)

run_no_turns : (script policy input : Word) (turns : Option ℕ) (observer : Option (Option Word)) → turns ≡ None → a_run script policy input turns observer ≡ None
run_no_turns script policy input turns observer e = ap (λ x. a_run script policy input x observer) e

run_no_observer : (script policy input : Word) (turns : Option ℕ) (observer : Option (Option Word)) → observer ≡ None → a_run script policy input turns observer ≡ None
run_no_observer script policy input turns observer e = ap (a_run script policy input turns) e ∙ go turns
  where
    go : (x : Option ℕ) → a_run script policy input x None ≡ None
    go None = refl
    go (Some n) = refl

run_by_words : (parts : List Part) (words : List Word)
    → ((a b c : Word) → cond (are_known run_known parts) (a_run a b c (turns_in (values_of (codes "turns") parts)) (observer_in (values_of (codes "observer") parts))) None ≡ None)
    → run_of words parts ≡ None
run_by_words parts [] h = refl
run_by_words parts (a ∷ []) h = refl
run_by_words parts (a ∷ b ∷ []) h = refl
run_by_words parts (a ∷ b ∷ c ∷ []) h = h a b c
run_by_words parts (a ∷ b ∷ c ∷ d ∷ words) h = refl

run_count : (parts : List Part) (words : List Word) → (length words ≡ 3 → ⊥) → run_of words parts ≡ None
run_count parts [] h = refl
run_count parts (a ∷ []) h = refl
run_count parts (a ∷ b ∷ []) h = refl
run_count parts (a ∷ b ∷ c ∷ []) h = absurd (h refl)
run_count parts (a ∷ b ∷ c ∷ d ∷ words) h = refl

pub run_refuses : (parts : List Part) → Faulty run_known 3 parts → run_of (words_in parts) parts ≡ None
run_refuses parts (unknown e) = run_by_words parts (words_in parts)
    (λ a b c. ap (λ x. cond x (a_run a b c (turns_in (values_of (codes "turns") parts)) (observer_in (values_of (codes "observer") parts))) None) e)
run_refuses parts (miscounted h) = run_count parts (words_in parts) h
run_refuses parts (spoilt name e bad) = ⊎_elim
    (λ is. run_by_words parts (words_in parts) (λ a b c. if_none (are_known run_known parts) _ (run_no_turns a b c _ _
    (sym (ap (λ m. turns_in (values_of m parts)) (same_name name (codes "turns") is)) ∙ bad.0))))
    (λ is. run_by_words parts (words_in parts) (λ a b c. if_none (are_known run_known parts) _ (run_no_observer a b c _ _
    (sym (ap (λ m. observer_in (values_of m parts)) (same_name name (codes "observer") is)) ∙ bad.1))))
    (either (is_turns name) (is_observer name) e)

-- ---- `pair`

pair_same : (script policy first second observer : Word) (turns : Option ℕ)
    → option_map pair (pair_by (Some script) (Some policy) (Some first) (Some second) (Some observer) turns) ≡ a_pair script policy first second observer turns
pair_same script policy first second observer None = refl
pair_same script policy first second observer (Some turns) = go (are_names observer)
  where
    go : (b : Bool) → option_map pair (cond b (Some (record { script = script; policy = policy; first = first; second = second; observer = observer; turns = turns })) None)
        ≡ cond b (Some (pair (record { script = script; policy = policy; first = first; second = second; observer = observer; turns = turns }))) None
    go true = refl
    go false = refl

pub pair_reads : (parts : List Part) → Good is_turns 5 parts → option_map pair (pair_read (rows_from pair_ids 0 parts)) ≡ pair_of (words_in parts) parts
unfolding pair_read
pair_reads parts good =
    let turns : first_of (codes "turns") (rows_from pair_ids 0 parts) ≡ slice_get (values_of (codes "turns") parts) 0 =
    value_read pair_rules is_turns pair_ids pair_table parts good (codes "turns") refl in
    let w0 : first_of (codes "script") (rows_from pair_ids 0 parts) ≡ slice_get (words_in parts) 0 = word_read pair_rules is_turns pair_ids pair_table parts good 0 (omega arith) in
    let w1 : first_of (codes "policy") (rows_from pair_ids 0 parts) ≡ slice_get (words_in parts) 1 = word_read pair_rules is_turns pair_ids pair_table parts good 1 (omega arith) in
    let w2 : first_of (codes "first") (rows_from pair_ids 0 parts) ≡ slice_get (words_in parts) 2 = word_read pair_rules is_turns pair_ids pair_table parts good 2 (omega arith) in
    let w3 : first_of (codes "second") (rows_from pair_ids 0 parts) ≡ slice_get (words_in parts) 3 = word_read pair_rules is_turns pair_ids pair_table parts good 3 (omega arith) in
    let w4 : first_of (codes "view") (rows_from pair_ids 0 parts) ≡ slice_get (words_in parts) 4 = word_read pair_rules is_turns pair_ids pair_table parts good 4 (omega arith) in
    (λ i. option_map pair (pair_by (w0 i) (w1 i) (w2 i) (w3 i) (w4 i) (turns_by (turns i)))) ∙ go (words_in parts) good.count
  where
    go : (words : List Word) → length words ≡ 5
        → option_map pair (pair_by (slice_get words 0) (slice_get words 1) (slice_get words 2) (slice_get words 3) (slice_get words 4)
        (turns_by (slice_get (values_of (codes "turns") parts) 0))) ≡ pair_of words parts
    go (a ∷ b ∷ c ∷ d ∷ f ∷ []) e =
        pair_same a b c d f (turns_by (slice_get (values_of (codes "turns") parts) 0))
        ∙ ap (a_pair a b c d f) (turns_same (values_of (codes "turns") parts) (good.single (codes "turns")))
        ∙ sym (ap (λ x. cond x (a_pair a b c d f (turns_in (values_of (codes "turns") parts))) None) good.all_known)
    go [] e = absurd (omega arith)
    go (a ∷ []) e = absurd (omega arith)
    go (a ∷ b ∷ []) e = absurd (omega arith)
    go (a ∷ b ∷ c ∷ []) e = absurd (omega arith)
    go (a ∷ b ∷ c ∷ d ∷ []) e = absurd (omega arith)
    go (a ∷ b ∷ c ∷ d ∷ f ∷ g ∷ words) e = absurd (omega arith)

pair_by_words : (parts : List Part) (words : List Word)
    → ((a b c d f : Word) → cond (are_known is_turns parts) (a_pair a b c d f (turns_in (values_of (codes "turns") parts))) None ≡ None) → pair_of words parts ≡ None
pair_by_words parts [] h = refl
pair_by_words parts (a ∷ []) h = refl
pair_by_words parts (a ∷ b ∷ []) h = refl
pair_by_words parts (a ∷ b ∷ c ∷ []) h = refl
pair_by_words parts (a ∷ b ∷ c ∷ d ∷ []) h = refl
pair_by_words parts (a ∷ b ∷ c ∷ d ∷ f ∷ []) h = h a b c d f
pair_by_words parts (a ∷ b ∷ c ∷ d ∷ f ∷ g ∷ words) h = refl

pair_count : (parts : List Part) (words : List Word) → (length words ≡ 5 → ⊥) → pair_of words parts ≡ None
pair_count parts [] h = refl
pair_count parts (a ∷ []) h = refl
pair_count parts (a ∷ b ∷ []) h = refl
pair_count parts (a ∷ b ∷ c ∷ []) h = refl
pair_count parts (a ∷ b ∷ c ∷ d ∷ []) h = refl
pair_count parts (a ∷ b ∷ c ∷ d ∷ f ∷ []) h = absurd (h refl)
pair_count parts (a ∷ b ∷ c ∷ d ∷ f ∷ g ∷ words) h = refl

pub pair_refuses : (parts : List Part) → Faulty is_turns 5 parts → pair_of (words_in parts) parts ≡ None
pair_refuses parts (unknown e) = pair_by_words parts (words_in parts) (λ a b c d f. ap (λ x. cond x (a_pair a b c d f (turns_in (values_of (codes "turns") parts))) None) e)
pair_refuses parts (miscounted h) = pair_count parts (words_in parts) h
pair_refuses parts (spoilt name e bad) = pair_by_words parts (words_in parts) (λ a b c d f. if_none (are_known is_turns parts) _
    (ap (a_pair a b c d f) (sym (ap (λ m. turns_in (values_of m parts)) (same_name name (codes "turns") e)) ∙ bad.0)))

-- ---- one word

pub one_reads : (parts : List Part) → Good none_known 1 parts → first_of (codes "word") (rows_from one_ids 0 parts) ≡ only_word (words_in parts) parts
one_reads parts good =
    let w0 : first_of (codes "word") (rows_from one_ids 0 parts) ≡ slice_get (words_in parts) 0 = word_read one_rules none_known one_ids one_table parts good 0 (omega arith) in
    w0 ∙ go (words_in parts) good.count
  where
    go : (words : List Word) → length words ≡ 1 → slice_get words 0 ≡ only_word words parts
    go (a ∷ []) e = sym (ap (λ x. cond x (Some a) None) good.all_known)
    go [] e = absurd (omega arith)
    go (a ∷ b ∷ words) e = absurd (omega arith)

pub one_refuses : (parts : List Part) → Faulty none_known 1 parts → only_word (words_in parts) parts ≡ None
one_refuses parts (unknown e) = go (words_in parts)
  where
    go : (words : List Word) → only_word words parts ≡ None
    go [] = refl
    go (a ∷ []) = ap (λ x. cond x (Some a) None) e
    go (a ∷ b ∷ words) = refl
one_refuses parts (miscounted h) = go (words_in parts) h
  where
    go : (words : List Word) → (length words ≡ 1 → ⊥) → only_word words parts ≡ None
    go [] h = refl
    go (a ∷ []) h = absurd (h refl)
    go (a ∷ b ∷ words) h = refl
one_refuses parts (spoilt name e bad) = absurd (true≢false (sym e))

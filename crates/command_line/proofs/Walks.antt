-- The walk of `clap` over the words behind a command word, beside the parts that the definition makes of them.
use Rattle.std.proofs.Common.{◌≡◌, ◌∙◌, ◌<◌, ◌≤◌, ◌+◌, ◌&&◌, ⊎_elim, ℕ, Bool, cond, not, true, false, zero, suc, refl, sym, ap, subst, arith, List, [], ◌∷◌, ◌++◌, map, length, Option, Some, None, is_some, append-nil, true≢false, bytes_eq, IsUtf8}
use Rattle.std.specs.Prelude.{⊤, slice_get}
use Rattle.std.specs.List.{list_all, list_any}
use Rattle.std.proofs.lemmas.Bool.{and_from, cases_lt, or_from, or_left, or_right}
use Rattle.std.proofs.lemmas.List.Folds.{list_all-append}
use Rattle.clap.specs.Walk.{Row, Rule, Text, Waiting, Walk, finished, has_row, idle, nothing_held, option, rows_after, settled_rows, used, walk_from, walked}
use Rattle.clap.specs.Simple.{Shape as ClapShape}
use Rattle.clap.specs.Takes.{is_given}
use Rattle.clap.specs.Kinds.{Kinds, or_else}
use Rattle.clap.specs.Faults.{check_fault, defaults_fault, level_fault, settle_fault, use_fault}
use Rattle.clap.specs.declared.error.kind.ErrorKind.{ErrorKind}
use Rattle.clap.specs.declared.error.kind.ErrorKind.TheVariants as kind
use Rattle.command_line.specs.Commands.{Word, Part, Shape, an_option, a_word, all_positional, and_part, is_known, parts_after, parts_by, plain, refused, shape_of, values_of, with_value, without_value, words_in}
use Rattle.command_line.proofs.Shapes.{IsHyphened, SeenAs, shape_seen, two_hyphens}
use Rattle.command_line.proofs.Parts.{a_row, after, after-append, after_words, find_word, given_is, id_at, new_place, no_values, rows_from, rows_push_option, rows_push_word, same_name, some_values, values-append}
use Rattle.command_line.proofs.Tables.{Table, built_command, built_option}
use Rattle.command_line.proofs.Faulty.{Came, Good, Refuses, came_as, came_more, faulty_hyphen, faulty_name, faulty_twice, faulty_word, fell, miscounted, refuses_part, took}
use Rattle.command_line.proofs.Turns.{attached_turn, attached_walked, begun_turn, begun_walked, cons≢nil, final, final_end, final_passes, held_at, hyphens_turn, hyphens_walked, known_faults, level_is, option_again, option_new, option_rows, option_settles, option_used, place_new, place_rows, place_settles, place_used, plain_fault, plain_met, run_end, run_fails, run_fault, run_passes, short_fails, unknown_fails, value_fails, value_turn, value_walked, waited_hyphens_turn, waited_hyphens_walked, waited_turn, waited_walked, walk_at, word_fails}

-- each word is UTF-8
abbrev pub AreTexts : List Word → Type 0
AreTexts [] = ⊤
AreTexts (word ∷ words) = IsUtf8 word × AreTexts words

-- the rows and what is pending stand for parts, k of which are words
pub record Stands (rules : List Rule) (known : Text → Bool) (ids : List Text) (r : List Row) (p : Option (Text × List Text)) (k : ℕ) (parts : List Part) : Type 0 where
  pub rows : settled_rows rules p r ≡ rows_from ids 0 parts
  pub calm : settle_fault rules false (held_at r p) ≡ []
  pub at : after 0 parts ≡ k
  pub fits : k ≤ length ids
  pub all_known : list_all (is_known known) parts ≡ true
  pub single : (wanted : Word) → length (values_of wanted parts) ≤ 1

abbrev is_plain : Shape → Bool
is_plain plain = true
is_plain sh = false

-- ---- what is required

all_given : (ids : List Text) (words : List Word) (g : Text → Bool) → ((j : ℕ) → j < length ids → g (id_at ids j) ≡ is_some (slice_get words j))
    → length ids ≤ length words → list_any (λ id. not (g id)) ids ≡ false
all_given [] words g h le = refl
all_given (id ∷ ids) [] g h le = absurd (omega arith)
all_given (id ∷ ids) (w ∷ words) g h le =
    or_from (not (g id)) (list_any (λ x. not (g x)) ids) (ap not (h zero (omega arith))) (all_given ids words g (λ j lt. h (suc j) (omega arith)) (omega arith))

some_missing : (ids : List Text) (words : List Word) (g : Text → Bool) → ((j : ℕ) → j < length ids → g (id_at ids j) ≡ is_some (slice_get words j))
    → length words < length ids → list_any (λ id. not (g id)) ids ≡ true
some_missing [] words g h lt = absurd (omega arith)
some_missing (id ∷ ids) [] g h lt = or_left (not (g id)) (list_any (λ x. not (g x)) ids) (ap not (h zero (omega arith)))
some_missing (id ∷ ids) (w ∷ words) g h lt =
    or_right (not (g id)) (list_any (λ x. not (g x)) ids) (some_missing ids words g (λ j below. h (suc j) (omega arith)) (omega arith))

module _ (name : Text) (rules : List Rule) (known : Text → Bool) (ids : List Text) (t : Table rules known ids) where
  abbrev s : ClapShape
  s = built_command name rules

  -- ---- one more part

  push_single : (parts : List Part) (n v : Word) → values_of n parts ≡ [] → ((wanted : Word) → length (values_of wanted parts) ≤ 1)
      → (wanted : Word) → length (values_of wanted (parts ++ an_option n v ∷ [])) ≤ 1
  push_single parts n v none single wanted =
      subst (λ l. length l ≤ 1) (sym (values-append wanted parts (an_option n v ∷ []))) (go (bytes_eq n wanted) refl)
    where
      go : (b : Bool) → bytes_eq n wanted ≡ b → length (values_of wanted parts ++ cond b (v ∷ []) []) ≤ 1
      go true e =
          let no_others : values_of wanted parts ≡ [] = subst (λ m. values_of m parts ≡ []) (same_name n wanted e) none in
          let one : length (v ∷ []) ≤ 1 = omega arith in
          subst (λ l. length (l ++ v ∷ []) ≤ 1) (sym no_others) one
      go false e = subst (λ l. length l ≤ 1) (sym (append-nil (values_of wanted parts))) (single wanted)

  push_word_single : (parts : List Part) (w : Word) → ((wanted : Word) → length (values_of wanted parts) ≤ 1)
      → (wanted : Word) → length (values_of wanted (parts ++ a_word w ∷ [])) ≤ 1
  push_word_single parts w single wanted =
      subst (λ l. length l ≤ 1) (sym (values-append wanted parts (a_word w ∷ []) ∙ append-nil (values_of wanted parts))) (single wanted)

  push_known : (parts : List Part) (part : Part) → is_known known part ≡ true → list_all (is_known known) parts ≡ true → list_all (is_known known) (parts ++ part ∷ []) ≡ true
  push_known parts part e all = list_all-append (is_known known) parts (part ∷ [])
      ∙ and_from (list_all (is_known known) parts) (is_known known part && true) all (and_from (is_known known part) true e refl)

  -- an option with its value, pending
  stands_pending : (n v : Word) (r : List Row) (p : Option (Text × List Text)) (k : ℕ) (parts : List Part) → known n ≡ true → has_row n (rows_from ids 0 parts) ≡ false
      → Stands rules known ids r p k parts → (q : List Row) → q ≡ rows_from ids 0 parts → Stands rules known ids q (Some (n, v ∷ [])) k (parts ++ an_option n v ∷ [])
  stands_pending n v r p k parts e fresh st q is =
      let new : has_row n q ≡ false = ap (has_row n) is ∙ fresh in record {
        rows = option_rows name rules known ids t n e (v ∷ []) q ∙ option_used name rules known ids t n v q new ∙ ap (λ l. l ++ a_row n v ∷ []) is
            ∙ sym (rows_push_option ids parts 0 n v);
        calm = option_settles name rules known ids t n e (v ∷ []) q ∙ option_new name rules known ids t n v q new;
        at = after-append parts (an_option n v ∷ []) 0 ∙ st.at;
        fits = st.fits;
        all_known = push_known parts (an_option n v) e st.all_known;
        single = push_single parts n v (no_values known ids t.apart n e parts 0 fresh) st.single;
      }

  -- the same, used
  stands_used : (n v : Word) (r : List Row) (p : Option (Text × List Text)) (k : ℕ) (parts : List Part) → known n ≡ true → has_row n (rows_from ids 0 parts) ≡ false
      → Stands rules known ids r p k parts → Stands rules known ids (used (built_option n) (v ∷ []) (settled_rows rules p r)) None k (parts ++ an_option n v ∷ [])
  stands_used n v r p k parts e fresh st =
      let new : has_row n (settled_rows rules p r) ≡ false = ap (has_row n) st.rows ∙ fresh in record {
        rows = option_used name rules known ids t n v (settled_rows rules p r) new ∙ ap (λ l. l ++ a_row n v ∷ []) st.rows ∙ sym (rows_push_option ids parts 0 n v);
        calm = refl;
        at = after-append parts (an_option n v ∷ []) 0 ∙ st.at;
        fits = st.fits;
        all_known = push_known parts (an_option n v) e st.all_known;
        single = push_single parts n v (no_values known ids t.apart n e parts 0 fresh) st.single;
      }

  -- a word, pending
  stands_word : (w : Word) (r : List Row) (p : Option (Text × List Text)) (k : ℕ) (parts : List Part) → k < length ids → Stands rules known ids r p k parts
      → Stands rules known ids (settled_rows rules p r) (Some (id_at ids k, w ∷ [])) (suc k) (parts ++ a_word w ∷ [])
  stands_word w r p k parts lt st =
      let q = settled_rows rules p r in
      let below : after 0 parts ≤ k = omega (arith, st.at) in
      let fresh : has_row (id_at ids k) (rows_from ids 0 parts) ≡ false = new_place known ids t.apart k (λ j less. t.distinct j k less lt) parts 0 below st.all_known in
      let new : has_row (id_at ids k) q ≡ false = ap (has_row (id_at ids k)) st.rows ∙ fresh in
      let next : after 0 (parts ++ a_word w ∷ []) ≡ suc k = after-append parts (a_word w ∷ []) 0 ∙ ap suc st.at in record {
        rows = place_rows name rules known ids t k lt (w ∷ []) q ∙ place_used name rules known ids t (suc k) (id_at ids k) w q new
            ∙ ap (λ l. l ++ a_row (id_at ids k) w ∷ []) st.rows ∙ (λ i. rows_from ids 0 parts ++ a_row (id_at ids (sym st.at i)) w ∷ []) ∙ sym (rows_push_word ids parts 0 w);
        calm = place_settles name rules known ids t k lt (w ∷ []) q ∙ place_new name rules known ids t (suc k) (id_at ids k) w q new;
        at = next;
        fits = lt;
        all_known = push_known parts (a_word w) refl st.all_known;
        single = push_word_single parts w st.single;
      }

  -- ---- the end of the words

  stop_fault : (r : List Row) (p : Option (Text × List Text)) (k : ℕ) (b : Bool) (parts : List Part) → Stands rules known ids r p k parts
      → run_fault s (walk_at (held_at r p) idle k b) [] ≡ cond (list_any (λ id. not (is_given id (settled_rows rules p r))) ids) (kind.MissingRequiredArgument ∷ []) []
  stop_fault r p k b parts st =
      let q = settled_rows rules p r in
      run_end s (walk_at (held_at r p) idle k b)
      ∙ (λ i. or_else (st.calm i) (or_else (t.no_faults q i) (check_fault s (t.defaults q i) false)))
      ∙ ap (λ l. cond l (kind.MissingRequiredArgument ∷ []) []) (t.required (λ id. is_given id q))

  word_given : (r : List Row) (p : Option (Text × List Text)) (k : ℕ) (parts : List Part) → Stands rules known ids r p k parts → (j : ℕ) → j < length ids
      → is_given (id_at ids j) (settled_rows rules p r) ≡ is_some (slice_get (words_in parts) j)
  word_given r p k parts st j lt =
      let same : j ≡ 0 + j = omega arith in
      ap (is_given (id_at ids j)) st.rows
      ∙ given_is (id_at ids j) (rows_from ids 0 parts) (slice_get (words_in parts) j) (find_word known ids t.apart j (λ i less. t.distinct i j less lt) parts 0 j same st.all_known)

  stop_comes : (r : List Row) (p : Option (Text × List Text)) (k : ℕ) (b : Bool) (parts : List Part) → Stands rules known ids r p k parts
      → Came known ids (run_fault s (walk_at (held_at r p) idle k b) []) (final s (walk_at (held_at r p) idle k b) []) parts (Some [])
  stop_comes r p k b parts st =
      ⊎_elim (λ lt.
      let short : length (words_in parts) < length ids = omega (arith, counted, st.at) in
      let lacks = some_missing ids (words_in parts) (λ id. is_given id (settled_rows rules p r)) (word_given r p k parts st) short in
      fell (cons≢nil [] _ kind.MissingRequiredArgument (stop_fault r p k b parts st ∙ ap (λ l. cond l (kind.MissingRequiredArgument ∷ []) []) lacks))
      (miscounted (λ e.
      let whole : length (words_in (parts ++ [])) ≡ length (words_in parts) = ap (λ l. length (words_in l)) (append-nil parts) in
      omega arith)))
      (λ le.
      let enough : length ids ≤ length (words_in parts) = omega (arith, counted, st.at) in
      let exact : length (words_in parts) ≡ length ids = omega (arith, counted, st.at, st.fits) in
      let has = all_given ids (words_in parts) (λ id. is_given id (settled_rows rules p r)) (word_given r p k parts st) enough in
      took [] refl (stop_fault r p k b parts st ∙ ap (λ l. cond l (kind.MissingRequiredArgument ∷ []) []) has)
      (final_end s (walk_at (held_at r p) idle k b) ∙ t.defaults (settled_rows rules p r) ∙ st.rows ∙ sym (ap (rows_from ids 0) (append-nil parts)))
      (subst (Good known (length ids)) (sym (append-nil parts)) (record { all_known = st.all_known; count = exact; single = st.single })))
      (cases_lt k (length ids))
    where
      counted : after 0 parts ≡ 0 + length (words_in parts)
      counted = after_words parts 0

  -- ---- words behind `--`

  trailing_comes : (words : List Word) (r : List Row) (p : Option (Text × List Text)) (k : ℕ) (parts : List Part) → Stands rules known ids r p k parts
      → Came known ids (run_fault s (walk_at (held_at r p) idle k true) words) (final s (walk_at (held_at r p) idle k true) words) parts (Some (map a_word words))
  trailing_comes [] r p k parts st = stop_comes r p k true parts st
  trailing_comes (w ∷ words) r p k parts st =
      let now = walk_at (held_at r p) idle k true in
      ⊎_elim (λ lt.
      let moved = walk_at (held_at (settled_rows rules p r) (Some (id_at ids k, w ∷ []))) idle (suc k) true in
      let moves = value_walked name rules known ids t r p idle k true w lt refl in
      came_more known ids (run_fault s now (w ∷ words)) (run_fault s moved words) (final s now (w ∷ words)) (final s moved words)
      (run_passes s now moved w words (value_turn name rules known ids t r p idle k true w lt refl refl ∙ st.calm) moves) (final_passes s now moved w words moves)
      parts (a_word w) (Some (map a_word words)) (trailing_comes words (settled_rows rules p r) (Some (id_at ids k, w ∷ [])) (suc k) (parts ++ a_word w ∷ []) (stands_word w r p k parts lt st)))
      (λ le.
      let past : length ids ≤ after 0 parts = omega (arith, st.at) in
      fell (run_fails s now w words kind.UnknownArgument [] (value_fails name rules known ids t r p idle k true w le refl refl))
      (refuses_part known (length ids) parts (a_word w) (faulty_word known (length ids) parts w past) (Some (map a_word words))))
      (cases_lt k (length ids))

  -- ---- a walk that has failed, though that shows later

  module _ (r : List Row) (p : Option (Text × List Text)) (x : ErrorKind) (xs : Kinds) (bad : settle_fault rules false (held_at r p) ≡ x ∷ xs) where
    ends_badly : (waiting : Waiting) (k : ℕ) (b : Bool) → run_fault s (walk_at (held_at r p) waiting k b) [] ≡ [] → ⊥
    ends_badly waiting k b =
        let q = settled_rows rules p r in
        cons≢nil xs _ x (run_end s (walk_at (held_at r p) waiting k b)
        ∙ ap (λ f. or_else f (or_else (defaults_fault q rules) (check_fault s (finished rules (held_at r p)) false))) bad)

    doomed_trailing : (waiting : Waiting) (k : ℕ) (words : List Word) → run_fault s (walk_at (held_at r p) waiting k true) words ≡ [] → ⊥
    doomed_trailing waiting k [] = ends_badly waiting k true
    doomed_trailing waiting k (w ∷ words) = ⊎_elim
        (λ lt. run_fails s (walk_at (held_at r p) waiting k true) w words x xs (value_turn name rules known ids t r p waiting k true w lt refl refl ∙ bad))
        (λ le. run_fails s (walk_at (held_at r p) waiting k true) w words kind.UnknownArgument [] (value_fails name rules known ids t r p waiting k true w le refl refl))
        (cases_lt k (length ids))

    doomed_by : (k : ℕ) (w : Word) (words : List Word) (sh : Shape) → SeenAs w sh → run_fault s (walk_at (held_at r p) idle k false) (w ∷ words) ≡ [] → ⊥
    doomed_by k w words plain seen = ⊎_elim
        (λ lt. run_fails s (walk_at (held_at r p) idle k false) w words x xs (value_turn name rules known ids t r p idle k false w lt
        (plain_met name rules known ids t w seen.0 seen.1 seen.2 (held_at r p) k) (plain_fault name rules known ids t w seen.0 seen.1 seen.2 (held_at r p)) ∙ bad))
        (λ le. run_fails s (walk_at (held_at r p) idle k false) w words kind.UnknownArgument [] (value_fails name rules known ids t r p idle k false w le
        (plain_met name rules known ids t w seen.0 seen.1 seen.2 (held_at r p) k) (plain_fault name rules known ids t w seen.0 seen.1 seen.2 (held_at r p))))
        (cases_lt k (length ids))
    doomed_by k w words all_positional seen = λ e. doomed_trailing idle k words
        (sym (run_passes s (walk_at (held_at r p) idle k false) (walk_at (held_at r p) idle k true) two_hyphens words (hyphens_turn name rules known ids t (held_at r p) k) (hyphens_walked name rules known ids t (held_at r p) k))
        ∙ sym (ap (λ v. run_fault s (walk_at (held_at r p) idle k false) (v ∷ words)) seen) ∙ e)
    doomed_by k w words refused seen = run_fails s (walk_at (held_at r p) idle k false) w words kind.UnknownArgument []
        (word_fails name rules known ids t (held_at r p) idle k false w kind.UnknownArgument [] (short_fails name rules known ids t idle (held_at r p) w seen.0 refl seen.1 seen.2 seen.3 seen.4))
    doomed_by k w words (with_value n v) seen = go (known n) refl
      where
        go : (b : Bool) → known n ≡ b → run_fault s (walk_at (held_at r p) idle k false) (w ∷ words) ≡ [] → ⊥
        go true e = run_fails s (walk_at (held_at r p) idle k false) w words x xs (attached_turn name rules known ids t w n seen.0 v seen.1 e r p k
            ∙ ap (λ f. or_else (or_else f (use_fault false (built_option n) (v ∷ []) (settled_rows rules p r))) []) bad)
        go false e = run_fails s (walk_at (held_at r p) idle k false) w words kind.UnknownArgument []
            (word_fails name rules known ids t (held_at r p) idle k false w kind.UnknownArgument [] (unknown_fails name rules known ids t w n (Some v) seen.0 seen.1 idle (held_at r p) e))
    doomed_by k w words (without_value n) seen = go (known n) refl
      where
        go : (b : Bool) → known n ≡ b → run_fault s (walk_at (held_at r p) idle k false) (w ∷ words) ≡ [] → ⊥
        go true e = run_fails s (walk_at (held_at r p) idle k false) w words x xs (begun_turn name rules known ids t w n seen.0 seen.1 e r p k ∙ ap (λ f. or_else f []) bad)
        go false e = run_fails s (walk_at (held_at r p) idle k false) w words kind.UnknownArgument []
            (word_fails name rules known ids t (held_at r p) idle k false w kind.UnknownArgument [] (unknown_fails name rules known ids t w n None seen.0 seen.1 idle (held_at r p) e))

    doomed : (k : ℕ) (words : List Word) → AreTexts words → run_fault s (walk_at (held_at r p) idle k false) words ≡ [] → ⊥
    doomed k [] u = ends_badly idle k false
    doomed k (w ∷ words) u = doomed_by k w words (shape_of w) (shape_seen w u.0)

  -- ---- words that are read

  abbrev Idle : List Word → Type 0
  Idle words = (r : List Row) (p : Option (Text × List Text)) (k : ℕ) (parts : List Part) → Stands rules known ids r p k parts
      → Came known ids (run_fault s (walk_at (held_at r p) idle k false) words) (final s (walk_at (held_at r p) idle k false) words) parts (parts_after words None)

  abbrev waiting_for : Word → List Row → ℕ → Walk
  waiting_for n q k = walk_at (held_at q (Some (n, []))) (option n) k false

  abbrev Waits : List Word → Type 0
  Waits words = (n : Word) → known n ≡ true → (r : List Row) (p : Option (Text × List Text)) (k : ℕ) (parts : List Part) → Stands rules known ids r p k parts
      → Came known ids (run_fault s (waiting_for n (settled_rows rules p r) k) words) (final s (waiting_for n (settled_rows rules p r) k) words) parts (parts_after words (Some n))

  lacks_value : (n : Word) → known n ≡ true → (q : List Row) → settle_fault rules false (held_at q (Some (n, []))) ≡ kind.InvalidValue ∷ []
  lacks_value n e q = option_settles name rules known ids t n e [] q

  -- a word after an option that waits for its value
  waiting_fails : (w : Word) (words : List Word) (sh : Shape) → SeenAs w sh → (n : Word) → known n ≡ true → (q : List Row) (k : ℕ) → (sh ≡ plain → ⊥)
      → run_fault s (waiting_for n q k) (w ∷ words) ≡ [] → ⊥
  waiting_fails w words plain seen n e q k other = absurd (other refl)
  waiting_fails w words all_positional seen n e q k other =
      let h = held_at q (Some (n, [])) in
      λ f. doomed_trailing q (Some (n, [])) kind.InvalidValue [] (lacks_value n e q) (option n) k words
      (sym (run_passes s (waiting_for n q k) (walk_at h (option n) k true) two_hyphens words (waited_hyphens_turn name rules known ids t n h k) (waited_hyphens_walked name rules known ids t n h k))
      ∙ sym (ap (λ v. run_fault s (waiting_for n q k) (v ∷ words)) seen) ∙ f)
  waiting_fails w words refused seen n e q k other = run_fails s (waiting_for n q k) w words kind.UnknownArgument []
      (word_fails name rules known ids t (held_at q (Some (n, []))) (option n) k false w kind.UnknownArgument []
      (short_fails name rules known ids t (option n) (held_at q (Some (n, []))) w seen.0 refl seen.1 seen.2 seen.3 seen.4))
  waiting_fails w words (with_value m v) seen n e q k other = go (known m) refl
    where
      go : (b : Bool) → known m ≡ b → run_fault s (waiting_for n q k) (w ∷ words) ≡ [] → ⊥
      go true d = run_fails s (waiting_for n q k) w words kind.InvalidValue []
          (word_fails name rules known ids t (held_at q (Some (n, []))) (option n) k false w kind.InvalidValue []
          (known_faults name rules known ids t w m (Some v) seen.0 seen.1 (option n) (held_at q (Some (n, []))) d
          ∙ ap (λ f. or_else f (use_fault false (built_option m) (v ∷ []) (settled_rows rules (Some (n, [])) q))) (lacks_value n e q)))
      go false d = run_fails s (waiting_for n q k) w words kind.UnknownArgument []
          (word_fails name rules known ids t (held_at q (Some (n, []))) (option n) k false w kind.UnknownArgument []
          (unknown_fails name rules known ids t w m (Some v) seen.0 seen.1 (option n) (held_at q (Some (n, []))) d))
  waiting_fails w words (without_value m) seen n e q k other = go (known m) refl
    where
      go : (b : Bool) → known m ≡ b → run_fault s (waiting_for n q k) (w ∷ words) ≡ [] → ⊥
      go true d = run_fails s (waiting_for n q k) w words kind.InvalidValue []
          (word_fails name rules known ids t (held_at q (Some (n, []))) (option n) k false w kind.InvalidValue []
          (known_faults name rules known ids t w m None seen.0 seen.1 (option n) (held_at q (Some (n, []))) d ∙ lacks_value n e q))
      go false d = run_fails s (waiting_for n q k) w words kind.UnknownArgument []
          (word_fails name rules known ids t (held_at q (Some (n, []))) (option n) k false w kind.UnknownArgument []
          (unknown_fails name rules known ids t w m None seen.0 seen.1 (option n) (held_at q (Some (n, []))) d))

  waiting_hyphen : (w : Word) (sh : Shape) → SeenAs w sh → (sh ≡ plain → ⊥) → IsHyphened w
  waiting_hyphen w plain seen other = absurd (other refl)
  waiting_hyphen w all_positional seen other = (45, [], seen)
  waiting_hyphen w refused seen other = seen.5
  waiting_hyphen w (with_value m v) seen other = seen.2
  waiting_hyphen w (without_value m) seen other = seen.2

  waiting_plain : (w : Word) (words : List Word) → Idle words → AreTexts words → SeenAs w plain → (n : Word) → known n ≡ true → (r : List Row) (p : Option (Text × List Text)) (k : ℕ)
      (parts : List Part) → Stands rules known ids r p k parts
      → Came known ids (run_fault s (waiting_for n (settled_rows rules p r) k) (w ∷ words)) (final s (waiting_for n (settled_rows rules p r) k) (w ∷ words)) parts
      (and_part (an_option n w) (parts_after words None))
  waiting_plain w words goes u seen n e r p k parts st = go (has_row n (rows_from ids 0 parts)) refl
    where
      moves : walked rules [] (waiting_for n (settled_rows rules p r) k) w ≡ walk_at (held_at (settled_rows rules p r) (Some (n, w ∷ []))) idle k false
      moves = waited_walked name rules known ids t w seen.0 seen.1 seen.2 n e (settled_rows rules p r) k

      same : run_fault s (waiting_for n (settled_rows rules p r) k) (w ∷ words) ≡ run_fault s (walk_at (held_at (settled_rows rules p r) (Some (n, w ∷ []))) idle k false) words
      same = run_passes s (waiting_for n (settled_rows rules p r) k) (walk_at (held_at (settled_rows rules p r) (Some (n, w ∷ []))) idle k false) w words
          (waited_turn name rules known ids t w seen.0 seen.1 seen.2 n e (settled_rows rules p r) k) moves

      go : (b : Bool) → has_row n (rows_from ids 0 parts) ≡ b
          → Came known ids (run_fault s (waiting_for n (settled_rows rules p r) k) (w ∷ words)) (final s (waiting_for n (settled_rows rules p r) k) (w ∷ words)) parts
          (and_part (an_option n w) (parts_after words None))
      go false fresh = came_more known ids _ _ _ _ same (final_passes s (waiting_for n (settled_rows rules p r) k) (walk_at (held_at (settled_rows rules p r) (Some (n, w ∷ []))) idle k false) w words moves)
          parts (an_option n w) (parts_after words None)
          (goes (settled_rows rules p r) (Some (n, w ∷ [])) k (parts ++ an_option n w ∷ []) (stands_pending n w r p k parts e fresh st (settled_rows rules p r) st.rows))
      go true hit =
          let bad : settle_fault rules false (held_at (settled_rows rules p r) (Some (n, w ∷ []))) ≡ kind.ArgumentConflict ∷ [] =
          option_settles name rules known ids t n e (w ∷ []) (settled_rows rules p r) ∙ option_again name rules known ids t n w (settled_rows rules p r) (ap (has_row n) st.rows ∙ hit) in
          fell (λ f. doomed (settled_rows rules p r) (Some (n, w ∷ [])) kind.ArgumentConflict [] bad k words u (sym same ∙ f))
          (refuses_part known (length ids) parts (an_option n w) (faulty_twice known (length ids) parts n w e (some_values known ids t.apart n e parts 0 hit)) (parts_after words None))

  waiting_other : (w : Word) (words : List Word) (sh : Shape) → SeenAs w sh → (sh ≡ plain → ⊥) → (n : Word) → known n ≡ true → (q : List Row) (k : ℕ) (parts : List Part)
      → Came known ids (run_fault s (waiting_for n q k) (w ∷ words)) (final s (waiting_for n q k) (w ∷ words)) parts (and_part (an_option n w) (parts_after words None))
  waiting_other w words sh seen other n e q k parts = fell (waiting_fails w words sh seen n e q k other)
      (refuses_part known (length ids) parts (an_option n w) (faulty_hyphen known (length ids) parts n w e (waiting_hyphen w sh seen other)) (parts_after words None))

  waiting_by : (w : Word) (words : List Word) → Idle words → AreTexts words → (sh : Shape) → SeenAs w sh → (n : Word) → known n ≡ true → (r : List Row) (p : Option (Text × List Text)) (k : ℕ)
      (parts : List Part) → Stands rules known ids r p k parts
      → Came known ids (run_fault s (waiting_for n (settled_rows rules p r) k) (w ∷ words)) (final s (waiting_for n (settled_rows rules p r) k) (w ∷ words)) parts
      (and_part (an_option n w) (parts_after words None))
  waiting_by w words goes u plain seen n e r p k parts st = waiting_plain w words goes u seen n e r p k parts st
  waiting_by w words goes u all_positional seen n e r p k parts st = waiting_other w words all_positional seen (λ h. true≢false (sym (ap is_plain h))) n e (settled_rows rules p r) k parts
  waiting_by w words goes u refused seen n e r p k parts st = waiting_other w words refused seen (λ h. true≢false (sym (ap is_plain h))) n e (settled_rows rules p r) k parts
  waiting_by w words goes u (with_value m v) seen n e r p k parts st = waiting_other w words (with_value m v) seen (λ h. true≢false (sym (ap is_plain h))) n e (settled_rows rules p r) k parts
  waiting_by w words goes u (without_value m) seen n e r p k parts st = waiting_other w words (without_value m) seen (λ h. true≢false (sym (ap is_plain h))) n e (settled_rows rules p r) k parts

  -- a word where nothing waits
  refuses_waiting : (n : Word) → known n ≡ false → (parts : List Part) (words : List Word) → Refuses known (length ids) parts (parts_after words (Some n))
  unfolding parts_after
  refuses_waiting n e parts [] = tt
  refuses_waiting n e parts (y ∷ words) = refuses_part known (length ids) parts (an_option n y) (faulty_name known (length ids) parts n y e) (parts_after words None)

  idle_plain : (w : Word) (words : List Word) → Idle words → SeenAs w plain → (r : List Row) (p : Option (Text × List Text)) (k : ℕ) (parts : List Part) → Stands rules known ids r p k parts
      → Came known ids (run_fault s (walk_at (held_at r p) idle k false) (w ∷ words)) (final s (walk_at (held_at r p) idle k false) (w ∷ words)) parts (and_part (a_word w) (parts_after words None))
  idle_plain w words goes seen r p k parts st =
      let now = walk_at (held_at r p) idle k false in
      let met = plain_met name rules known ids t w seen.0 seen.1 seen.2 (held_at r p) k in
      let fault = plain_fault name rules known ids t w seen.0 seen.1 seen.2 (held_at r p) in
      ⊎_elim (λ lt.
      let moved = walk_at (held_at (settled_rows rules p r) (Some (id_at ids k, w ∷ []))) idle (suc k) false in
      let moves = value_walked name rules known ids t r p idle k false w lt met in
      came_more known ids (run_fault s now (w ∷ words)) (run_fault s moved words) (final s now (w ∷ words)) (final s moved words)
      (run_passes s now moved w words (value_turn name rules known ids t r p idle k false w lt met fault ∙ st.calm) moves) (final_passes s now moved w words moves)
      parts (a_word w) (parts_after words None) (goes (settled_rows rules p r) (Some (id_at ids k, w ∷ [])) (suc k) (parts ++ a_word w ∷ []) (stands_word w r p k parts lt st)))
      (λ le.
      let past : length ids ≤ after 0 parts = omega (arith, st.at) in
      fell (run_fails s now w words kind.UnknownArgument [] (value_fails name rules known ids t r p idle k false w le met fault))
      (refuses_part known (length ids) parts (a_word w) (faulty_word known (length ids) parts w past) (parts_after words None)))
      (cases_lt k (length ids))

  idle_attached : (w : Word) (words : List Word) → Idle words → (n v : Word) → SeenAs w (with_value n v) → (r : List Row) (p : Option (Text × List Text)) (k : ℕ) (parts : List Part)
      → Stands rules known ids r p k parts
      → Came known ids (run_fault s (walk_at (held_at r p) idle k false) (w ∷ words)) (final s (walk_at (held_at r p) idle k false) (w ∷ words)) parts (and_part (an_option n v) (parts_after words None))
  idle_attached w words goes n v seen r p k parts st = by_name (known n) refl
    where
      by_row : (b : Bool) → known n ≡ true → has_row n (rows_from ids 0 parts) ≡ b
          → Came known ids (run_fault s (walk_at (held_at r p) idle k false) (w ∷ words)) (final s (walk_at (held_at r p) idle k false) (w ∷ words)) parts (and_part (an_option n v) (parts_after words None))
      by_row false e fresh =
          let now = walk_at (held_at r p) idle k false in
          let q = settled_rows rules p r in
          let moved = walk_at (held_at (used (built_option n) (v ∷ []) q) None) idle k false in
          let new = option_new name rules known ids t n v q (ap (has_row n) st.rows ∙ fresh) in
          let moves = attached_walked name rules known ids t w n seen.0 v seen.1 e r p k in
          came_more known ids (run_fault s now (w ∷ words)) (run_fault s moved words) (final s now (w ∷ words)) (final s moved words)
          (run_passes s now moved w words (attached_turn name rules known ids t w n seen.0 v seen.1 e r p k ∙ (λ i. or_else (or_else (st.calm i) (new i)) [])) moves) (final_passes s now moved w words moves)
          parts (an_option n v) (parts_after words None) (goes (used (built_option n) (v ∷ []) q) None k (parts ++ an_option n v ∷ []) (stands_used n v r p k parts e fresh st))
      by_row true e hit =
          let again = option_again name rules known ids t n v (settled_rows rules p r) (ap (has_row n) st.rows ∙ hit) in
          fell (run_fails s (walk_at (held_at r p) idle k false) w words kind.ArgumentConflict []
          (attached_turn name rules known ids t w n seen.0 v seen.1 e r p k ∙ (λ i. or_else (or_else (st.calm i) (again i)) [])))
          (refuses_part known (length ids) parts (an_option n v) (faulty_twice known (length ids) parts n v e (some_values known ids t.apart n e parts 0 hit)) (parts_after words None))

      by_name : (b : Bool) → known n ≡ b
          → Came known ids (run_fault s (walk_at (held_at r p) idle k false) (w ∷ words)) (final s (walk_at (held_at r p) idle k false) (w ∷ words)) parts (and_part (an_option n v) (parts_after words None))
      by_name true e = by_row (has_row n (rows_from ids 0 parts)) e refl
      by_name false e = fell (run_fails s (walk_at (held_at r p) idle k false) w words kind.UnknownArgument []
          (word_fails name rules known ids t (held_at r p) idle k false w kind.UnknownArgument [] (unknown_fails name rules known ids t w n (Some v) seen.0 seen.1 idle (held_at r p) e)))
          (refuses_part known (length ids) parts (an_option n v) (faulty_name known (length ids) parts n v e) (parts_after words None))

  idle_begun : (w : Word) (words : List Word) → Waits words → (n : Word) → SeenAs w (without_value n) → (r : List Row) (p : Option (Text × List Text)) (k : ℕ) (parts : List Part)
      → Stands rules known ids r p k parts
      → Came known ids (run_fault s (walk_at (held_at r p) idle k false) (w ∷ words)) (final s (walk_at (held_at r p) idle k false) (w ∷ words)) parts (parts_after words (Some n))
  idle_begun w words goes n seen r p k parts st = by_name (known n) refl
    where
      by_name : (b : Bool) → known n ≡ b
          → Came known ids (run_fault s (walk_at (held_at r p) idle k false) (w ∷ words)) (final s (walk_at (held_at r p) idle k false) (w ∷ words)) parts (parts_after words (Some n))
      by_name true e =
          let now = walk_at (held_at r p) idle k false in
          let moved = waiting_for n (settled_rows rules p r) k in
          let moves = begun_walked name rules known ids t w n seen.0 seen.1 e r p k in
          came_as known ids (run_fault s now (w ∷ words)) (run_fault s moved words) (final s now (w ∷ words)) (final s moved words)
          (run_passes s now moved w words (begun_turn name rules known ids t w n seen.0 seen.1 e r p k ∙ ap (λ f. or_else f []) st.calm) moves) (final_passes s now moved w words moves)
          parts (parts_after words (Some n)) (goes n e r p k parts st)
      by_name false e = fell (run_fails s (walk_at (held_at r p) idle k false) w words kind.UnknownArgument []
          (word_fails name rules known ids t (held_at r p) idle k false w kind.UnknownArgument [] (unknown_fails name rules known ids t w n None seen.0 seen.1 idle (held_at r p) e)))
          (refuses_waiting n e parts words)

  idle_hyphens : (w : Word) (words : List Word) → w ≡ two_hyphens → (r : List Row) (p : Option (Text × List Text)) (k : ℕ) (parts : List Part) → Stands rules known ids r p k parts
      → Came known ids (run_fault s (walk_at (held_at r p) idle k false) (w ∷ words)) (final s (walk_at (held_at r p) idle k false) (w ∷ words)) parts (Some (map a_word words))
  idle_hyphens w words is r p k parts st =
      let now = walk_at (held_at r p) idle k false in
      let moved = walk_at (held_at r p) idle k true in
      let moves = hyphens_walked name rules known ids t (held_at r p) k in
      came_as known ids (run_fault s now (w ∷ words)) (run_fault s moved words) (final s now (w ∷ words)) (final s moved words)
      (ap (λ x. run_fault s now (x ∷ words)) is ∙ run_passes s now moved two_hyphens words (hyphens_turn name rules known ids t (held_at r p) k) moves)
      (ap (λ x. final s now (x ∷ words)) is ∙ final_passes s now moved two_hyphens words moves)
      parts (Some (map a_word words)) (trailing_comes words r p k parts st)

  idle_by : (w : Word) (words : List Word) → Idle words → Waits words → (sh : Shape) → SeenAs w sh → (r : List Row) (p : Option (Text × List Text)) (k : ℕ) (parts : List Part)
      → Stands rules known ids r p k parts
      → Came known ids (run_fault s (walk_at (held_at r p) idle k false) (w ∷ words)) (final s (walk_at (held_at r p) idle k false) (w ∷ words)) parts (parts_by sh w words (parts_after words))
  idle_by w words goes waits plain seen r p k parts st = idle_plain w words goes seen r p k parts st
  idle_by w words goes waits all_positional seen r p k parts st = idle_hyphens w words seen r p k parts st
  idle_by w words goes waits refused seen r p k parts st = fell (run_fails s (walk_at (held_at r p) idle k false) w words kind.UnknownArgument []
      (word_fails name rules known ids t (held_at r p) idle k false w kind.UnknownArgument [] (short_fails name rules known ids t idle (held_at r p) w seen.0 refl seen.1 seen.2 seen.3 seen.4))) tt
  idle_by w words goes waits (with_value n v) seen r p k parts st = idle_attached w words goes n v seen r p k parts st
  idle_by w words goes waits (without_value n) seen r p k parts st = idle_begun w words waits n seen r p k parts st

  idle_end : Idle []
  unfolding parts_after
  idle_end r p k parts st = stop_comes r p k false parts st

  waits_end : Waits []
  unfolding parts_after
  waits_end n e r p k parts st = fell (ends_badly (settled_rows rules p r) (Some (n, [])) kind.InvalidValue [] (lacks_value n e (settled_rows rules p r)) (option n) k false) tt

  idle_more : (w : Word) (words : List Word) → IsUtf8 w → Idle words → Waits words → Idle (w ∷ words)
  unfolding parts_after
  idle_more w words u goes waits r p k parts st = idle_by w words goes waits (shape_of w) (shape_seen w u) r p k parts st

  waits_more : (w : Word) (words : List Word) → IsUtf8 w → AreTexts words → Idle words → Waits (w ∷ words)
  unfolding parts_after
  waits_more w words u us goes n e r p k parts st = waiting_by w words goes us (shape_of w) (shape_seen w u) n e r p k parts st

  comes : (words : List Word) → AreTexts words → Idle words × Waits words
  comes [] u = (idle_end, waits_end)
  comes (w ∷ words) u =
      let later = comes words u.1 in
      (idle_more w words u.0 later.0 later.1, waits_more w words u.0 u.1 later.0)

  begins : Stands rules known ids [] None 0 []
  begins = record { rows = refl; calm = refl; at = refl; fits = omega arith; all_known = refl; single = λ wanted. omega arith }

  -- the faults and the rows of the words behind a command word
  pub level_comes : (words : List Word) → AreTexts words → Came known ids (level_fault s [] nothing_held words false []) (rows_after rules [] words) [] (parts_after words None)
  unfolding final
  level_comes words u = came_as known ids (level_fault s [] nothing_held words false []) (run_fault s (walk_from nothing_held) words) (rows_after rules [] words) (final s (walk_from nothing_held) words) (level_is s words) refl [] (parts_after words None) ((comes words u).0 [] None 0 [] begins)

-- What `clap` makes of one word behind a command word.
use Rattle.std.proofs.Common.{◌≡◌, ◌∙◌, ◌<◌, ◌≤◌, ◌+◌, ◌&&◌, ◌||◌, ℕ, Bool, cond, true, false, zero, suc, min, refl, sym, ap, ap₂, arith, List, [], ◌∷◌, ◌++◌, length, Option, Some, None, is_some, true≢false, nat_lt, append-nil, bytes_eq, fold}
use Rattle.std.specs.Prelude.{drop, encode_utf8}
use Rattle.std.specs.Str.{chars}
use Rattle.std.specs.Option.{option_map_or}
use Rattle.std.proofs.lemmas.Bool.{and_right}
use Rattle.clap.specs.Lexer.{long_of, short_of, usize_max}
use Rattle.clap.specs.Walk.{Held, Row, Rule, Step, Text, Waiting, Walk, after_flag, after_step, arg_by_long, arg_by_short, finished, has_row, idle, is_pending, long_met, long_or_other, long_word, more_values, next, option_met, positional, subcommand_met, subcommand_or_other, nothing_held, option, option_word, plain_word, pushed, settled, settled_rows, short_or_plain, to_positional, trailing, used, used_by_id, value, walk_from, walked, with_values, word_met}
use Rattle.clap.specs.Simple.{Shape}
use Rattle.clap.specs.Kinds.{Kinds, or_else}
use Rattle.clap.specs.Faults.{bundle_step_fault, check_fault, defaults_fault, flag_word_fault, flags_fault, bundle_fault, level_fault, long_fault, option_fault, other_fault, positional_fault, react_fault, settle_fault, short_fault, step_fault, stray_fault, turn_fault, use_fault, walk_fault, word_fault}
use Rattle.clap.specs.declared.error.kind.ErrorKind.{ErrorKind}
use Rattle.clap.specs.declared.error.kind.ErrorKind.TheVariants as kind
use Rattle.clap.specs.declared.builder.value_parser.Reading.TheVariants.{AsWritten}
use Rattle.clap.specs.declared.parser.matches.ValueSource.TheVariants.{CommandLine}
use Rattle.command_line.proofs.Shapes.{IsFlags, two_hyphens}
use Rattle.command_line.proofs.Parts.{a_row, id_at, name_is, no_row}
use Rattle.command_line.proofs.Tables.{Table, built_command, built_option, built_positional}

-- ---- faults

abbrev is_cons : {X : Type 0} → List X → Bool
is_cons [] = false
is_cons (x ∷ xs) = true

pub cons≢nil : {X : Type 0} (xs ys : List X) (x : X) → ys ≡ x ∷ xs → ys ≡ [] → ⊥
cons≢nil xs ys x e h = true≢false (ap is_cons (sym e ∙ h))

or_else_assoc : (a b c : Kinds) → or_else (or_else a b) c ≡ or_else a (or_else b c)
or_else_assoc [] b c = refl
or_else_assoc (k ∷ ks) b c = refl

-- what is wrong at the end of the words
abbrev pub end_fault : Shape → Held → Kinds
end_fault s h = or_else (settle_fault s.rules s.args_override_self h) (or_else (defaults_fault (settled s.rules h).rows s.rules) (check_fault s (finished s.rules h) false))

-- what is wrong in words and at their end
unfoldable pub run_fault : Shape → Walk → List Text → Kinds
run_fault s w words = or_else (walk_fault s [] w words) (end_fault s (fold (walked s.rules []) w words).held)

unfoldable pub final : Shape → Walk → List Text → List Row
final s w words = finished s.rules (fold (walked s.rules []) w words).held

pub level_is : (s : Shape) (words : List Text) → level_fault s [] nothing_held words false [] ≡ run_fault s (walk_from nothing_held) words
unfolding run_fault
level_is s words = refl

pub run_end : (s : Shape) (w : Walk) → run_fault s w [] ≡ end_fault s w.held
unfolding run_fault walk_fault
run_end s w = refl

pub final_end : (s : Shape) (w : Walk) → final s w [] ≡ finished s.rules w.held
unfolding final
final_end s w = refl

run_next : (s : Shape) (w : Walk) (word : Text) (words : List Text) → run_fault s w (word ∷ words) ≡ or_else (turn_fault s [] w word) (run_fault s (walked s.rules [] w word) words)
unfolding run_fault walk_fault
run_next s w word words = or_else_assoc (turn_fault s [] w word) (walk_fault s [] (walked s.rules [] w word) words) (end_fault s (fold (walked s.rules []) (walked s.rules [] w word) words).held)

-- the word passes
pub run_passes : (s : Shape) (w v : Walk) (word : Text) (words : List Text) → turn_fault s [] w word ≡ [] → walked s.rules [] w word ≡ v
    → run_fault s w (word ∷ words) ≡ run_fault s v words
run_passes s w v word words e is = run_next s w word words ∙ ap₂ (λ f x. or_else f (run_fault s x words)) e is

pub final_passes : (s : Shape) (w v : Walk) (word : Text) (words : List Text) → walked s.rules [] w word ≡ v → final s w (word ∷ words) ≡ final s v words
unfolding final
final_passes s w v word words is = ap (λ x. finished s.rules (fold (walked s.rules []) x words).held) is

-- the word fails
pub run_fails : (s : Shape) (w : Walk) (word : Text) (words : List Text) (k : ErrorKind) (ks : Kinds) → turn_fault s [] w word ≡ k ∷ ks → run_fault s w (word ∷ words) ≡ [] → ⊥
run_fails s w word words k ks e = cons≢nil ks _ k (run_next s w word words ∙ ap (λ f. or_else f (run_fault s (walked s.rules [] w word) words)) e)

-- ---- states of the walk

abbrev pub held_at : List Row → Option (Text × List Text) → Held
held_at r p = record { rows = r; pending = p; skip = 0 }

abbrev pub walk_at : Held → Waiting → ℕ → Bool → Walk
walk_at h waiting k is_trailing = record { held = h; waiting = waiting; position = suc k; is_trailing = is_trailing; stopped = None }

-- a bundle of short flags, of which there are none
pub bundle_fails : (c : List Rule) → ((x : ℕ) → arg_by_short c x ≡ None) → (flags : Text) (h : Held) → h.skip ≡ 0 → IsFlags flags
    → bundle_fault c false flags h ≡ kind.UnknownArgument ∷ []
unfolding flags_fault chars
bundle_fails c none [] h skip f = absurd (true≢false (sym (ap is_some f.1)))
bundle_fails c none (y ∷ ys) h skip f =
    let g = record h { skip = 0 } in
    let rest = λ (x : ℕ). drop (length (encode_utf8 x)) (y ∷ ys) in
    ap (λ n. flags_fault c false (suc (length ys)) (y ∷ ys) n g) skip
    ∙ ap (λ o. bundle_step_fault c false o (y ∷ ys) 0 g (flags_fault c false (length ys))) f.1
    ∙ ap (λ o. short_fault c false o (rest f.0) g (flags_fault c false (length ys) (rest f.0) 0)) (none f.0)

module _ (name : Text) (rules : List Rule) (known : Text → Bool) (ids : List Text) (t : Table rules known ids) where
  abbrev s : Shape
  s = built_command name rules

  -- a turn, by what the word was met as and by its fault
  turn_by : (h g : Held) (waiting : Waiting) (k : ℕ) (b : Bool) (word : Text) (step : Step) (f : Kinds) → word_met rules [] b waiting (suc k) word h ≡ (g, step)
      → word_fault s [] b waiting word h ≡ f → turn_fault s [] (walk_at h waiting k b) word ≡ or_else f (step_fault s (suc k) g step)
  turn_by h g waiting k b word step f met fault = λ i. or_else (fault i) (step_fault s (suc k) (met i).0 (met i).1)

  walk_by : (h g : Held) (waiting : Waiting) (k : ℕ) (b : Bool) (word : Text) (step : Step) → word_met rules [] b waiting (suc k) word h ≡ (g, step)
      → walked rules [] (walk_at h waiting k b) word ≡ after_step rules word (walk_at h waiting k b) g step
  unfolding walked
  walk_by h g waiting k b word step met = λ i. after_step rules word (walk_at h waiting k b) (met i).0 (met i).1

  -- a word with a fault of its own
  pub word_fails : (h : Held) (waiting : Waiting) (k : ℕ) (b : Bool) (word : Text) (x : ErrorKind) (xs : Kinds) → word_fault s [] b waiting word h ≡ x ∷ xs
      → turn_fault s [] (walk_at h waiting k b) word ≡ x ∷ xs
  word_fails h waiting k b word x xs e =
      let met = word_met rules [] b waiting (suc k) word h in
      ap (λ f. or_else f (step_fault s (suc k) met.0 met.1)) e

  -- ---- words behind `--`, and words that are no flag

  -- what a value does, by its position
  abbrev pub settled_at : List Row → Option (Text × List Text) → List Row
  settled_at r p = settled_rows rules p r

  few_places : (k : ℕ) → k < 5 → min (suc k + 1) usize_max ≡ suc (suc k)
  few_places zero lt = refl
  few_places (suc zero) lt = refl
  few_places (suc (suc zero)) lt = refl
  few_places (suc (suc (suc zero))) lt = refl
  few_places (suc (suc (suc (suc zero)))) lt = refl
  few_places (suc (suc (suc (suc (suc k))))) lt = absurd (omega arith)

  or_nothing : (b : Bool) → (b || false) ≡ b
  or_nothing true = refl
  or_nothing false = refl

  value_fault : (r : List Row) (p : Option (Text × List Text)) (k : ℕ) → k < length ids
      → step_fault s (suc k) (held_at r p) value ≡ settle_fault rules false (held_at r p)
  value_fault r p k lt =
      let a = built_positional (suc k) (id_at ids k) in
      ap (λ o. option_map_or (λ x. positional_fault rules false x (held_at r p)) o (stray_fault s)) (t.place k lt)
      ∙ ap (λ b. cond b [] (settle_fault rules false (held_at r p))) (and_right (is_pending a p) false refl)

  value_strays : (r : List Row) (p : Option (Text × List Text)) (k : ℕ) → length ids ≤ k → step_fault s (suc k) (held_at r p) value ≡ kind.UnknownArgument ∷ []
  value_strays r p k le = ap (λ o. option_map_or (λ x. positional_fault rules false x (held_at r p)) o (stray_fault s)) (t.no_place k le)

  value_walks : (r : List Row) (p : Option (Text × List Text)) (waiting : Waiting) (k : ℕ) (b : Bool) (word : Text) → k < length ids
      → after_step rules word (walk_at (held_at r p) waiting k b) (held_at r p) value
      ≡ walk_at (held_at (settled_at r p) (Some (id_at ids k, word ∷ []))) idle (suc k) b
  value_walks r p waiting k b word lt =
      let a = built_positional (suc k) (id_at ids k) in
      let h = held_at r p in
      let many : (is_pending a p && false) ≡ false = and_right (is_pending a p) false refl in
      let held : pushed (id_at ids k) word (cond (is_pending a p && false) h (settled rules h)) ≡ held_at (settled_at r p) (Some (id_at ids k, word ∷ [])) =
      λ i. pushed (id_at ids k) word (cond (many i) h (settled rules h)) in
      let below : k < 5 = omega (arith, t.few) in
      let place = few_places k below in
      let trail = or_nothing b in
      ap (λ o. to_positional rules o word (walk_at h waiting k b) h) (t.place k lt)
      ∙ (λ i. record { held = held i; waiting = idle; position = place i; is_trailing = trail i; stopped = None })

  -- a value that a positional takes
  pub value_turn : (r : List Row) (p : Option (Text × List Text)) (waiting : Waiting) (k : ℕ) (b : Bool) (word : Text) → k < length ids
      → word_met rules [] b waiting (suc k) word (held_at r p) ≡ (held_at r p, value) → word_fault s [] b waiting word (held_at r p) ≡ []
      → turn_fault s [] (walk_at (held_at r p) waiting k b) word ≡ settle_fault rules false (held_at r p)
  value_turn r p waiting k b word lt met fault = turn_by (held_at r p) (held_at r p) waiting k b word value [] met fault ∙ value_fault r p k lt

  pub value_walked : (r : List Row) (p : Option (Text × List Text)) (waiting : Waiting) (k : ℕ) (b : Bool) (word : Text) → k < length ids
      → word_met rules [] b waiting (suc k) word (held_at r p) ≡ (held_at r p, value)
      → walked rules [] (walk_at (held_at r p) waiting k b) word ≡ walk_at (held_at (settled_at r p) (Some (id_at ids k, word ∷ []))) idle (suc k) b
  value_walked r p waiting k b word lt met = walk_by (held_at r p) (held_at r p) waiting k b word value met ∙ value_walks r p waiting k b word lt

  -- and one that none takes
  pub value_fails : (r : List Row) (p : Option (Text × List Text)) (waiting : Waiting) (k : ℕ) (b : Bool) (word : Text) → length ids ≤ k
      → word_met rules [] b waiting (suc k) word (held_at r p) ≡ (held_at r p, value) → word_fault s [] b waiting word (held_at r p) ≡ []
      → turn_fault s [] (walk_at (held_at r p) waiting k b) word ≡ kind.UnknownArgument ∷ []
  value_fails r p waiting k b word le met fault = turn_by (held_at r p) (held_at r p) waiting k b word value [] met fault ∙ value_strays r p k le

  module _ (word : Text) (plain : bytes_eq word two_hyphens ≡ false) (no_long : long_of word ≡ None) (no_short : short_of word ≡ None) where
    pub plain_met : (h : Held) (k : ℕ) → word_met rules [] false idle (suc k) word h ≡ (h, value)
    plain_met h k = (λ i. cond (plain i) (h, trailing (suc k)) (long_or_other rules idle word (no_long i) h)) ∙ ap (λ o. short_or_plain rules idle word o h) no_short

    pub plain_fault : (h : Held) → word_fault s [] false idle word h ≡ []
    plain_fault h = (λ i. cond (plain i) [] (flag_word_fault rules false (no_long i) word h)) ∙ ap (λ o. option_map_or (λ flags. bundle_fault rules false flags h) o []) no_short

    waited_met : (id : Text) (h : Held) (k : ℕ) → word_met rules [] false (option id) (suc k) word h ≡ plain_word rules (option id) word h
    waited_met id h k = (λ i. cond (plain i) (h, trailing (suc k)) (long_or_other rules (option id) word (no_long i) h)) ∙ ap (λ o. short_or_plain rules (option id) word o h) no_short

    waited_fault : (id : Text) (h : Held) → word_fault s [] false (option id) word h ≡ []
    waited_fault id h = (λ i. cond (plain i) [] (flag_word_fault rules false (no_long i) word h)) ∙ ap (λ o. option_map_or (λ flags. bundle_fault rules false flags h) o []) no_short

    -- the value of the option before it
    waited_word : (id : Text) → known id ≡ true → (r : List Row) → plain_word rules (option id) word (held_at r (Some (id, []))) ≡ (held_at r (Some (id, word ∷ [])), next idle)
    waited_word id p r =
        let h = held_at r (Some (id, [])) in
        let same = name_is id id refl in
        ap (λ (o : Option Rule). ((option_word o id word h).0, next (option_word o id word h).1)) (t.by_name id p)
        ∙ (λ i. (held_at r (Some (id, word ∷ [])), next (cond (nat_lt (cond (same i) 1 0) 1) (option id) idle)))

    pub waited_turn : (id : Text) → known id ≡ true → (r : List Row) (k : ℕ) → turn_fault s [] (walk_at (held_at r (Some (id, []))) (option id) k false) word ≡ []
    waited_turn id p r k = turn_by (held_at r (Some (id, []))) (held_at r (Some (id, word ∷ []))) (option id) k false word (next idle) []
        (waited_met id (held_at r (Some (id, []))) k ∙ waited_word id p r) (waited_fault id (held_at r (Some (id, []))))

    pub waited_walked : (id : Text) → known id ≡ true → (r : List Row) (k : ℕ)
        → walked rules [] (walk_at (held_at r (Some (id, []))) (option id) k false) word ≡ walk_at (held_at r (Some (id, word ∷ []))) idle k false
    waited_walked id p r k = walk_by (held_at r (Some (id, []))) (held_at r (Some (id, word ∷ []))) (option id) k false word (next idle)
        (waited_met id (held_at r (Some (id, []))) k ∙ waited_word id p r)

  -- ---- `--`

  pub hyphens_turn : (h : Held) (k : ℕ) → turn_fault s [] (walk_at h idle k false) two_hyphens ≡ []
  hyphens_turn h k = refl

  pub hyphens_walked : (h : Held) (k : ℕ) → walked rules [] (walk_at h idle k false) two_hyphens ≡ walk_at h idle k true
  unfolding walked
  hyphens_walked h k = refl

  pub waited_hyphens_turn : (id : Text) (h : Held) (k : ℕ) → turn_fault s [] (walk_at h (option id) k false) two_hyphens ≡ []
  waited_hyphens_turn id h k = refl

  pub waited_hyphens_walked : (id : Text) (h : Held) (k : ℕ) → walked rules [] (walk_at h (option id) k false) two_hyphens ≡ walk_at h (option id) k true
  unfolding walked
  waited_hyphens_walked id h k = refl

  -- ---- flags

  -- no word names a subcommand
  no_subcommand : (waiting : Waiting) (word : Text) → subcommand_met [] waiting word ≡ None
  no_subcommand idle word = refl
  no_subcommand (option id) word = refl
  no_subcommand positional word = refl

  flag_fault : (waiting : Waiting) (h : Held) (word : Text) → bytes_eq word two_hyphens ≡ false
      → word_fault s [] false waiting word h ≡ flag_word_fault rules false (long_of word) word h
  flag_fault waiting h word apart = ap (λ o. other_fault s o word h) (no_subcommand waiting word) ∙ (λ i. cond (apart i) [] (flag_word_fault rules false (long_of word) word h))

  pub short_fails : (waiting : Waiting) (h : Held) (word flags : Text) → h.skip ≡ 0 → bytes_eq word two_hyphens ≡ false → long_of word ≡ None → short_of word ≡ Some flags
      → IsFlags flags → word_fault s [] false waiting word h ≡ kind.UnknownArgument ∷ []
  short_fails waiting h word flags skip apart no_long short f =
      flag_fault waiting h word apart ∙ ap (λ o. flag_word_fault rules false o word h) no_long ∙ ap (λ o. option_map_or (λ x. bundle_fault rules false x h) o []) short
      ∙ bundle_fails rules t.no_short flags h skip f

  -- ---- `--name` and `--name=value`

  module _ (word n : Text) (v : Option Text) (apart : bytes_eq word two_hyphens ≡ false) (long : long_of word ≡ Some (n, v)) where
    option_faults : (waiting : Waiting) (h : Held) → word_fault s [] false waiting word h ≡ long_fault rules false (arg_by_long rules n) v h
    option_faults waiting h = flag_fault waiting h word apart ∙ ap (λ o. flag_word_fault rules false o word h) long

    option_met_as : (waiting : Waiting) (h : Held) (k : ℕ) → word_met rules [] false waiting (suc k) word h ≡ long_word rules waiting word n v h
    option_met_as waiting h k = ap (λ o. subcommand_or_other rules o waiting (suc k) word h) (no_subcommand waiting word)
        ∙ (λ i. cond (apart i) (h, trailing (suc k)) (long_or_other rules waiting word (long i) h))

    pub unknown_fails : (waiting : Waiting) (h : Held) → known n ≡ false → word_fault s [] false waiting word h ≡ kind.UnknownArgument ∷ []
    unknown_fails waiting h e = option_faults waiting h ∙ ap (λ o. long_fault rules false o v h) (t.long_other n e)

    pub known_faults : (waiting : Waiting) (h : Held) → known n ≡ true → word_fault s [] false waiting word h ≡ option_fault rules false (built_option n) v h
    known_faults waiting h e = option_faults waiting h ∙ ap (λ o. long_fault rules false o v h) (t.long_known n e)

    known_met : (h : Held) (k : ℕ) → known n ≡ true → word_met rules [] false idle (suc k) word h
        ≡ after_flag rules idle word (option_met rules (built_option n) v h).0 (option_met rules (built_option n) v h).1
    known_met h k e = option_met_as idle h k ∙ ap (λ o. after_flag rules idle word (long_met rules o v h).0 (long_met rules o v h).1) (t.long_known n e)

  module _ (word n : Text) (apart : bytes_eq word two_hyphens ≡ false) where
    -- with its value
    pub attached_turn : (v : Text) → long_of word ≡ Some (n, Some v) → known n ≡ true → (r : List Row) (p : Option (Text × List Text)) (k : ℕ)
        → turn_fault s [] (walk_at (held_at r p) idle k false) word ≡ or_else (react_fault rules false (built_option n) (v ∷ []) (held_at r p)) []
    attached_turn v long e r p k = turn_by (held_at r p) (held_at (used (built_option n) (v ∷ []) (settled_at r p)) None) idle k false word (next idle)
        (react_fault rules false (built_option n) (v ∷ []) (held_at r p)) (known_met word n (Some v) apart long (held_at r p) k e)
        (known_faults word n (Some v) apart long idle (held_at r p) e)

    pub attached_walked : (v : Text) → long_of word ≡ Some (n, Some v) → known n ≡ true → (r : List Row) (p : Option (Text × List Text)) (k : ℕ)
        → walked rules [] (walk_at (held_at r p) idle k false) word ≡ walk_at (held_at (used (built_option n) (v ∷ []) (settled_at r p)) None) idle k false
    attached_walked v long e r p k = walk_by (held_at r p) (held_at (used (built_option n) (v ∷ []) (settled_at r p)) None) idle k false word (next idle)
        (known_met word n (Some v) apart long (held_at r p) k e)

    -- and without
    pub begun_turn : long_of word ≡ Some (n, None) → known n ≡ true → (r : List Row) (p : Option (Text × List Text)) (k : ℕ)
        → turn_fault s [] (walk_at (held_at r p) idle k false) word ≡ or_else (settle_fault rules false (held_at r p)) []
    begun_turn long e r p k = turn_by (held_at r p) (held_at (settled_at r p) (Some (n, []))) idle k false word (next (option n))
        (settle_fault rules false (held_at r p)) (known_met word n None apart long (held_at r p) k e) (known_faults word n None apart long idle (held_at r p) e)

    pub begun_walked : long_of word ≡ Some (n, None) → known n ≡ true → (r : List Row) (p : Option (Text × List Text)) (k : ℕ)
        → walked rules [] (walk_at (held_at r p) idle k false) word ≡ walk_at (held_at (settled_at r p) (Some (n, []))) (option n) k false
    begun_walked long e r p k = walk_by (held_at r p) (held_at (settled_at r p) (Some (n, []))) idle k false word (next (option n))
        (known_met word n None apart long (held_at r p) k e)

  -- ---- one use

  pub option_used : (n v : Text) (rows : List Row) → has_row n rows ≡ false → used (built_option n) (v ∷ []) rows ≡ rows ++ a_row n v ∷ []
  option_used n v rows e =
      ap (λ l. with_values n AsWritten CommandLine (v ∷ []) l) (no_row n (λ r. []) [] rows e ∙ append-nil rows) ∙ no_row n (more_values CommandLine (v ∷ [])) (a_row n v ∷ []) rows e

  pub place_used : (k : ℕ) (id v : Text) (rows : List Row) → has_row id rows ≡ false → used (built_positional k id) (v ∷ []) rows ≡ rows ++ a_row id v ∷ []
  place_used k id v rows e =
      ap (λ l. with_values id AsWritten CommandLine (v ∷ []) l) (no_row id (λ r. []) [] rows e ∙ append-nil rows) ∙ no_row id (more_values CommandLine (v ∷ [])) (a_row id v ∷ []) rows e

  pub option_new : (n v : Text) (rows : List Row) → has_row n rows ≡ false → use_fault false (built_option n) (v ∷ []) rows ≡ []
  option_new n v rows e = λ i. or_else (cond (e i && true) (kind.ArgumentConflict ∷ []) []) []

  pub option_again : (n v : Text) (rows : List Row) → has_row n rows ≡ true → use_fault false (built_option n) (v ∷ []) rows ≡ kind.ArgumentConflict ∷ []
  option_again n v rows e = λ i. or_else (cond (e i && true) (kind.ArgumentConflict ∷ []) []) []

  pub place_new : (k : ℕ) (id v : Text) (rows : List Row) → has_row id rows ≡ false → use_fault false (built_positional k id) (v ∷ []) rows ≡ []
  place_new k id v rows e = λ i. or_else (cond (e i && true) (kind.ArgumentConflict ∷ []) []) []

  pub option_rows : (n : Text) → known n ≡ true → (vs : List Text) (r : List Row) → settled_at r (Some (n, vs)) ≡ used (built_option n) vs r
  option_rows n e vs r = ap (λ o. used_by_id o vs r) (t.by_name n e)

  pub option_settles : (n : Text) → known n ≡ true → (vs : List Text) (r : List Row) → settle_fault rules false (held_at r (Some (n, vs))) ≡ use_fault false (built_option n) vs r
  option_settles n e vs r = ap (λ o. option_map_or (λ a. use_fault false a vs r) o []) (t.by_name n e)

  pub place_rows : (k : ℕ) → k < length ids → (vs : List Text) (r : List Row) → settled_at r (Some (id_at ids k, vs)) ≡ used (built_positional (suc k) (id_at ids k)) vs r
  place_rows k lt vs r = ap (λ o. used_by_id o vs r) (t.by_place k lt)

  pub place_settles : (k : ℕ) → k < length ids → (vs : List Text) (r : List Row)
      → settle_fault rules false (held_at r (Some (id_at ids k, vs))) ≡ use_fault false (built_positional (suc k) (id_at ids k)) vs r
  place_settles k lt vs r = ap (λ o. option_map_or (λ a. use_fault false a vs r) o []) (t.by_place k lt)

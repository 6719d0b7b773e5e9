-- The command that `clap` makes of all words, and the command that the definition makes of them.
use Rattle.std.proofs.Common.{◌≡◌, ◌∙◌, ◌||◌, ℕ, Bool, cond, true, false, refl, sym, ap, subst, List, [], ◌∷◌, length, Option, Some, None, option_map, is_some, find, fold, bytes_eq, codes, IsUtf8, String, Global}
use Rattle.std.specs.Option.{option_map_or}
use Rattle.std.proofs.lemmas.Str.{IsUtf8-string_bytes}
use Rattle.clap.specs.Walk.{Names, Rule, Text, Walk, answers_to, finished, idle, long_or_other, nothing_held, rows_after, settled, short_or_plain, stop_after, subcommand_met, subcommand_or_other, trailing, value, walk, walk_from, walked, word_met}
use Rattle.clap.specs.Simple.{App, entered, label_of, names_of, rows_at, subcommand_of}
use Rattle.clap.specs.Kinds.{Kinds, or_else}
use Rattle.clap.specs.Faults.{built_fault, bundle_fault, check_fault, defaults_fault, entered_fault, fault_of, flag_word_fault, level_fault, other_fault, settle_fault, step_fault, turn_fault, walk_fault, word_fault}
use Rattle.clap.specs.declared.error.kind.ErrorKind.{ErrorKind}
use Rattle.clap.specs.declared.error.kind.ErrorKind.TheVariants as kind
use Rattle.clap.proofs.WalkLemmas.{walk_stopped}
use Rattle.clap.proofs.FaultLemmas.{stopped_fault}
use Rattle.command_line.specs.Arguments.{line_app}
use Rattle.command_line.specs.Commands.{Word, Part, Shape, all_positional, check_of, command_behind, command_in, command_of, is_turns, make, made_number, numbered, only_word, pair_of, parts_after, plain, refused, run_of, shape_of, trial, with_value, without_value, words_in}
use Rattle.command_line.specs.Reading.{command_at, command_read, number_read, texts_of}
use Rattle.command_line.proofs.Shapes.{SeenAs, shape_seen, two_hyphens}
use Rattle.command_line.proofs.Parts.{rows_from, same_name, swapped}
use Rattle.command_line.proofs.Tables.{built_app, built_command, built_line, none_known, one_ids, one_rules, one_table, pair_ids, pair_rules, pair_table, run_ids, run_known, run_rules, run_table}
use Rattle.command_line.proofs.Built.{line_built}
use Rattle.command_line.proofs.Turns.{bundle_fails, cons≢nil}
use Rattle.command_line.proofs.Faulty.{Came, Faulty, Good, Refuses, fell, took}
use Rattle.command_line.proofs.Walks.{AreTexts, level_comes}
use Rattle.command_line.proofs.Meaning.{one_reads, one_refuses, pair_reads, pair_refuses, run_reads, run_refuses}

pub are_texts : (words : List (String Global)) → AreTexts (texts_of words)
are_texts [] = tt
are_texts (word ∷ words) = (IsUtf8-string_bytes word, are_texts words)

-- without faults the rows state the command of the words, and with one there is none
abbrev pub Agrees : List Word → Type 0
Agrees words = (fault_of line_app words ≡ [] → command_at (subcommand_of line_app words) ≡ command_of words) × ((fault_of line_app words ≡ [] → ⊥) → command_of words ≡ None)

-- ---- as the commands are built

abbrev line_names : Names
line_names = names_of built_app

abbrev start : Walk
start = walk_from nothing_held

abbrev line_walk : List Word → Walk
line_walk words = walk [] line_names nothing_held words

-- the faults, by the walk and by what is wrong in it
abbrev faults_by : Walk → Kinds → Kinds
faults_by w f = or_else f (or_else (entered_fault built_app w.stopped) (or_else (settle_fault [] false w.held) (or_else (defaults_fault (settled [] w.held).rows [])
    (check_fault built_line (finished [] w.held) (is_some (entered built_app w.stopped))))))

fault_is : (words : List Word) → fault_of line_app words ≡ faults_by (line_walk words) (walk_fault built_line line_names start words)
unfolding line_app
fault_is words = ap (λ (a : App). built_fault a nothing_held words) line_built

sub_is : (words : List Word) → subcommand_of line_app words ≡ entered built_app (line_walk words).stopped
unfolding line_app
sub_is words = ap (λ (a : App). entered a (stop_after a.top.rules (names_of a) words)) line_built

or_else-nil : (f : Kinds) → or_else f [] ≡ f
or_else-nil [] = refl
or_else-nil (k ∷ ks) = refl

-- ---- a command word

module _ (name : Text) (rules : List Rule) (met : walked [] line_names start name ≡ record start { stopped = Some (name, []) }) (turn : turn_fault built_line line_names start name ≡ [])
    (is : find (λ s. answers_to name (label_of s)) built_app.subs ≡ Some (built_command name rules)) (rest : List Word) where
  named_walk : line_walk (name ∷ rest) ≡ record start { stopped = Some (name, rest) }
  named_walk = ap (λ w. fold (walked [] line_names) w rest) met ∙ sym (walk_stopped [] line_names start name [] rest)

  named_turns : walk_fault built_line line_names start (name ∷ rest) ≡ []
  unfolding walk_fault
  named_turns = (λ i. or_else (turn i) (walk_fault built_line line_names (met i) rest)) ∙ stopped_fault built_line line_names start (name, []) rest

  named_fault : fault_of line_app (name ∷ rest) ≡ level_fault (built_command name rules) [] nothing_held rest false []
  unfolding defaults_fault
  named_fault =
      let stopped : faults_by (line_walk (name ∷ rest)) (walk_fault built_line line_names start (name ∷ rest)) ≡ faults_by (record start { stopped = Some (name, rest) }) [] =
      λ i. faults_by (named_walk i) (named_turns i) in
      let below : faults_by (record start { stopped = Some (name, rest) }) [] ≡ or_else (level_fault (built_command name rules) [] nothing_held rest false []) [] =
      λ i. or_else (option_map_or (λ s. level_fault s [] nothing_held rest false []) (is i) []) (check_fault built_line [] (is_some (option_map (λ s. rows_at s rest) (is i)))) in
      fault_is (name ∷ rest) ∙ stopped ∙ below ∙ or_else-nil (level_fault (built_command name rules) [] nothing_held rest false [])

  named_sub : subcommand_of line_app (name ∷ rest) ≡ Some (name, rows_after rules [] rest)
  named_sub = sub_is (name ∷ rest) ∙ (λ i. entered built_app (named_walk i).stopped) ∙ ap (option_map (λ s. rows_at s rest)) is

  behind_none : (known : Word → Bool) (n : ℕ) → ((parts : List Part) → Faulty known n parts → command_in name parts ≡ None) → (o : Option (List Part)) → Refuses known n [] o
      → command_behind name o ≡ None
  behind_none known n refuses None h = refl
  behind_none known n refuses (Some parts) h = refuses parts h

  named_agrees : (known : Word → Bool) (ids : List Text) → ((parts : List Part) → Good known (length ids) parts → command_read name (rows_from ids 0 parts) ≡ command_in name parts)
      → ((parts : List Part) → Faulty known (length ids) parts → command_in name parts ≡ None)
      → Came known ids (level_fault (built_command name rules) [] nothing_held rest false []) (rows_after rules [] rest) [] (parts_after rest None) → Agrees (name ∷ rest)
  unfolding command_of
  named_agrees known ids reads refuses (took more e f r g) = (
    λ none. ap command_at named_sub ∙ ap (command_read name) r ∙ reads more g ∙ sym (ap (command_behind name) e),
    λ bad. absurd (bad (named_fault ∙ f)),
  )
  named_agrees known ids reads refuses (fell bad h) = (
    λ none. absurd (bad (sym named_fault ∙ none)),
    λ some. behind_none known (length ids) refuses (parts_after rest None) h,
  )

run_agrees : (rest : List Word) → AreTexts rest → Agrees (codes "run" ∷ rest)
unfolding walked command_read
run_agrees rest u = named_agrees (codes "run") run_rules refl refl refl rest run_known run_ids run_reads run_refuses
    (level_comes (codes "run") run_rules run_known run_ids run_table rest u)

pair_agrees : (rest : List Word) → AreTexts rest → Agrees (codes "pair" ∷ rest)
unfolding walked command_read
pair_agrees rest u = named_agrees (codes "pair") pair_rules refl refl refl rest is_turns pair_ids pair_reads pair_refuses
    (level_comes (codes "pair") pair_rules is_turns pair_ids pair_table rest u)

check_agrees : (rest : List Word) → AreTexts rest → Agrees (codes "check" ∷ rest)
unfolding walked command_read
check_agrees rest u = named_agrees (codes "check") one_rules refl refl refl rest none_known one_ids (λ parts g. ap check_of (one_reads parts g)) (λ parts h. ap check_of (one_refuses parts h))
    (level_comes (codes "check") one_rules none_known one_ids one_table rest u)

make_agrees : (rest : List Word) → AreTexts rest → Agrees (codes "make" ∷ rest)
unfolding walked command_read number_read
make_agrees rest u = named_agrees (codes "make") one_rules refl refl refl rest none_known one_ids (λ parts g. ap (λ o. numbered make (made_number o)) (one_reads parts g))
    (λ parts h. ap (λ o. numbered make (made_number o)) (one_refuses parts h)) (level_comes (codes "make") one_rules none_known one_ids one_table rest u)

trial_agrees : (rest : List Word) → AreTexts rest → Agrees (codes "trial" ∷ rest)
unfolding walked command_read number_read
trial_agrees rest u = named_agrees (codes "trial") one_rules refl refl refl rest none_known one_ids (λ parts g. ap (λ o. numbered trial (made_number o)) (one_reads parts g))
    (λ parts h. ap (λ o. numbered trial (made_number o)) (one_refuses parts h)) (level_comes (codes "trial") one_rules none_known one_ids one_table rest u)

-- ---- any other word

module _ (word : Word) (not_run : bytes_eq word (codes "run") ≡ false) (not_check : bytes_eq word (codes "check") ≡ false) (not_pair : bytes_eq word (codes "pair") ≡ false)
    (not_make : bytes_eq word (codes "make") ≡ false) (not_trial : bytes_eq word (codes "trial") ≡ false) where
  no_command : (o : Option (List Part)) → command_behind word o ≡ None
  no_command None = refl
  no_command (Some parts) = λ i. cond (not_run i) (run_of (words_in parts) parts) (cond (not_check i) (check_of (only_word (words_in parts) parts)) (cond (not_pair i) (pair_of (words_in parts) parts)
      (cond (not_make i) (numbered make (made_number (only_word (words_in parts) parts))) (cond (not_trial i) (numbered trial (made_number (only_word (words_in parts) parts))) None))))

  not_met : subcommand_met line_names idle word ≡ None
  not_met =
      let a = swapped word (codes "run") not_run in
      let b = swapped word (codes "check") not_check in
      let c = swapped word (codes "pair") not_pair in
      let d = swapped word (codes "make") not_make in
      let e = swapped word (codes "trial") not_trial in
      λ i. option_map (λ (s : Text × List Text). s.0) (cond (a i || false) (Some (codes "run", [])) (cond (b i || false) (Some (codes "check", [])) (cond (c i || false) (Some (codes "pair", []))
      (cond (d i || false) (Some (codes "make", [])) (cond (e i || false) (Some (codes "trial", [])) None)))))

  other_turn : (k : ErrorKind) (ks : Kinds) → other_fault built_line None word nothing_held ≡ k ∷ ks → turn_fault built_line line_names start word ≡ k ∷ ks
  other_turn k ks e =
      let m = word_met [] line_names false idle 1 word nothing_held in
      ap (λ o. or_else (other_fault built_line o word nothing_held) (step_fault built_line 1 m.0 m.1)) not_met ∙ ap (λ f. or_else f (step_fault built_line 1 m.0 m.1)) e

  turn_ends : (rest : List Word) (k : ErrorKind) (ks : Kinds) → turn_fault built_line line_names start word ≡ k ∷ ks → fault_of line_app (word ∷ rest) ≡ [] → ⊥
  unfolding walk_fault
  turn_ends rest k ks e = cons≢nil ks _ k (fault_is (word ∷ rest)
      ∙ ap (λ f. faults_by (line_walk (word ∷ rest)) (or_else f (walk_fault built_line line_names (walked [] line_names start word) rest))) e)

  plain_turn : SeenAs word plain → turn_fault built_line line_names start word ≡ kind.UnknownArgument ∷ kind.InvalidSubcommand ∷ []
  plain_turn seen =
      let fault : word_fault built_line line_names false idle word nothing_held ≡ [] =
      ap (λ o. other_fault built_line o word nothing_held) not_met ∙ (λ i. cond (seen.0 i) [] (flag_word_fault [] false (seen.1 i) word nothing_held))
      ∙ ap (λ o. option_map_or (λ flags. bundle_fault [] false flags nothing_held) o []) seen.2 in
      let met : word_met [] line_names false idle 1 word nothing_held ≡ (nothing_held, value) =
      ap (λ o. subcommand_or_other [] o idle 1 word nothing_held) not_met ∙ (λ i. cond (seen.0 i) (nothing_held, trailing 1) (long_or_other [] idle word (seen.1 i) nothing_held))
      ∙ ap (λ o. short_or_plain [] idle word o nothing_held) seen.2 in
      λ i. or_else (fault i) (step_fault built_line 1 (met i).0 (met i).1)

  trails : (rest : List Word) → fold (walked [] line_names) (record start { is_trailing = true }) rest ≡ record start { is_trailing = true }
  unfolding walked
  trails [] = refl
  trails (x ∷ rest) = trails rest

  hyphens_stop : (rest : List Word) → (line_walk (two_hyphens ∷ rest)).stopped ≡ None
  unfolding walked
  hyphens_stop rest = ap (λ (w : Walk). w.stopped) (trails rest)

  other_by : (rest : List Word) (sh : Shape) → SeenAs word sh → fault_of line_app (word ∷ rest) ≡ [] → command_at (subcommand_of line_app (word ∷ rest)) ≡ None
  other_by rest plain seen none = absurd (turn_ends rest kind.UnknownArgument (kind.InvalidSubcommand ∷ []) (plain_turn seen) none)
  other_by rest all_positional seen none =
      ap command_at (sub_is (word ∷ rest) ∙ ap (λ w. entered built_app (line_walk (w ∷ rest)).stopped) seen ∙ ap (entered built_app) (hyphens_stop rest))
  other_by rest refused seen none =
      let fault : other_fault built_line None word nothing_held ≡ kind.UnknownArgument ∷ [] =
      (λ i. cond (seen.1 i) [] (flag_word_fault [] false (seen.2 i) word nothing_held)) ∙ ap (λ o. option_map_or (λ flags. bundle_fault [] false flags nothing_held) o []) seen.3
      ∙ bundle_fails [] (λ x. refl) seen.0 nothing_held refl seen.4 in
      absurd (turn_ends rest kind.UnknownArgument [] (other_turn kind.UnknownArgument [] fault) none)
  other_by rest (with_value n v) seen none =
      let fault : other_fault built_line None word nothing_held ≡ kind.UnknownArgument ∷ [] = λ i. cond (seen.0 i) [] (flag_word_fault [] false (seen.1 i) word nothing_held) in
      absurd (turn_ends rest kind.UnknownArgument [] (other_turn kind.UnknownArgument [] fault) none)
  other_by rest (without_value n) seen none =
      let fault : other_fault built_line None word nothing_held ≡ kind.UnknownArgument ∷ [] = λ i. cond (seen.0 i) [] (flag_word_fault [] false (seen.1 i) word nothing_held) in
      absurd (turn_ends rest kind.UnknownArgument [] (other_turn kind.UnknownArgument [] fault) none)

  other_agrees : (rest : List Word) → IsUtf8 word → Agrees (word ∷ rest)
  unfolding command_of
  other_agrees rest u = (
    λ none. other_by rest (shape_of word) (shape_seen word u) none ∙ sym (no_command (parts_after rest None)),
    λ some. no_command (parts_after rest None),
  )

-- ---- all words

no_words : Agrees []
unfolding command_of line_app walk_fault defaults_fault
no_words = (λ none. refl, λ some. refl)

some_words : (word : Word) (rest : List Word) → IsUtf8 word → AreTexts rest → Agrees (word ∷ rest)
some_words word rest u us = on_run (bytes_eq word (codes "run")) refl
  where
    named_as : (name : Word) → bytes_eq word name ≡ true → Agrees (name ∷ rest) → Agrees (word ∷ rest)
    named_as name e h = subst (λ w. Agrees (w ∷ rest)) (sym (same_name word name e)) h

    on_trial : (b : Bool) → bytes_eq word (codes "trial") ≡ b → bytes_eq word (codes "run") ≡ false → bytes_eq word (codes "check") ≡ false → bytes_eq word (codes "pair") ≡ false
        → bytes_eq word (codes "make") ≡ false → Agrees (word ∷ rest)
    on_trial true e a b c d = named_as (codes "trial") e (trial_agrees rest us)
    on_trial false e a b c d = other_agrees word a b c d e rest u

    on_make : (b : Bool) → bytes_eq word (codes "make") ≡ b → bytes_eq word (codes "run") ≡ false → bytes_eq word (codes "check") ≡ false → bytes_eq word (codes "pair") ≡ false → Agrees (word ∷ rest)
    on_make true e a b c = named_as (codes "make") e (make_agrees rest us)
    on_make false e a b c = on_trial (bytes_eq word (codes "trial")) refl a b c e

    on_pair : (b : Bool) → bytes_eq word (codes "pair") ≡ b → bytes_eq word (codes "run") ≡ false → bytes_eq word (codes "check") ≡ false → Agrees (word ∷ rest)
    on_pair true e a b = named_as (codes "pair") e (pair_agrees rest us)
    on_pair false e a b = on_make (bytes_eq word (codes "make")) refl a b e

    on_check : (b : Bool) → bytes_eq word (codes "check") ≡ b → bytes_eq word (codes "run") ≡ false → Agrees (word ∷ rest)
    on_check true e a = named_as (codes "check") e (check_agrees rest us)
    on_check false e a = on_pair (bytes_eq word (codes "pair")) refl a e

    on_run : (b : Bool) → bytes_eq word (codes "run") ≡ b → Agrees (word ∷ rest)
    on_run true e = named_as (codes "run") e (run_agrees rest us)
    on_run false e = on_check (bytes_eq word (codes "check")) refl e

pub agrees : (words : List Word) → AreTexts words → Agrees words
agrees [] u = no_words
agrees (word ∷ rest) u = some_words word rest u.0 u.1

-- The arguments of the five commands as `clap` builds them, and what it finds among them.
use Rattle.std.proofs.Common.{◌≡◌, ◌∙◌, ◌<◌, ◌≤◌, ◌&&◌, ◌||◌, ℕ, Bool, cond, not, true, false, zero, suc, refl, sym, ap, subst, arith, List, [], ◌∷◌, length, Some, None, true≢false, ne_eqb, bytes_eq, codes, fold, ◌⊎◌, inl, inr, ⊎_elim}
use Rattle.std.specs.Prelude.{◌==◌, ⊤}
use Rattle.std.specs.List.{list_any}
use Rattle.std.proofs.lemmas.Bool.{or_parts, or_right}
use Rattle.clap.specs.Walk.{Row, Rule, Text, arg_by_id, arg_by_index, arg_by_long, arg_by_short, default_rows, has_row, is_empty, reading_by, with_default}
use Rattle.clap.specs.Faults.{defaults_fault, given_default_fault}
use Rattle.clap.specs.Kinds.{or_else}
use Rattle.clap.specs.Simple.{App, Shape, new_shape}
use Rattle.clap.specs.declared.builder.action.ArgAction.TheVariants.{Set}
use Rattle.clap.specs.declared.builder.value_parser.ValueParser.TheVariants as vp
use Rattle.command_line.specs.Commands.{Word, is_turns, is_observer}
use Rattle.command_line.proofs.Parts.{id_at, same_name, swapped}

-- ---- arguments

abbrev pub built_option : Text → Rule
built_option name = record {
  id = name;
  long = Some name;
  aliases = [];
  short = None;
  short_aliases = [];
  index = None;
  action = Some Set;
  range = Some (record { start_inclusive = 1; end_inclusive = 1 });
  value_names = 0;
  defaults = [];
  missing = [];
  trailing_var_arg = false;
  parser = Some vp.String;
  ignore_case = false;
  required = false;
  is_simple = true;
  is_free = true;
}

abbrev pub built_positional : ℕ → Text → Rule
built_positional place id = record {
  id = id;
  long = None;
  aliases = [];
  short = None;
  short_aliases = [];
  index = Some place;
  action = Some Set;
  range = Some (record { start_inclusive = 1; end_inclusive = 1 });
  value_names = 0;
  defaults = [];
  missing = [];
  trailing_var_arg = false;
  parser = Some vp.String;
  ignore_case = false;
  required = true;
  is_simple = true;
  is_free = true;
}

-- what is found among arguments that are options with known names, and positionals with these ids
pub record Table (rules : List Rule) (known : Text → Bool) (ids : List Text) : Type 0 where
  pub long_known : (name : Text) → known name ≡ true → arg_by_long rules name ≡ Some (built_option name)
  pub long_other : (name : Text) → known name ≡ false → arg_by_long rules name ≡ None
  pub by_name : (name : Text) → known name ≡ true → arg_by_id rules name ≡ Some (built_option name)
  pub no_short : (x : ℕ) → arg_by_short rules x ≡ None
  pub place : (i : ℕ) → i < length ids → arg_by_index rules (suc i) ≡ Some (built_positional (suc i) (id_at ids i))
  pub no_place : (i : ℕ) → length ids ≤ i → arg_by_index rules (suc i) ≡ None
  pub by_place : (i : ℕ) → i < length ids → arg_by_id rules (id_at ids i) ≡ Some (built_positional (suc i) (id_at ids i))
  pub few : length ids ≤ 5
  pub apart : (i : ℕ) → known (id_at ids i) ≡ false
  pub distinct : (i j : ℕ) → i < j → j < length ids → bytes_eq (id_at ids i) (id_at ids j) ≡ false
  pub defaults : (rows : List Row) → fold with_default rows rules ≡ rows
  pub no_faults : (rows : List Row) → defaults_fault rows rules ≡ []
  pub required : (g : Text → Bool) → list_any (λ (a : Rule). a.required && not (g a.id)) rules ≡ list_any (λ id. not (g id)) ids

-- ---- defaults

abbrev HaveNoDefaults : List Rule → Type 0
HaveNoDefaults [] = ⊤
HaveNoDefaults (a ∷ rules) = (a.defaults ≡ []) × HaveNoDefaults rules

either_way : {X : Type 0} (b : Bool) (x : X) → cond b x x ≡ x
either_way true x = refl
either_way false x = refl

no_default : (rows : List Row) (a : Rule) → a.defaults ≡ [] → with_default rows a ≡ rows
no_default rows a e = ap (λ d. cond (has_row a.id rows) rows (default_rows a.id (reading_by a) d rows)) e ∙ either_way (has_row a.id rows) rows

no_defaults : (rules : List Rule) → HaveNoDefaults rules → (rows : List Row) → fold with_default rows rules ≡ rows
no_defaults [] h rows = refl
no_defaults (a ∷ rules) h rows = ap (λ r. fold with_default r rules) (no_default rows a h.0) ∙ no_defaults rules h.1 rows

no_default_faults : (rules : List Rule) → HaveNoDefaults rules → (rows : List Row) → defaults_fault rows rules ≡ []
unfolding defaults_fault
no_default_faults [] h rows = refl
no_default_faults (a ∷ rules) h rows =
    ap (λ d. or_else (cond (has_row a.id rows || is_empty d) [] (given_default_fault a d)) (defaults_fault (with_default rows a) rules)) h.0
    ∙ ap (λ b. or_else (cond b [] (given_default_fault a [])) (defaults_fault (with_default rows a) rules)) (or_right (has_row a.id rows) true refl)
    ∙ no_default_faults rules h.1 (with_default rows a)

either : (a b : Bool) → (a || b) ≡ true → (a ≡ true) ⊎ (b ≡ true)
either true b e = inl refl
either false b e = inr e

-- ---- `run`

abbrev pub run_known : Word → Bool
run_known name = is_turns name || is_observer name

abbrev pub run_ids : List Text
run_ids = codes "script" ∷ codes "policy" ∷ codes "input" ∷ []

abbrev pub run_rules : List Rule
run_rules = built_option (codes "turns") ∷ built_option (codes "observer") ∷ built_positional 1 (codes "script") ∷ built_positional 2 (codes "policy")
    ∷ built_positional 3 (codes "input") ∷ []

run_name : (P : Text → Type 0) → P (codes "turns") → P (codes "observer") → (name : Text) → run_known name ≡ true → P name
run_name P t o name e = ⊎_elim (λ h. subst P (sym (same_name name (codes "turns") h)) t) (λ h. subst P (sym (same_name name (codes "observer") h)) o)
    (either (is_turns name) (is_observer name) e)

run_distinct : (i j : ℕ) → i < j → j < 3 → bytes_eq (id_at run_ids i) (id_at run_ids j) ≡ false
run_distinct zero (suc zero) lt below = refl
run_distinct zero (suc (suc zero)) lt below = refl
run_distinct (suc zero) (suc (suc zero)) lt below = refl
run_distinct i j lt below = absurd (omega arith)

run_place : (i : ℕ) → i < 3 → arg_by_index run_rules (suc i) ≡ Some (built_positional (suc i) (id_at run_ids i))
run_place zero lt = refl
run_place (suc zero) lt = refl
run_place (suc (suc zero)) lt = refl
run_place (suc (suc (suc i))) lt = absurd (omega arith)

run_by_place : (i : ℕ) → i < 3 → arg_by_id run_rules (id_at run_ids i) ≡ Some (built_positional (suc i) (id_at run_ids i))
run_by_place zero lt = refl
run_by_place (suc zero) lt = refl
run_by_place (suc (suc zero)) lt = refl
run_by_place (suc (suc (suc i))) lt = absurd (omega arith)

run_apart : (i : ℕ) → run_known (id_at run_ids i) ≡ false
run_apart zero = refl
run_apart (suc zero) = refl
run_apart (suc (suc zero)) = refl
run_apart (suc (suc (suc i))) = refl

run_no_place : (i : ℕ) → 3 ≤ i → arg_by_index run_rules (suc i) ≡ None
run_no_place i le =
    let p : (1 == suc i) ≡ false = ne_eqb 1 (suc i) (λ e. omega arith) in
    let q : (2 == suc i) ≡ false = ne_eqb 2 (suc i) (λ e. omega arith) in
    let r : (3 == suc i) ≡ false = ne_eqb 3 (suc i) (λ e. omega arith) in
    λ j. cond (p j) (Some (built_positional 1 (codes "script"))) (cond (q j) (Some (built_positional 2 (codes "policy"))) (cond (r j) (Some (built_positional 3 (codes "input"))) None))

run_long_other : (name : Text) → run_known name ≡ false → arg_by_long run_rules name ≡ None
run_long_other name e =
    let apart = or_parts (is_turns name) (is_observer name) e in
    let t = swapped name (codes "turns") apart.0 in
    let o = swapped name (codes "observer") apart.1 in
    λ i. cond (t i || false) (Some (built_option (codes "turns"))) (cond (o i || false) (Some (built_option (codes "observer"))) None)

pub run_table : Table run_rules run_known run_ids
run_table = record {
  long_known = run_name (λ name. arg_by_long run_rules name ≡ Some (built_option name)) refl refl;
  long_other = run_long_other;
  by_name = run_name (λ name. arg_by_id run_rules name ≡ Some (built_option name)) refl refl;
  no_short = λ x. refl;
  place = run_place;
  no_place = run_no_place;
  by_place = run_by_place;
  few = omega arith;
  apart = run_apart;
  distinct = run_distinct;
  defaults = no_defaults run_rules (refl, (refl, (refl, (refl, (refl, tt)))));
  no_faults = no_default_faults run_rules (refl, (refl, (refl, (refl, (refl, tt)))));
  required = λ g. refl;
}

-- ---- `pair`

abbrev pub pair_ids : List Text
pair_ids = codes "script" ∷ codes "policy" ∷ codes "first" ∷ codes "second" ∷ codes "view" ∷ []

abbrev pub pair_rules : List Rule
pair_rules = built_option (codes "turns") ∷ built_positional 1 (codes "script") ∷ built_positional 2 (codes "policy") ∷ built_positional 3 (codes "first")
    ∷ built_positional 4 (codes "second") ∷ built_positional 5 (codes "view") ∷ []

pair_name : (P : Text → Type 0) → P (codes "turns") → (name : Text) → is_turns name ≡ true → P name
pair_name P t name e = subst P (sym (same_name name (codes "turns") e)) t

pair_distinct : (i j : ℕ) → i < j → j < 5 → bytes_eq (id_at pair_ids i) (id_at pair_ids j) ≡ false
pair_distinct zero (suc zero) lt below = refl
pair_distinct zero (suc (suc zero)) lt below = refl
pair_distinct zero (suc (suc (suc zero))) lt below = refl
pair_distinct zero (suc (suc (suc (suc zero)))) lt below = refl
pair_distinct (suc zero) (suc (suc zero)) lt below = refl
pair_distinct (suc zero) (suc (suc (suc zero))) lt below = refl
pair_distinct (suc zero) (suc (suc (suc (suc zero)))) lt below = refl
pair_distinct (suc (suc zero)) (suc (suc (suc zero))) lt below = refl
pair_distinct (suc (suc zero)) (suc (suc (suc (suc zero)))) lt below = refl
pair_distinct (suc (suc (suc zero))) (suc (suc (suc (suc zero)))) lt below = refl
pair_distinct i j lt below = absurd (omega arith)

pair_place : (i : ℕ) → i < 5 → arg_by_index pair_rules (suc i) ≡ Some (built_positional (suc i) (id_at pair_ids i))
pair_place zero lt = refl
pair_place (suc zero) lt = refl
pair_place (suc (suc zero)) lt = refl
pair_place (suc (suc (suc zero))) lt = refl
pair_place (suc (suc (suc (suc zero)))) lt = refl
pair_place (suc (suc (suc (suc (suc i))))) lt = absurd (omega arith)

pair_by_place : (i : ℕ) → i < 5 → arg_by_id pair_rules (id_at pair_ids i) ≡ Some (built_positional (suc i) (id_at pair_ids i))
pair_by_place zero lt = refl
pair_by_place (suc zero) lt = refl
pair_by_place (suc (suc zero)) lt = refl
pair_by_place (suc (suc (suc zero))) lt = refl
pair_by_place (suc (suc (suc (suc zero)))) lt = refl
pair_by_place (suc (suc (suc (suc (suc i))))) lt = absurd (omega arith)

pair_apart : (i : ℕ) → is_turns (id_at pair_ids i) ≡ false
pair_apart zero = refl
pair_apart (suc zero) = refl
pair_apart (suc (suc zero)) = refl
pair_apart (suc (suc (suc zero))) = refl
pair_apart (suc (suc (suc (suc zero)))) = refl
pair_apart (suc (suc (suc (suc (suc i))))) = refl

pair_no_place : (i : ℕ) → 5 ≤ i → arg_by_index pair_rules (suc i) ≡ None
pair_no_place i le =
    let p : (1 == suc i) ≡ false = ne_eqb 1 (suc i) (λ e. omega arith) in
    let q : (2 == suc i) ≡ false = ne_eqb 2 (suc i) (λ e. omega arith) in
    let r : (3 == suc i) ≡ false = ne_eqb 3 (suc i) (λ e. omega arith) in
    let s : (4 == suc i) ≡ false = ne_eqb 4 (suc i) (λ e. omega arith) in
    let t : (5 == suc i) ≡ false = ne_eqb 5 (suc i) (λ e. omega arith) in
    λ j. cond (p j) (Some (built_positional 1 (codes "script"))) (cond (q j) (Some (built_positional 2 (codes "policy"))) (cond (r j) (Some (built_positional 3 (codes "first")))
    (cond (s j) (Some (built_positional 4 (codes "second"))) (cond (t j) (Some (built_positional 5 (codes "view"))) None))))

pub pair_table : Table pair_rules is_turns pair_ids
pair_table = record {
  long_known = pair_name (λ name. arg_by_long pair_rules name ≡ Some (built_option name)) refl;
  long_other = λ name e. let t = swapped name (codes "turns") e in λ i. cond (t i || false) (Some (built_option (codes "turns"))) None;
  by_name = pair_name (λ name. arg_by_id pair_rules name ≡ Some (built_option name)) refl;
  no_short = λ x. refl;
  place = pair_place;
  no_place = pair_no_place;
  by_place = pair_by_place;
  few = omega arith;
  apart = pair_apart;
  distinct = pair_distinct;
  defaults = no_defaults pair_rules (refl, (refl, (refl, (refl, (refl, (refl, tt))))));
  no_faults = no_default_faults pair_rules (refl, (refl, (refl, (refl, (refl, (refl, tt))))));
  required = λ g. refl;
}

-- ---- one word

abbrev pub none_known : Word → Bool
none_known name = false

abbrev pub one_ids : List Text
one_ids = codes "word" ∷ []

abbrev pub one_rules : List Rule
one_rules = built_positional 1 (codes "word") ∷ []

one_distinct : (i j : ℕ) → i < j → j < 1 → bytes_eq (id_at one_ids i) (id_at one_ids j) ≡ false
one_distinct i j lt below = absurd (omega arith)

one_place : (i : ℕ) → i < 1 → arg_by_index one_rules (suc i) ≡ Some (built_positional (suc i) (id_at one_ids i))
one_place zero lt = refl
one_place (suc i) lt = absurd (omega arith)

one_by_place : (i : ℕ) → i < 1 → arg_by_id one_rules (id_at one_ids i) ≡ Some (built_positional (suc i) (id_at one_ids i))
one_by_place zero lt = refl
one_by_place (suc i) lt = absurd (omega arith)

one_no_place : (i : ℕ) → 1 ≤ i → arg_by_index one_rules (suc i) ≡ None
one_no_place i le =
    let p : (1 == suc i) ≡ false = ne_eqb 1 (suc i) (λ e. omega arith) in
    λ j. cond (p j) (Some (built_positional 1 (codes "word"))) None

pub one_table : Table one_rules none_known one_ids
one_table = record {
  long_known = λ name e. absurd (true≢false (sym e));
  long_other = λ name e. refl;
  by_name = λ name e. absurd (true≢false (sym e));
  no_short = λ x. refl;
  place = one_place;
  no_place = one_no_place;
  by_place = one_by_place;
  few = omega arith;
  apart = λ i. refl;
  distinct = one_distinct;
  defaults = no_defaults one_rules (refl, tt);
  no_faults = no_default_faults one_rules (refl, tt);
  required = λ g. refl;
}

-- ---- the commands

-- a command of the five, as it is built
abbrev pub built_command : Text → List Rule → Shape
built_command name rules = record (new_shape name) { rules = rules; no_binary_name = true; disable_help_flag = true; disable_help_subcommand = true; is_built = true }

-- the command above them
abbrev pub built_line : Shape
built_line = record (new_shape (codes "jsflow")) { is_leaf = false; no_binary_name = true; disable_help_flag = true; disable_help_subcommand = true; is_built = true }

abbrev pub built_app : App
built_app = record {
  top = built_line;
  subs = built_command (codes "run") run_rules ∷ built_command (codes "check") one_rules ∷ built_command (codes "pair") pair_rules
      ∷ built_command (codes "make") one_rules ∷ built_command (codes "trial") one_rules ∷ [];
}

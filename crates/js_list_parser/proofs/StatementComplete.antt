-- Each valid statement is read, where what follows doesn't go on with it: one layer, over the parsers of less depth.
use Rattle.std.proofs.Common.{◌≡◌, ℕ, suc, ◌+◌, ◌<◌, ◌≤◌, Bool, true, false, ◌⊎◌, inl, inr, List, length, Option, Some, None, Ok, refl, sym, ap, ◌∙◌, arith}
use Rattle.js_ast.specs.declared.token.Token.{Token}
use Rattle.js_ast.specs.declared.words.Keyword.TheVariants as key
use Rattle.js_ast.specs.declared.words.Sign.TheVariants as sign
use Rattle.js_ast.specs.Words.{Word, a_sign}
use Rattle.js_ast.specs.Trees.{Ident, Semi, written, elided, Expr, name, paren, member, index, new_with, new_bare, call, postfix, unary, binary, conditional, assign, comma, MaybeExpr, absent, present, Declarations, one_declaration, more_declarations, First, first_expr, first_var, Target, target_expr, target_var, Clauses, no_clauses, case, default, Block, block_of, Statement, block, var, empty, expression, if_then, if_else, do_while, while, for, for_in, continue, break, return, throw, switch, labelled, try_catch, try_finally, try_both, debugger, function_declaration, Statements, no_statements, more_statements, Function, function_of}
use Rattle.js_ast.specs.Levels.{level, is_bare_new, is_target}
use Rattle.js_ast.specs.Grammar.{Part, ◌⨾◌, Takes, sign_part, key_part, parens, ReadsIdent, is_close_brace, is_semicolon, Ends, as_option, last_initialiser, Reads, ReadsMaybe, ReadsInitialiser, ReadsDeclarations, ReadsFirst, ReadsTarget, ReadsClauses, ReadsBlock, ReadsStatement, ReadsStatements}
use Rattle.js_ast.specs.Validity.{Valid, ValidMaybe, ValidInitialiser, ValidDeclarations, ValidFirst, ValidTarget, ValidClauses, ValidBlock, ValidStatement, ValidStatements, no_in, no_in_maybe, no_in_declarations, no_in_first, open_if, defaults}
use Rattle.js_ast.specs.Depth.{depth, depth_maybe, depth_declarations, depth_first, depth_target, depth_clauses, depth_block, depth_statement, depth_statements}
use Rattle.js_list_parser.specs.Reading.{word_at, again, done, Parsers}
use Rattle.js_list_parser.specs.ExpressionParsing.{is_open_paren, is_close_paren, is_open_brace, is_colon, begins_or_follows_statement, is_closer, Stops}
use Rattle.js_list_parser.specs.StatementParsing.{is_while, condition, initialiser_by, initialiser, next_declaration, declaration_step_by, declaration_step, declarations_from, declarations, block_in, inner_block_by, inner_block, var_rest, else_by, if_rest, do_rest, while_rest, header_part_by, header_part, for_steps, for_each, for_variable_by, for_variable, for_expression_by, for_expression, for_header_by, for_rest, continue_rest, break_rest, return_value, return_nothing, return_rest, throw_value, throw_rest, case_rest, default_rest, clause_step_by, clause_step, switch_rest, finally_by, catch_rest, handler_by, try_rest, debugger_rest, expression_rest, expression_statement, block_rest, block_by, block_at, statement_by, statement_at, function_declaration_rest, element_by, next_statement, ends_list, statements_step, statements_at}
use Rattle.js_ast.specs.Joined.{joined_declarations, joined_statements, joined_clauses}
use Rattle.js_list_parser.proofs.Completeness.{CompleteBelow}
use Rattle.js_list_parser.proofs.Stops.{not_le, and_parts, binding-low, closer_stops, comma_stops, in_stops, elided_stops}
use Rattle.js_list_parser.proofs.Begins.{reads_begins}
use Rattle.js_list_parser.proofs.Lengths.{takes_shortens, expr_shortens, initialiser_keeps, statement_shortens, statements_keep}
use Rattle.js_list_parser.proofs.Lists.{function_rest_reads}
use Rattle.js_list_parser.proofs.ExpressionComplete.{expression_complete}
use Rattle.js_list_parser.proofs.Runs.{Runs, ends, goes, runs-loop}
use Rattle.js_list_parser.proofs.StatementParts.{takes_word, takes_behind, expect_takes, ident_takes, ends_read, label_read, begins_statement, is_else, is_function, is_in_word, is_assign, is_comma, is_colon_word, begins_follows, ends_follows, begins_not_end, begins_not_else, ends_not_else, follows_not_finally, follows_not_assign, follows_not_comma, follows_not_colon, expression_statement_begins, initialiser_none, declarations_end, header_expression, for_header_expression, for_variables, else_none, finally_none, no_label, element_plain, reads_expression_statement, starts_plain, begins_value, ends_nothing}

-- whether a statement is a block
abbrev pub is_block : Statement → Bool
is_block (block b) = true
is_block s = false

-- whether a statement is a function declaration
abbrev pub is_declared : Statement → Bool
is_declared (function_declaration at f) = true
is_declared s = false

-- what follows doesn't go on with the statement: no `else` behind an open `if`, and behind all but a block what begins a statement, or may be
-- behind one, or nothing
pub record StatementStops (s : Statement) (z : List Token) : Type 0 where
  pub no_else : open_if s ≡ true → is_else (word_at z) ≡ false
  pub follows : is_block s ≡ false → begins_or_follows_statement (word_at z) ≡ true

-- each valid statement and list of statements whose depth is below a number is read
pub record StatementsBelow (d : ℕ) (sub : Parsers) : Type 0 where
  pub statement : (s : Statement) (ts z : List Token) → ValidStatement false s → depth_statement s < d → ReadsStatement s ts z → StatementStops s z → sub.statement ts ≡ Ok (s, z)
  pub statements : (outer : Bool) (ss : Statements) (ts z : List Token) → ValidStatements outer ss → depth_statements ss < d → ReadsStatements ss ts z → ends_list (word_at z) ≡ true → sub.statements outer ts ≡ Ok (ss, z)

-- ---- what may be behind the initialiser of a variable

abbrev pub InitialiserStops : Bool → Option Expr → List Token → Type 0
InitialiserStops free None z = is_assign (word_at z) ≡ false
InitialiserStops free (Some e) z = Stops 1 free e z

-- the name of the first variable, and what is behind it
abbrev pub first_name : Declarations → Ident
first_name (one_declaration i init) = i
first_name (more_declarations i init ds) = i

abbrev pub AfterName : Declarations → Part
AfterName (one_declaration i init) = ReadsInitialiser init
AfterName (more_declarations i init ds) = ReadsInitialiser init ⨾ (sign_part sign.Comma ⨾ ReadsDeclarations ds)

-- variables are a name and what is behind it
named : (ds : Declarations) (ts z : List Token) → ReadsDeclarations ds ts z → (m : List Token) × ReadsIdent (first_name ds) ts m × AfterName ds m z
named (one_declaration i init) ts z h = h
named (more_declarations i init ds) ts z h = (h.1.0, h.1.1, (h.0, h.1.2, h.2))

-- joining variables is associative
joined_assoc : (ds es fs : Declarations) → joined_declarations (joined_declarations ds es) fs ≡ joined_declarations ds (joined_declarations es fs)
joined_assoc (one_declaration i init) es fs = refl
joined_assoc (more_declarations i init ds) es fs = ap (more_declarations i init) (joined_assoc ds es fs)

-- what may be behind variables
abbrev pub DeclarationsStop : Bool → Declarations → List Token → Type 0
DeclarationsStop free ds z = InitialiserStops free (last_initialiser ds) z × (is_comma (word_at z) ≡ false)

-- ---- lists of clauses and of statements

-- joining is associative
clauses_assoc : (a b c : Clauses) → joined_clauses (joined_clauses a b) c ≡ joined_clauses a (joined_clauses b c)
clauses_assoc no_clauses b c = refl
clauses_assoc (case e body a) b c = ap (case e body) (clauses_assoc a b c)
clauses_assoc (default body a) b c = ap (default body) (clauses_assoc a b c)

-- and joining none changes nothing
joined_nothing : (cs : Clauses) → joined_clauses cs no_clauses ≡ cs
joined_nothing no_clauses = refl
joined_nothing (case e body cs) = ap (case e body) (joined_nothing cs)
joined_nothing (default body cs) = ap (default body) (joined_nothing cs)

-- how many clauses of joined ones are `default`
pub defaults_joined : (a b : Clauses) → defaults (joined_clauses a b) ≡ defaults a + defaults b
defaults_joined no_clauses b = omega arith
defaults_joined (case e body a) b = defaults_joined a b
defaults_joined (default body a) b = omega (arith, defaults_joined a b)

-- joining is associative
statements_assoc : (a b c : Statements) → joined_statements (joined_statements a b) c ≡ joined_statements a (joined_statements b c)
statements_assoc no_statements b c = refl
statements_assoc (more_statements s a) b c = ap (more_statements s) (statements_assoc a b c)

-- and joining none changes nothing
statements_nothing : (ss : Statements) → joined_statements ss no_statements ≡ ss
statements_nothing no_statements = refl
statements_nothing (more_statements s ss) = ap (more_statements s) (statements_nothing ss)

-- a block has a depth
block_deep : (b : Block) → 1 ≤ depth_block b
block_deep (block_of at body) = omega arith

-- ---- what a `for in` assigns to has no `in` outside brackets

-- a bare `new` has the level of a call
bare_level : (e : Expr) → is_bare_new e ≡ true → 15 ≤ level e
bare_level (new_bare at e) h = omega arith
bare_level _ h = absurd cc

-- what has the level of a call or more has no `in` outside brackets
high_no_in : (e : Expr) → Valid e → 15 ≤ level e → no_in e ≡ true
high_no_in (member at e text) v l = high_no_in e v.0 v.1.0
high_no_in (index at e i) v l = high_no_in e v.0 v.1.0
high_no_in (new_with at e args) v l = let h = v.1 in high_no_in e v.0 (omega arith)
high_no_in (new_bare at e) v l = high_no_in e v.0 (go v.1)
  where
    go : (16 ≤ level e) ⊎ (is_bare_new e ≡ true) → 15 ≤ level e
    go (inl h) = omega arith
    go (inr h) = bare_level e h
high_no_in (call at e args) v l = high_no_in e v.0 v.1.0
high_no_in (postfix at e o) v l = absurd (omega arith)
high_no_in (unary at o e) v l = absurd (omega arith)
high_no_in (binary at l o r) v h = absurd (omega (arith, binding-low o))
high_no_in (conditional at e a b) v l = absurd (omega arith)
high_no_in (assign at l o r) v h = absurd (omega arith)
high_no_in (comma at l r) v h = absurd (omega arith)
high_no_in _ v l = refl

-- so a target has none
target_no_in : (e : Expr) → Valid e → is_target e ≡ true → no_in e ≡ true
target_no_in (name at text) v h = refl
target_no_in (member at e text) v h = high_no_in e v.0 v.1.0
target_no_in (index at e i) v h = high_no_in e v.0 v.1.0
target_no_in (paren at e) v h = refl
target_no_in _ v h = absurd cc

-- ---- how statements begin

-- a statement that is no function declaration is valid anywhere
plain_valid : (outer : Bool) (s : Statement) → ValidStatement outer s → is_declared s ≡ false → ValidStatement false s
plain_valid outer (function_declaration at f) v h = absurd cc
plain_valid outer _ v h = v

module _ (d : ℕ) (sub : Parsers) (c : CompleteBelow d sub) (b : StatementsBelow d sub) where
  -- a token that ends each expression before it
  closes : (wanted : ℕ) (free : Bool) (e : Expr) (w : Word) (z : List Token) → word_at z ≡ Some w → is_closer (Some w) ≡ true → Stops wanted free e z
  closes wanted free e w z h g = closer_stops wanted free e z (ap is_closer h ∙ g)

  -- ---- expressions

  -- an expression that is a part
  inner : (e : Expr) (ts z : List Token) → Valid e → depth e < d → Reads e ts z → Stops 0 true e z → sub.expression 0 true ts ≡ Ok (e, z)
  inner e ts z v lt r s = c.expression 0 true e ts z v lt (inl (omega arith)) (λ h. absurd cc) r s

  -- an expression before a token that ends it
  inner_before : (e : Expr) (w : Word) (ts m z : List Token) → Valid e → depth e < d → Reads e ts m → Takes w m z → is_closer (Some w) ≡ true → sub.expression 0 true ts ≡ Ok (e, m)
  inner_before e w ts m z v lt r t g = inner e ts m v lt r (closes 0 true e w m (takes_word t) g)

  -- an expression in parentheses
  condition_reads : (e : Expr) (ts z : List Token) → Valid e → depth e < d → parens (Reads e) ts z → condition sub ts ≡ Ok (e, z)
  unfolding condition
  condition_reads e ts z v lt h =
      rw (expect_takes is_open_paren refl h.1, inner_before e (a_sign sign.CloseParen) h.0 h.2.0 z v lt h.2.1 h.2.2 refl, expect_takes is_close_paren refl h.2.2) refl

  -- ---- the end of a statement

  -- what follows an expression at the end of a statement
  ends_stops : (wanted : ℕ) (free : Bool) (e : Expr) (semi : Semi) (ts z : List Token) → Ends (Some e) semi ts z → begins_or_follows_statement (word_at z) ≡ true → Stops wanted free e ts
  ends_stops wanted free e written ts z h g = closes wanted free e (a_sign sign.Semicolon) ts (takes_word h) refl
  ends_stops wanted free e elided ts z h g = elided_stops wanted free e ts h.1 (rw h.0 g)

  -- what follows the last variable of a statement
  ends_initialiser : (before : Option Expr) (semi : Semi) (ts z : List Token) → Ends before semi ts z → begins_or_follows_statement (word_at z) ≡ true → InitialiserStops true before ts × (is_comma (word_at ts) ≡ false)
  ends_initialiser None written ts z h g = (rw (takes_word h) refl, rw (takes_word h) refl)
  ends_initialiser (Some e) written ts z h g = (ends_stops 1 true e written ts z h g, rw (takes_word h) refl)
  ends_initialiser None elided ts z h g = (rw h.0 (follows_not_assign (word_at z) g), rw h.0 (follows_not_comma (word_at z) g))
  ends_initialiser (Some e) elided ts z h g = (ends_stops 1 true e elided ts z h g, rw h.0 (follows_not_comma (word_at z) g))

  -- ---- variables

  -- an initialiser, or none
  initialiser_reads : (free : Bool) (init : MaybeExpr) (ts z : List Token) → ValidInitialiser init → depth_maybe init < d → (free ≡ false → no_in_maybe init ≡ true) → ReadsInitialiser init ts z → InitialiserStops free (as_option init) z
      → initialiser sub free ts ≡ Ok (init, z)
  unfolding initialiser initialiser_by
  initialiser_reads free absent ts z v lt n h s = rw h (initialiser_none sub free (word_at z) z s)
  initialiser_reads free (present e) ts z v lt n h s =
      let l = v.1 in
      rw (takes_word h.1, takes_behind h.1, c.expression 1 free e h.0 z v.0 lt (inl l) n h.2 s) refl

  -- a comma behind it
  comma_initialiser : (free : Bool) (init : MaybeExpr) (z : List Token) → word_at z ≡ Some (a_sign sign.Comma) → InitialiserStops free (as_option init) z
  comma_initialiser free absent z h = rw h refl
  comma_initialiser free (present e) z h = comma_stops 1 free e z h (omega arith)

  -- a further variable
  one_more : (free : Bool) (front : Declarations) (i : Ident) (init : MaybeExpr) (ts m k z : List Token) → ValidInitialiser init → depth_maybe init < d → (free ≡ false → no_in_maybe init ≡ true)
      → sign_part sign.Comma ts m → ReadsIdent i m k → ReadsInitialiser init k z → InitialiserStops free (as_option init) z → declaration_step sub free front ts ≡ Ok (again (joined_declarations front (one_declaration i init)), z)
  unfolding declaration_step declaration_step_by next_declaration
  one_more free front i init ts m k z v lt n t r h s = rw (takes_word t, takes_behind t, ident_takes i m k r, initialiser_reads free init k z v lt n h s) refl

  -- where no comma follows the variables end
  declarations_stop : (free : Bool) (ds : Declarations) (z : List Token) → is_comma (word_at z) ≡ false → declaration_step sub free ds z ≡ Ok (done ds, z)
  unfolding declaration_step
  declarations_stop free ds z h = declarations_end sub free ds (word_at z) z h

  -- the length of what is behind a further variable
  one_less : (i : Ident) (init : MaybeExpr) (ts m k z : List Token) → sign_part sign.Comma ts m → ReadsIdent i m k → ReadsInitialiser init k z → length z < length ts
  one_less i init ts m k z t r h =
      let a : length ts ≡ suc (length m) = rw t.1 refl in
      let e : length m ≡ suc (length k) = rw r.1.1 refl in
      let l = initialiser_keeps init k z h in omega arith

  -- variables behind the first ones
  declarations_run : (free : Bool) (ds front : Declarations) (ts z : List Token) → ValidDeclarations ds → depth_declarations ds < d → (free ≡ false → no_in_declarations ds ≡ true) → (sign_part sign.Comma ⨾ ReadsDeclarations ds) ts z
      → DeclarationsStop free ds z → Runs (declaration_step sub free) (joined_declarations front ds) z front ts
  declarations_run free (one_declaration i init) front ts z v lt n h s =
      goes (one_more free front i init ts h.0 h.2.0 z v lt n h.1 h.2.1 h.2.2 s.0) (one_less i init ts h.0 h.2.0 z h.1 h.2.1 h.2.2) (ends (declarations_stop free (joined_declarations front (one_declaration i init)) z s.1))
  declarations_run free (more_declarations i init ds) front ts z v lt n h s =
      let r = h.2.1 in
      let t = h.2.2 in
      let rest = declarations_run free ds (joined_declarations front (one_declaration i init)) h.2.0 z v.1 (omega arith) (λ f. (and_parts (no_in_maybe init) (no_in_declarations ds) (n f)).1) t s in
      goes (one_more free front i init ts h.0 r.0 h.2.0 v.0 (omega arith) (λ f. (and_parts (no_in_maybe init) (no_in_declarations ds) (n f)).0) h.1 r.1 r.2 (comma_initialiser free init h.2.0 (takes_word t.1)))
      (one_less i init ts h.0 r.0 h.2.0 h.1 r.1 r.2) (rw joined_assoc at rest)

  -- variables from behind the first name on
  declarations_from_read : (free : Bool) (ds : Declarations) (ts z : List Token) → ValidDeclarations ds → depth_declarations ds < d → (free ≡ false → no_in_declarations ds ≡ true) → AfterName ds ts z → DeclarationsStop free ds z
      → declarations_from sub free (first_name ds) ts ≡ Ok (ds, z)
  unfolding declarations_from
  declarations_from_read free (one_declaration i init) ts z v lt n h s =
      rw (initialiser_reads free init ts z v lt n h s.0) (runs-loop (ends (declarations_stop free (one_declaration i init) z s.1)))
  declarations_from_read free (more_declarations i init ds) ts z v lt n h s =
      rw (initialiser_reads free init ts h.0 v.0 (omega arith) (λ f. (and_parts (no_in_maybe init) (no_in_declarations ds) (n f)).0) h.1 (comma_initialiser free init h.0 (takes_word h.2.1)))
      (runs-loop (declarations_run free ds (one_declaration i init) h.0 z v.1 (omega arith) (λ f. (and_parts (no_in_maybe init) (no_in_declarations ds) (n f)).1) h.2 s))

  -- variables
  declarations_read : (free : Bool) (ds : Declarations) (ts z : List Token) → ValidDeclarations ds → depth_declarations ds < d → (free ≡ false → no_in_declarations ds ≡ true) → ReadsDeclarations ds ts z → DeclarationsStop free ds z
      → declarations sub free ts ≡ Ok (ds, z)
  unfolding declarations
  declarations_read free ds ts z v lt n h s = let p = named ds ts z h in rw (ident_takes (first_name ds) ts p.0 p.1) (declarations_from_read free ds p.0 z v lt n p.2 s)

  -- ---- statements, each by its own form

  -- a block, at the depth itself
  block_reads : (bl : Block) (ts z : List Token) → ValidBlock bl → depth_block bl ≤ d → ReadsBlock bl ts z → block_at sub d ts ≡ Ok (bl, z)
  unfolding block_at block_by block_rest
  block_reads (block_of at body) ts z v le h =
      let t = h.1.2.2 in
      rw (takes_word h.1.1, not_le d 0 (omega arith), takes_behind h.1.1, ← h.0, b.statements false body h.1.0 h.1.2.0 v (omega arith) h.1.2.1 (rw (takes_word t) refl), expect_takes is_close_brace refl t) refl

  -- a block that is a part
  inner_block_reads : (bl : Block) (ts z : List Token) → ValidBlock bl → depth_block bl < d → ReadsBlock bl ts z → inner_block sub ts ≡ Ok (bl, z)
  unfolding inner_block inner_block_by block_in
  inner_block_reads (block_of at body) ts z v lt h =
      rw (takes_word h.1.1, b.statement (block (block_of at body)) ts z v lt h (record { no_else = λ o. absurd cc; follows = λ o. absurd cc })) refl

  -- a part of a statement
  part : (s : Statement) (ts z : List Token) → ValidStatement false s → depth_statement s < d → ReadsStatement s ts z → (open_if s ≡ true → is_else (word_at z) ≡ false) → begins_or_follows_statement (word_at z) ≡ true
      → sub.statement ts ≡ Ok (s, z)
  part s ts z v lt h k f = b.statement s ts z v lt h (record { no_else = k; follows = λ o. f })

  -- the statement is read, within the depth
  abbrev Read_as : Statement → Type 0
  Read_as s = (ts z : List Token) → ValidStatement false s → depth_statement s ≤ d → ReadsStatement s ts z → StatementStops s z → statement_at sub d ts ≡ Ok (s, z)

  -- ECMA-262 12.1
  block_statement : (bl : Block) → Read_as (block bl)
  unfolding statement_at statement_by
  block_statement (block_of at body) ts z v le h k = rw (takes_word h.1.1, block_reads (block_of at body) ts z v le h) refl

  -- ECMA-262 12.2
  var_statement : (at : ℕ) (ds : Declarations) (semi : Semi) → Read_as (var at ds semi)
  unfolding statement_at statement_by var_rest
  var_statement at ds semi ts z v le h k =
      let t = h.1.2 in
      rw (
        takes_word h.1.1,
        not_le d 0 (omega arith),
        takes_behind h.1.1,
        ← h.0,
        declarations_read true ds h.1.0 t.0 v (omega arith) (λ f. absurd cc) t.1 (ends_initialiser (last_initialiser ds) semi t.0 z t.2 (k.follows refl)),
        ends_read (last_initialiser ds) semi t.0 z t.2,
      ) refl

  -- ECMA-262 12.3
  empty_statement : (at : ℕ) → Read_as (empty at)
  unfolding statement_at statement_by
  empty_statement at ts z v le h k = rw (takes_word h.1, not_le d 0 (omega arith), takes_behind h.1, ← h.0) refl

  -- ECMA-262 12.5, without `else`
  if_then_statement : (at : ℕ) (e : Expr) (s : Statement) → Read_as (if_then at e s)
  unfolding statement_at statement_by if_rest
  if_then_statement at e s ts z v le h k =
      let t = h.1.2 in
      rw (takes_word h.1.1, not_le d 0 (omega arith), takes_behind h.1.1, ← h.0, condition_reads e h.1.0 t.0 v.0 (omega arith) t.1, part s t.0 z v.1 (omega arith) t.2 (λ o. k.no_else refl) (k.follows refl))
      (else_none sub at e s (word_at z) z (k.no_else refl))

  -- and with it
  if_else_statement : (at : ℕ) (e : Expr) (s u : Statement) → Read_as (if_else at e s u)
  unfolding statement_at statement_by if_rest else_by
  if_else_statement at e s u ts z v le h k =
      let t = h.1.2 in
      let w = t.2 in
      let y = w.2 in
      rw (
        takes_word h.1.1,
        not_le d 0 (omega arith),
        takes_behind h.1.1,
        ← h.0,
        condition_reads e h.1.0 t.0 v.0 (omega arith) t.1,
        part s t.0 w.0 v.1 (omega arith) w.1 (λ o. let bad : true ≡ false = sym o ∙ v.2 in absurd cc) (rw (takes_word y.1) refl),
        takes_word y.1,
        takes_behind y.1,
        part u y.0 z v.3 (omega arith) y.2 k.no_else (k.follows refl),
      ) refl

  -- ECMA-262 12.6.1
  do_while_statement : (at : ℕ) (s : Statement) (e : Expr) (semi : Semi) → Read_as (do_while at s e semi)
  unfolding statement_at statement_by do_rest
  do_while_statement at s e semi ts z v le h k =
      let t = h.1.2 in
      let w = t.2 in
      let y = w.2 in
      rw (
        takes_word h.1.1,
        not_le d 0 (omega arith),
        takes_behind h.1.1,
        ← h.0,
        part s h.1.0 t.0 v.0 (omega arith) t.1 (λ o. rw (takes_word w.1) refl) (rw (takes_word w.1) refl),
        expect_takes is_while refl w.1,
        condition_reads e w.0 y.0 v.1 (omega arith) y.1,
        ends_read None semi y.0 z y.2,
      ) refl

  -- ECMA-262 12.6.2
  while_statement : (at : ℕ) (e : Expr) (s : Statement) → Read_as (while at e s)
  unfolding statement_at statement_by while_rest
  while_statement at e s ts z v le h k =
      let t = h.1.2 in
      rw (takes_word h.1.1, not_le d 0 (omega arith), takes_behind h.1.1, ← h.0, condition_reads e h.1.0 t.0 v.0 (omega arith) t.1, part s t.0 z v.1 (omega arith) t.2 k.no_else (k.follows refl)) refl

  -- ECMA-262 12.7
  continue_statement : (at : ℕ) (l : Option Ident) (semi : Semi) → Read_as (continue at l semi)
  unfolding statement_at statement_by continue_rest
  continue_statement at l semi ts z v le h k =
      let t = h.1.2 in
      rw (takes_word h.1.1, not_le d 0 (omega arith), takes_behind h.1.1, ← h.0, label_read l semi h.1.0 t.0 z t.1 t.2, ends_read None semi t.0 z t.2) refl

  -- ECMA-262 12.8
  break_statement : (at : ℕ) (l : Option Ident) (semi : Semi) → Read_as (break at l semi)
  unfolding statement_at statement_by break_rest
  break_statement at l semi ts z v le h k =
      let t = h.1.2 in
      rw (takes_word h.1.1, not_le d 0 (omega arith), takes_behind h.1.1, ← h.0, label_read l semi h.1.0 t.0 z t.1 t.2, ends_read None semi t.0 z t.2) refl

  -- ECMA-262 12.15
  debugger_statement : (at : ℕ) (semi : Semi) → Read_as (debugger at semi)
  unfolding statement_at statement_by debugger_rest
  debugger_statement at semi ts z v le h k = rw (takes_word h.1.1, not_le d 0 (omega arith), takes_behind h.1.1, ← h.0, ends_read None semi h.1.0 z h.1.2) refl

  -- ECMA-262 12.9
  return_statement : (at : ℕ) (m : MaybeExpr) (semi : Semi) → Read_as (return at m semi)
  unfolding statement_at statement_by return_rest return_nothing return_value
  return_statement at absent semi ts z v le h k =
      rw (takes_word h.1.1, not_le d 0 (omega arith), takes_behind h.1.1, ← h.0, ends_nothing semi h.1.0 z h.1.2, ends_read None semi h.1.0 z h.1.2) refl
  return_statement at (present e) semi ts z v le h k =
      let t = h.1.2 in
      rw (
        takes_word h.1.1,
        not_le d 0 (omega arith),
        takes_behind h.1.1,
        ← h.0,
        begins_value h.1.0 t.1.0 (reads_begins e h.1.0 t.0 t.1.1),
        inner e h.1.0 t.0 v (omega arith) t.1.1 (ends_stops 0 true e semi t.0 z t.2 (k.follows refl)),
        ends_read (Some e) semi t.0 z t.2,
      ) refl

  -- ECMA-262 12.13
  throw_statement : (at : ℕ) (e : Expr) (semi : Semi) → Read_as (throw at e semi)
  unfolding statement_at statement_by throw_rest throw_value
  throw_statement at e semi ts z v le h k =
      let t = h.1.2 in
      rw (
        takes_word h.1.1,
        not_le d 0 (omega arith),
        takes_behind h.1.1,
        ← h.0,
        t.1.0,
        inner e h.1.0 t.0 v (omega arith) t.1.1 (ends_stops 0 true e semi t.0 z t.2 (k.follows refl)),
        ends_read (Some e) semi t.0 z t.2,
      ) refl

  -- ECMA-262 12.12
  labelled_statement : (at : ℕ) (text : List ℕ) (s : Statement) → Read_as (labelled at text s)
  unfolding statement_at statement_by expression_statement expression_rest
  labelled_statement at text s ts z v le h k =
      let t = h.1.2 in
      rw (
        takes_word h.1.1,
        expression_complete c 0 true (name at text) ts h.1.0 tt (omega arith) (inl (omega arith)) (λ f. absurd cc) (h.0, h.1.1) (closes 0 true (name at text) (a_sign sign.Colon) h.1.0 (takes_word t.1) refl),
        ← h.0,
        takes_word t.1,
        not_le d 0 (omega arith),
        takes_behind t.1,
        part s t.0 z v (omega arith) t.2 k.no_else (k.follows refl),
      ) refl

  -- no colon ends an expression statement
  ends_no_colon : (e : Expr) (semi : Semi) (ts z : List Token) → Ends (Some e) semi ts z → begins_or_follows_statement (word_at z) ≡ true → is_colon_word (word_at ts) ≡ false
  ends_no_colon e written ts z h g = rw (takes_word h) refl
  ends_no_colon e elided ts z h g = rw h.0 (follows_not_colon (word_at z) g)

  -- ECMA-262 12.4
  expression_statement_reads : (at : ℕ) (e : Expr) (semi : Semi) → Read_as (expression at e semi)
  unfolding statement_at expression_statement
  expression_statement_reads at e semi ts z v le h k =
      let t = h.1.1 in
      reads_expression_statement sub d ts ts h.0 (reads_begins e ts t.0 t.1)
      ∙ rw (expression_complete c 0 true e ts t.0 v le (inl (omega arith)) (λ f. absurd cc) t.1 (ends_stops 0 true e semi t.0 z t.2 (k.follows refl)), ← h.1.0)
      (no_label sub d at e (word_at t.0) t.0 (ends_no_colon e semi t.0 z t.2 (k.follows refl)) ∙ rw (ends_read (Some e) semi t.0 z t.2) refl)

  -- ---- `for`

  -- a part of the header, or none
  header_part_reads : (m : MaybeExpr) (w : Word) (ts y z : List Token) → ValidMaybe m → depth_maybe m < d → ReadsMaybe m ts y → Takes w y z → is_closer (Some w) ≡ true → header_part_by sub (Some w) y ≡ Ok (absent, y) → header_part sub ts ≡ Ok (m, y)
  unfolding header_part
  header_part_reads absent w ts y z v lt h t g n = rw (h, takes_word t) n
  header_part_reads (present e) w ts y z v lt h t g n = header_expression sub (word_at ts) ts (reads_begins e ts y h) ∙ rw (inner_before e w ts y z v lt h t g) refl

  -- from the first semicolon on
  for_steps_read : (at : ℕ) (first : First) (test step : MaybeExpr) (s : Statement) (ts y m z : List Token) → ValidMaybe test → depth_maybe test < d → ValidMaybe step → depth_maybe step < d → ValidStatement false s → depth_statement s < d
      → (sign_part sign.Semicolon ⨾ (ReadsMaybe test ⨾ (sign_part sign.Semicolon ⨾ ReadsMaybe step))) ts y → sign_part sign.CloseParen y m → ReadsStatement s m z
      → (open_if s ≡ true → is_else (word_at z) ≡ false) → begins_or_follows_statement (word_at z) ≡ true → for_steps sub at first ts ≡ Ok (for at first test step s, z)
  unfolding for_steps header_part_by
  for_steps_read at first test step s ts y m z vt lt vu lu vs ls h p r n f =
      let t = h.2 in
      let u = t.2 in
      rw (
        expect_takes is_semicolon refl h.1,
        header_part_reads test (a_sign sign.Semicolon) h.0 t.0 u.0 vt lt t.1 u.1 refl refl,
        expect_takes is_semicolon refl u.1,
        header_part_reads step (a_sign sign.CloseParen) u.0 y m vu lu u.2 p refl refl,
        expect_takes is_close_paren refl p,
        part s m z vs ls r n f,
      ) refl

  -- from behind the word `in` on
  for_each_reads : (at : ℕ) (target : Target) (e : Expr) (s : Statement) (ts y m z : List Token) → Valid e → depth e < d → ValidStatement false s → depth_statement s < d → Reads e ts y → sign_part sign.CloseParen y m → ReadsStatement s m z
      → (open_if s ≡ true → is_else (word_at z) ≡ false) → begins_or_follows_statement (word_at z) ≡ true → for_each sub at target ts ≡ Ok (for_in at target e s, z)
  unfolding for_each
  for_each_reads at target e s ts y m z v lt vs ls h p r n f = rw (inner_before e (a_sign sign.CloseParen) ts y m v lt h p refl, expect_takes is_close_paren refl p, part s m z vs ls r n f) refl

  -- the word behind a first variable's name is no `in`
  initialiser_word : (init : MaybeExpr) (ts z : List Token) → ReadsInitialiser init ts z → is_in_word (word_at z) ≡ false → is_in_word (word_at ts) ≡ false
  initialiser_word absent ts z h n = rw h n
  initialiser_word (present e) ts z h n = rw (takes_word h.1) refl

  -- nor is that behind the name and its initialiser
  after_name_word : (ds : Declarations) (ts z : List Token) → AfterName ds ts z → is_in_word (word_at z) ≡ false → is_in_word (word_at ts) ≡ false
  after_name_word (one_declaration i init) ts z h n = initialiser_word init ts z h n
  after_name_word (more_declarations i init ds) ts z h n = initialiser_word init ts h.0 h.1 (rw (takes_word h.2.1) refl)

  -- a semicolon behind an initialiser, or behind none
  semicolon_initialiser : (free : Bool) (before : Option Expr) (z : List Token) → word_at z ≡ Some (a_sign sign.Semicolon) → InitialiserStops free before z
  semicolon_initialiser free None z h = rw h refl
  semicolon_initialiser free (Some e) z h = closes 1 free e (a_sign sign.Semicolon) z h refl

  -- the header of a `for` with three parts: what is read from the first on
  for_header_reads : (at : ℕ) (first : First) (test step : MaybeExpr) (s : Statement) (ts q z : List Token) → ValidFirst first → depth_first first < d → no_in_first first ≡ true → ReadsFirst first ts q
      → ((f : First) → for_steps sub at f q ≡ Ok (for at f test step s, z)) → word_at q ≡ Some (a_sign sign.Semicolon) → for_header_by sub at (word_at ts) ts ≡ Ok (for at first test step s, z)
  unfolding for_header_by for_variable for_expression for_expression_by
  for_header_reads at (first_expr absent) test step s ts q z v lt n h r w = rw (h, w) (r (first_expr absent))
  for_header_reads at (first_expr (present e)) test step s ts q z v lt n h r w =
      for_header_expression sub at (word_at ts) ts (reads_begins e ts q h)
      ∙ rw (c.expression 0 false e ts q v lt (inl (omega arith)) (λ f. n) h (closes 0 false e (a_sign sign.Semicolon) q w refl), w) (r (first_expr (present e)))
  for_header_reads at (first_var ds) test step s ts q z v lt n h r w =
      let p = named ds h.0 q h.2 in
      rw (takes_word h.1, takes_behind h.1, ident_takes (first_name ds) h.0 p.0 p.1)
      (for_variables sub at (first_name ds) (word_at p.0) p.0 (after_name_word ds p.0 q p.2 (rw w refl))
      ∙ rw (declarations_from_read false ds p.0 q v lt (λ f. n) p.2 (semicolon_initialiser false (last_initialiser ds) q w, rw w refl)) (r (first_var ds)))

  -- ECMA-262 12.6.3
  for_statement : (at : ℕ) (first : First) (test step : MaybeExpr) (s : Statement) → Read_as (for at first test step s)
  unfolding statement_at statement_by for_rest
  for_statement at first test step s ts z v le h k =
      let t = h.1.2 in
      let p = t.1 in
      let q = p.2 in
      let r = q.1 in
      let w = r.2.1 in
      rw (takes_word h.1.1, not_le d 0 (omega arith), takes_behind h.1.1, ← h.0, expect_takes is_open_paren refl p.1)
      (for_header_reads at first test step s p.0 r.0 z v.0 (omega arith) v.1 r.1
      (λ f. for_steps_read at f test step s r.0 q.0 t.0 z v.2 (omega arith) v.3 (omega arith) v.4 (omega arith) r.2 q.2 t.2 k.no_else (k.follows refl)) (takes_word w))

  -- the header of a `for in`
  for_in_header_reads : (at : ℕ) (target : Target) (e : Expr) (s : Statement) (ts q y z : List Token) → ValidTarget target → depth_target target < d → ReadsTarget target ts q → key_part key.In q y
      → for_each sub at target y ≡ Ok (for_in at target e s, z) → for_header_by sub at (word_at ts) ts ≡ Ok (for_in at target e s, z)
  unfolding for_header_by for_variable for_variable_by for_expression for_expression_by
  for_in_header_reads at (target_expr e) value s ts q y z v lt h t r =
      for_header_expression sub at (word_at ts) ts (reads_begins e ts q h)
      ∙ rw (c.expression 0 false e ts q v.0 lt (inl (omega arith)) (λ f. target_no_in e v.0 v.1) h (in_stops 0 e q (takes_word t)), takes_word t, v.1, takes_behind t) r
  for_in_header_reads at (target_var i) value s ts q y z v lt h t r = rw (takes_word h.1, takes_behind h.1, ident_takes i h.0 q h.2, takes_word t, takes_behind t) r

  -- ECMA-262 12.6.4
  for_in_statement : (at : ℕ) (target : Target) (e : Expr) (s : Statement) → Read_as (for_in at target e s)
  unfolding statement_at statement_by for_rest
  for_in_statement at target e s ts z v le h k =
      let t = h.1.2 in
      let p = t.1 in
      let q = p.2 in
      let r = q.1 in
      let w = r.2 in
      rw (takes_word h.1.1, not_le d 0 (omega arith), takes_behind h.1.1, ← h.0, expect_takes is_open_paren refl p.1)
      (for_in_header_reads at target e s p.0 r.0 w.0 z v.0 (omega arith) r.1 w.1 (for_each_reads at target e s w.0 q.0 t.0 z v.1 (omega arith) v.2 (omega arith) w.2 q.2 t.2 k.no_else (k.follows refl)))

  -- ---- `switch`

  -- clauses begin as a list of statements ends, and so does what is behind them
  clauses_end : (cs : Clauses) (ts z : List Token) → ReadsClauses cs ts z → word_at z ≡ Some (a_sign sign.CloseBrace) → ends_list (word_at ts) ≡ true
  clauses_end no_clauses ts z h w = rw (h, w) refl
  clauses_end (case e body cs) ts z h w = rw (takes_word h.1.1) refl
  clauses_end (default body cs) ts z h w = rw (takes_word h.1.1) refl

  -- a clause with an expression
  one_case : (front : Clauses) (e : Expr) (body : Statements) (ts z : List Token) → Valid e → depth e < d → ValidStatements false body → depth_statements body < d
      → (key_part key.Case ⨾ (Reads e ⨾ (sign_part sign.Colon ⨾ ReadsStatements body))) ts z → ends_list (word_at z) ≡ true → clause_step sub front ts ≡ Ok (again (joined_clauses front (case e body no_clauses)), z)
  unfolding clause_step clause_step_by case_rest
  one_case front e body ts z v lt vb lb h w =
      let t = h.2 in
      let u = t.2 in
      rw (takes_word h.1, takes_behind h.1, inner_before e (a_sign sign.Colon) h.0 t.0 u.0 v lt t.1 u.1 refl, expect_takes is_colon refl u.1, b.statements false body u.0 z vb lb u.2 w) refl

  -- the default clause, where none was before it
  one_default : (front : Clauses) (body : Statements) (ts z : List Token) → defaults front ≡ 0 → ValidStatements false body → depth_statements body < d
      → (key_part key.Default ⨾ (sign_part sign.Colon ⨾ ReadsStatements body)) ts z → ends_list (word_at z) ≡ true → clause_step sub front ts ≡ Ok (again (joined_clauses front (default body no_clauses)), z)
  unfolding clause_step clause_step_by default_rest
  one_default front body ts z n vb lb h w =
      let t = h.2 in
      rw (takes_word h.1, n, takes_behind h.1, expect_takes is_colon refl t.1, b.statements false body t.0 z vb lb t.2 w) refl

  -- clauses behind the first ones
  clauses_run : (cs front : Clauses) (ts z : List Token) → ValidClauses cs → depth_clauses cs < d → defaults front + defaults cs ≤ 1 → ReadsClauses cs ts z → word_at z ≡ Some (a_sign sign.CloseBrace)
      → Runs (clause_step sub) (joined_clauses front cs) z front ts
  unfolding clause_step clause_step_by
  clauses_run no_clauses front ts z v lt n h w = ends (rw (h, w, joined_nothing front) refl)
  clauses_run (case e body cs) front ts z v lt n h w =
      let p = h.1 in
      let more = clauses_run cs (joined_clauses front (case e body no_clauses)) h.0 z v.2 (omega arith) (omega (arith, defaults_joined front (case e body no_clauses))) h.2 w in
      goes (one_case front e body ts h.0 v.0 (omega arith) v.1 (omega arith) p (clauses_end cs h.0 z h.2 w))
      (omega (arith, takes_shortens _ ts p.0 p.1, expr_shortens e p.0 p.2.0 p.2.1, takes_shortens _ p.2.0 p.2.2.0 p.2.2.1, statements_keep body p.2.2.0 h.0 p.2.2.2)) (rw clauses_assoc at more)
  clauses_run (default body cs) front ts z v lt n h w =
      let p = h.1 in
      let more = clauses_run cs (joined_clauses front (default body no_clauses)) h.0 z v.1 (omega arith) (omega (arith, defaults_joined front (default body no_clauses))) h.2 w in
      goes (one_default front body ts h.0 (omega arith) v.0 (omega arith) p (clauses_end cs h.0 z h.2 w))
      (omega (arith, takes_shortens _ ts p.0 p.1, takes_shortens _ p.0 p.2.0 p.2.1, statements_keep body p.2.0 h.0 p.2.2)) (rw clauses_assoc at more)

  -- ECMA-262 12.11
  switch_statement : (at : ℕ) (e : Expr) (cs : Clauses) → Read_as (switch at e cs)
  unfolding statement_at statement_by switch_rest
  switch_statement at e cs ts z v le h k =
      let t = h.1.2 in
      let p = t.2 in
      let q = p.2 in
      rw (
        takes_word h.1.1,
        not_le d 0 (omega arith),
        takes_behind h.1.1,
        ← h.0,
        condition_reads e h.1.0 t.0 v.0 (omega arith) t.1,
        expect_takes is_open_brace refl p.1,
        runs-loop (clauses_run cs no_clauses p.0 q.0 v.1 (omega arith) (omega (arith, v.2)) q.1 (takes_word q.2)),
        expect_takes is_close_brace refl q.2,
      ) refl

  -- ---- `try`

  -- a handler
  catch_reads : (at : ℕ) (bl : Block) (i : Ident) (handler : Block) (ts m : List Token) → ValidBlock handler → depth_block handler < d → (key_part key.Catch ⨾ (parens (ReadsIdent i) ⨾ ReadsBlock handler)) ts m
      → handler_by sub at bl (word_at ts) ts ≡ finally_by sub at bl i handler (word_at m) m
  unfolding handler_by catch_rest
  catch_reads at bl i handler ts m v lt h =
      let t = h.2 in
      let p = t.1 in
      rw (takes_word h.1, takes_behind h.1, expect_takes is_open_paren refl p.1, ident_takes i p.0 p.2.0 p.2.1, expect_takes is_close_paren refl p.2.2, inner_block_reads handler t.0 m v lt t.2) refl

  -- ECMA-262 12.14, with a handler
  try_catch_statement : (at : ℕ) (bl : Block) (i : Ident) (handler : Block) → Read_as (try_catch at bl i handler)
  unfolding statement_at statement_by try_rest
  try_catch_statement at bl i handler ts z v le h k =
      let t = h.1.2 in
      let deep = block_deep bl in
      rw (takes_word h.1.1, not_le d 1 (omega arith), takes_behind h.1.1, ← h.0, inner_block_reads bl h.1.0 t.0 v.0 (omega arith) t.1)
      (catch_reads at bl i handler t.0 z v.1 (omega arith) t.2 ∙ finally_none sub at bl i handler (word_at z) z (follows_not_finally (word_at z) (k.follows refl)))

  -- with a last block
  try_finally_statement : (at : ℕ) (bl final : Block) → Read_as (try_finally at bl final)
  unfolding statement_at statement_by try_rest handler_by
  try_finally_statement at bl final ts z v le h k =
      let t = h.1.2 in
      let p = t.2 in
      let deep = block_deep bl in
      rw (takes_word h.1.1, not_le d 1 (omega arith), takes_behind h.1.1, ← h.0, inner_block_reads bl h.1.0 t.0 v.0 (omega arith) t.1, takes_word p.1, takes_behind p.1, inner_block_reads final p.0 z v.1 (omega arith) p.2) refl

  -- and with both
  try_both_statement : (at : ℕ) (bl : Block) (i : Ident) (handler final : Block) → Read_as (try_both at bl i handler final)
  unfolding statement_at statement_by try_rest finally_by
  try_both_statement at bl i handler final ts z v le h k =
      let t = h.1.2 in
      let p = t.2 in
      let q = p.2 in
      let deep = block_deep bl in
      rw (takes_word h.1.1, not_le d 1 (omega arith), takes_behind h.1.1, ← h.0, inner_block_reads bl h.1.0 t.0 v.0 (omega arith) t.1)
      (catch_reads at bl i handler t.0 p.0 v.1 (omega arith) p.1 ∙ rw (takes_word q.1, takes_behind q.1, inner_block_reads final q.0 z v.2 (omega arith) q.2) refl)

  -- ---- each statement

  -- within one layer
  pub statement_reads : (s : Statement) → Read_as s
  statement_reads (block bl) = block_statement bl
  statement_reads (var at ds semi) = var_statement at ds semi
  statement_reads (empty at) = empty_statement at
  statement_reads (expression at e semi) = expression_statement_reads at e semi
  statement_reads (if_then at e s) = if_then_statement at e s
  statement_reads (if_else at e s u) = if_else_statement at e s u
  statement_reads (do_while at s e semi) = do_while_statement at s e semi
  statement_reads (while at e s) = while_statement at e s
  statement_reads (for at first test step s) = for_statement at first test step s
  statement_reads (for_in at target e s) = for_in_statement at target e s
  statement_reads (continue at l semi) = continue_statement at l semi
  statement_reads (break at l semi) = break_statement at l semi
  statement_reads (return at m semi) = return_statement at m semi
  statement_reads (throw at e semi) = throw_statement at e semi
  statement_reads (switch at e cs) = switch_statement at e cs
  statement_reads (labelled at text s) = labelled_statement at text s
  statement_reads (try_catch at bl i handler) = try_catch_statement at bl i handler
  statement_reads (try_finally at bl final) = try_finally_statement at bl final
  statement_reads (try_both at bl i handler final) = try_both_statement at bl i handler final
  statement_reads (debugger at semi) = debugger_statement at semi
  statement_reads (function_declaration at f) = λ ts z v le h k. let bad : false ≡ true = v.0 in absurd cc

  -- ---- lists of statements

  -- the first word of a statement
  statement_begins : (s : Statement) (ts z : List Token) → ReadsStatement s ts z → begins_statement (word_at ts) ≡ true
  statement_begins (block (block_of at body)) ts z h = rw (takes_word h.1.1) refl
  statement_begins (empty at) ts z h = rw (takes_word h.1) refl
  statement_begins (expression at e semi) ts z h = expression_statement_begins (word_at ts) (reads_begins e ts h.1.1.0 h.1.1.1)
  statement_begins (var at ds semi) ts z h = rw (takes_word h.1.1) refl
  statement_begins (if_then at e s) ts z h = rw (takes_word h.1.1) refl
  statement_begins (if_else at e s u) ts z h = rw (takes_word h.1.1) refl
  statement_begins (do_while at s e semi) ts z h = rw (takes_word h.1.1) refl
  statement_begins (while at e s) ts z h = rw (takes_word h.1.1) refl
  statement_begins (for at first test step s) ts z h = rw (takes_word h.1.1) refl
  statement_begins (for_in at target e s) ts z h = rw (takes_word h.1.1) refl
  statement_begins (continue at l semi) ts z h = rw (takes_word h.1.1) refl
  statement_begins (break at l semi) ts z h = rw (takes_word h.1.1) refl
  statement_begins (return at absent semi) ts z h = rw (takes_word h.1.1) refl
  statement_begins (return at (present e) semi) ts z h = rw (takes_word h.1.1) refl
  statement_begins (throw at e semi) ts z h = rw (takes_word h.1.1) refl
  statement_begins (switch at e cs) ts z h = rw (takes_word h.1.1) refl
  statement_begins (labelled at text s) ts z h = rw (takes_word h.1.1) refl
  statement_begins (try_catch at bl i handler) ts z h = rw (takes_word h.1.1) refl
  statement_begins (try_finally at bl final) ts z h = rw (takes_word h.1.1) refl
  statement_begins (try_both at bl i handler final) ts z h = rw (takes_word h.1.1) refl
  statement_begins (debugger at semi) ts z h = rw (takes_word h.1.1) refl
  statement_begins (function_declaration at f) ts z h = rw (takes_word h.1.1) refl

  -- a statement that is no function declaration begins with no `function`
  statement_plain : (s : Statement) (ts z : List Token) → is_declared s ≡ false → ReadsStatement s ts z → is_function (word_at ts) ≡ false
  statement_plain (block (block_of at body)) ts z d h = rw (takes_word h.1.1) refl
  statement_plain (empty at) ts z d h = rw (takes_word h.1) refl
  statement_plain (expression at e semi) ts z d h = starts_plain ts h.0
  statement_plain (var at ds semi) ts z d h = rw (takes_word h.1.1) refl
  statement_plain (if_then at e s) ts z d h = rw (takes_word h.1.1) refl
  statement_plain (if_else at e s u) ts z d h = rw (takes_word h.1.1) refl
  statement_plain (do_while at s e semi) ts z d h = rw (takes_word h.1.1) refl
  statement_plain (while at e s) ts z d h = rw (takes_word h.1.1) refl
  statement_plain (for at first test step s) ts z d h = rw (takes_word h.1.1) refl
  statement_plain (for_in at target e s) ts z d h = rw (takes_word h.1.1) refl
  statement_plain (continue at l semi) ts z d h = rw (takes_word h.1.1) refl
  statement_plain (break at l semi) ts z d h = rw (takes_word h.1.1) refl
  statement_plain (return at absent semi) ts z d h = rw (takes_word h.1.1) refl
  statement_plain (return at (present e) semi) ts z d h = rw (takes_word h.1.1) refl
  statement_plain (throw at e semi) ts z d h = rw (takes_word h.1.1) refl
  statement_plain (switch at e cs) ts z d h = rw (takes_word h.1.1) refl
  statement_plain (labelled at text s) ts z d h = rw (takes_word h.1.1) refl
  statement_plain (try_catch at bl i handler) ts z d h = rw (takes_word h.1.1) refl
  statement_plain (try_finally at bl final) ts z d h = rw (takes_word h.1.1) refl
  statement_plain (try_both at bl i handler final) ts z d h = rw (takes_word h.1.1) refl
  statement_plain (debugger at semi) ts z d h = rw (takes_word h.1.1) refl
  statement_plain (function_declaration at f) ts z d h = absurd cc

  -- ECMA-262 13
  declaration_reads : (outer : Bool) (at : ℕ) (f : Function) (ts z : List Token) → ValidStatement outer (function_declaration at f) → depth_statement (function_declaration at f) ≤ d → ReadsStatement (function_declaration at f) ts z
      → element_by sub d outer (word_at ts) ts ≡ Ok (function_declaration at f, z)
  unfolding element_by function_declaration_rest
  declaration_reads outer at (function_of place (Some i) params body) ts z v le h =
      let t = h.1.2 in
      rw (v.0, v.1.0, takes_word h.1.1, not_le d 0 (omega arith), takes_behind h.1.1, ← h.0, ident_takes i h.1.0 t.0 t.1, function_rest_reads d sub c params body t.0 z v.1.1 (omega arith) t.2) refl
  declaration_reads outer at (function_of place None params body) ts z v le h = let e = v.2 in absurd cc

  -- any other statement of a list
  plain_reads : (outer : Bool) (s : Statement) (ts z : List Token) → ValidStatement outer s → is_declared s ≡ false → depth_statement s ≤ d → ReadsStatement s ts z → StatementStops s z → element_by sub d outer (word_at ts) ts ≡ Ok (s, z)
  unfolding statement_at
  plain_reads outer s ts z v p le h k = element_plain sub d outer (word_at ts) ts (statement_plain s ts z p h) ∙ statement_reads s ts z (plain_valid outer s v p) le h k

  -- a statement of a list
  element_reads : (outer : Bool) (s : Statement) (ts z : List Token) → ValidStatement outer s → depth_statement s ≤ d → ReadsStatement s ts z → StatementStops s z → element_by sub d outer (word_at ts) ts ≡ Ok (s, z)
  element_reads outer (function_declaration at f) ts z v le h k = declaration_reads outer at f ts z v le h
  element_reads outer s ts z v le h k = plain_reads outer s ts z v refl le h k

  -- what follows a statement of a list
  list_stops : (s : Statement) (ss : Statements) (ts z : List Token) → ReadsStatements ss ts z → ends_list (word_at z) ≡ true → StatementStops s ts
  list_stops s no_statements ts z h w = rw h (record { no_else = λ o. ends_not_else (word_at z) w; follows = λ o. ends_follows (word_at z) w })
  list_stops s (more_statements u ss) ts z h w =
      let g = statement_begins u ts h.0 h.1 in
      record { no_else = λ o. begins_not_else (word_at ts) g; follows = λ o. begins_follows (word_at ts) g }

  -- statements behind the first ones
  statements_run : (outer : Bool) (ss front : Statements) (ts z : List Token) → ValidStatements outer ss → depth_statements ss ≤ d → ReadsStatements ss ts z → ends_list (word_at z) ≡ true
      → Runs (statements_step sub d outer) (joined_statements front ss) z front ts
  unfolding statements_step next_statement
  statements_run outer no_statements front ts z v le h w = ends (rw (h, w, statements_nothing front) refl)
  statements_run outer (more_statements s ss) front ts z v le h w =
      let more = statements_run outer ss (joined_statements front (more_statements s no_statements)) h.0 z v.1 (omega arith) h.2 w in
      goes (rw (begins_not_end (word_at ts) (statement_begins s ts h.0 h.1), element_reads outer s ts h.0 v.0 (omega arith) h.1 (list_stops s ss h.0 z h.2 w)) refl)
      (statement_shortens s ts h.0 h.1) (rw statements_assoc at more)

  -- a list of statements
  pub statements_read : (outer : Bool) (ss : Statements) (ts z : List Token) → ValidStatements outer ss → depth_statements ss ≤ d → ReadsStatements ss ts z → ends_list (word_at z) ≡ true → statements_at sub d outer ts ≡ Ok (ss, z)
  unfolding statements_at
  statements_read outer ss ts z v le h w = runs-loop (statements_run outer ss no_statements ts z v le h w)

-- What is read as a statement is valid, within the depth, and spelled by the tokens that were taken: one layer, over the parsers of less depth.
use Rattle.std.proofs.Common.{◌≡◌, ℕ, suc, ◌<◌, ◌≤◌, max, Bool, true, false, not, ◌&&◌, ◌||◌, List, [], ◌∷◌, leb, Option, Some, None, Ok, refl, sym, ap, ◌∙◌, arith}
use Rattle.std.proofs.lemmas.Bool.{leb-false}
use Rattle.js_ast.specs.declared.token.Token.{Token}
use Rattle.js_ast.specs.declared.words.Keyword.TheVariants as key
use Rattle.js_ast.specs.declared.words.Sign.TheVariants as sign
use Rattle.js_ast.specs.Words.{Word, a_key, a_sign, word_of}
use Rattle.js_ast.specs.Trees.{Ident, Expr, name, MaybeExpr, absent, present, Declarations, one_declaration, more_declarations, First, first_expr, first_var, Target, target_expr, target_var, Clauses, no_clauses, case, default, Block, Statement, block, function_declaration, Statements, no_statements, more_statements}
use Rattle.js_ast.specs.Levels.{is_target}
use Rattle.js_ast.specs.Grammar.{◌⨾◌, sign_part, key_part, parens, ReadsIdent, place_of, on_line, is_close_brace, is_semicolon, may_elide, last_initialiser, is_brace_or_function, starts_expression, Reads, ReadsMaybe, ReadsInitialiser, ReadsDeclarations, ReadsFirst, ReadsTarget, ReadsClauses, ReadsBlock, ReadsStatement, ReadsStatements}
use Rattle.js_ast.specs.Validity.{Valid, ValidMaybe, ValidInitialiser, ValidDeclarations, ValidFirst, ValidTarget, ValidClauses, ValidBlock, ValidStatement, ValidStatements, no_in_maybe, no_in_declarations, no_in_first, open_if, defaults}
use Rattle.js_ast.specs.Depth.{depth, depth_maybe, depth_declarations, depth_first, depth_target, depth_clauses, depth_block, depth_statement, depth_statements}
use Rattle.js_list_parser.specs.Reading.{word_at, behind, Parsers}
use Rattle.js_list_parser.specs.ExpressionParsing.{function_rest, expression_at, begins_expression}
use Rattle.js_list_parser.specs.StatementParsing.{semicolon_here, condition, initialiser_by, initialiser, next_declaration, declaration_step_by, declaration_step, declarations_from, declarations, block_in, inner_block_by, inner_block, var_rest, else_by, if_rest, do_rest, while_rest, header_part_by, header_part, for_steps, for_each, for_variable_by, for_variable, for_expression_by, for_expression, for_header_by, for_rest, continue_rest, break_rest, return_value, return_nothing, return_rest, throw_value, throw_rest, case_rest, default_rest, clause_step_by, clause_step, switch_rest, finally_by, catch_rest, handler_by, try_rest, debugger_rest, expression_rest, expression_statement, block_rest, block_by, block_at, statement_by, statement_at, function_declaration_rest, element_by, next_statement, ends_list, statements_step, statements_at}
use Rattle.js_ast.specs.Joined.{joined_declarations, joined_statements, joined_clauses}
use Rattle.js_list_parser.proofs.Stops.{and_parts, and_true}
use Rattle.js_list_parser.proofs.Begins.{reads_begins}
use Rattle.js_list_parser.proofs.StatementParts.{is_else}
use Rattle.js_list_parser.proofs.StatementComplete.{defaults_joined}
use Rattle.js_list_parser.proofs.Outcomes.{takes, reached_low}
use Rattle.js_list_parser.proofs.Soundness.{FoundExpression, FoundStatements, SoundBelow}
use Rattle.js_list_parser.proofs.FoundLists.{FoundFunction, function_rest_sound}
use Rattle.js_list_parser.proofs.ExpressionSound.{expression_sound}
use Rattle.js_list_parser.proofs.Gives.{Gives, gives-ok, gives-err, gives-more, gives-bind, gives-cond, gives-room, Turned, gives-loop, gives-open-paren, gives-close-paren, gives-open-brace, gives-close-brace, gives-colon, gives-semicolon, gives-while, gives-ident, gives-ending, gives-label}

-- a valid statement whose depth is below a number, whose spelling are the tokens up to z; no `else` is behind an open `if`
pub record FoundStatement (limit : ℕ) (outer : Bool) (s : Statement) (ts z : List Token) : Type 0 where
  pub valid : ValidStatement outer s
  pub shallow : depth_statement s < limit
  pub reads : ReadsStatement s ts z
  pub shut : open_if s ≡ true → is_else (word_at z) ≡ false

-- an expression in parentheses
pub record FoundCondition (limit : ℕ) (e : Expr) (ts z : List Token) : Type 0 where
  pub valid : Valid e
  pub shallow : depth e < limit
  pub reads : parens (Reads e) ts z

-- an initialiser, or none
pub record FoundInitialiser (limit : ℕ) (free : Bool) (init : MaybeExpr) (ts z : List Token) : Type 0 where
  pub valid : ValidInitialiser init
  pub shallow : depth_maybe init < limit
  pub without_in : free ≡ false → no_in_maybe init ≡ true
  pub reads : ReadsInitialiser init ts z

-- variables
pub record FoundDeclarations (limit : ℕ) (free : Bool) (ds : Declarations) (ts z : List Token) : Type 0 where
  pub valid : ValidDeclarations ds
  pub shallow : depth_declarations ds < limit
  pub without_in : free ≡ false → no_in_declarations ds ≡ true
  pub reads : ReadsDeclarations ds ts z

-- a part of the header of a `for`
pub record FoundPart (limit : ℕ) (e : MaybeExpr) (ts z : List Token) : Type 0 where
  pub valid : ValidMaybe e
  pub shallow : depth_maybe e < limit
  pub reads : ReadsMaybe e ts z

-- its first part, in which no `in` stands
pub record FoundFirst (limit : ℕ) (first : First) (ts z : List Token) : Type 0 where
  pub valid : ValidFirst first
  pub shallow : depth_first first < limit
  pub without_in : no_in_first first ≡ true
  pub reads : ReadsFirst first ts z

-- what a `for in` assigns to
pub record FoundTarget (limit : ℕ) (target : Target) (ts z : List Token) : Type 0 where
  pub valid : ValidTarget target
  pub shallow : depth_target target < limit
  pub reads : ReadsTarget target ts z

-- clauses, of which one at most is `default`
pub record FoundClauses (limit : ℕ) (cs : Clauses) (ts z : List Token) : Type 0 where
  pub valid : ValidClauses cs
  pub shallow : depth_clauses cs < limit
  pub single : defaults cs ≤ 1
  pub reads : ReadsClauses cs ts z

-- a block
pub record FoundBlock (limit : ℕ) (b : Block) (ts z : List Token) : Type 0 where
  pub valid : ValidBlock b
  pub shallow : depth_block b < limit
  pub reads : ReadsBlock b ts z

-- what the parsers of parts read as statements
pub record StatementsSound (d : ℕ) (sub : Parsers) : Type 0 where
  pub statement : (ts : List Token) (s : Statement) (z : List Token) → sub.statement ts ≡ Ok (s, z) → FoundStatement d false s ts z
  pub statements : (outer : Bool) (ts : List Token) (ss : Statements) (z : List Token) → sub.statements outer ts ≡ Ok (ss, z) → FoundStatements d outer ss ts z

-- ---- joined lists

-- variables, and then others behind a comma
pub reads_declarations : (ds es : Declarations) (ts m k z : List Token) → ReadsDeclarations ds ts m → sign_part sign.Comma m k → ReadsDeclarations es k z → ReadsDeclarations (joined_declarations ds es) ts z
reads_declarations (one_declaration i init) es ts m k z r t q = (m, r, (k, t, q))
reads_declarations (more_declarations i init ds) es ts m k z r t q = (r.0, r.1, (r.2.0, r.2.1, reads_declarations ds es r.2.0 m k z r.2.2 t q))

-- they are valid
pub valid_declarations : (ds es : Declarations) → ValidDeclarations ds → ValidDeclarations es → ValidDeclarations (joined_declarations ds es)
valid_declarations (one_declaration i init) es v w = (v, w)
valid_declarations (more_declarations i init ds) es v w = (v.0, valid_declarations ds es v.1 w)

-- they are as deep as the deeper ones
pub depth_joined_declarations : (ds es : Declarations) → depth_declarations (joined_declarations ds es) ≡ max (depth_declarations ds) (depth_declarations es)
depth_joined_declarations (one_declaration i init) es = refl
depth_joined_declarations (more_declarations i init ds) es = omega (arith, depth_joined_declarations ds es)

-- no `in` stands in them
pub no_in_joined : (ds es : Declarations) → no_in_declarations ds ≡ true → no_in_declarations es ≡ true → no_in_declarations (joined_declarations ds es) ≡ true
no_in_joined (one_declaration i init) es n m = and_true (no_in_maybe init) (no_in_declarations es) n m
no_in_joined (more_declarations i init ds) es n m =
    let p = and_parts (no_in_maybe init) (no_in_declarations ds) n in and_true (no_in_maybe init) (no_in_declarations (joined_declarations ds es)) p.0 (no_in_joined ds es p.1 m)

-- clauses, and then others
pub reads_clauses : (cs es : Clauses) (ts m z : List Token) → ReadsClauses cs ts m → ReadsClauses es m z → ReadsClauses (joined_clauses cs es) ts z
reads_clauses no_clauses es ts m z r q = rw r q
reads_clauses (case e body cs) es ts m z r q = (r.0, r.1, reads_clauses cs es r.0 m z r.2 q)
reads_clauses (default body cs) es ts m z r q = (r.0, r.1, reads_clauses cs es r.0 m z r.2 q)

-- they are valid
pub valid_clauses : (cs es : Clauses) → ValidClauses cs → ValidClauses es → ValidClauses (joined_clauses cs es)
valid_clauses no_clauses es v w = w
valid_clauses (case e body cs) es v w = (v.0, v.1, valid_clauses cs es v.2 w)
valid_clauses (default body cs) es v w = (v.0, valid_clauses cs es v.1 w)

-- they are as deep as the deeper ones
pub depth_joined_clauses : (cs es : Clauses) → depth_clauses (joined_clauses cs es) ≡ max (depth_clauses cs) (depth_clauses es)
depth_joined_clauses no_clauses es = omega arith
depth_joined_clauses (case e body cs) es = omega (arith, depth_joined_clauses cs es)
depth_joined_clauses (default body cs) es = omega (arith, depth_joined_clauses cs es)

-- statements, and then others
pub reads_statements : (ss us : Statements) (ts m z : List Token) → ReadsStatements ss ts m → ReadsStatements us m z → ReadsStatements (joined_statements ss us) ts z
reads_statements no_statements us ts m z r q = rw r q
reads_statements (more_statements s ss) us ts m z r q = (r.0, r.1, reads_statements ss us r.0 m z r.2 q)

-- they are valid
pub valid_statements : (outer : Bool) (ss us : Statements) → ValidStatements outer ss → ValidStatements outer us → ValidStatements outer (joined_statements ss us)
valid_statements outer no_statements us v w = w
valid_statements outer (more_statements s ss) us v w = (v.0, valid_statements outer ss us v.1 w)

-- they are as deep as the deeper ones
pub depth_joined_statements : (ss us : Statements) → depth_statements (joined_statements ss us) ≡ max (depth_statements ss) (depth_statements us)
depth_joined_statements no_statements us = omega arith
depth_joined_statements (more_statements s ss) us = omega (arith, depth_joined_statements ss us)

-- what was before an `else` doesn't end with an open `if`
pub shuts : (o : Bool) (z : List Token) → (o ≡ true → is_else (word_at z) ≡ false) → word_at z ≡ Some (a_key key.Else) → o ≡ false
shuts true z k h = let bad : true ≡ false = sym (ap is_else h) ∙ k refl in absurd cc
shuts false z k h = refl

-- where no statement ends, what is there stands on the line
pub on_the_line : (ts : List Token) → (semicolon_here ts || may_elide None ts) ≡ false → on_line ts ≡ true
on_the_line [] h = refl
on_the_line (t ∷ ts) h = go (is_semicolon (word_of t)) (is_close_brace (word_of t)) t.newline h
  where
    go : (a b c : Bool) → (a || (b || (c && not (a || false)))) ≡ false → not c ≡ true
    go a b false h = refl
    go true b true h = absurd cc
    go false true true h = absurd cc
    go false false true h = absurd cc

-- the first token is neither `{` nor `function`
abbrev pub starts_plain : Option Word → Bool
starts_plain None = true
starts_plain (Some w) = not (is_brace_or_function w)

-- so an expression that stands there starts an expression statement
pub starts : (ts : List Token) → starts_plain (word_at ts) ≡ true → begins_expression (word_at ts) ≡ true → starts_expression ts ≡ true
starts [] h g = absurd cc
starts (t ∷ ts) h g = h

-- a statement that is no function declaration is valid anywhere
pub plain : (outer : Bool) (s : Statement) → ValidStatement false s → ValidStatement outer s
plain outer (function_declaration at f) v = absurd cc
plain outer _ v = v

-- ---- one layer

module _ (d : ℕ) (sub : Parsers) (b : SoundBelow d sub) (c : StatementsSound d sub) where
  -- ---- parts

  -- an expression of less depth
  pub inner : (wanted : ℕ) (free : Bool) → wanted ≤ 16 → (ts : List Token) → Gives (sub.expression wanted free ts) (λ x. FoundExpression d wanted free x.0 ts x.1)
  inner wanted free le ts = record { is = λ x e. b.expression wanted free ts x.0 x.1 le e }

  -- an expression of any level
  pub any_inner : (ts : List Token) → Gives (sub.expression 0 true ts) (λ x. FoundExpression d 0 true x.0 ts x.1)
  any_inner = inner 0 true (omega arith)

  -- an expression at the depth itself
  pub whole : (ts : List Token) → Gives (expression_at sub d 0 true ts) (λ x. FoundExpression (suc d) 0 true x.0 ts x.1)
  whole ts = record { is = λ x e. expression_sound b 0 true ts x.0 x.1 (omega arith) e }

  -- a statement of less depth
  pub part : (ts : List Token) → Gives (sub.statement ts) (λ x. FoundStatement d false x.0 ts x.1)
  part ts = record { is = λ x e. c.statement ts x.0 x.1 e }

  -- statements of less depth
  pub list : (outer : Bool) (ts : List Token) → Gives (sub.statements outer ts) (λ x. FoundStatements d outer x.0 ts x.1)
  list outer ts = record { is = λ x e. c.statements outer ts x.0 x.1 e }

  -- the parameters and the body of a function
  pub functions : (ts : List Token) → Gives (function_rest sub ts) (λ x. FoundFunction d x.0.0 x.0.1 ts x.1)
  functions ts = record { is = λ x e. function_rest_sound b ts x.0.0 x.0.1 x.1 e }

  -- an expression in parentheses
  pub condition_sound : (ts : List Token) → Gives (condition sub ts) (λ x. FoundCondition d x.0 ts x.1)
  unfolding condition
  condition_sound ts =
      gives-bind (gives-open-paren ts) (λ m i. gives-bind (any_inner m) (λ e f. gives-bind (gives-close-paren e.1) (λ z k.
      gives-ok (record { valid = f.valid; shallow = f.shallow; reads = (m, i, (e.1, f.reads, k)) }))))

  -- ---- variables

  -- an initialiser, or none
  pub initialiser_sound : (free : Bool) (ts : List Token) → 0 < d → Gives (initialiser sub free ts) (λ x. FoundInitialiser d free x.0 ts x.1)
  unfolding initialiser initialiser_by
  initialiser_sound free ts pos = go (word_at ts) refl
    where
      go : (w : Option Word) → word_at ts ≡ w → Gives (initialiser_by sub free w ts) (λ x. FoundInitialiser d free x.0 ts x.1)
      go (Some (a_sign sign.Assign)) h = gives-bind (inner 1 free (omega arith) (behind ts)) (λ e f.
          gives-ok (record { valid = (f.valid, reached_low 1 e.0 (omega arith) f.reaches); shallow = f.shallow; without_in = f.without_in; reads = (behind ts, takes (a_sign sign.Assign) ts h, f.reads) }))
      go _ h = gives-ok (record { valid = tt; shallow = pos; without_in = λ n. refl; reads = refl })

  -- variables so far, and what a turn makes of them
  abbrev pub So_far : Bool → List Token → Declarations → List Token → Type 0
  So_far free start ds ts = FoundDeclarations d free ds start ts

  -- a further variable, or the end of them
  pub declaration_step_sound : (free : Bool) (start : List Token) → 0 < d → (ds : Declarations) (ts : List Token) → So_far free start ds ts → Gives (declaration_step sub free ds ts) (λ x. Turned (So_far free start) (So_far free start) x.0 x.1)
  unfolding declaration_step declaration_step_by next_declaration
  declaration_step_sound free start pos ds ts so = go (word_at ts) refl
    where
      go : (w : Option Word) → word_at ts ≡ w → Gives (declaration_step_by sub free ds w ts) (λ x. Turned (So_far free start) (So_far free start) x.0 x.1)
      go (Some (a_sign sign.Comma)) h = gives-bind (gives-ident (behind ts)) (λ i r. gives-bind (initialiser_sound free i.1 pos) (λ e f.
          let x = so.shallow in
          let y = f.shallow in
          gives-ok (record {
            valid = valid_declarations ds (one_declaration i.0 e.0) so.valid f.valid;
            shallow = omega (arith, depth_joined_declarations ds (one_declaration i.0 e.0));
            without_in = λ n. no_in_joined ds (one_declaration i.0 e.0) (so.without_in n) (f.without_in n);
            reads = reads_declarations ds (one_declaration i.0 e.0) start ts (behind ts) e.1 so.reads (takes (a_sign sign.Comma) ts h) (i.1, r, f.reads);
          })))
      go _ h = gives-ok so

  -- variables from behind the first name on
  pub declarations_from_sound : (free : Bool) (i : Ident) (start ts : List Token) → 0 < d → ReadsIdent i start ts → Gives (declarations_from sub free i ts) (λ x. FoundDeclarations d free x.0 start x.1)
  unfolding declarations_from
  declarations_from_sound free i start ts pos r = gives-bind (initialiser_sound free ts pos) (λ e f.
      gives-loop (declaration_step sub free) (So_far free start) (So_far free start) (declaration_step_sound free start pos) (one_declaration i e.0) e.1
      (record { valid = f.valid; shallow = f.shallow; without_in = f.without_in; reads = (ts, r, f.reads) }))

  -- variables
  pub declarations_sound : (free : Bool) (ts : List Token) → 0 < d → Gives (declarations sub free ts) (λ x. FoundDeclarations d free x.0 ts x.1)
  unfolding declarations
  declarations_sound free ts pos = gives-bind (gives-ident ts) (λ i r. declarations_from_sound free i.0 ts i.1 pos r)

  -- ---- statements, behind the word that they begin with

  -- the statement is valid, at most as deep as allowed, and spelled from here
  abbrev Finds : List Token → Statement × List Token → Type 0
  Finds start x = FoundStatement (suc d) false x.0 start x.1

  -- ECMA-262 12.2
  var_sound : (start ts : List Token) → 0 < d → key_part key.Var start ts → Gives (var_rest sub (place_of start) ts) (Finds start)
  unfolding var_rest
  var_sound start ts pos t = gives-bind (declarations_sound true ts pos) (λ ds f. gives-bind (gives-ending (last_initialiser ds.0) ds.1) (λ n k.
      let x = f.shallow in
      gives-ok (record { valid = f.valid; shallow = omega arith; reads = (refl, (ts, t, (ds.1, f.reads, k))); shut = λ o. absurd cc })))

  -- ECMA-262 12.5
  else_sound : (start ts m z : List Token) (e : Expr) (s : Statement) → key_part key.If start ts → FoundCondition d e ts m → FoundStatement d false s m z → (w : Option Word) → word_at z ≡ w
      → Gives (else_by sub (place_of start) e s w z) (Finds start)
  unfolding else_by
  else_sound start ts m z e s t f k (Some (a_key key.Else)) h = gives-bind (part (behind z)) (λ u g.
      let x = f.shallow in
      let y = k.shallow in
      let v = g.shallow in
      gives-ok (record {
        valid = (f.valid, k.valid, shuts (open_if s) z k.shut h, g.valid);
        shallow = omega arith;
        reads = (refl, (ts, t, (m, f.reads, (z, k.reads, (behind z, takes (a_key key.Else) z h, g.reads)))));
        shut = g.shut;
      }))
  else_sound start ts m z e s t f k _ h =
      let x = f.shallow in
      let y = k.shallow in
      gives-ok (record { valid = (f.valid, k.valid); shallow = omega arith; reads = (refl, (ts, t, (m, f.reads, k.reads))); shut = λ o. ap is_else h })

  -- behind the word `if`
  if_sound : (start ts : List Token) → key_part key.If start ts → Gives (if_rest sub (place_of start) ts) (Finds start)
  unfolding if_rest
  if_sound start ts t = gives-bind (condition_sound ts) (λ e f. gives-bind (part e.1) (λ s k. else_sound start ts e.1 s.1 e.0 s.0 t f k (word_at s.1) refl))

  -- ECMA-262 12.6.1
  do_sound : (start ts : List Token) → key_part key.Do start ts → Gives (do_rest sub (place_of start) ts) (Finds start)
  unfolding do_rest
  do_sound start ts t = gives-bind (part ts) (λ s k. gives-bind (gives-while s.1) (λ m w. gives-bind (condition_sound m) (λ e f. gives-bind (gives-ending None e.1) (λ n g.
      let x = f.shallow in
      let y = k.shallow in
      gives-ok (record { valid = (k.valid, f.valid); shallow = omega arith; reads = (refl, (ts, t, (s.1, k.reads, (m, w, (e.1, f.reads, g))))); shut = λ o. absurd cc })))))

  -- ECMA-262 12.6.2
  while_sound : (start ts : List Token) → key_part key.While start ts → Gives (while_rest sub (place_of start) ts) (Finds start)
  unfolding while_rest
  while_sound start ts t = gives-bind (condition_sound ts) (λ e f. gives-bind (part e.1) (λ s k.
      let x = f.shallow in
      let y = k.shallow in
      gives-ok (record { valid = (f.valid, k.valid); shallow = omega arith; reads = (refl, (ts, t, (e.1, f.reads, k.reads))); shut = k.shut })))

  -- ---- the header of a `for` (ECMA-262 12.6.3, 12.6.4)

  -- a test or a step, or none
  pub header_part_sound : (ts : List Token) → 0 < d → Gives (header_part sub ts) (λ x. FoundPart d x.0 ts x.1)
  unfolding header_part header_part_by
  header_part_sound ts pos = go (word_at ts)
    where
      none : Gives {A = MaybeExpr × List Token} (Ok (absent, ts)) (λ x. FoundPart d x.0 ts x.1)
      none = gives-ok (record { valid = tt; shallow = pos; reads = refl })

      go : (w : Option Word) → Gives (header_part_by sub w ts) (λ x. FoundPart d x.0 ts x.1)
      go (Some (a_sign sign.Semicolon)) = none
      go (Some (a_sign sign.CloseParen)) = none
      go _ = gives-bind (any_inner ts) (λ e f. gives-ok (record { valid = f.valid; shallow = f.shallow; reads = f.reads }))

  -- from the first semicolon on: m is behind the parenthesis, and the first part ends at ts
  for_steps_sound : (start a m ts : List Token) (first : First) → 0 < d → key_part key.For start a → sign_part sign.OpenParen a m → FoundFirst d first m ts → Gives (for_steps sub (place_of start) first ts) (Finds start)
  unfolding for_steps
  for_steps_sound start a m ts first pos t o f =
      gives-bind (gives-semicolon ts) (λ second p. gives-bind (header_part_sound second pos) (λ test g. gives-bind (gives-semicolon test.1) (λ third q. gives-bind (header_part_sound third pos) (λ step h.
      gives-bind (gives-close-paren step.1) (λ rest r. gives-bind (part rest) (λ s k.
      let x = f.shallow in
      let y = g.shallow in
      let v = h.shallow in
      let w = k.shallow in
      gives-ok (record {
        valid = (f.valid, f.without_in, g.valid, h.valid, k.valid);
        shallow = omega arith;
        reads = (refl, (a, t, (rest, (m, o, (step.1, (ts, f.reads, (second, p, (test.1, g.reads, (third, q, h.reads)))), r)), k.reads)));
        shut = k.shut;
      })))))))

  -- behind the word `in`: the target ends at k
  for_each_sound : (start a m k ts : List Token) (target : Target) → key_part key.For start a → sign_part sign.OpenParen a m → FoundTarget d target m k → key_part key.In k ts → Gives (for_each sub (place_of start) target ts) (Finds start)
  unfolding for_each
  for_each_sound start a m k ts target t o f i = gives-bind (any_inner ts) (λ e g. gives-bind (gives-close-paren e.1) (λ rest r. gives-bind (part rest) (λ s h.
      let x = f.shallow in
      let y = g.shallow in
      let v = h.shallow in
      gives-ok (record {
        valid = (f.valid, g.valid, h.valid);
        shallow = omega arith;
        reads = (refl, (a, t, (rest, (m, o, (e.1, (k, f.reads, (ts, i, g.reads)), r)), h.reads)));
        shut = h.shut;
      }))))

  -- behind the name of the first variable, which stands at v
  for_variable_by_sound : (start a m v ts : List Token) (i : Ident) → 0 < d → key_part key.For start a → sign_part sign.OpenParen a m → key_part key.Var m v → ReadsIdent i v ts → (w : Option Word) → word_at ts ≡ w
      → Gives (for_variable_by sub (place_of start) i w ts) (Finds start)
  unfolding for_variable_by
  for_variable_by_sound start a m v ts i pos t o f r (Some (a_key key.In)) h =
      for_each_sound start a m ts (behind ts) (target_var i) t o (record { valid = tt; shallow = pos; reads = (v, f, r) }) (takes (a_key key.In) ts h)
  for_variable_by_sound start a m v ts i pos t o f r _ h = gives-bind (declarations_from_sound false i v ts pos r) (λ ds g.
      for_steps_sound start a m ds.1 (first_var ds.0) pos t o (record { valid = g.valid; shallow = g.shallow; without_in = g.without_in refl; reads = (v, f, g.reads) }))

  -- behind the word `var`
  for_variable_sound : (start a m v : List Token) → 0 < d → key_part key.For start a → sign_part sign.OpenParen a m → key_part key.Var m v → Gives (for_variable sub (place_of start) v) (Finds start)
  unfolding for_variable
  for_variable_sound start a m v pos t o f = gives-bind (gives-ident v) (λ i r. for_variable_by_sound start a m v i.1 i.0 pos t o f r (word_at i.1) refl)

  -- behind the first expression
  for_expression_by_sound : (start a m ts : List Token) (e : Expr) → 0 < d → key_part key.For start a → sign_part sign.OpenParen a m → FoundExpression d 0 false e m ts → (w : Option Word) → word_at ts ≡ w
      → Gives (for_expression_by sub (place_of start) e w ts) (Finds start)
  unfolding for_expression_by
  for_expression_by_sound start a m ts e pos t o f (Some (a_key key.In)) h =
      gives-cond (is_target e) (λ g. for_each_sound start a m ts (behind ts) (target_expr e) t o (record { valid = (f.valid, g); shallow = f.shallow; reads = f.reads }) (takes (a_key key.In) ts h)) (λ g. gives-err)
  for_expression_by_sound start a m ts e pos t o f _ h =
      for_steps_sound start a m ts (first_expr (present e)) pos t o (record { valid = f.valid; shallow = f.shallow; without_in = f.without_in refl; reads = f.reads })

  -- a header that begins with an expression
  for_expression_sound : (start a m : List Token) → 0 < d → key_part key.For start a → sign_part sign.OpenParen a m → Gives (for_expression sub (place_of start) m) (Finds start)
  unfolding for_expression
  for_expression_sound start a m pos t o = gives-bind (inner 0 false (omega arith) m) (λ e f. for_expression_by_sound start a m e.1 e.0 pos t o f (word_at e.1) refl)

  -- behind the word `for`
  for_sound : (start a : List Token) → 0 < d → key_part key.For start a → Gives (for_rest sub (place_of start) a) (Finds start)
  unfolding for_rest for_header_by
  for_sound start a pos t = gives-bind (gives-open-paren a) (λ m o. go m o (word_at m) refl)
    where
      go : (m : List Token) → sign_part sign.OpenParen a m → (w : Option Word) → word_at m ≡ w → Gives (for_header_by sub (place_of start) w m) (Finds start)
      go m o (Some (a_sign sign.Semicolon)) h = for_steps_sound start a m m (first_expr absent) pos t o (record { valid = tt; shallow = pos; without_in = refl; reads = refl })
      go m o (Some (a_key key.Var)) h = for_variable_sound start a m (behind m) pos t o (takes (a_key key.Var) m h)
      go m o _ h = for_expression_sound start a m pos t o

  -- ---- jumps

  -- ECMA-262 12.7
  continue_sound : (start ts : List Token) → 0 < d → key_part key.Continue start ts → Gives (continue_rest (place_of start) ts) (Finds start)
  unfolding continue_rest
  continue_sound start ts pos t = gives-bind (gives-label ts) (λ l r. gives-bind (gives-ending None l.1) (λ n k.
      gives-ok (record { valid = tt; shallow = omega arith; reads = (refl, (ts, t, (l.1, r, k))); shut = λ o. absurd cc })))

  -- ECMA-262 12.8
  break_sound : (start ts : List Token) → 0 < d → key_part key.Break start ts → Gives (break_rest (place_of start) ts) (Finds start)
  unfolding break_rest
  break_sound start ts pos t = gives-bind (gives-label ts) (λ l r. gives-bind (gives-ending None l.1) (λ n k.
      gives-ok (record { valid = tt; shallow = omega arith; reads = (refl, (ts, t, (l.1, r, k))); shut = λ o. absurd cc })))

  -- ECMA-262 12.9
  return_sound : (start ts : List Token) → 0 < d → key_part key.Return start ts → Gives (return_rest sub (place_of start) ts) (Finds start)
  unfolding return_rest return_nothing return_value
  return_sound start ts pos t =
      gives-cond (semicolon_here ts || may_elide None ts)
      (λ h. gives-bind (gives-ending None ts) (λ n k. gives-ok (record { valid = tt; shallow = omega arith; reads = (refl, (ts, t, k)); shut = λ o. absurd cc })))
      (λ h. gives-bind (any_inner ts) (λ e f. gives-bind (gives-ending (Some e.0) e.1) (λ n k.
      let x = f.shallow in
      gives-ok (record { valid = f.valid; shallow = omega arith; reads = (refl, (ts, t, (e.1, (on_the_line ts h, f.reads), k))); shut = λ o. absurd cc }))))

  -- ECMA-262 12.13
  throw_sound : (start ts : List Token) → key_part key.Throw start ts → Gives (throw_rest sub (place_of start) ts) (Finds start)
  unfolding throw_rest throw_value
  throw_sound start ts t =
      gives-cond (on_line ts)
      (λ h. gives-bind (any_inner ts) (λ e f. gives-bind (gives-ending (Some e.0) e.1) (λ n k.
      let x = f.shallow in
      gives-ok (record { valid = f.valid; shallow = omega arith; reads = (refl, (ts, t, (e.1, (h, f.reads), k))); shut = λ o. absurd cc }))))
      (λ h. gives-err)

  -- ECMA-262 12.15
  debugger_sound : (start ts : List Token) → 0 < d → key_part key.Debugger start ts → Gives (debugger_rest (place_of start) ts) (Finds start)
  unfolding debugger_rest
  debugger_sound start ts pos t = gives-bind (gives-ending None ts) (λ n k. gives-ok (record { valid = tt; shallow = omega arith; reads = (refl, (ts, t, k)); shut = λ o. absurd cc }))

  -- ---- ECMA-262 12.11

  -- clauses so far
  abbrev pub Clauses_from : List Token → Clauses → List Token → Type 0
  Clauses_from start cs ts = FoundClauses d cs start ts

  -- behind the word `case`, which stands at k
  case_sound : (start k ts : List Token) (cs : Clauses) → FoundClauses d cs start k → key_part key.Case k ts → Gives (case_rest sub cs ts) (λ x. Turned (Clauses_from start) (Clauses_from start) x.0 x.1)
  unfolding case_rest
  case_sound start k ts cs so t = gives-bind (any_inner ts) (λ e f. gives-bind (gives-colon e.1) (λ m g. gives-bind (list false m) (λ ss h.
      let x = so.shallow in
      let y = f.shallow in
      let v = h.shallow in
      let w = so.single in
      gives-ok (record {
        valid = valid_clauses cs (case e.0 ss.0 no_clauses) so.valid (f.valid, h.valid, tt);
        shallow = omega (arith, depth_joined_clauses cs (case e.0 ss.0 no_clauses));
        single = omega (arith, defaults_joined cs (case e.0 ss.0 no_clauses));
        reads = reads_clauses cs (case e.0 ss.0 no_clauses) start k ss.1 so.reads (ss.1, (ts, t, (e.1, f.reads, (m, g, h.reads))), refl);
      }))))

  -- behind the word `default`, the first one
  default_sound : (start k ts : List Token) (cs : Clauses) → defaults cs < 1 → FoundClauses d cs start k → key_part key.Default k ts → Gives (default_rest sub cs ts) (λ x. Turned (Clauses_from start) (Clauses_from start) x.0 x.1)
  unfolding default_rest
  default_sound start k ts cs lt so t = gives-bind (gives-colon ts) (λ m g. gives-bind (list false m) (λ ss h.
      let x = so.shallow in
      let v = h.shallow in
      gives-ok (record {
        valid = valid_clauses cs (default ss.0 no_clauses) so.valid (h.valid, tt);
        shallow = omega (arith, depth_joined_clauses cs (default ss.0 no_clauses));
        single = omega (arith, defaults_joined cs (default ss.0 no_clauses));
        reads = reads_clauses cs (default ss.0 no_clauses) start k ss.1 so.reads (ss.1, (ts, t, (m, g, h.reads)), refl);
      })))

  -- a further clause, or the end of them
  pub clause_sound : (start : List Token) (cs : Clauses) (ts : List Token) → FoundClauses d cs start ts → Gives (clause_step sub cs ts) (λ x. Turned (Clauses_from start) (Clauses_from start) x.0 x.1)
  unfolding clause_step clause_step_by
  clause_sound start cs ts so = go (word_at ts) refl
    where
      go : (w : Option Word) → word_at ts ≡ w → Gives (clause_step_by sub cs w ts) (λ x. Turned (Clauses_from start) (Clauses_from start) x.0 x.1)
      go (Some (a_key key.Case)) h = case_sound start ts (behind ts) cs so (takes (a_key key.Case) ts h)
      go (Some (a_key key.Default)) h = gives-cond (leb 1 (defaults cs)) (λ e. gives-err) (λ e. default_sound start ts (behind ts) cs (leb-false 1 (defaults cs) e) so (takes (a_key key.Default) ts h))
      go _ h = gives-ok so

  -- behind the word `switch`
  switch_sound : (start ts : List Token) → 0 < d → key_part key.Switch start ts → Gives (switch_rest sub (place_of start) ts) (Finds start)
  unfolding switch_rest
  switch_sound start ts pos t = gives-bind (condition_sound ts) (λ e f. gives-bind (gives-open-brace e.1) (λ m o.
      gives-bind (gives-loop (clause_step sub) (Clauses_from m) (Clauses_from m) (clause_sound m) no_clauses m (record { valid = tt; shallow = pos; single = omega arith; reads = refl })) (λ cs g.
      gives-bind (gives-close-brace cs.1) (λ z k.
      let x = f.shallow in
      let y = g.shallow in
      gives-ok (record { valid = (f.valid, g.valid, g.single); shallow = omega arith; reads = (refl, (ts, t, (e.1, f.reads, (m, o, (cs.1, g.reads, k))))); shut = λ o. absurd cc })))))

  -- ---- ECMA-262 12.1, 12.14

  -- a statement that is a block
  block_in_sound : (s : Statement) (ts z : List Token) → FoundStatement d false s ts z → Gives (block_in s z) (λ x. FoundBlock d x.0 ts x.1)
  unfolding block_in
  block_in_sound (block bl) ts z f = gives-ok (record { valid = f.valid; shallow = f.shallow; reads = f.reads })
  block_in_sound _ ts z f = gives-err

  -- a block of less depth
  pub inner_block_sound : (ts : List Token) → Gives (inner_block sub ts) (λ x. FoundBlock d x.0 ts x.1)
  unfolding inner_block inner_block_by
  inner_block_sound ts = go (word_at ts)
    where
      go : (w : Option Word) → Gives (inner_block_by sub w ts) (λ x. FoundBlock d x.0 ts x.1)
      go (Some (a_sign sign.OpenBrace)) = gives-bind (part ts) (λ s f. block_in_sound s.0 ts s.1 f)
      go _ = gives-err

  -- behind the handler: the first block ends at m, and the handler at z
  finally_sound : (start ts m k z : List Token) (bl : Block) (i : Ident) (handler : Block) → key_part key.Try start ts → FoundBlock d bl ts m → (key_part key.Catch ⨾ (parens (ReadsIdent i) ⨾ ReadsBlock handler)) m z → ValidBlock handler → depth_block handler < d
      → (w : Option Word) → word_at z ≡ w → Gives (finally_by sub (place_of start) bl i handler w z) (Finds start)
  unfolding finally_by
  finally_sound start ts m k z bl i handler t f r v lt (Some (a_key key.Finally)) h = gives-bind (inner_block_sound (behind z)) (λ final g.
      let x = f.shallow in
      let y = g.shallow in
      gives-ok (record { valid = (f.valid, v, g.valid); shallow = omega arith; reads = (refl, (ts, t, (m, f.reads, (z, r, (behind z, takes (a_key key.Finally) z h, g.reads))))); shut = λ o. absurd cc }))
  finally_sound start ts m k z bl i handler t f r v lt _ h =
      let x = f.shallow in
      gives-ok (record { valid = (f.valid, v); shallow = omega arith; reads = (refl, (ts, t, (m, f.reads, r))); shut = λ o. absurd cc })

  -- behind the word `catch`, which stands at m
  catch_sound : (start ts m k : List Token) (bl : Block) → key_part key.Try start ts → FoundBlock d bl ts m → key_part key.Catch m k → Gives (catch_rest sub (place_of start) bl k) (Finds start)
  unfolding catch_rest
  catch_sound start ts m k bl t f w = gives-bind (gives-open-paren k) (λ a o. gives-bind (gives-ident a) (λ i r. gives-bind (gives-close-paren i.1) (λ c p. gives-bind (inner_block_sound c) (λ handler g.
      finally_sound start ts m k handler.1 bl i.0 handler.0 t f (k, w, (c, (a, o, (i.1, r, p)), g.reads)) g.valid g.shallow (word_at handler.1) refl))))

  -- behind the word `try`
  try_sound : (start ts : List Token) → key_part key.Try start ts → Gives (try_rest sub (place_of start) ts) (Finds start)
  unfolding try_rest handler_by
  try_sound start ts t = gives-bind (inner_block_sound ts) (λ bl f. go bl.0 bl.1 f (word_at bl.1) refl)
    where
      go : (bl : Block) (m : List Token) → FoundBlock d bl ts m → (w : Option Word) → word_at m ≡ w → Gives (handler_by sub (place_of start) bl w m) (Finds start)
      go bl m f (Some (a_key key.Catch)) h = catch_sound start ts m (behind m) bl t f (takes (a_key key.Catch) m h)
      go bl m f (Some (a_key key.Finally)) h = gives-bind (inner_block_sound (behind m)) (λ final g.
          let x = f.shallow in
          let y = g.shallow in
          gives-ok (record { valid = (f.valid, g.valid); shallow = omega arith; reads = (refl, (ts, t, (m, f.reads, (behind m, takes (a_key key.Finally) m h, g.reads)))); shut = λ o. absurd cc }))
      go bl m f _ h = gives-err

  -- a block at the depth itself
  block_sound : (ts : List Token) → Gives (block_at sub d ts) (λ x. FoundBlock (suc d) x.0 ts x.1)
  unfolding block_at block_by block_rest
  block_sound ts = go (word_at ts) refl
    where
      go : (w : Option Word) → word_at ts ≡ w → Gives (block_by sub d w ts) (λ x. FoundBlock (suc d) x.0 ts x.1)
      go (Some (a_sign sign.OpenBrace)) h = gives-room d 0 ts (λ pos. gives-bind (list false (behind ts)) (λ ss f. gives-bind (gives-close-brace ss.1) (λ z k.
          let x = f.shallow in
          gives-ok (record { valid = f.valid; shallow = omega arith; reads = (refl, (behind ts, takes (a_sign sign.OpenBrace) ts h, (ss.1, f.reads, k))) }))))
      go _ h = gives-err

  -- ---- ECMA-262 12.4, 12.12

  -- behind the expression: a label, or the end of the statement
  expression_rest_sound : (start ts : List Token) (e : Expr) → starts_plain (word_at start) ≡ true → FoundExpression (suc d) 0 true e start ts → (w : Option Word) → word_at ts ≡ w
      → Gives (expression_rest sub d (place_of start) e w ts) (Finds start)
  unfolding expression_rest
  expression_rest_sound start ts (name at text) p f (Some (a_sign sign.Colon)) h = gives-room d 0 ts (λ pos. gives-bind (part (behind ts)) (λ s g.
      let x = g.shallow in
      gives-ok (record { valid = g.valid; shallow = omega arith; reads = (refl, (ts, f.reads.1, (behind ts, takes (a_sign sign.Colon) ts h, g.reads))); shut = g.shut })))
  expression_rest_sound start ts e p f _ h = gives-bind (gives-ending (Some e) ts) (λ n k.
      gives-ok (record { valid = f.valid; shallow = f.shallow; reads = (starts start p (reads_begins e start ts f.reads), (refl, (ts, f.reads, k))); shut = λ o. absurd cc }))

  -- a statement that begins as an expression
  expression_statement_sound : (ts : List Token) → starts_plain (word_at ts) ≡ true → Gives (expression_statement sub d ts) (Finds ts)
  unfolding expression_statement
  expression_statement_sound ts p = gives-bind (whole ts) (λ e f. expression_rest_sound ts e.1 e.0 p f (word_at e.1) refl)

  -- ---- a statement, and lists of statements

  -- by the first word
  statement_by_sound : (ts : List Token) (w : Option Word) → word_at ts ≡ w → Gives (statement_by sub d w ts) (Finds ts)
  unfolding statement_by
  statement_by_sound ts (Some (a_sign sign.OpenBrace)) h = gives-bind (block_sound ts) (λ bl f. gives-ok (record { valid = f.valid; shallow = f.shallow; reads = f.reads; shut = λ o. absurd cc }))
  statement_by_sound ts (Some (a_sign sign.Semicolon)) h = gives-room d 0 ts (λ pos. gives-ok (record { valid = tt; shallow = omega arith; reads = (refl, takes (a_sign sign.Semicolon) ts h); shut = λ o. absurd cc }))
  statement_by_sound ts (Some (a_key key.Var)) h = gives-room d 0 ts (λ pos. var_sound ts (behind ts) pos (takes (a_key key.Var) ts h))
  statement_by_sound ts (Some (a_key key.If)) h = gives-room d 0 ts (λ pos. if_sound ts (behind ts) (takes (a_key key.If) ts h))
  statement_by_sound ts (Some (a_key key.Do)) h = gives-room d 0 ts (λ pos. do_sound ts (behind ts) (takes (a_key key.Do) ts h))
  statement_by_sound ts (Some (a_key key.While)) h = gives-room d 0 ts (λ pos. while_sound ts (behind ts) (takes (a_key key.While) ts h))
  statement_by_sound ts (Some (a_key key.For)) h = gives-room d 0 ts (λ pos. for_sound ts (behind ts) pos (takes (a_key key.For) ts h))
  statement_by_sound ts (Some (a_key key.Continue)) h = gives-room d 0 ts (λ pos. continue_sound ts (behind ts) pos (takes (a_key key.Continue) ts h))
  statement_by_sound ts (Some (a_key key.Break)) h = gives-room d 0 ts (λ pos. break_sound ts (behind ts) pos (takes (a_key key.Break) ts h))
  statement_by_sound ts (Some (a_key key.Return)) h = gives-room d 0 ts (λ pos. return_sound ts (behind ts) pos (takes (a_key key.Return) ts h))
  statement_by_sound ts (Some (a_key key.Throw)) h = gives-room d 0 ts (λ pos. throw_sound ts (behind ts) (takes (a_key key.Throw) ts h))
  statement_by_sound ts (Some (a_key key.Switch)) h = gives-room d 0 ts (λ pos. switch_sound ts (behind ts) pos (takes (a_key key.Switch) ts h))
  statement_by_sound ts (Some (a_key key.Try)) h = gives-room d 1 ts (λ pos. try_sound ts (behind ts) (takes (a_key key.Try) ts h))
  statement_by_sound ts (Some (a_key key.Debugger)) h = gives-room d 0 ts (λ pos. debugger_sound ts (behind ts) pos (takes (a_key key.Debugger) ts h))
  statement_by_sound ts (Some (a_key key.Function)) h = gives-err
  statement_by_sound ts (Some (a_key key.With)) h = gives-err
  statement_by_sound ts _ h = expression_statement_sound ts (ap starts_plain h)

  -- a statement that is no function declaration
  pub statement_sound : (ts : List Token) → Gives (statement_at sub d ts) (Finds ts)
  unfolding statement_at
  statement_sound ts = statement_by_sound ts (word_at ts) refl

  -- ECMA-262 13
  function_declaration_sound : (start ts : List Token) → key_part key.Function start ts → Gives (function_declaration_rest sub (place_of start) ts) (λ x. FoundStatement (suc d) true x.0 start x.1)
  unfolding function_declaration_rest
  function_declaration_sound start ts t = gives-bind (gives-ident ts) (λ i r. gives-bind (functions i.1) (λ g f.
      let x = f.shallow in
      gives-ok (record { valid = (refl, (refl, f.valid), refl); shallow = omega arith; reads = (refl, (ts, t, (i.1, r, f.reads))); shut = λ o. absurd cc })))

  -- so it is in any list
  any_statement : (outer : Bool) (ts : List Token) (w : Option Word) → word_at ts ≡ w → Gives (statement_by sub d w ts) (λ x. FoundStatement (suc d) outer x.0 ts x.1)
  any_statement outer ts w h = gives-more (statement_by_sound ts w h) (λ x f. record { valid = plain outer x.0 f.valid; shallow = f.shallow; reads = f.reads; shut = f.shut })

  -- a statement of a list
  pub element_sound : (outer : Bool) (ts : List Token) (w : Option Word) → word_at ts ≡ w → Gives (element_by sub d outer w ts) (λ x. FoundStatement (suc d) outer x.0 ts x.1)
  unfolding element_by
  element_sound true ts (Some (a_key key.Function)) h = gives-room d 0 ts (λ pos. function_declaration_sound ts (behind ts) (takes (a_key key.Function) ts h))
  element_sound outer ts w h = any_statement outer ts w h

  -- statements so far
  abbrev pub Statements_from : Bool → List Token → Statements → List Token → Type 0
  Statements_from outer start ss ts = FoundStatements (suc d) outer ss start ts

  -- a further statement, or the end of the list
  pub statements_step_sound : (outer : Bool) (start : List Token) (ss : Statements) (ts : List Token) → Statements_from outer start ss ts
      → Gives (statements_step sub d outer ss ts) (λ x. Turned (Statements_from outer start) (Statements_from outer start) x.0 x.1)
  unfolding statements_step next_statement
  statements_step_sound outer start ss ts so = gives-cond (ends_list (word_at ts)) (λ h. gives-ok so) (λ h. gives-bind (element_sound outer ts (word_at ts) refl) (λ s f.
      let x = so.shallow in
      let y = f.shallow in
      gives-ok (record {
        valid = valid_statements outer ss (more_statements s.0 no_statements) so.valid (f.valid, tt);
        shallow = omega (arith, depth_joined_statements ss (more_statements s.0 no_statements));
        reads = reads_statements ss (more_statements s.0 no_statements) start ts s.1 so.reads (s.1, f.reads, refl);
      })))

  -- the statements of a program or a body, or of any other list
  pub statements_sound : (outer : Bool) (ts : List Token) → Gives (statements_at sub d outer ts) (λ x. FoundStatements (suc d) outer x.0 ts x.1)
  unfolding statements_at
  statements_sound outer ts = gives-loop (statements_step sub d outer) (Statements_from outer ts) (Statements_from outer ts) (statements_step_sound outer ts) no_statements ts (record { valid = tt; shallow = omega arith; reads = refl })

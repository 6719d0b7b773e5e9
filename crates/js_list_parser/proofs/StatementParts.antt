-- What is read of statements: their marks and names, and how words that begin or follow them are told apart.
use Rattle.std.proofs.Common.{◌≡◌, ℕ, Bool, true, false, not, ◌&&◌, ◌||◌, List, [], ◌∷◌, Option, Some, None, Ok, refl, ap}
use Rattle.js_ast.specs.declared.token.Token.{Token}
use Rattle.js_ast.specs.declared.words.Keyword.TheVariants as key
use Rattle.js_ast.specs.declared.words.Sign.TheVariants as sign
use Rattle.js_ast.specs.Words.{Word, a_key, a_sign, word_of}
use Rattle.js_ast.specs.Trees.{Ident, Semi, written, elided, Expr, name, absent, present, Declarations, first_var, Block, Statement, expression, if_then, try_catch}
use Rattle.js_ast.specs.Grammar.{Takes, ReadsIdent, MaybeLabel, on_line, is_close_brace, is_semicolon, continues, may_elide, Ends, starts_expression, is_brace_or_function}
use Rattle.js_list_parser.specs.Reading.{◌>>=◌, word_at, behind, done, Parsers}
use Rattle.js_list_parser.specs.ExpressionParsing.{expect, taken, ident_at, begins_expression, begins_or_follows_statement}
use Rattle.js_list_parser.proofs.Stops.{and_parts, or_parts, not_true}
use Rattle.js_list_parser.specs.StatementParsing.{semicolon_here, ending, label_by, label, ends_list, expression_statement, statement_by, element_by, initialiser_by, declaration_step_by, header_part_by, for_header_by, for_variable_by, declarations_from, for_steps, for_expression, else_by, finally_by, expression_rest}

-- ---- single tokens

-- the word of a token that is taken
pub takes_word : {w : Word} {ts z : List Token} → Takes w ts z → word_at ts ≡ Some w
takes_word h = rw h.1 (ap Some h.2)

-- and the tokens behind it
pub takes_behind : {w : Word} {ts z : List Token} → Takes w ts z → behind ts ≡ z
takes_behind h = ap behind h.1

-- a mark that is there is read
pub expect_takes : (test : Word → Bool) {w : Word} {ts z : List Token} → test w ≡ true → Takes w ts z → expect test ts ≡ Ok z
unfolding expect
expect_takes test p h = rw (h.1, h.2, p) refl

-- so is a name
pub ident_takes : (i : Ident) (ts z : List Token) → ReadsIdent i ts z → taken (ident_at ts) ts ≡ Ok (i, z)
unfolding taken
ident_takes i ts z h = rw (takes_word h.1, takes_behind h.1, ← h.0) refl

-- ---- the end of a statement

-- only one word is a closing brace
brace_word : (w : Word) → is_close_brace w ≡ true → w ≡ a_sign sign.CloseBrace
brace_word (a_sign sign.CloseBrace) h = refl
brace_word _ h = absurd cc

-- where a semicolon may be left out
pub data Elides (ts : List Token) : Type 0 where
  at_end : ts ≡ [] → Elides ts
  at_brace : word_at ts ≡ Some (a_sign sign.CloseBrace) → Elides ts
  on_new_line : on_line ts ≡ false → semicolon_here ts ≡ false → Elides ts

-- a semicolon is left out at the end, before a brace, or before a token on a new line that is no semicolon
pub elides : (before : Option Expr) (ts : List Token) → may_elide before ts ≡ true → Elides ts
elides before [] h = at_end refl
elides before (t ∷ ts) h = go (is_close_brace (word_of t)) refl h
  where
    go : (b : Bool) → is_close_brace (word_of t) ≡ b → (b || (t.newline && not (is_semicolon (word_of t) || continues before (word_of t)))) ≡ true → Elides (t ∷ ts)
    go true e h = at_brace (ap Some (brace_word (word_of t) e))
    go false e h =
        let p = and_parts t.newline (not (is_semicolon (word_of t) || continues before (word_of t))) h in
        let q = or_parts (is_semicolon (word_of t)) (continues before (word_of t)) (not_true (is_semicolon (word_of t) || continues before (word_of t)) p.1) in
        on_new_line (ap not p.0) q.0

-- whether the first token is a semicolon, by its word
semicolon_word : (ts : List Token) (w : Word) → word_at ts ≡ Some w → semicolon_here ts ≡ is_semicolon w
semicolon_word [] w h = absurd cc
semicolon_word (t ∷ ts) w h = let e : word_of t ≡ w = cc in ap is_semicolon e

-- where a semicolon is left out there is none
elides_semicolon : (ts : List Token) → Elides ts → semicolon_here ts ≡ false
elides_semicolon ts (at_end h) = rw h refl
elides_semicolon ts (at_brace h) = semicolon_word ts (a_sign sign.CloseBrace) h
elides_semicolon ts (on_new_line h g) = g

-- the end of a statement is read
pub ends_read : (before : Option Expr) (semi : Semi) (ts z : List Token) → Ends before semi ts z → ending before ts ≡ Ok (semi, z)
unfolding ending
ends_read before written ts z h = rw (semicolon_word ts (a_sign sign.Semicolon) (takes_word h), takes_behind h) refl
ends_read before elided ts z h = rw (elides_semicolon ts (elides before ts h.1), h.1, h.0) refl

-- what is no name is no label
label_none : (b : Bool) (ts : List Token) → label_by b None ts ≡ Ok (None, ts)
unfolding label_by
label_none true ts = refl
label_none false ts = refl

-- where a semicolon is left out there is no label
label_elided : (ts : List Token) → Elides ts → label ts ≡ Ok (None, ts)
unfolding label label_by
label_elided ts (at_end h) = rw h refl
label_elided ts (at_brace h) = rw h (label_none (on_line ts) ts)
label_elided ts (on_new_line h g) = rw h refl

-- nor where one is written
label_ends : (semi : Semi) (ts z : List Token) → Ends None semi ts z → label ts ≡ Ok (None, ts)
unfolding label
label_ends written ts z h = rw (takes_word h) (label_none (on_line ts) ts)
label_ends elided ts z h = label_elided ts (elides None ts h.1)

-- a label, or none, is read
pub label_read : (l : Option Ident) (semi : Semi) (ts m z : List Token) → MaybeLabel l ts m → Ends None semi m z → label ts ≡ Ok (l, m)
unfolding label label_by
label_read None semi ts m z h e = rw (← h) (label_ends semi ts z (rw h e))
label_read (Some i) semi ts m z h e = rw (h.0, takes_word h.1.1, takes_behind h.1.1, ← h.1.0) refl

-- ---- words

-- how a statement begins
abbrev pub begins_statement : Option Word → Bool
begins_statement (Some (a_sign sign.Semicolon)) = true
begins_statement (Some (a_key key.Break)) = true
begins_statement (Some (a_key key.Continue)) = true
begins_statement (Some (a_key key.Debugger)) = true
begins_statement (Some (a_key key.Do)) = true
begins_statement (Some (a_key key.For)) = true
begins_statement (Some (a_key key.If)) = true
begins_statement (Some (a_key key.Return)) = true
begins_statement (Some (a_key key.Switch)) = true
begins_statement (Some (a_key key.Throw)) = true
begins_statement (Some (a_key key.Try)) = true
begins_statement (Some (a_key key.Var)) = true
begins_statement (Some (a_key key.While)) = true
begins_statement w = begins_expression w

-- the words that the tests below speak of
abbrev pub is_else : Option Word → Bool
is_else (Some (a_key key.Else)) = true
is_else w = false

abbrev pub is_finally : Option Word → Bool
is_finally (Some (a_key key.Finally)) = true
is_finally w = false

abbrev pub is_function : Option Word → Bool
is_function (Some (a_key key.Function)) = true
is_function w = false

abbrev pub is_in_word : Option Word → Bool
is_in_word (Some (a_key key.In)) = true
is_in_word w = false

abbrev pub is_assign : Option Word → Bool
is_assign (Some (a_sign sign.Assign)) = true
is_assign w = false

abbrev pub is_comma : Option Word → Bool
is_comma (Some (a_sign sign.Comma)) = true
is_comma w = false

abbrev pub is_colon_word : Option Word → Bool
is_colon_word (Some (a_sign sign.Colon)) = true
is_colon_word w = false

-- what begins a statement may be behind one
pub begins_follows : (w : Option Word) → begins_statement w ≡ true → begins_or_follows_statement w ≡ true
begins_follows None h = refl
begins_follows (Some (a_sign sign.CloseBrace)) h = refl
begins_follows (Some (a_key key.Case)) h = refl
begins_follows (Some (a_key key.Default)) h = refl
begins_follows (Some (a_key key.Else)) h = refl
begins_follows _ h = h

-- so may what ends a list of statements
pub ends_follows : (w : Option Word) → ends_list w ≡ true → begins_or_follows_statement w ≡ true
ends_follows None h = refl
ends_follows (Some (a_sign sign.CloseBrace)) h = refl
ends_follows (Some (a_key key.Case)) h = refl
ends_follows (Some (a_key key.Default)) h = refl
ends_follows _ h = absurd cc

-- what begins a statement ends no list
pub begins_not_end : (w : Option Word) → begins_statement w ≡ true → ends_list w ≡ false
begins_not_end None h = absurd cc
begins_not_end (Some (a_sign sign.CloseBrace)) h = absurd cc
begins_not_end (Some (a_key key.Case)) h = absurd cc
begins_not_end (Some (a_key key.Default)) h = absurd cc
begins_not_end _ h = refl

-- what begins a statement is no `else`
pub begins_not_else : (w : Option Word) → begins_statement w ≡ true → is_else w ≡ false
begins_not_else (Some (a_key key.Else)) h = absurd cc
begins_not_else _ h = refl

-- nor is what ends a list
pub ends_not_else : (w : Option Word) → ends_list w ≡ true → is_else w ≡ false
ends_not_else (Some (a_key key.Else)) h = absurd cc
ends_not_else _ h = refl

-- what may be behind a statement is no `finally`
pub follows_not_finally : (w : Option Word) → begins_or_follows_statement w ≡ true → is_finally w ≡ false
follows_not_finally (Some (a_key key.Finally)) h = absurd cc
follows_not_finally _ h = refl

-- nor a `=`
pub follows_not_assign : (w : Option Word) → begins_or_follows_statement w ≡ true → is_assign w ≡ false
follows_not_assign (Some (a_sign sign.Assign)) h = absurd cc
follows_not_assign _ h = refl

-- nor a comma
pub follows_not_comma : (w : Option Word) → begins_or_follows_statement w ≡ true → is_comma w ≡ false
follows_not_comma (Some (a_sign sign.Comma)) h = absurd cc
follows_not_comma _ h = refl

-- nor a colon
pub follows_not_colon : (w : Option Word) → begins_or_follows_statement w ≡ true → is_colon_word w ≡ false
follows_not_colon (Some (a_sign sign.Colon)) h = absurd cc
follows_not_colon _ h = refl

-- what begins an expression begins a statement
pub expression_statement_begins : (w : Option Word) → begins_expression w ≡ true → begins_statement w ≡ true
expression_statement_begins (Some (a_sign sign.Semicolon)) h = refl
expression_statement_begins (Some (a_key key.Break)) h = refl
expression_statement_begins (Some (a_key key.Continue)) h = refl
expression_statement_begins (Some (a_key key.Debugger)) h = refl
expression_statement_begins (Some (a_key key.Do)) h = refl
expression_statement_begins (Some (a_key key.For)) h = refl
expression_statement_begins (Some (a_key key.If)) h = refl
expression_statement_begins (Some (a_key key.Return)) h = refl
expression_statement_begins (Some (a_key key.Switch)) h = refl
expression_statement_begins (Some (a_key key.Throw)) h = refl
expression_statement_begins (Some (a_key key.Try)) h = refl
expression_statement_begins (Some (a_key key.Var)) h = refl
expression_statement_begins (Some (a_key key.While)) h = refl
expression_statement_begins _ h = h

-- an expression statement begins with no `function`, by the word
starts_not_function : (w : Word) → is_brace_or_function w ≡ false → is_function (Some w) ≡ false
starts_not_function (a_key key.Function) h = absurd cc
starts_not_function _ h = refl

-- and by the tokens
pub starts_plain : (ts : List Token) → starts_expression ts ≡ true → is_function (word_at ts) ≡ false
starts_plain [] h = refl
starts_plain (t ∷ ts) h = starts_not_function (word_of t) (not_true (is_brace_or_function (word_of t)) h)

-- ---- the cases that no word of their own begins

module _ (sub : Parsers) where
  -- no `=`, no initialiser
  pub initialiser_none : (free : Bool) (w : Option Word) (ts : List Token) → is_assign w ≡ false → initialiser_by sub free w ts ≡ Ok (absent, ts)
  unfolding initialiser_by
  initialiser_none free (Some (a_sign sign.Assign)) ts h = absurd cc
  initialiser_none free _ ts h = refl

  -- no comma, no further variable
  pub declarations_end : (free : Bool) (ds : Declarations) (w : Option Word) (ts : List Token) → is_comma w ≡ false → declaration_step_by sub free ds w ts ≡ Ok (done ds, ts)
  unfolding declaration_step_by
  declarations_end free ds (Some (a_sign sign.Comma)) ts h = absurd cc
  declarations_end free ds _ ts h = refl

  -- a part of a header that begins an expression is one
  pub header_expression : (w : Option Word) (ts : List Token) → begins_expression w ≡ true → header_part_by sub w ts ≡ (sub.expression 0 true ts >>= λ e. Ok (present e.0, e.1))
  unfolding header_part_by
  header_expression (Some (a_sign sign.Semicolon)) ts h = absurd cc
  header_expression (Some (a_sign sign.CloseParen)) ts h = absurd cc
  header_expression _ ts h = refl

  -- so is the first part
  pub for_header_expression : (at : ℕ) (w : Option Word) (ts : List Token) → begins_expression w ≡ true → for_header_by sub at w ts ≡ for_expression sub at ts
  unfolding for_header_by
  for_header_expression at (Some (a_sign sign.Semicolon)) ts h = absurd cc
  for_header_expression at (Some (a_key key.Var)) ts h = absurd cc
  for_header_expression at _ ts h = refl

  -- a first variable that no `in` follows
  pub for_variables : (at : ℕ) (i : Ident) (w : Option Word) (ts : List Token) → is_in_word w ≡ false
      → for_variable_by sub at i w ts ≡ (declarations_from sub false i ts >>= λ ds. for_steps sub at (first_var ds.0) ds.1)
  unfolding for_variable_by
  for_variables at i (Some (a_key key.In)) ts h = absurd cc
  for_variables at i _ ts h = refl

  -- no `else`, no other branch
  pub else_none : (at : ℕ) (e : Expr) (s : Statement) (w : Option Word) (ts : List Token) → is_else w ≡ false → else_by sub at e s w ts ≡ Ok (if_then at e s, ts)
  unfolding else_by
  else_none at e s (Some (a_key key.Else)) ts h = absurd cc
  else_none at e s _ ts h = refl

  -- no `finally`, no such block
  pub finally_none : (at : ℕ) (b : Block) (i : Ident) (handler : Block) (w : Option Word) (ts : List Token) → is_finally w ≡ false → finally_by sub at b i handler w ts ≡ Ok (try_catch at b i handler, ts)
  unfolding finally_by
  finally_none at b i handler (Some (a_key key.Finally)) ts h = absurd cc
  finally_none at b i handler _ ts h = refl

  -- no colon, no label
  pub no_label : (d at : ℕ) (e : Expr) (w : Option Word) (ts : List Token) → is_colon_word w ≡ false → expression_rest sub d at e w ts ≡ (ending (Some e) ts >>= λ n. Ok (expression at e n.0, n.1))
  unfolding expression_rest
  no_label d at (name place text) (Some (a_sign sign.Colon)) ts h = absurd cc
  no_label d at _ _ ts h = refl

  -- a statement that begins with no `function`
  pub element_plain : (d : ℕ) (outer : Bool) (w : Option Word) (ts : List Token) → is_function w ≡ false → element_by sub d outer w ts ≡ statement_by sub d w ts
  unfolding element_by
  element_plain d true (Some (a_key key.Function)) ts h = absurd cc
  element_plain d _ _ ts h = refl

  -- a statement that begins as an expression is one, by the word
  plain_expression : (d : ℕ) (w : Word) (ts : List Token) → is_brace_or_function w ≡ false → begins_expression (Some w) ≡ true → statement_by sub d (Some w) ts ≡ expression_statement sub d ts
  unfolding statement_by
  plain_expression d (a_sign sign.OpenBrace) ts h g = absurd cc
  plain_expression d (a_sign sign.Semicolon) ts h g = absurd cc
  plain_expression d (a_key key.Var) ts h g = absurd cc
  plain_expression d (a_key key.If) ts h g = absurd cc
  plain_expression d (a_key key.Do) ts h g = absurd cc
  plain_expression d (a_key key.While) ts h g = absurd cc
  plain_expression d (a_key key.For) ts h g = absurd cc
  plain_expression d (a_key key.Continue) ts h g = absurd cc
  plain_expression d (a_key key.Break) ts h g = absurd cc
  plain_expression d (a_key key.Return) ts h g = absurd cc
  plain_expression d (a_key key.Throw) ts h g = absurd cc
  plain_expression d (a_key key.Switch) ts h g = absurd cc
  plain_expression d (a_key key.Try) ts h g = absurd cc
  plain_expression d (a_key key.Debugger) ts h g = absurd cc
  plain_expression d (a_key key.Function) ts h g = absurd cc
  plain_expression d (a_key key.With) ts h g = absurd cc
  plain_expression d _ ts h g = refl

  -- and by the tokens
  pub reads_expression_statement : (d : ℕ) (ts us : List Token) → starts_expression ts ≡ true → begins_expression (word_at ts) ≡ true → statement_by sub d (word_at ts) us ≡ expression_statement sub d us
  reads_expression_statement d [] us h g = absurd cc
  reads_expression_statement d (t ∷ ts) us h g = plain_expression d (word_of t) us (not_true (is_brace_or_function (word_of t)) h) g

-- what begins on the line and begins an expression can't be left out
begins_no_semicolon : (w : Word) → begins_expression (Some w) ≡ true → (is_semicolon w ≡ false) × (is_close_brace w ≡ false)
begins_no_semicolon (a_sign sign.Semicolon) h = absurd cc
begins_no_semicolon (a_sign sign.CloseBrace) h = absurd cc
begins_no_semicolon _ h = (refl, refl)

-- a value stands where on the line an expression begins
pub begins_value : (ts : List Token) → on_line ts ≡ true → begins_expression (word_at ts) ≡ true → (semicolon_here ts || may_elide None ts) ≡ false
begins_value [] l h = absurd cc
begins_value (t ∷ ts) l h = let p = begins_no_semicolon (word_of t) h in rw (p.0, p.1, not_true t.newline l) refl

-- and none where the statement ends
pub ends_nothing : (semi : Semi) (ts z : List Token) → Ends None semi ts z → (semicolon_here ts || may_elide None ts) ≡ true
ends_nothing written ts z h = rw (semicolon_word ts (a_sign sign.Semicolon) (takes_word h)) refl
ends_nothing elided ts z h = rw (elides_semicolon ts (elides None ts h.1), h.1) refl

-- The readers of statements look one token ahead only: one layer, over the parsers of less depth.
use Rattle.std.proofs.Common.{◌≡◌, ℕ, inl, inr, Bool, true, false, not, ◌&&◌, ◌||◌, leb, List, [], ◌∷◌, Option, Some, None, Err, refl, sym, ap, ◌∙◌}
use Rattle.js_ast.specs.declared.token.Token.{Token}
use Rattle.js_ast.specs.declared.words.Keyword.TheVariants as key
use Rattle.js_ast.specs.declared.words.Sign.TheVariants as sign
use Rattle.js_ast.specs.Words.{Word, a_key, a_sign, word_of}
use Rattle.js_ast.specs.Trees.{Ident, Expr, name, Declarations, one_declaration, First, first_var, Target, target_expr, target_var, Clauses, no_clauses, Block, Statement, block, Statements, no_statements}
use Rattle.js_ast.specs.Levels.{is_target}
use Rattle.js_ast.specs.Validity.{defaults}
use Rattle.js_ast.specs.Grammar.{place_of, on_line, is_close_brace, is_semicolon, continues, may_elide, last_initialiser}
use Rattle.js_list_parser.specs.Reading.{with_statement, refused, ◌>>=◌, word_at, Parsers}
use Rattle.js_list_parser.specs.ExpressionParsing.{is_open_paren, is_close_paren, is_open_brace, is_colon, ident_at, expression_at}
use Rattle.js_list_parser.specs.StatementParsing.{is_while, semicolon_here, ending, condition, initialiser_by, initialiser, next_declaration, declaration_step_by, declaration_step, declarations_from, declarations, block_in, inner_block_by, inner_block, var_rest, else_by, if_rest, do_rest, while_rest, header_part_by, header_part, for_steps, for_each, for_variable_by, for_variable, for_expression_by, for_expression, for_header_by, for_rest, label_by, label, continue_rest, break_rest, return_value, return_nothing, return_rest, throw_value, throw_rest, case_rest, default_rest, clause_step_by, clause_step, switch_rest, finally_by, catch_rest, handler_by, try_rest, debugger_rest, expression_rest, expression_statement, block_rest, block_by, block_at, statement_by, statement_at, function_declaration_rest, element_by, next_statement, ends_list, statements_step, statements_at}
use Rattle.js_list_parser.proofs.Local.{Alike, SameFirst, Local, always, never, local_bind, local_then, local_done, local_ok, local_refused, local_fail, local_first, local_swap, local_word, local_if, local_test, Grows, local_any, local_room, passes, alike_word, same_word, local_expect, goes_on, local_loop}
use Rattle.js_list_parser.proofs.LocalExpression.{LocalBelow, local_ident, local_function_rest, line_alike, ident_alike, local_expression}

-- ---- the end of a statement

-- whether the first token is a semicolon, by its word
semicolon_word : (ts : List Token) → semicolon_here ts ≡ passes is_semicolon (word_at ts)
semicolon_word [] = refl
semicolon_word (t ∷ ts) = refl

semicolon_alike : (ts u : List Token) → Alike ts u → semicolon_here ts ≡ semicolon_here u
semicolon_alike ts u a = semicolon_word ts ∙ alike_word (passes is_semicolon) refl ts u a ∙ sym (semicolon_word u)

-- whether a semicolon may be left out, by the word and the line
abbrev elides_by : Option Expr → Option Word → Bool → Bool
elides_by before None line = true
elides_by before (Some w) line = is_close_brace w || (not line && not (is_semicolon w || continues before w))

elides_word : (before : Option Expr) (ts : List Token) → may_elide before ts ≡ elides_by before (word_at ts) (on_line ts)
elides_word before [] = refl
elides_word before (t ∷ ts) = go t.newline
  where
    go : (b : Bool) → (is_close_brace (word_of t) || (b && not (is_semicolon (word_of t) || continues before (word_of t)))) ≡ (is_close_brace (word_of t) || (not (not b) && not (is_semicolon (word_of t) || continues before (word_of t))))
    go true = refl
    go false = refl

elides_even : (before : Option Expr) (line : Bool) → elides_by before (Some (a_key key.With)) line ≡ elides_by before (Some (a_key key.Debugger)) line
elides_even None line = refl
elides_even (Some e) line = refl

elide_alike : (before : Option Expr) (ts u : List Token) → Alike ts u → may_elide before ts ≡ may_elide before u
elide_alike before ts u a =
    elides_word before ts ∙ alike_word (λ w. elides_by before w (on_line ts)) (elides_even before (on_line ts)) ts u a ∙ ap (elides_by before (word_at u)) (line_alike ts u a) ∙ sym (elides_word before u)

pub local_ending : {same : Bool} (before : Option Expr) (ts : List Token) → Local same never (ending before) ts (ending before ts)
unfolding ending
local_ending before [] = local_swap (λ u a. rw (← semicolon_alike [] u a, ← elide_alike before [] u a) refl) local_ok
local_ending before (t ∷ ts) = local_test semicolon_here (semicolon_alike (t ∷ ts)) (λ h. local_first local_ok) (λ h. local_test (may_elide before) (elide_alike before (t ∷ ts)) (λ k. local_ok) (λ k. local_fail))

-- whether a word is `with`
abbrev is_with : Option Word → Bool
is_with (Some (a_key key.With)) = true
is_with _ = false

with_is : (w : Option Word) → is_with w ≡ true → w ≡ Some (a_key key.With)
with_is (Some (a_key key.With)) h = refl
with_is _ h = absurd cc

-- a label or none
local_label : {same : Bool} (ts : List Token) → Local same never label ts (label ts)
unfolding label label_by
local_label [] = local_swap (λ u a. rw (← line_alike [] u a, ← ident_alike [] u a) refl) local_ok
local_label {same = same} (t ∷ ts) = local_swap (λ u a. rw (line_alike (t ∷ ts) u a, ident_alike (t ∷ ts) u a) refl) (go (on_line (t ∷ ts)) (ident_at (t ∷ ts)))
  where
    go : (b : Bool) (i : Option Ident) → Local same never (label_by b i) (t ∷ ts) (label_by b i (t ∷ ts))
    go true (Some i) = local_first local_ok
    go true None = local_ok
    go false i = local_ok

-- a block among statements
local_block_in : {same : Bool} (s : Statement) (ts : List Token) → Local same never (block_in s) ts (block_in s ts)
unfolding block_in
local_block_in (block b) ts = local_ok
local_block_in _ ts = local_fail

-- ---- parts of statements, with one turn of each loop

module _ {same : Bool} {sub sub' : Parsers} (b : LocalBelow same sub sub') where
  local_condition : (ts : List Token) → Local same always (condition sub') ts (condition sub ts)
  unfolding condition
  local_condition ts = local_expect is_open_paren _ _ ts refl (λ m. local_bind _ _ (b.expression 0 true m) (λ e n. local_expect is_close_paren _ _ n refl (λ rest. local_ok)))

  local_initialiser : (free : Bool) (ts : List Token) → Local same never (initialiser sub' free) ts (initialiser sub free ts)
  unfolding initialiser initialiser_by
  local_initialiser free [] = local_word (initialiser_by sub' free) (λ u. refl) local_ok
  local_initialiser free (t ∷ ts) = local_word (initialiser_by sub' free) (λ u. refl) (go (word_of t))
    where
      go : (w : Word) → Local same never (initialiser_by sub' free (Some w)) (t ∷ ts) (initialiser_by sub free (Some w) (t ∷ ts))
      go (a_sign sign.Assign) = local_first (local_bind _ _ (b.expression 1 free ts) (λ e m. local_ok))
      go _ = local_ok

  pub local_declaration_step : (free : Bool) (ds : Declarations) (ts : List Token) → Local same goes_on (declaration_step sub' free ds) ts (declaration_step sub free ds ts)
  unfolding declaration_step declaration_step_by next_declaration
  local_declaration_step free ds [] = local_word (declaration_step_by sub' free ds) (λ u. refl) (local_done refl)
  local_declaration_step free ds (t ∷ ts) = local_word (declaration_step_by sub' free ds) (λ u. refl) (go (word_of t))
    where
      go : (w : Word) → Local same goes_on (declaration_step_by sub' free ds (Some w)) (t ∷ ts) (declaration_step_by sub free ds (Some w) (t ∷ ts))
      go (a_sign sign.Comma) = local_first (local_ident _ _ ts (λ i m. local_then _ _ (local_initialiser free m) (λ e n. local_ok)))
      go _ = local_done refl

  local_inner_block : (ts : List Token) → Local same always (inner_block sub') ts (inner_block sub ts)
  unfolding inner_block inner_block_by
  local_inner_block [] = local_word (inner_block_by sub') (λ u. refl) local_fail
  local_inner_block (t ∷ ts) = local_word (inner_block_by sub') (λ u. refl) (go (word_of t))
    where
      go : (w : Word) → Local same always (inner_block_by sub' (Some w)) (t ∷ ts) (inner_block_by sub (Some w) (t ∷ ts))
      go (a_sign sign.OpenBrace) = local_bind _ _ (b.statement (t ∷ ts)) (λ s m. local_block_in s m)
      go _ = local_fail

  local_case : (cs : Clauses) (ts : List Token) → Local same never (case_rest sub' cs) ts (case_rest sub cs ts)
  unfolding case_rest
  local_case cs ts = local_bind _ _ (b.expression 0 true ts) (λ e m. local_expect is_colon _ _ m refl (λ n. local_then _ _ (b.statements false n) (λ ss z. local_ok)))

  local_default : (cs : Clauses) (ts : List Token) → Local same never (default_rest sub' cs) ts (default_rest sub cs ts)
  unfolding default_rest
  local_default cs ts = local_expect is_colon _ _ ts refl (λ n. local_then _ _ (b.statements false n) (λ ss z. local_ok))

  pub local_clause_step : (cs : Clauses) (ts : List Token) → Local same goes_on (clause_step sub' cs) ts (clause_step sub cs ts)
  unfolding clause_step clause_step_by
  local_clause_step cs [] = local_word (clause_step_by sub' cs) (λ u. refl) (local_done refl)
  local_clause_step cs (t ∷ ts) = local_word (clause_step_by sub' cs) (λ u. refl) (go (word_of t))
    where
      go : (w : Word) → Local same goes_on (clause_step_by sub' cs (Some w)) (t ∷ ts) (clause_step_by sub cs (Some w) (t ∷ ts))
      go (a_key key.Case) = local_first (local_case cs ts)
      go (a_key key.Default) = local_if (leb 1 (defaults cs)) (λ h. local_fail) (λ h. local_first (local_default cs ts))
      go _ = local_done refl

  -- ---- statements without a loop

  local_else : (at : ℕ) (e : Expr) (s : Statement) (ts : List Token) → Local same never (λ u. else_by sub' at e s (word_at u) u) ts (else_by sub at e s (word_at ts) ts)
  unfolding else_by
  local_else at e s [] = local_word (else_by sub' at e s) (λ u. refl) local_ok
  local_else at e s (t ∷ ts) = local_word (else_by sub' at e s) (λ u. refl) (go (word_of t))
    where
      go : (w : Word) → Local same never (else_by sub' at e s (Some w)) (t ∷ ts) (else_by sub at e s (Some w) (t ∷ ts))
      go (a_key key.Else) = local_first (local_bind _ _ (b.statement ts) (λ x m. local_ok))
      go _ = local_ok

  local_if_rest : (at : ℕ) (ts : List Token) → Local same always (if_rest sub' at) ts (if_rest sub at ts)
  unfolding if_rest
  local_if_rest at ts = local_bind _ _ (local_condition ts) (λ e m. local_then _ _ (b.statement m) (λ s n. local_else at e s n))

  local_do : (at : ℕ) (ts : List Token) → Local same always (do_rest sub' at) ts (do_rest sub at ts)
  unfolding do_rest
  local_do at ts = local_bind _ _ (b.statement ts) (λ s m. local_expect is_while _ _ m refl (λ n. local_then _ _ (local_condition n) (λ e z. local_then _ _ (local_ending None z) (λ semi y. local_ok))))

  local_while : (at : ℕ) (ts : List Token) → Local same always (while_rest sub' at) ts (while_rest sub at ts)
  unfolding while_rest
  local_while at ts = local_bind _ _ (local_condition ts) (λ e m. local_then _ _ (b.statement m) (λ s n. local_ok))

  local_header_part : (ts : List Token) → Local same never (header_part sub') ts (header_part sub ts)
  unfolding header_part header_part_by
  local_header_part [] = local_word (header_part_by sub') (λ u. refl) (local_bind _ _ (b.expression 0 true []) (λ e m. local_ok))
  local_header_part (t ∷ ts) = local_word (header_part_by sub') (λ u. refl) (go (word_of t))
    where
      go : (w : Word) → Local same never (header_part_by sub' (Some w)) (t ∷ ts) (header_part_by sub (Some w) (t ∷ ts))
      go (a_sign sign.Semicolon) = local_ok
      go (a_sign sign.CloseParen) = local_ok
      go _ = local_bind _ _ (b.expression 0 true (t ∷ ts)) (λ e m. local_ok)

  local_for_steps : (at : ℕ) (first : First) (ts : List Token) → Local same always (for_steps sub' at first) ts (for_steps sub at first ts)
  unfolding for_steps
  local_for_steps at first ts = local_expect is_semicolon _ _ ts refl (λ m. local_then _ _ (local_header_part m) (λ test n. local_expect is_semicolon _ _ n refl (λ k. local_then _ _ (local_header_part k) (λ step z.
      local_expect is_close_paren _ _ z refl (λ rest. local_bind _ _ (b.statement rest) (λ s y. local_ok))))))

  local_for_each : (at : ℕ) (target : Target) (ts : List Token) → Local same always (for_each sub' at target) ts (for_each sub at target ts)
  unfolding for_each
  local_for_each at target ts = local_bind _ _ (b.expression 0 true ts) (λ e m. local_expect is_close_paren _ _ m refl (λ rest. local_bind _ _ (b.statement rest) (λ s y. local_ok)))

  local_for_expression : (at : ℕ) (ts : List Token) → Local same always (for_expression sub' at) ts (for_expression sub at ts)
  unfolding for_expression for_expression_by
  local_for_expression at ts = local_bind _ _ (b.expression 0 false ts) (λ e m. local_any (from e m))
    where
      from : (e : Expr) (m : List Token) → Local same always (λ u. for_expression_by sub' at e (word_at u) u) m (for_expression_by sub at e (word_at m) m)
      from e [] = local_word (for_expression_by sub' at e) (λ u. refl) (local_for_steps at _ [])
      from e (t ∷ ts) = local_word (for_expression_by sub' at e) (λ u. refl) (go (word_of t))
        where
          go : (w : Word) → Local same always (for_expression_by sub' at e (Some w)) (t ∷ ts) (for_expression_by sub at e (Some w) (t ∷ ts))
          go (a_key key.In) = local_if (is_target e) (λ h. local_first (local_any (local_for_each at (target_expr e) ts))) (λ h. local_fail)
          go _ = local_for_steps at _ (t ∷ ts)

  -- ---- jumps

  local_return_value : (at : ℕ) (ts : List Token) → Local same always (return_value sub' at) ts (return_value sub at ts)
  unfolding return_value
  local_return_value at ts = local_bind _ _ (b.expression 0 true ts) (λ e m. local_then _ _ (local_ending (Some e) m) (λ n z. local_ok))

  local_return : (at : ℕ) (ts : List Token) → Local same never (return_rest sub' at) ts (return_rest sub at ts)
  unfolding return_rest return_nothing
  local_return at ts = local_test (λ u. semicolon_here u || may_elide None u) (λ u a. rw (semicolon_alike ts u a, elide_alike None ts u a) refl) (λ h. local_then _ _ (local_ending None ts) (λ n z. local_ok)) (λ h. local_any (local_return_value at ts))

  local_throw : (at : ℕ) (ts : List Token) → Local same always (throw_rest sub' at) ts (throw_rest sub at ts)
  unfolding throw_rest throw_value
  local_throw at ts = local_test on_line (line_alike ts) (λ h. local_bind _ _ (b.expression 0 true ts) (λ e m. local_then _ _ (local_ending (Some e) m) (λ n z. local_ok))) (λ h. local_fail)

  -- ---- `try`

  local_finally : (at : ℕ) (bl : Block) (i : Ident) (handler : Block) (ts : List Token) → Local same never (λ u. finally_by sub' at bl i handler (word_at u) u) ts (finally_by sub at bl i handler (word_at ts) ts)
  unfolding finally_by
  local_finally at bl i handler [] = local_word (finally_by sub' at bl i handler) (λ u. refl) local_ok
  local_finally at bl i handler (t ∷ ts) = local_word (finally_by sub' at bl i handler) (λ u. refl) (go (word_of t))
    where
      go : (w : Word) → Local same never (finally_by sub' at bl i handler (Some w)) (t ∷ ts) (finally_by sub at bl i handler (Some w) (t ∷ ts))
      go (a_key key.Finally) = local_first (local_bind _ _ (local_inner_block ts) (λ final m. local_ok))
      go _ = local_ok

  local_catch : (at : ℕ) (bl : Block) (ts : List Token) → Local same always (catch_rest sub' at bl) ts (catch_rest sub at bl ts)
  unfolding catch_rest
  local_catch at bl ts = local_expect is_open_paren _ _ ts refl (λ m. local_ident _ _ m (λ i n. local_expect is_close_paren _ _ n refl (λ rest. local_then _ _ (local_inner_block rest) (λ handler z. local_finally at bl i handler z))))

  local_handler : (at : ℕ) (bl : Block) (ts : List Token) → Local same always (λ u. handler_by sub' at bl (word_at u) u) ts (handler_by sub at bl (word_at ts) ts)
  unfolding handler_by
  local_handler at bl [] = local_word (handler_by sub' at bl) (λ u. refl) local_fail
  local_handler at bl (t ∷ ts) = local_word (handler_by sub' at bl) (λ u. refl) (go (word_of t))
    where
      go : (w : Word) → Local same always (handler_by sub' at bl (Some w)) (t ∷ ts) (handler_by sub at bl (Some w) (t ∷ ts))
      go (a_key key.Catch) = local_first (local_any (local_catch at bl ts))
      go (a_key key.Finally) = local_first (local_bind _ _ (local_inner_block ts) (λ final m. local_ok))
      go _ = local_fail

  local_try : (at : ℕ) (ts : List Token) → Local same always (try_rest sub' at) ts (try_rest sub at ts)
  unfolding try_rest
  local_try at ts = local_bind _ _ (local_inner_block ts) (λ bl m. local_any (local_handler at bl m))

  -- ---- function declarations

  local_function_declaration : (at : ℕ) (ts : List Token) → Local same always (function_declaration_rest sub' at) ts (function_declaration_rest sub at ts)
  unfolding function_declaration_rest
  local_function_declaration at ts = local_ident _ _ ts (λ i m. local_bind _ _ (local_function_rest b m) (λ f n. local_ok))

-- ---- statements with loops

module _ {same : Bool} {sub sub' : Parsers} (b : LocalBelow same sub sub') (b' : LocalBelow true sub' sub') where
  local_declarations_from : (free : Bool) (i : Ident) (ts : List Token) → Local same never (declarations_from sub' free i) ts (declarations_from sub free i ts)
  unfolding declarations_from
  local_declarations_from free i ts = local_then _ _ (local_initialiser b free ts) (λ e m. local_loop (local_declaration_step b free) (local_declaration_step b' free) (one_declaration i e) m)

  local_declarations : (free : Bool) (ts : List Token) → Local same always (declarations sub' free) ts (declarations sub free ts)
  unfolding declarations
  local_declarations free ts = local_ident _ _ ts (λ i m. local_declarations_from free i m)

  local_var : (at : ℕ) (ts : List Token) → Local same always (var_rest sub' at) ts (var_rest sub at ts)
  unfolding var_rest
  local_var at ts = local_bind _ _ (local_declarations true ts) (λ ds m. local_then _ _ (local_ending (last_initialiser ds) m) (λ n z. local_ok))

  local_variables : (at : ℕ) (i : Ident) (ts : List Token) → Local same always (λ u. declarations_from sub' false i u >>= λ ds. for_steps sub' at (first_var ds.0) ds.1) ts (declarations_from sub false i ts >>= λ ds. for_steps sub at (first_var ds.0) ds.1)
  local_variables at i ts = local_then _ _ (local_declarations_from false i ts) (λ ds m. local_for_steps b at (first_var ds) m)

  local_for_variable : (at : ℕ) (ts : List Token) → Local same always (for_variable sub' at) ts (for_variable sub at ts)
  unfolding for_variable for_variable_by
  local_for_variable at ts = local_ident _ _ ts (λ i m. local_any (from i m))
    where
      from : (i : Ident) (m : List Token) → Local same always (λ u. for_variable_by sub' at i (word_at u) u) m (for_variable_by sub at i (word_at m) m)
      from i [] = local_word (for_variable_by sub' at i) (λ u. refl) (local_variables at i [])
      from i (t ∷ ts) = local_word (for_variable_by sub' at i) (λ u. refl) (go (word_of t))
        where
          go : (w : Word) → Local same always (for_variable_by sub' at i (Some w)) (t ∷ ts) (for_variable_by sub at i (Some w) (t ∷ ts))
          go (a_key key.In) = local_first (local_any (local_for_each b at (target_var i) ts))
          go _ = local_variables at i (t ∷ ts)

  local_for : (at : ℕ) (ts : List Token) → Local same always (for_rest sub' at) ts (for_rest sub at ts)
  unfolding for_rest for_header_by
  local_for at ts = local_expect is_open_paren _ _ ts refl (λ m. local_any (from m))
    where
      from : (m : List Token) → Local same always (λ u. for_header_by sub' at (word_at u) u) m (for_header_by sub at (word_at m) m)
      from [] = local_word (for_header_by sub' at) (λ u. refl) (local_for_expression b at [])
      from (t ∷ ts) = local_word (for_header_by sub' at) (λ u. refl) (go (word_of t))
        where
          go : (w : Word) → Local same always (for_header_by sub' at (Some w)) (t ∷ ts) (for_header_by sub at (Some w) (t ∷ ts))
          go (a_sign sign.Semicolon) = local_for_steps b at _ (t ∷ ts)
          go (a_key key.Var) = local_first (local_any (local_for_variable at ts))
          go _ = local_for_expression b at (t ∷ ts)

  local_switch : (at : ℕ) (ts : List Token) → Local same always (switch_rest sub' at) ts (switch_rest sub at ts)
  unfolding switch_rest
  local_switch at ts = local_bind _ _ (local_condition b ts) (λ e m. local_expect is_open_brace _ _ m refl (λ n. local_then _ _ (local_loop (local_clause_step b) (local_clause_step b') no_clauses n) (λ cs z. local_expect is_close_brace _ _ z refl (λ rest. local_ok))))

  -- ---- the depth

  module _ (d d' : ℕ) (grows : Grows same d d') where
    -- behind an expression
    rest_even : (at : ℕ) (e : Expr) (u : List Token) → expression_rest sub' d' at e (Some (a_key key.With)) u ≡ expression_rest sub' d' at e (Some (a_key key.Debugger)) u
    unfolding expression_rest
    rest_even at (name place text) u = refl
    rest_even at _ u = refl

    local_rest : (at : ℕ) (e : Expr) (ts : List Token) → Local same never (λ u. expression_rest sub' d' at e (word_at u) u) ts (expression_rest sub d at e (word_at ts) ts)
    unfolding expression_rest
    local_rest at e ts = local_word (expression_rest sub' d' at e) (rest_even at e) (go e ts (word_at ts) refl)
      where
        go : (e : Expr) (ts : List Token) (w : Option Word) → word_at ts ≡ w → Local same never (expression_rest sub' d' at e w) ts (expression_rest sub d at e w ts)
        go (name place text) [] (Some (a_sign sign.Colon)) h = absurd cc
        go (name place text) (t ∷ ts) (Some (a_sign sign.Colon)) h = local_room d d' 0 grows (local_first (local_bind _ _ (b.statement ts) (λ s m. local_ok)))
        go e ts w h = local_then _ _ (local_ending (Some e) ts) (λ n z. local_ok)

    -- an expression statement doesn't begin with `with`
    local_expression_statement : (ts : List Token) → (word_at ts ≡ Some (a_key key.With) → ⊥) → Local same always (expression_statement sub' d') ts (expression_statement sub d ts)
    unfolding expression_statement
    local_expression_statement ts other =
        let here : Local same always (λ u. expression_at sub' d' 0 true u >>= λ e. expression_rest sub' d' (place_of ts) e.0 (word_at e.1) e.1) ts (expression_statement sub d ts)
        = local_bind _ _ (local_expression d d' grows b b' 0 true ts) (λ e m. local_rest (place_of ts) e m) in
        local_swap (λ u a. elim a [
          | inl e ↦ rw (same_place ts u e) refl
          | inr s ↦ absurd (other s.here)
        ]) here
      where
        same_place : (ts u : List Token) → SameFirst ts u → place_of ts ≡ place_of u
        same_place [] [] e = refl
        same_place [] (t ∷ u) e = absurd cc
        same_place (t ∷ ts) [] e = absurd cc
        same_place (t ∷ ts) (s ∷ u) e = let same : t ≡ s = cc in ap (λ (x : Token). x.from) same

    local_block : (ts : List Token) → Local same always (block_at sub' d') ts (block_at sub d ts)
    unfolding block_at block_by block_rest
    local_block [] = local_word (block_by sub' d') (λ u. refl) local_fail
    local_block (t ∷ ts) = local_word (block_by sub' d') (λ u. refl) (go (word_of t))
      where
        go : (w : Word) → Local same always (block_by sub' d' (Some w)) (t ∷ ts) (block_by sub d (Some w) (t ∷ ts))
        go (a_sign sign.OpenBrace) = local_room d d' 0 grows (local_first (local_then _ _ (b.statements false ts) (λ ss m. local_expect is_close_brace _ _ m refl (λ rest. local_ok))))
        go _ = local_fail

    -- a statement by a word that isn't `with`
    local_by_word : (t : Token) (ts : List Token) (w : Word) → word_of t ≡ w → (w ≡ a_key key.With → ⊥) → Local same always (statement_by sub' d' (Some w)) (t ∷ ts) (statement_by sub d (Some w) (t ∷ ts))
    unfolding statement_by continue_rest break_rest debugger_rest
    local_by_word t ts (a_sign sign.OpenBrace) h n = local_bind _ _ (local_block (t ∷ ts)) (λ bl m. local_ok)
    local_by_word t ts (a_sign sign.Semicolon) h n = local_room d d' 0 grows (local_first local_ok)
    local_by_word t ts (a_key key.Var) h n = local_room d d' 0 grows (local_first (local_any (local_var t.from ts)))
    local_by_word t ts (a_key key.If) h n = local_room d d' 0 grows (local_first (local_any (local_if_rest b t.from ts)))
    local_by_word t ts (a_key key.Do) h n = local_room d d' 0 grows (local_first (local_any (local_do b t.from ts)))
    local_by_word t ts (a_key key.While) h n = local_room d d' 0 grows (local_first (local_any (local_while b t.from ts)))
    local_by_word t ts (a_key key.For) h n = local_room d d' 0 grows (local_first (local_any (local_for t.from ts)))
    local_by_word t ts (a_key key.Continue) h n = local_room d d' 0 grows (local_first (local_then _ _ (local_label ts) (λ l m. local_then _ _ (local_ending None m) (λ s z. local_ok))))
    local_by_word t ts (a_key key.Break) h n = local_room d d' 0 grows (local_first (local_then _ _ (local_label ts) (λ l m. local_then _ _ (local_ending None m) (λ s z. local_ok))))
    local_by_word t ts (a_key key.Return) h n = local_room d d' 0 grows (local_first (local_return b t.from ts))
    local_by_word t ts (a_key key.Throw) h n = local_room d d' 0 grows (local_first (local_any (local_throw b t.from ts)))
    local_by_word t ts (a_key key.Switch) h n = local_room d d' 0 grows (local_first (local_any (local_switch t.from ts)))
    local_by_word t ts (a_key key.Try) h n = local_room d d' 1 grows (local_first (local_any (local_try b t.from ts)))
    local_by_word t ts (a_key key.Debugger) h n = local_room d d' 0 grows (local_first (local_then _ _ (local_ending None ts) (λ s z. local_ok)))
    local_by_word t ts (a_key key.Function) h n = local_fail
    local_by_word t ts (a_key key.With) h n = absurd (n refl)
    local_by_word t ts w h n = local_expression_statement (t ∷ ts) (λ e. absurd cc)

    -- a statement by the first word, which isn't `with`
    local_word_statement : (ts : List Token) → (word_at ts ≡ Some (a_key key.With) → ⊥) → Local same always (statement_by sub' d' (word_at ts)) ts (statement_by sub d (word_at ts) ts)
    unfolding statement_by
    local_word_statement [] n = local_expression_statement [] n
    local_word_statement (t ∷ ts) n = local_by_word t ts (word_of t) refl (λ e. n (ap Some e))

    -- so it is in a list where function declarations stand or not
    local_word_element : (outer : Bool) (ts : List Token) → (word_at ts ≡ Some (a_key key.With) → ⊥) → Local same always (element_by sub' d' outer (word_at ts)) ts (element_by sub d outer (word_at ts) ts)
    unfolding element_by statement_by
    local_word_element false ts n = local_word_statement ts n
    local_word_element true [] n = local_expression_statement [] n
    local_word_element true (t ∷ ts) n = go (word_of t) refl
      where
        go : (w : Word) → word_of t ≡ w → Local same always (element_by sub' d' true (Some w)) (t ∷ ts) (element_by sub d true (Some w) (t ∷ ts))
        go (a_key key.Function) h = local_room d d' 0 grows (local_first (local_any (local_function_declaration b t.from ts)))
        go w h = local_by_word t ts w h (λ e. n (ap Some (h ∙ e)))

    -- at `with` each statement is refused
    with_refused : (sub : Parsers) (d : ℕ) (outer : Bool) (w : Option Word) (ts : List Token) → w ≡ Some (a_key key.With) → element_by sub d outer w ts ≡ Err (refused with_statement ts)
    unfolding element_by statement_by
    with_refused sub d false w ts h = rw h refl
    with_refused sub d true w ts h = rw h refl

    pub local_element : (outer : Bool) (ts : List Token) → Local same always (λ u. element_by sub' d' outer (word_at u) u) ts (element_by sub d outer (word_at ts) ts)
    local_element outer ts = go (is_with (word_at ts)) refl
      where
        go : (o : Bool) → is_with (word_at ts) ≡ o → Local same always (λ u. element_by sub' d' outer (word_at u) u) ts (element_by sub d outer (word_at ts) ts)
        go true h = rw (with_refused sub d outer (word_at ts) ts (with_is (word_at ts) h))
            (local_refused with_statement (λ u a. with_refused sub' d' outer (word_at u) u (sym (same_word ts u a) ∙ with_is (word_at ts) h)))
        go false h =
            let other : word_at ts ≡ Some (a_key key.With) → ⊥ = λ e. let bad : true ≡ false = sym (ap is_with e) ∙ h in cc in
            local_swap (λ u a. elim a [ inl e ↦ rw (same_word ts u e) refl | inr s ↦ absurd (other s.here) ]) (local_word_element outer ts other)

    -- a statement that is no function declaration
    pub local_statement : (ts : List Token) → Local same always (statement_at sub' d') ts (statement_at sub d ts)
    unfolding statement_at element_by
    local_statement ts = local_element false ts

    pub local_statements_step : (outer : Bool) (ss : Statements) (ts : List Token) → Local same goes_on (statements_step sub' d' outer ss) ts (statements_step sub d outer ss ts)
    unfolding statements_step next_statement
    local_statements_step outer ss ts = local_test (λ u. ends_list (word_at u)) (alike_word ends_list refl ts) (λ h. local_done refl) (λ h. local_bind _ _ (local_element outer ts) (λ s m. local_ok))

module _ {same : Bool} (d d' : ℕ) (grows : Grows same d d') {sub sub' : Parsers} (b : LocalBelow same sub sub') (b' : LocalBelow true sub' sub') where
  -- the statements of a list
  pub local_statements : (outer : Bool) (ts : List Token) → Local same never (statements_at sub' d' outer) ts (statements_at sub d outer ts)
  unfolding statements_at
  local_statements outer ts = local_loop (local_statements_step b b' d d' grows outer) (local_statements_step b' b' d' d' refl outer) no_statements ts

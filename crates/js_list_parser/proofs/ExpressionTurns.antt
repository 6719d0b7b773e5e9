-- The readers of expressions leave no more tokens than they are given, so that each loop is its turns.
use Rattle.std.proofs.Common.{◌≡◌, ℕ, suc, ◌≤◌, Bool, true, false, not, ◌||◌, if◌then◌else◌, leb, List, [], ◌∷◌, length, Option, Some, None, Ok, Err, codes, arith}
use Rattle.js_ast.specs.declared.token.Token.{Token}
use Rattle.js_ast.specs.declared.operators.UnaryOperator.{UnaryOperator}
use Rattle.js_ast.specs.declared.words.Keyword.TheVariants as key
use Rattle.js_ast.specs.declared.words.Sign.TheVariants as sign
use Rattle.js_ast.specs.Words.{Word, a_name, a_number, a_string, a_key, a_sign, word_of}
use Rattle.js_ast.specs.Trees.{Ident, Expr, unary, Exprs, Items, no_items, item, Properties, no_properties, more_properties}
use Rattle.js_ast.specs.Levels.{binding, is_step, is_target}
use Rattle.js_ast.specs.Depth.{depth}
use Rattle.js_ast.specs.Grammar.{place_of, is_close_brace}
use Rattle.js_list_parser.specs.Reading.{refused, syntax, Read, ◌>>=◌, word_at, behind, Turn, again, done, turned, loop, room, Parsers, Suffix, by_member, by_index, by_call, by_postfix, by_binary, by_conditional, by_assign, by_comma, by_nothing}
use Rattle.js_list_parser.specs.ExpressionParsing.{expect, taken, name_at, key_at, ident_at, operand_level, is_open_paren, is_close_paren, is_close_bracket, is_open_brace, is_colon, body_at, parameter_by, parameter, parameters_by, parameters, function_rest, function_named, function_by, argument_by, argument, arguments_by, arguments, item_end, item_by, item_turn, array_rest, value_rest, getter_rest, setter_rest, begins_accessor, property_at, property_end, property_by, property_turn, object_rest, paren_rest, new_by, new_rest, unary_of, unary_made, unary_operand, unary_rest, unary_by, primary_by, primary, suffix_at, suffix, applies, climb_step, climb, expression_at, begins_at, operand_paren, operand_first_by, operand_first, makes_target, further_at, operand_further, operand_step, operand_climb, operand_at}
use Rattle.js_ast.specs.Joined.{joined_items, joined_properties}
use Rattle.js_list_parser.proofs.Turns.{Within, RestWithin, TurnWithin, within-more, within-bind, rest-bind, turn-bind, within-room, turn-room, behind_within, loop-step, loop_within}

-- the parsers of parts leave no more tokens than they are given
pub record NoLonger (sub : Parsers) : Type 0 where
  pub expression : (wanted : ℕ) (free : Bool) (n : ℕ) (ts : List Token) → length ts ≤ n → Within n (sub.expression wanted free ts)
  pub operand : (wanted : ℕ) (free : Bool) (n : ℕ) (ts : List Token) → length ts ≤ n → Within n (sub.operand wanted free ts)
  pub first : (wanted : ℕ) (free : Bool) (n : ℕ) (ts : List Token) → length ts ≤ n → Within n (sub.first wanted free ts)
  pub further : (free : Bool) (e : Expr) (s : Suffix) (n : ℕ) (ts : List Token) → length (behind ts) ≤ n → Within n (sub.further free e s ts)
  pub statement : (n : ℕ) (ts : List Token) → length ts ≤ n → Within n (sub.statement ts)
  pub statements : (outer : Bool) (n : ℕ) (ts : List Token) → length ts ≤ n → Within n (sub.statements outer ts)

-- behind a token are no more tokens
behind_le : (n : ℕ) (ts : List Token) → length ts ≤ n → length (behind ts) ≤ n
behind_le n ts le = omega (arith, behind_within ts)

-- both answers leave no more
within-if : {A : Type 0} (n : ℕ) (b : Bool) (r s : Read A) → Within n r → Within n s → Within n (if b then r else s)
within-if n true r s g h = g
within-if n false r s g h = h

-- a token that is asked for
pub expect_within : (test : Word → Bool) (n : ℕ) (ts : List Token) → length ts ≤ n → RestWithin n (expect test ts)
unfolding expect
expect_within test n [] le = tt
expect_within test n (t ∷ ts) le = go (test (word_of t))
  where
    go : (b : Bool) → RestWithin n (if b then Ok ts else Err (refused syntax (t ∷ ts)))
    go true = omega arith
    go false = tt

-- a token that is taken
pub taken_within : {A : Type 0} (found : Option A) (n : ℕ) (ts : List Token) → length ts ≤ n → Within n (taken found ts)
unfolding taken
taken_within (Some a) n ts le = behind_le n ts le
taken_within None n ts le = tt

-- ---- parameters

-- a turn of the parameters
pub parameter_turns : (params : List Ident) (ts : List Token) → TurnWithin (length ts) (parameter params ts)
unfolding parameter parameter_by
parameter_turns params [] = tt
parameter_turns params (t ∷ ts) = go (word_of t)
  where
    go : (w : Word) → TurnWithin (suc (length ts)) (parameter_by params (Some w) (t ∷ ts))
    go (a_sign sign.CloseParen) = omega arith
    go (a_sign sign.Comma) = turn-bind (length ts) (suc (length ts)) (taken (ident_at ts) ts) _ (taken_within (ident_at ts) (length ts) ts (omega arith)) (λ i m le. omega arith)
    go _ = tt

-- parameters leave no more
pub parameters_within : (n : ℕ) (ts : List Token) → length ts ≤ n → Within n (parameters ts)
unfolding parameters parameters_by
parameters_within n ts le = go (word_at ts)
  where
    first : Within n (taken (ident_at ts) ts >>= λ i. loop parameter (i.0 ∷ []) i.1)
    first = within-bind n (taken (ident_at ts) ts) (λ i. loop parameter (i.0 ∷ []) i.1) (taken_within (ident_at ts) n ts le) (λ i m l. within-more (length m) n (loop parameter (i ∷ []) m) l (loop_within parameter parameter_turns (i ∷ []) m))

    go : (w : Option Word) → Within n (parameters_by w ts)
    go (Some (a_sign sign.CloseParen)) = behind_le n ts le
    go _ = first

module _ (sub : Parsers) (parts : NoLonger sub) where
  -- ---- bodies of functions

  -- a body leaves no more
  pub body_within : (n : ℕ) (ts : List Token) → length ts ≤ n → Within n (body_at sub ts)
  unfolding body_at
  body_within n ts le =
      rest-bind n (expect is_open_brace ts) _ (expect_within is_open_brace n ts le) (λ inner l. within-bind n (sub.statements true inner) _ (parts.statements true n inner l) (λ body m k.
      rest-bind n (expect is_close_brace m) _ (expect_within is_close_brace n m k) (λ rest j. j)))

  -- parameters and a body leave no more
  pub function_rest_within : (n : ℕ) (ts : List Token) → length ts ≤ n → Within n (function_rest sub ts)
  unfolding function_rest
  function_rest_within n ts le =
      rest-bind n (expect is_open_paren ts) _ (expect_within is_open_paren n ts le) (λ inner l. within-bind n (parameters inner) _ (parameters_within n inner l) (λ params m k.
      within-bind n (body_at sub m) _ (body_within n m k) (λ body z j. j)))

  -- a function leaves no more
  function_by_within : (at : ℕ) (ident : Option Ident) (n : ℕ) (ts : List Token) → length ts ≤ n → Within n (function_by sub at ident ts)
  unfolding function_by function_named
  function_by_within at (Some i) n ts le = within-bind n (function_rest sub (behind ts)) _ (function_rest_within n (behind ts) (behind_le n ts le)) (λ f z l. l)
  function_by_within at None n ts le = within-bind n (function_rest sub ts) _ (function_rest_within n ts le) (λ f z l. l)

  -- ---- arguments

  -- a turn of the arguments
  pub argument_turns : (es : Exprs) (ts : List Token) → TurnWithin (length ts) (argument sub es ts)
  unfolding argument argument_by
  argument_turns es [] = tt
  argument_turns es (t ∷ ts) = go (word_of t)
    where
      go : (w : Word) → TurnWithin (suc (length ts)) (argument_by sub es (Some w) (t ∷ ts))
      go (a_sign sign.CloseParen) = omega arith
      go (a_sign sign.Comma) = turn-bind (length ts) (suc (length ts)) (sub.expression 1 true ts) _ (parts.expression 1 true (length ts) ts (omega arith)) (λ e m le. omega arith)
      go _ = tt

  -- arguments leave no more
  pub arguments_within : (n : ℕ) (ts : List Token) → length ts ≤ n → Within n (arguments sub ts)
  unfolding arguments arguments_by
  arguments_within n ts le = go (word_at ts)
    where
      go : (w : Option Word) → Within n (arguments_by sub w ts)
      go (Some (a_sign sign.CloseParen)) = behind_le n ts le
      go _ = within-bind n (sub.expression 1 true ts) _ (parts.expression 1 true n ts le) (λ e m l. within-more (length m) n (loop (argument sub) _ m) l (loop_within (argument sub) argument_turns _ m))

  -- ---- arrays

  -- behind an expression of an array
  item_end_turns : (items : Items) (n : ℕ) (ts : List Token) → length ts ≤ n → TurnWithin n (item_end items (word_at ts) ts)
  unfolding item_end
  item_end_turns items n [] le = tt
  item_end_turns items n (t ∷ ts) le = go (word_of t)
    where
      go : (w : Word) → TurnWithin n (item_end items (Some w) (t ∷ ts))
      go (a_sign sign.Comma) = omega arith
      go (a_sign sign.CloseBracket) = omega arith
      go _ = tt

  -- an expression of an array
  item_one : (items : Items) (ts : List Token) → TurnWithin (length ts) (sub.expression 1 true ts >>= λ e. item_end (joined_items items (item e.0 no_items)) (word_at e.1) e.1)
  item_one items ts = turn-bind (length ts) (length ts) (sub.expression 1 true ts) _ (parts.expression 1 true (length ts) ts (omega arith)) (λ e m le. item_end_turns (joined_items items (item e no_items)) (length ts) m le)

  -- a turn of the items
  pub item_turns : (items : Items) (ts : List Token) → TurnWithin (length ts) (item_turn sub items ts)
  unfolding item_turn item_by
  item_turns items [] = item_one items []
  item_turns items (t ∷ ts) = go (word_of t)
    where
      go : (w : Word) → TurnWithin (suc (length ts)) (item_by sub items (Some w) (t ∷ ts))
      go (a_sign sign.Comma) = omega arith
      go (a_sign sign.CloseBracket) = omega arith
      go _ = item_one items (t ∷ ts)

  -- an array leaves no more
  array_within : (at n : ℕ) (ts : List Token) → length ts ≤ n → Within n (array_rest sub at ts)
  unfolding array_rest
  array_within at n ts le = within-bind n (loop (item_turn sub) no_items ts) _ (within-more (length ts) n (loop (item_turn sub) no_items ts) le (loop_within (item_turn sub) item_turns no_items ts)) (λ x m l. l)

  -- ---- objects

  -- a key and a value leave no more
  value_within : (at n : ℕ) (ts : List Token) → length ts ≤ n → Within n (value_rest sub at ts)
  unfolding value_rest
  value_within at n ts le = within-bind n (taken (key_at ts) ts) _ (taken_within (key_at ts) n ts le) (λ k m l. rest-bind n (expect is_colon m) _ (expect_within is_colon n m l) (λ inner j.
      within-bind n (sub.expression 1 true inner) _ (parts.expression 1 true n inner j) (λ e z i. i)))

  -- a `get` leaves no more
  getter_within : (at n : ℕ) (ts : List Token) → length ts ≤ n → Within n (getter_rest sub at ts)
  unfolding getter_rest
  getter_within at n ts le = within-bind n (taken (key_at ts) ts) _ (taken_within (key_at ts) n ts le) (λ k m l. rest-bind n (expect is_open_paren m) _ (expect_within is_open_paren n m l) (λ inner j.
      rest-bind n (expect is_close_paren inner) _ (expect_within is_close_paren n inner j) (λ rest i. within-bind n (body_at sub rest) _ (body_within n rest i) (λ body z x. x))))

  -- a `set` leaves no more
  setter_within : (at n : ℕ) (ts : List Token) → length ts ≤ n → Within n (setter_rest sub at ts)
  unfolding setter_rest
  setter_within at n ts le = within-bind n (taken (key_at ts) ts) _ (taken_within (key_at ts) n ts le) (λ k m l. rest-bind n (expect is_open_paren m) _ (expect_within is_open_paren n m l) (λ inner j.
      within-bind n (taken (ident_at inner) inner) _ (taken_within (ident_at inner) n inner j) (λ param y x. rest-bind n (expect is_close_paren y) _ (expect_within is_close_paren n y x) (λ rest i.
      within-bind n (body_at sub rest) _ (body_within n rest i) (λ body z u. u)))))

  -- a property leaves no more
  property_within : (n : ℕ) (ts : List Token) → length ts ≤ n → Within n (property_at sub ts)
  unfolding property_at
  property_within n ts le = within-if n (begins_accessor (codes "get") ts) _ _ (getter_within (place_of ts) n (behind ts) (behind_le n ts le))
      (within-if n (begins_accessor (codes "set") ts) _ _ (setter_within (place_of ts) n (behind ts) (behind_le n ts le)) (value_within (place_of ts) n ts le))

  -- behind a property
  property_end_turns : (props : Properties) (n : ℕ) (ts : List Token) → length ts ≤ n → TurnWithin n (property_end props (word_at ts) ts)
  unfolding property_end
  property_end_turns props n [] le = tt
  property_end_turns props n (t ∷ ts) le = go (word_of t)
    where
      go : (w : Word) → TurnWithin n (property_end props (Some w) (t ∷ ts))
      go (a_sign sign.Comma) = omega arith
      go (a_sign sign.CloseBrace) = omega arith
      go _ = tt

  -- a property of an object
  property_one : (props : Properties) (ts : List Token) → TurnWithin (length ts) (property_at sub ts >>= λ p. property_end (joined_properties props (more_properties p.0 no_properties)) (word_at p.1) p.1)
  property_one props ts = turn-bind (length ts) (length ts) (property_at sub ts) _ (property_within (length ts) ts (omega arith)) (λ p m le. property_end_turns (joined_properties props (more_properties p no_properties)) (length ts) m le)

  -- a turn of the properties
  pub property_turns : (props : Properties) (ts : List Token) → TurnWithin (length ts) (property_turn sub props ts)
  unfolding property_turn property_by
  property_turns props [] = property_one props []
  property_turns props (t ∷ ts) = go (word_of t)
    where
      go : (w : Word) → TurnWithin (suc (length ts)) (property_by sub props (Some w) (t ∷ ts))
      go (a_sign sign.CloseBrace) = omega arith
      go _ = property_one props (t ∷ ts)

  -- an object leaves no more
  object_within : (at n : ℕ) (ts : List Token) → length ts ≤ n → Within n (object_rest sub at ts)
  unfolding object_rest
  object_within at n ts le = within-bind n (loop (property_turn sub) no_properties ts) _ (within-more (length ts) n (loop (property_turn sub) no_properties ts) le (loop_within (property_turn sub) property_turns no_properties ts)) (λ x m l. l)

  -- ---- how an expression begins

  -- an expression in parentheses leaves no more
  paren_within : (at n : ℕ) (ts : List Token) → length ts ≤ n → Within n (paren_rest sub at ts)
  unfolding paren_rest
  paren_within at n ts le = within-bind n (sub.expression 0 true ts) _ (parts.expression 0 true n ts le) (λ e m l. rest-bind n (expect is_close_paren m) _ (expect_within is_close_paren n m l) (λ rest j. j))

  -- arguments of `new` or none leave no more
  new_by_within : (at : ℕ) (e : Expr) (w : Option Word) (n : ℕ) (ts : List Token) → length ts ≤ n → Within n (new_by sub at e w ts)
  unfolding new_by
  new_by_within at e (Some (a_sign sign.OpenParen)) n ts le = within-bind n (arguments sub (behind ts)) _ (arguments_within n (behind ts) (behind_le n ts le)) (λ args m l. l)
  new_by_within at e _ n ts le = le

  -- a `new` leaves no more
  new_within : (free : Bool) (at n : ℕ) (ts : List Token) → length ts ≤ n → Within n (new_rest sub free at ts)
  unfolding new_rest
  new_within free at n ts le = within-bind n (sub.expression 16 free ts) _ (parts.expression 16 free n ts le) (λ e m l. new_by_within at e (word_at m) n m l)

  -- an operator with its operand
  made_within : (at : ℕ) (o : UnaryOperator) (e : Expr) (n : ℕ) (ts : List Token) → length ts ≤ n → Within n (unary_made at o e ts)
  unfolding unary_made
  made_within at o e n ts le = within-if n (not (is_step o) || is_target e) (Ok (unary at o e, ts)) (Err (refused syntax ts)) le tt

  -- an operand leaves no more
  unary_operand_within : (free : Bool) (o : UnaryOperator) (n : ℕ) (ts : List Token) → length ts ≤ n → Within n (unary_operand sub free o ts)
  unfolding unary_operand
  unary_operand_within free o n ts le = within-if n (is_step o) _ _ (parts.operand (operand_level o) free n ts le) (parts.expression (operand_level o) free n ts le)

  -- an operator in front leaves no more
  unary_within : (d wanted : ℕ) (free : Bool) (o : Option UnaryOperator) (n : ℕ) (ts : List Token) → length ts ≤ n → Within n (unary_by sub d wanted free o ts)
  unfolding unary_by unary_rest
  unary_within d wanted free (Some o) n ts le = within-if n (leb wanted 13) _ _
      (within-room n d 0 ts _ (within-bind n (unary_operand sub free o (behind ts)) _ (unary_operand_within free o n (behind ts) (behind_le n ts le)) (λ e m l. made_within (place_of ts) o e n m l))) tt
  unary_within d wanted free None n ts le = tt

  -- the beginning of an expression leaves no more
  primary_by_within : (d wanted : ℕ) (free : Bool) (w : Option Word) (n : ℕ) (ts : List Token) → length ts ≤ n → Within n (primary_by sub d wanted free w ts)
  unfolding primary_by
  primary_by_within d wanted free (Some (a_name text)) n ts le = behind_le n ts le
  primary_by_within d wanted free (Some (a_number x)) n ts le = behind_le n ts le
  primary_by_within d wanted free (Some (a_string text v)) n ts le = behind_le n ts le
  primary_by_within d wanted free (Some (a_key key.This)) n ts le = behind_le n ts le
  primary_by_within d wanted free (Some (a_key key.Null)) n ts le = behind_le n ts le
  primary_by_within d wanted free (Some (a_key key.True)) n ts le = behind_le n ts le
  primary_by_within d wanted free (Some (a_key key.False)) n ts le = behind_le n ts le
  primary_by_within d wanted free (Some (a_sign sign.OpenParen)) n ts le = within-room n d 0 ts _ (paren_within (place_of ts) n (behind ts) (behind_le n ts le))
  primary_by_within d wanted free (Some (a_sign sign.OpenBracket)) n ts le = within-room n d 0 ts _ (array_within (place_of ts) n (behind ts) (behind_le n ts le))
  primary_by_within d wanted free (Some (a_sign sign.OpenBrace)) n ts le = within-room n d 0 ts _ (object_within (place_of ts) n (behind ts) (behind_le n ts le))
  primary_by_within d wanted free (Some (a_key key.Function)) n ts le = within-room n d 0 ts _ (function_by_within (place_of ts) (ident_at (behind ts)) n (behind ts) (behind_le n ts le))
  primary_by_within d wanted free (Some (a_key key.New)) n ts le = within-room n d 0 ts _ (new_within free (place_of ts) n (behind ts) (behind_le n ts le))
  primary_by_within d wanted free w n ts le = unary_within d wanted free (unary_of w) n ts le

  -- the same, at a token
  pub primary_within : (d wanted : ℕ) (free : Bool) (n : ℕ) (ts : List Token) → length ts ≤ n → Within n (primary sub d wanted free ts)
  unfolding primary
  primary_within d wanted free n ts le = primary_by_within d wanted free (word_at ts) n ts le

  -- ---- how an expression goes on

  -- a suffix leaves no more
  suffix_within : (free : Bool) (e : Expr) (s : Suffix) (n : ℕ) (ts : List Token) → length ts ≤ n → Within n (suffix sub free e s ts)
  unfolding suffix
  suffix_within free e by_member n ts le = within-bind n (taken (name_at ts) ts) _ (taken_within (name_at ts) n ts le) (λ text m l. l)
  suffix_within free e by_index n ts le = within-bind n (sub.expression 0 true ts) _ (parts.expression 0 true n ts le) (λ i m l. rest-bind n (expect is_close_bracket m) _ (expect_within is_close_bracket n m l) (λ rest j. j))
  suffix_within free e by_call n ts le = within-bind n (arguments sub ts) _ (arguments_within n ts le) (λ args m l. l)
  suffix_within free e (by_postfix o) n ts le = le
  suffix_within free e (by_binary o) n ts le = within-bind n (sub.expression (suc (binding o)) free ts) _ (parts.expression (suc (binding o)) free n ts le) (λ r m l. l)
  suffix_within free e by_conditional n ts le = within-bind n (sub.expression 1 true ts) _ (parts.expression 1 true n ts le) (λ a m l. rest-bind n (expect is_colon m) _ (expect_within is_colon n m l) (λ rest j.
      within-bind n (sub.expression 1 free rest) _ (parts.expression 1 free n rest j) (λ b z i. i)))
  suffix_within free e (by_assign o) n ts le = within-bind n (sub.expression 1 free ts) _ (parts.expression 1 free n ts le) (λ r m l. l)
  suffix_within free e by_comma n ts le = within-bind n (sub.expression 1 free ts) _ (parts.expression 1 free n ts le) (λ r m l. l)
  suffix_within free e by_nothing n ts le = tt

  -- a turn of an expression
  pub climb_turns : (d wanted : ℕ) (free : Bool) (e : Expr) (ts : List Token) → TurnWithin (length ts) (climb_step sub d wanted free e ts)
  unfolding climb_step
  climb_turns d wanted free e [] = omega arith
  climb_turns d wanted free e (t ∷ ts) = go (applies wanted free e (t ∷ ts))
    where
      on : Read (Turn Expr Expr)
      on = suffix sub free e (suffix_at (t ∷ ts)) ts >>= λ x. Ok (again x.0, x.1)

      longer : TurnWithin (suc (length ts)) on
      longer = turn-bind (length ts) (suc (length ts)) (suffix sub free e (suffix_at (t ∷ ts)) ts) (λ x. Ok (again x.0, x.1)) (suffix_within free e (suffix_at (t ∷ ts)) (length ts) ts (omega arith)) (λ f m le. omega arith)

      go : (b : Bool) → TurnWithin (suc (length ts)) (if b then room d (depth e) (t ∷ ts) on else Ok (done e, t ∷ ts))
      go true = turn-room (suc (length ts)) d (depth e) (t ∷ ts) on longer
      go false = omega arith

  -- an expression leaves no more tokens than it is given
  pub expression_within : (d wanted : ℕ) (free : Bool) (n : ℕ) (ts : List Token) → length ts ≤ n → Within n (expression_at sub d wanted free ts)
  unfolding expression_at primary climb
  expression_within d wanted free n ts le = within-bind n (primary_by sub d wanted free (word_at ts) ts) _ (primary_by_within d wanted free (word_at ts) n ts le)
      (λ e m l. within-more (length m) n (loop (climb_step sub d wanted free) e m) l (loop_within (climb_step sub d wanted free) (climb_turns d wanted free) e m))

  -- ---- the operand of `++` and `--`

  -- an operand in parentheses leaves no more
  operand_paren_within : (at n : ℕ) (ts : List Token) → length ts ≤ n → Within n (operand_paren sub at ts)
  unfolding operand_paren
  operand_paren_within at n ts le = within-bind n (sub.operand 0 true ts) _ (parts.operand 0 true n ts le) (λ e m l. rest-bind n (expect is_close_paren m) _ (expect_within is_close_paren n m l) (λ rest j. j))

  -- the beginning of an operand leaves no more
  operand_first_within : (d wanted : ℕ) (free : Bool) (w : Option Word) (n : ℕ) (ts : List Token) → length ts ≤ n → Within n (operand_first_by sub d wanted free w ts)
  unfolding operand_first_by
  operand_first_within d wanted free (Some (a_name text)) n ts le = behind_le n ts le
  operand_first_within d wanted free (Some (a_sign sign.OpenParen)) n ts le = within-room n d 0 ts _ (operand_paren_within (place_of ts) n (behind ts) (behind_le n ts le))
  operand_first_within d wanted free w n ts le = within-if n (begins_at wanted w) (room d 0 ts (sub.first wanted free ts)) (Err (refused syntax ts)) (within-room n d 0 ts (sub.first wanted free ts) (parts.first wanted free n ts le)) tt

  -- a token with what is behind it leaves no more than is behind it
  pub further_within : (d : ℕ) (free : Bool) (e : Expr) (s : Suffix) (n : ℕ) (ts : List Token) → length (behind ts) ≤ n → Within n (further_at sub d free e s ts)
  unfolding further_at
  further_within d free e s n ts le = within-room n d (depth e) ts _ (suffix_within free e s n (behind ts) le)

  -- so it is in an operand
  operand_further_within : (d : ℕ) (free : Bool) (e : Expr) (s : Suffix) (n : ℕ) (ts : List Token) → length (behind ts) ≤ n → Within n (operand_further sub d free e s ts)
  unfolding operand_further
  operand_further_within d free e s n ts le = within-if n (makes_target s) _ _ (further_within d free e s n ts le) (within-room n d 0 ts _ (parts.further free e s n ts le))

  -- a turn of an operand
  pub operand_turns : (d wanted : ℕ) (free : Bool) (e : Expr) (ts : List Token) → TurnWithin (length ts) (operand_step sub d wanted free e ts)
  unfolding operand_step
  operand_turns d wanted free e [] = omega arith
  operand_turns d wanted free e (t ∷ ts) = go (applies wanted free e (t ∷ ts))
    where
      on : Read (Turn Expr Expr)
      on = operand_further sub d free e (suffix_at (t ∷ ts)) (t ∷ ts) >>= λ x. Ok (again x.0, x.1)

      longer : TurnWithin (suc (length ts)) on
      longer = turn-bind (length ts) (suc (length ts)) (operand_further sub d free e (suffix_at (t ∷ ts)) (t ∷ ts)) (λ x. Ok (again x.0, x.1))
          (operand_further_within d free e (suffix_at (t ∷ ts)) (length ts) (t ∷ ts) (omega arith)) (λ f m le. omega arith)

      go : (b : Bool) → TurnWithin (suc (length ts)) (if b then on else Ok (done e, t ∷ ts))
      go true = longer
      go false = omega arith

  -- an operand leaves no more tokens than it is given
  pub operand_within : (d wanted : ℕ) (free : Bool) (n : ℕ) (ts : List Token) → length ts ≤ n → Within n (operand_at sub d wanted free ts)
  unfolding operand_at operand_first operand_climb
  operand_within d wanted free n ts le = within-bind n (operand_first_by sub d wanted free (word_at ts) ts) _ (operand_first_within d wanted free (word_at ts) n ts le)
      (λ e m l. within-more (length m) n (loop (operand_step sub d wanted free) e m) l (loop_within (operand_step sub d wanted free) (operand_turns d wanted free) e m))

  -- ---- the loops, a turn at a time

  -- an operand goes on or ends
  pub operand-step : (d wanted : ℕ) (free : Bool) (e : Expr) (ts : List Token) → operand_climb sub d wanted free e ts ≡ (operand_step sub d wanted free e ts >>= λ x. turned (operand_climb sub d wanted free) x.0 x.1)
  unfolding operand_climb
  operand-step d wanted free e ts = loop-step (operand_step sub d wanted free) (operand_turns d wanted free) e ts

  -- an expression goes on or ends
  pub climb-step : (d wanted : ℕ) (free : Bool) (e : Expr) (ts : List Token) → climb sub d wanted free e ts ≡ (climb_step sub d wanted free e ts >>= λ x. turned (climb sub d wanted free) x.0 x.1)
  unfolding climb
  climb-step d wanted free e ts = loop-step (climb_step sub d wanted free) (climb_turns d wanted free) e ts

  -- arguments go on or end
  pub argument-step : (es : Exprs) (ts : List Token) → loop (argument sub) es ts ≡ (argument sub es ts >>= λ x. turned (loop (argument sub)) x.0 x.1)
  argument-step es ts = loop-step (argument sub) argument_turns es ts

  -- items go on or end
  pub item-step : (items : Items) (ts : List Token) → loop (item_turn sub) items ts ≡ (item_turn sub items ts >>= λ x. turned (loop (item_turn sub)) x.0 x.1)
  item-step items ts = loop-step (item_turn sub) item_turns items ts

  -- properties go on or end
  pub property-step : (props : Properties) (ts : List Token) → loop (property_turn sub) props ts ≡ (property_turn sub props ts >>= λ x. turned (loop (property_turn sub)) x.0 x.1)
  property-step props ts = loop-step (property_turn sub) property_turns props ts

-- parameters go on or end
pub parameter-step : (params : List Ident) (ts : List Token) → loop parameter params ts ≡ (parameter params ts >>= λ x. turned (loop parameter) x.0 x.1)
parameter-step params ts = loop-step parameter parameter_turns params ts

-- The readers of expressions look one token ahead only: one layer, over the parsers of less depth.
use Rattle.std.proofs.Common.{◌≡◌, ℕ, suc, inl, inr, Bool, true, false, not, ◌&&◌, ◌||◌, if◌then◌else◌, leb, List, [], ◌∷◌, Option, Some, None, Ok, Err, codes, refl, sym, ap, ◌∙◌}
use Rattle.js_ast.specs.declared.token.Token.{Token}
use Rattle.js_ast.specs.declared.token.TokenKind.{TokenKind}
use Rattle.js_ast.specs.declared.token.TokenKind.TheVariants as kind
use Rattle.js_ast.specs.declared.operators.UnaryOperator.{UnaryOperator}
use Rattle.js_ast.specs.declared.words.Keyword.{Keyword}
use Rattle.js_ast.specs.declared.words.Keyword.TheVariants as key
use Rattle.js_ast.specs.declared.words.Sign.{Sign}
use Rattle.js_ast.specs.declared.words.Sign.TheVariants as sign
use Rattle.js_ast.specs.Words.{Word, a_name, a_number, a_string, a_key, a_sign, in_table, signs, sign_word, word_by, word_of, name_by}
use Rattle.js_ast.specs.Trees.{Ident, Key, Expr, Exprs, more_exprs, no_exprs, Items, no_items, item, value, Properties, no_properties, more_properties}
use Rattle.js_ast.specs.Levels.{binding, is_step, is_target}
use Rattle.js_ast.specs.Depth.{depth}
use Rattle.js_ast.specs.Grammar.{on_line, is_close_brace}
use Rattle.js_list_parser.specs.Reading.{refused, syntax, Read, ◌>>=◌, word_at, behind, again, room, Parsers, Suffix, by_member, by_index, by_call, by_postfix, by_binary, by_conditional, by_assign, by_comma, by_nothing}
use Rattle.js_list_parser.specs.ExpressionParsing.{expect, taken, name_at, key_by, key_at, has_key, ident_at, operand_level, is_open_paren, is_close_paren, is_close_bracket, is_open_brace, is_colon, body_at, parameter_by, parameter, parameters_by, parameters, function_rest, function_named, function_by, argument_by, argument, arguments_by, arguments, item_end, item_by, item_turn, array_rest, value_rest, getter_rest, setter_rest, is_named, begins_accessor, property_at, property_end, property_by, property_turn, object_rest, paren_rest, new_by, new_rest, unary_of, unary_made, unary_operand, unary_rest, unary_by, primary_by, primary, suffix_of, suffix_at, applies, suffix, climb_step, climb, expression_at, begins_at, operand_paren, operand_first_by, operand_first, makes_target, further_at, operand_further, operand_step, operand_climb, operand_at}
use Rattle.js_ast.specs.Joined.{joined_items, joined_properties}
use Rattle.js_list_parser.proofs.Local.{Alike, Local, always, never, local_bind, local_then, local_done, local_ok, local_fail, local_first, local_swap, local_word, local_by, local_if, local_test, Grows, local_any, local_room, alike_word, same_found, local_expect, local_taken, goes_on, local_loop}

-- what the parsers of parts read, those of a larger depth or the same ones read too
pub record LocalBelow (same : Bool) (sub sub' : Parsers) : Type 0 where
  pub expression : (wanted : ℕ) (free : Bool) (ts : List Token) → Local same always (sub'.expression wanted free) ts (sub.expression wanted free ts)
  pub operand : (wanted : ℕ) (free : Bool) (ts : List Token) → Local same always (sub'.operand wanted free) ts (sub.operand wanted free ts)
  pub first : (wanted : ℕ) (free : Bool) (ts : List Token) → Local same always (sub'.first wanted free) ts (sub.first wanted free ts)
  pub further : (free : Bool) (e : Expr) (s : Suffix) (t : Token) (m : List Token) → Local same always (sub'.further free e s) (t ∷ m) (sub.further free e s (t ∷ m))
  pub statement : (ts : List Token) → Local same always sub'.statement ts (sub.statement ts)
  pub statements : (outer : Bool) (ts : List Token) → Local same never (sub'.statements outer) ts (sub.statements outer ts)

-- ---- names and keys

-- a name that is bound, and then others
pub local_ident : {B : Type 0} {same : Bool} {some : B → Bool} (f g : Ident × List Token → Read B) (ts : List Token) → ((i : Ident) (m : List Token) → Local same never (λ u. g (i, u)) m (f (i, m)))
    → Local same some (λ u. taken (ident_at u) u >>= g) ts (taken (ident_at ts) ts >>= f)
local_ident f g ts l = local_taken ident_at f g ts (λ t u v. refl) refl (λ u s h. rw s.there refl) l

-- a punctuator is no reserved word
sign_no_key : (s : Option Sign) (w : Keyword) → sign_word s ≡ a_key w → ⊥
sign_no_key (Some s) w h = cc
sign_no_key None w h = cc

-- a reserved word is a name, and a key
reserved_name : (k : TokenKind) (text : List ℕ) (w : Keyword) → word_by k text ≡ a_key w → name_by k text ≡ Some text
unfolding word_by
reserved_name kind.Name text w h = absurd cc
reserved_name (kind.Number n) text w h = absurd cc
reserved_name (kind.String v) text w h = absurd cc
reserved_name kind.Reserved text w h = refl
reserved_name kind.Punctuator text w h = absurd (sign_no_key (in_table signs text) w h)

reserved_key : (k : TokenKind) (text : List ℕ) (w : Keyword) → word_by k text ≡ a_key w → has_key (key_by k text) ≡ true
unfolding word_by
reserved_key kind.Name text w h = refl
reserved_key (kind.Number n) text w h = refl
reserved_key (kind.String v) text w h = refl
reserved_key kind.Reserved text w h = refl
reserved_key kind.Punctuator text w h = absurd (sign_no_key (in_table signs text) w h)

-- so where a reserved word stands there is a name
reserved_named : (ts : List Token) (w : Keyword) → word_at ts ≡ Some (a_key w) → name_at ts ≡ None → ⊥
reserved_named [] w h n = cc
reserved_named (t ∷ ts) w h n = let named : Some t.text ≡ None = sym (reserved_name t.kind t.text w (let e : word_of t ≡ a_key w = cc in e)) ∙ n in cc

-- and a key
reserved_key_at : (ts : List Token) (w : Keyword) → word_at ts ≡ Some (a_key w) → has_key (key_at ts) ≡ true
reserved_key_at [] w h = absurd cc
reserved_key_at (t ∷ ts) w h = reserved_key t.kind t.text w (let e : word_of t ≡ a_key w = cc in e)

-- of tokens that begin alike both begin with a key, or neither does
key_alike : (ts u : List Token) → Alike ts u → has_key (key_at ts) ≡ has_key (key_at u)
key_alike ts u (inl e) = ap has_key (same_found key_at (λ t a b. refl) ts u e)
key_alike ts u (inr s) = reserved_key_at ts key.With s.here ∙ sym (reserved_key_at u key.Debugger s.there)

-- no key
no_key : (k : Option Key) → has_key k ≡ false → k ≡ None
no_key None h = refl
no_key (Some k) h = absurd cc

-- a key, and then others
local_key : {B : Type 0} {same : Bool} {some : B → Bool} (f g : Key × List Token → Read B) (ts : List Token) → ((k : Key) (m : List Token) → Local same never (λ u. g (k, u)) m (f (k, m))) → Local same some (λ u. taken (key_at u) u >>= g) ts (taken (key_at ts) ts >>= f)
local_key f g ts l = local_taken key_at f g ts (λ t u v. refl) refl (λ u s h. no_key (key_at u) (sym (key_alike ts u (inr s)) ∙ ap has_key h)) l

-- a name that is bound is the same, or there is none
pub ident_alike : (ts u : List Token) → Alike ts u → ident_at ts ≡ ident_at u
ident_alike ts u (inl e) = same_found ident_at (λ t a b. refl) ts u e
ident_alike ts u (inr s) = rw (s.here, s.there) refl

-- what is no key is no name
no_key_no_name : (k : TokenKind) (x text : List ℕ) → has_key (key_by k x) ≡ false → is_named (Some (word_by k x)) text ≡ false
unfolding word_by
no_key_no_name kind.Punctuator x text h = go (in_table signs x)
  where
    go : (s : Option Sign) → is_named (Some (sign_word s)) text ≡ false
    go (Some s) = refl
    go None = refl
no_key_no_name _ x text h = absurd cc

no_accessor : (text : List ℕ) (ts : List Token) → has_key (key_at ts) ≡ false → begins_accessor text ts ≡ false
unfolding begins_accessor
no_accessor text [] h = refl
no_accessor text (t ∷ ts) h = rw (no_key_no_name t.kind t.text text h) refl

-- where no key is there is no property
property_fails : (sub : Parsers) (ts : List Token) → has_key (key_at ts) ≡ false → property_at sub ts ≡ Err (refused syntax ts)
unfolding property_at value_rest taken
property_fails sub ts h = rw (no_accessor (codes "get") ts h, no_accessor (codes "set") ts h, no_key (key_at ts) h) refl

-- ---- parameters

local_parameter : {same : Bool} (params : List Ident) (ts : List Token) → Local same goes_on (parameter params) ts (parameter params ts)
unfolding parameter parameter_by
local_parameter params [] = local_word (parameter_by params) (λ u. refl) local_fail
local_parameter {same = same} params (t ∷ ts) = local_word (parameter_by params) (λ u. refl) (go (word_of t))
  where
    go : (w : Word) → Local same goes_on (parameter_by params (Some w)) (t ∷ ts) (parameter_by params (Some w) (t ∷ ts))
    go (a_sign sign.CloseParen) = local_first local_ok
    go (a_sign sign.Comma) = local_first (local_ident _ _ ts (λ i m. local_ok))
    go _ = local_fail

local_parameters : {same : Bool} (ts : List Token) → Local same always parameters ts (parameters ts)
unfolding parameters parameters_by
local_parameters [] = local_word parameters_by (λ u. refl) (local_ident _ _ [] (λ i m. local_loop local_parameter local_parameter (i ∷ []) m))
local_parameters {same = same} (t ∷ ts) = local_word parameters_by (λ u. refl) (go (word_of t))
  where
    go : (w : Word) → Local same always (parameters_by (Some w)) (t ∷ ts) (parameters_by (Some w) (t ∷ ts))
    go (a_sign sign.CloseParen) = local_first local_ok
    go _ = local_ident _ _ (t ∷ ts) (λ i m. local_loop local_parameter local_parameter (i ∷ []) m)

-- ---- one turn of each loop, and what is no loop

module _ {same : Bool} {sub sub' : Parsers} (b : LocalBelow same sub sub') where
  local_body : (ts : List Token) → Local same always (body_at sub') ts (body_at sub ts)
  unfolding body_at
  local_body ts = local_expect is_open_brace _ _ ts refl (λ m. local_then _ _ (b.statements true m) (λ body n. local_expect is_close_brace _ _ n refl (λ rest. local_ok)))

  pub local_function_rest : (ts : List Token) → Local same always (function_rest sub') ts (function_rest sub ts)
  unfolding function_rest
  local_function_rest ts = local_expect is_open_paren _ _ ts refl (λ m. local_bind _ _ (local_parameters m) (λ params n. local_bind _ _ (local_body n) (λ body z. local_ok)))

  local_argument : (es : Exprs) (ts : List Token) → Local same goes_on (argument sub' es) ts (argument sub es ts)
  unfolding argument argument_by
  local_argument es [] = local_word (argument_by sub' es) (λ u. refl) local_fail
  local_argument es (t ∷ ts) = local_word (argument_by sub' es) (λ u. refl) (go (word_of t))
    where
      go : (w : Word) → Local same goes_on (argument_by sub' es (Some w)) (t ∷ ts) (argument_by sub es (Some w) (t ∷ ts))
      go (a_sign sign.CloseParen) = local_first local_ok
      go (a_sign sign.Comma) = local_first (local_bind _ _ (b.expression 1 true ts) (λ e n. local_ok))
      go _ = local_fail

  -- what may stand behind an expression in an array
  local_item_end : (items : Items) (ts : List Token) → Local same never (λ u. item_end items (word_at u) u) ts (item_end items (word_at ts) ts)
  unfolding item_end
  local_item_end items [] = local_word (item_end items) (λ u. refl) local_fail
  local_item_end items (t ∷ ts) = local_word (item_end items) (λ u. refl) (go (word_of t))
    where
      go : (w : Word) → Local same never (item_end items (Some w)) (t ∷ ts) (item_end items (Some w) (t ∷ ts))
      go (a_sign sign.Comma) = local_first local_ok
      go (a_sign sign.CloseBracket) = local_first local_ok
      go _ = local_fail

  local_item : (items : Items) (ts : List Token) → Local same goes_on (item_turn sub' items) ts (item_turn sub items ts)
  unfolding item_turn item_by
  local_item items [] = local_word (item_by sub' items) (λ u. refl) (local_bind _ _ (b.expression 1 true []) (λ e m. local_item_end (joined_items items (item e no_items)) m))
  local_item items (t ∷ ts) = local_word (item_by sub' items) (λ u. refl) (go (word_of t))
    where
      go : (w : Word) → Local same goes_on (item_by sub' items (Some w)) (t ∷ ts) (item_by sub items (Some w) (t ∷ ts))
      go (a_sign sign.Comma) = local_first local_ok
      go (a_sign sign.CloseBracket) = local_first local_ok
      go _ = local_bind _ _ (b.expression 1 true (t ∷ ts)) (λ e m. local_item_end (joined_items items (item e no_items)) m)

  -- ---- objects

  -- behind a key: a value
  local_value : (at : ℕ) (k : Key) (ts : List Token) → Local same never (λ u. expect is_colon u >>= λ inner. sub'.expression 1 true inner >>= λ e. Ok (value at k e.0, e.1)) ts (expect is_colon ts >>= λ inner. sub.expression 1 true inner >>= λ e. Ok (value at k e.0, e.1))
  local_value at k ts = local_expect is_colon _ _ ts refl (λ m. local_bind _ _ (b.expression 1 true m) (λ e n. local_ok))

  local_getter : (at : ℕ) (ts : List Token) → Local same always (getter_rest sub' at) ts (getter_rest sub at ts)
  unfolding getter_rest
  local_getter at ts = local_key _ _ ts (λ k m. local_expect is_open_paren _ _ m refl (λ n. local_expect is_close_paren _ _ n refl (λ rest. local_bind _ _ (local_body rest) (λ body z. local_ok))))

  local_setter : (at : ℕ) (ts : List Token) → Local same always (setter_rest sub' at) ts (setter_rest sub at ts)
  unfolding setter_rest
  local_setter at ts = local_key _ _ ts (λ k m. local_expect is_open_paren _ _ m refl (λ n. local_ident _ _ n (λ i x. local_expect is_close_paren _ _ x refl (λ rest. local_bind _ _ (local_body rest) (λ body z. local_ok)))))

  local_property : (ts : List Token) → Local same always (property_at sub') ts (property_at sub ts)
  unfolding property_at value_rest begins_accessor taken
  local_property ts = go ts (has_key (key_at ts)) refl
    where
      on : (t : Token) (m : List Token) (k : Key) → key_by t.kind t.text ≡ Some k → Local same always (property_at sub') (t ∷ m) (property_at sub (t ∷ m))
      on t m k h = local_first (local_test (λ u. is_named (Some (word_of t)) (codes "get") && has_key (key_at u)) (λ u a. rw (key_alike m u a) refl) (λ e. local_any (local_getter t.from m))
          (λ n. local_test (λ u. is_named (Some (word_of t)) (codes "set") && has_key (key_at u)) (λ u a. rw (key_alike m u a) refl) (λ e. local_any (local_setter t.from m))
          (λ n. rw h (local_value t.from k m))))

      go : (ts : List Token) (b : Bool) → has_key (key_at ts) ≡ b → Local same always (property_at sub') ts (property_at sub ts)
      go ts false h = rw (property_fails sub ts h) (local_swap (λ u a. property_fails sub' u (sym (key_alike ts u a) ∙ h)) local_fail)
      go [] true h = absurd cc
      go (t ∷ m) true h = some (key_by t.kind t.text) refl h
        where
          some : (k : Option Key) → key_by t.kind t.text ≡ k → has_key k ≡ true → Local same always (property_at sub') (t ∷ m) (property_at sub (t ∷ m))
          some (Some k) e h = on t m k e
          some None e h = absurd cc

  local_property_end : (props : Properties) (ts : List Token) → Local same never (λ u. property_end props (word_at u) u) ts (property_end props (word_at ts) ts)
  unfolding property_end
  local_property_end props [] = local_word (property_end props) (λ u. refl) local_fail
  local_property_end props (t ∷ ts) = local_word (property_end props) (λ u. refl) (go (word_of t))
    where
      go : (w : Word) → Local same never (property_end props (Some w)) (t ∷ ts) (property_end props (Some w) (t ∷ ts))
      go (a_sign sign.Comma) = local_first local_ok
      go (a_sign sign.CloseBrace) = local_first local_ok
      go _ = local_fail

  local_property_turn : (props : Properties) (ts : List Token) → Local same goes_on (property_turn sub' props) ts (property_turn sub props ts)
  unfolding property_turn property_by
  local_property_turn props [] = local_word (property_by sub' props) (λ u. refl) (local_bind _ _ (local_property []) (λ p m. local_property_end (joined_properties props (more_properties p no_properties)) m))
  local_property_turn props (t ∷ ts) = local_word (property_by sub' props) (λ u. refl) (go (word_of t))
    where
      go : (w : Word) → Local same goes_on (property_by sub' props (Some w)) (t ∷ ts) (property_by sub props (Some w) (t ∷ ts))
      go (a_sign sign.CloseBrace) = local_first local_ok
      go _ = local_bind _ _ (local_property (t ∷ ts)) (λ p m. local_property_end (joined_properties props (more_properties p no_properties)) m)

  -- ---- functions, parentheses, operators in front

  local_named : (at : ℕ) (i : Option Ident) (ts : List Token) → Local same always (function_named sub' at i) ts (function_named sub at i ts)
  unfolding function_named
  local_named at i ts = local_bind _ _ (local_function_rest ts) (λ f m. local_ok)

  local_function : (at : ℕ) (ts : List Token) → Local same always (λ u. function_by sub' at (ident_at u) u) ts (function_by sub at (ident_at ts) ts)
  unfolding function_by
  local_function at [] = local_by (function_by sub' at) ident_at (ident_alike []) (local_named at None [])
  local_function at (t ∷ m) = local_by (function_by sub' at) ident_at (ident_alike (t ∷ m)) (go (ident_at (t ∷ m)))
    where
      go : (i : Option Ident) → Local same always (function_by sub' at i) (t ∷ m) (function_by sub at i (t ∷ m))
      go (Some i) = local_first (local_any (local_named at (Some i) m))
      go None = local_named at None (t ∷ m)

  local_paren : (at : ℕ) (ts : List Token) → Local same always (paren_rest sub' at) ts (paren_rest sub at ts)
  unfolding paren_rest
  local_paren at ts = local_bind _ _ (b.expression 0 true ts) (λ e m. local_expect is_close_paren _ _ m refl (λ rest. local_ok))

  local_made : (at : ℕ) (o : UnaryOperator) (e : Expr) (ts : List Token) → Local same never (unary_made at o e) ts (unary_made at o e ts)
  unfolding unary_made
  local_made at o e ts = local_if (not (is_step o) || is_target e) (λ h. local_ok) (λ h. local_fail)

  local_unary : (free : Bool) (at : ℕ) (o : UnaryOperator) (ts : List Token) → Local same always (unary_rest sub' free at o) ts (unary_rest sub free at o ts)
  unfolding unary_rest unary_operand
  local_unary free at o ts = local_bind _ _ (local_if (is_step o) (λ h. b.operand (operand_level o) free ts) (λ h. b.expression (operand_level o) free ts)) (λ e m. local_made at o e m)

  local_operand_paren : (at : ℕ) (ts : List Token) → Local same always (operand_paren sub' at) ts (operand_paren sub at ts)
  unfolding operand_paren
  local_operand_paren at ts = local_bind _ _ (b.operand 0 true ts) (λ e m. local_expect is_close_paren _ _ m refl (λ rest. local_ok))

-- what tokens that begin alike make of an expression
suffix_alike : (ts u : List Token) → Alike ts u → suffix_at ts ≡ suffix_at u
suffix_alike ts u a = alike_word suffix_of refl ts u a

-- they stand on the same line as what is before them, or don't
pub line_alike : (ts u : List Token) → Alike ts u → on_line ts ≡ on_line u
line_alike [] [] (inl e) = refl
line_alike [] (t ∷ u) (inl e) = absurd cc
line_alike (t ∷ ts) [] (inl e) = absurd cc
line_alike (t ∷ ts) (s ∷ u) (inl e) = let same : t ≡ s = cc in ap (λ (x : Token). not x.newline) same
line_alike ts u (inr s) = s.line

-- they go on with an expression alike
applies_alike : (wanted : ℕ) (free : Bool) (e : Expr) (ts u : List Token) → Alike ts u → applies wanted free e ts ≡ applies wanted free e u
applies_alike wanted free e ts u a = rw (suffix_alike ts u a, line_alike ts u a) refl

-- ---- with the loops

module _ {same : Bool} (d d' : ℕ) (grows : Grows same d d') {sub sub' : Parsers} (b : LocalBelow same sub sub') (b' : LocalBelow true sub' sub') where
  local_arguments : (ts : List Token) → Local same always (arguments sub') ts (arguments sub ts)
  unfolding arguments arguments_by
  local_arguments [] = local_word (arguments_by sub') (λ u. refl) (local_bind _ _ (b.expression 1 true []) (λ e m. local_loop (local_argument b) (local_argument b') (more_exprs e no_exprs) m))
  local_arguments (t ∷ ts) = local_word (arguments_by sub') (λ u. refl) (go (word_of t))
    where
      go : (w : Word) → Local same always (arguments_by sub' (Some w)) (t ∷ ts) (arguments_by sub (Some w) (t ∷ ts))
      go (a_sign sign.CloseParen) = local_first local_ok
      go _ = local_bind _ _ (b.expression 1 true (t ∷ ts)) (λ e m. local_loop (local_argument b) (local_argument b') (more_exprs e no_exprs) m)

  local_array : (at : ℕ) (ts : List Token) → Local same never (array_rest sub' at) ts (array_rest sub at ts)
  unfolding array_rest
  local_array at ts = local_then _ _ (local_loop (local_item b) (local_item b') no_items ts) (λ x m. local_ok)

  local_object : (at : ℕ) (ts : List Token) → Local same never (object_rest sub' at) ts (object_rest sub at ts)
  unfolding object_rest
  local_object at ts = local_then _ _ (local_loop (local_property_turn b) (local_property_turn b') no_properties ts) (λ x m. local_ok)

  local_new_by : (at : ℕ) (e : Expr) (ts : List Token) → Local same never (λ u. new_by sub' at e (word_at u) u) ts (new_by sub at e (word_at ts) ts)
  unfolding new_by
  local_new_by at e [] = local_word (new_by sub' at e) (λ u. refl) local_ok
  local_new_by at e (t ∷ ts) = local_word (new_by sub' at e) (λ u. refl) (go (word_of t))
    where
      go : (w : Word) → Local same never (new_by sub' at e (Some w)) (t ∷ ts) (new_by sub at e (Some w) (t ∷ ts))
      go (a_sign sign.OpenParen) = local_first (local_bind _ _ (local_arguments ts) (λ args m. local_ok))
      go _ = local_ok

  local_new : (free : Bool) (at : ℕ) (ts : List Token) → Local same always (new_rest sub' free at) ts (new_rest sub free at ts)
  unfolding new_rest
  local_new free at ts = local_bind _ _ (b.expression 16 free ts) (λ e m. local_new_by at e m)

  -- an operator in front, or none
  local_unary_by : (wanted : ℕ) (free : Bool) (o : Option UnaryOperator) (t : Token) (ts : List Token) → Local same always (unary_by sub' d' wanted free o) (t ∷ ts) (unary_by sub d wanted free o (t ∷ ts))
  unfolding unary_by
  local_unary_by wanted free (Some o) t ts = local_if (leb wanted 13) (λ h. local_room d d' 0 grows (local_first (local_any (local_unary b free t.from o ts)))) (λ h. local_fail)
  local_unary_by wanted free None t ts = local_fail

  pub local_primary : (wanted : ℕ) (free : Bool) (ts : List Token) → Local same always (primary sub' d' wanted free) ts (primary sub d wanted free ts)
  unfolding primary primary_by unary_by
  local_primary wanted free [] = local_word (primary_by sub' d' wanted free) (λ u. refl) local_fail
  local_primary wanted free (t ∷ ts) = local_word (primary_by sub' d' wanted free) (λ u. refl) (go (word_of t))
    where
      go : (w : Word) → Local same always (primary_by sub' d' wanted free (Some w)) (t ∷ ts) (primary_by sub d wanted free (Some w) (t ∷ ts))
      go (a_name text) = local_first local_ok
      go (a_number n) = local_first local_ok
      go (a_string text v) = local_first local_ok
      go (a_key key.This) = local_first local_ok
      go (a_key key.Null) = local_first local_ok
      go (a_key key.True) = local_first local_ok
      go (a_key key.False) = local_first local_ok
      go (a_sign sign.OpenParen) = local_room d d' 0 grows (local_first (local_any (local_paren b t.from ts)))
      go (a_sign sign.OpenBracket) = local_room d d' 0 grows (local_first (local_array t.from ts))
      go (a_sign sign.OpenBrace) = local_room d d' 0 grows (local_first (local_object t.from ts))
      go (a_key key.Function) = local_room d d' 0 grows (local_first (local_any (local_function b t.from ts)))
      go (a_key key.New) = local_room d d' 0 grows (local_first (local_any (local_new free t.from ts)))
      go w = local_unary_by wanted free (unary_of (Some w)) t ts

  -- what goes on with an expression
  local_suffix : (free : Bool) (e : Expr) (s : Suffix) (ts : List Token) → Local same never (suffix sub' free e s) ts (suffix sub free e s ts)
  unfolding suffix
  local_suffix free e by_member ts = local_taken name_at _ _ ts (λ t u v. refl) refl (λ u s h. absurd (reserved_named ts key.With s.here h)) (λ text m. local_ok)
  local_suffix free e by_index ts = local_bind _ _ (b.expression 0 true ts) (λ i m. local_expect is_close_bracket _ _ m refl (λ rest. local_ok))
  local_suffix free e by_call ts = local_bind _ _ (local_arguments ts) (λ args m. local_ok)
  local_suffix free e (by_postfix o) ts = local_ok
  local_suffix free e (by_binary o) ts = local_bind _ _ (b.expression (suc (binding o)) free ts) (λ r m. local_ok)
  local_suffix free e by_conditional ts = local_bind _ _ (b.expression 1 true ts) (λ a m. local_expect is_colon _ _ m refl (λ rest. local_bind _ _ (b.expression 1 free rest) (λ c n. local_ok)))
  local_suffix free e (by_assign o) ts = local_bind _ _ (b.expression 1 free ts) (λ r m. local_ok)
  local_suffix free e by_comma ts = local_bind _ _ (b.expression 1 free ts) (λ r m. local_ok)
  local_suffix free e by_nothing ts = local_fail

  local_step : (wanted : ℕ) (free : Bool) (e : Expr) (ts : List Token) → Local same goes_on (climb_step sub' d' wanted free e) ts (climb_step sub d wanted free e ts)
  unfolding climb_step
  local_step wanted free e [] = local_swap (λ u a. rw (← applies_alike wanted free e [] u a) refl) (local_done refl)
  local_step wanted free e (t ∷ ts) = local_test (applies wanted free e) (applies_alike wanted free e (t ∷ ts))
      (λ h. local_room d d' (depth e) grows (local_by (λ s u. suffix sub' free e s (behind u) >>= λ x. Ok (again x.0, x.1)) suffix_at (suffix_alike (t ∷ ts)) (local_first (local_then _ _ (local_suffix free e (suffix_at (t ∷ ts)) ts) (λ x m. local_ok)))))
      (λ h. local_done refl)

  -- ---- operands of `++` and `--`

  -- what begins an expression at a level begins alike
  begins_alike : (wanted : ℕ) (ts u : List Token) → Alike ts u → begins_at wanted (word_at ts) ≡ begins_at wanted (word_at u)
  begins_alike wanted ts u a = alike_word (begins_at wanted) refl ts u a

  -- the beginning of an operand that is no name, where one begins
  local_other : (wanted : ℕ) (free : Bool) (w : Option Word) (ts : List Token) → Local same always (λ u. if begins_at wanted w then room d' 0 u (sub'.first wanted free u) else Err (refused syntax u)) ts (if begins_at wanted w then room d 0 ts (sub.first wanted free ts) else Err (refused syntax ts))
  local_other wanted free w ts = local_if (begins_at wanted w) (λ h. local_room d d' 0 grows (b.first wanted free ts)) (λ h. local_fail)

  local_operand_first : (wanted : ℕ) (free : Bool) (ts : List Token) → Local same always (operand_first sub' d' wanted free) ts (operand_first sub d wanted free ts)
  unfolding operand_first operand_first_by
  local_operand_first wanted free [] = local_word (operand_first_by sub' d' wanted free) (λ u. refl) (local_other wanted free None [])
  local_operand_first wanted free (t ∷ ts) = local_word (operand_first_by sub' d' wanted free) (λ u. refl) (go (word_of t))
    where
      go : (w : Word) → Local same always (operand_first_by sub' d' wanted free (Some w)) (t ∷ ts) (operand_first_by sub d wanted free (Some w) (t ∷ ts))
      go (a_name text) = local_first local_ok
      go (a_sign sign.OpenParen) = local_room d d' 0 grows (local_first (local_any (local_operand_paren b t.from ts)))
      go w = local_other wanted free (Some w) (t ∷ ts)

  pub local_further : (free : Bool) (e : Expr) (s : Suffix) (t : Token) (ts : List Token) → Local same always (further_at sub' d' free e s) (t ∷ ts) (further_at sub d free e s (t ∷ ts))
  unfolding further_at
  local_further free e s t ts = local_room d d' (depth e) grows (local_first (local_suffix free e s ts))

  local_operand_further : (free : Bool) (e : Expr) (s : Suffix) (t : Token) (ts : List Token) → Local same always (operand_further sub' d' free e s) (t ∷ ts) (operand_further sub d free e s (t ∷ ts))
  unfolding operand_further
  local_operand_further free e s t ts = local_if (makes_target s) (λ h. local_further free e s t ts) (λ h. local_room d d' 0 grows (b.further free e s t ts))

  local_operand_step : (wanted : ℕ) (free : Bool) (e : Expr) (ts : List Token) → Local same goes_on (operand_step sub' d' wanted free e) ts (operand_step sub d wanted free e ts)
  unfolding operand_step
  local_operand_step wanted free e [] = local_swap (λ u a. rw (← applies_alike wanted free e [] u a) refl) (local_done refl)
  local_operand_step wanted free e (t ∷ ts) = local_test (applies wanted free e) (applies_alike wanted free e (t ∷ ts))
      (λ h. local_by (λ s u. operand_further sub' d' free e s u >>= λ x. Ok (again x.0, x.1)) suffix_at (suffix_alike (t ∷ ts)) (local_bind _ _ (local_operand_further free e (suffix_at (t ∷ ts)) t ts) (λ x m. local_ok)))
      (λ h. local_done refl)

module _ {same : Bool} (d d' : ℕ) (grows : Grows same d d') {sub sub' : Parsers} (b : LocalBelow same sub sub') (b' : LocalBelow true sub' sub') where
  -- an expression at the depth itself
  pub local_expression : (wanted : ℕ) (free : Bool) (ts : List Token) → Local same always (expression_at sub' d' wanted free) ts (expression_at sub d wanted free ts)
  unfolding expression_at climb
  local_expression wanted free ts = local_bind _ _ (local_primary d d' grows b b' wanted free ts) (λ e m. local_loop (local_step d d' grows b b' wanted free) (local_step d' d' refl b' b' wanted free) e m)

  -- an operand
  pub local_operand : (wanted : ℕ) (free : Bool) (ts : List Token) → Local same always (operand_at sub' d' wanted free) ts (operand_at sub d wanted free ts)
  unfolding operand_at operand_climb
  local_operand wanted free ts = local_bind _ _ (local_operand_first d d' grows b b' wanted free ts) (λ e m. local_loop (local_operand_step d d' grows b b' wanted free) (local_operand_step d' d' refl b' b' wanted free) e m)

-- The parser of expressions on lists, by precedence climbing (ECMA-262 11). A function whose name ends in `_at` begins at a token, and most
-- others begin behind the token that says what is read.
use Rattle.std.specs.Prelude.{◌≡◌, ℕ, suc, ◌≤◌, ◌⊎◌, min, leb, Bool, true, false, not, ◌&&◌, ◌||◌, if◌then◌else◌, List, [], ◌∷◌, ◌++◌, Option, Some, None, Result, Ok, Err, codes}
use Rattle.std.specs.Str.{bytes_eq}
use Rattle.js_ast.specs.declared.token.Token.{Token}
use Rattle.js_ast.specs.declared.token.TokenKind.{TokenKind}
use Rattle.js_ast.specs.declared.token.TokenKind.TheVariants as kind
use Rattle.js_ast.specs.declared.operators.UnaryOperator.{UnaryOperator}
use Rattle.js_ast.specs.declared.operators.UnaryOperator.TheVariants as unary_operator
use Rattle.js_ast.specs.declared.operators.PostfixOperator.TheVariants as postfix_operator
use Rattle.js_ast.specs.declared.operators.BinaryOperator.TheVariants as binary_operator
use Rattle.js_ast.specs.declared.operators.AssignOperator.TheVariants as assign_operator
use Rattle.js_ast.specs.declared.words.Keyword.TheVariants as key
use Rattle.js_ast.specs.declared.words.Sign.TheVariants as sign
use Rattle.js_ast.specs.Words.{Word, a_name, a_number, a_string, a_key, a_sign, word_of, identifier_name}
use Rattle.js_ast.specs.Trees.{Ident, Key, name_key, string_key, number_key, Expr, name, number, string, this, null, boolean, paren, array, object, function, function_of, member, index, new_with, new_bare, call, postfix, unary, binary, conditional, assign, comma, Exprs, no_exprs, more_exprs, Items, no_items, hole, item, Property, value, getter, setter, Properties, no_properties, more_properties, Statements, at_of}
use Rattle.js_ast.specs.Joined.{joined_exprs, joined_items, joined_properties}
use Rattle.js_ast.specs.Levels.{binding, is_in, is_step, level, is_bare_new, is_target}
use Rattle.js_ast.specs.Grammar.{place_of, on_line, is_close_brace}
use Rattle.js_ast.specs.Validity.{ends_with_item, has_properties}
use Rattle.js_ast.specs.Depth.{depth}
use Rattle.js_list_parser.specs.Reading.{Refusal, refused, syntax, Read, ◌>>=◌, word_at, behind, Turn, again, done, loop, room, Suffix, by_member, by_index, by_call, by_postfix, by_binary, by_conditional, by_assign, by_comma, by_nothing, Parsers}

-- ---- single tokens

-- the tests of single words
abbrev pub is_open_paren : Word → Bool
is_open_paren (a_sign sign.OpenParen) = true
is_open_paren _ = false

abbrev pub is_close_paren : Word → Bool
is_close_paren (a_sign sign.CloseParen) = true
is_close_paren _ = false

abbrev pub is_close_bracket : Word → Bool
is_close_bracket (a_sign sign.CloseBracket) = true
is_close_bracket _ = false

abbrev pub is_open_brace : Word → Bool
is_open_brace (a_sign sign.OpenBrace) = true
is_open_brace _ = false

abbrev pub is_colon : Word → Bool
is_colon (a_sign sign.Colon) = true
is_colon _ = false

-- the tokens behind one that passes a test
unfoldable pub expect : (Word → Bool) → List Token → Result (List Token) Refusal
expect test [] = Err (refused syntax [])
expect test (t ∷ ts) = if test (word_of t) then Ok ts else Err (refused syntax (t ∷ ts))

-- what the first token is, and the tokens behind it
unfoldable pub taken : {A : Type 0} → Option A → List Token → Read A
taken (Some a) ts = Ok (a, behind ts)
taken None ts = Err (refused syntax ts)

-- an identifier name
abbrev pub name_at : List Token → Option (List ℕ)
name_at [] = None
name_at (t ∷ ts) = identifier_name t

-- the key that a token is, by its kind
abbrev pub key_by : TokenKind → List ℕ → Option Key
key_by kind.Name text = Some (name_key text)
key_by kind.Reserved text = Some (name_key text)
key_by (kind.String v) text = Some (string_key text v)
key_by (kind.Number n) text = Some (number_key n)
key_by kind.Punctuator text = None

-- the key of a property
abbrev pub key_at : List Token → Option Key
key_at [] = None
key_at (t ∷ ts) = key_by t.kind t.text

-- whether there is a key
abbrev pub has_key : Option Key → Bool
has_key (Some k) = true
has_key None = false

-- the name that a word is
abbrev pub ident_by : Option Word → ℕ → Option Ident
ident_by (Some (a_name text)) at = Some (record { at = at; text = text })
ident_by _ at = None

-- a name that is bound
abbrev pub ident_at : List Token → Option Ident
ident_at ts = ident_by (word_at ts) (place_of ts)

-- ---- bodies of functions

-- a body in braces
unfoldable pub body_at : Parsers → List Token → Read Statements
body_at sub ts = expect is_open_brace ts >>= λ inner. sub.statements true inner >>= λ body. expect is_close_brace body.1 >>= λ rest. Ok (body.0, rest)

-- a further parameter, or the end of the parameters
unfoldable pub parameter_by : List Ident → Option Word → List Token → Read (Turn (List Ident) (List Ident))
parameter_by params (Some (a_sign sign.CloseParen)) ts = Ok (done params, behind ts)
parameter_by params (Some (a_sign sign.Comma)) ts = taken (ident_at (behind ts)) (behind ts) >>= λ i. Ok (again (params ++ i.0 ∷ []), i.1)
parameter_by params w ts = Err (refused syntax ts)

-- the same, at a token
unfoldable pub parameter : List Ident → List Token → Read (Turn (List Ident) (List Ident))
parameter params ts = parameter_by params (word_at ts) ts

-- parameters, by the first word
unfoldable pub parameters_by : Option Word → List Token → Read (List Ident)
parameters_by (Some (a_sign sign.CloseParen)) ts = Ok ([], behind ts)
parameters_by w ts = taken (ident_at ts) ts >>= λ i. loop parameter (i.0 ∷ []) i.1

-- parameters, and the parenthesis that closes them
unfoldable pub parameters : List Token → Read (List Ident)
parameters ts = parameters_by (word_at ts) ts

-- the parameters in parentheses, and the body
unfoldable pub function_rest : Parsers → List Token → Read (List Ident × Statements)
function_rest sub ts = expect is_open_paren ts >>= λ inner. parameters inner >>= λ params. body_at sub params.1 >>= λ body. Ok ((params.0, body.0), body.1)

-- a function with a name or none
unfoldable pub function_named : Parsers → ℕ → Option Ident → List Token → Read Expr
function_named sub at ident ts = function_rest sub ts >>= λ f. Ok (function at (function_of at ident f.0.0 f.0.1), f.1)

-- a function, with its name taken where there is one
unfoldable pub function_by : Parsers → ℕ → Option Ident → List Token → Read Expr
function_by sub at (Some ident) ts = function_named sub at (Some ident) (behind ts)
function_by sub at None ts = function_named sub at None ts

-- ---- lists

-- a further argument, or the end of the arguments
unfoldable pub argument_by : Parsers → Exprs → Option Word → List Token → Read (Turn Exprs Exprs)
argument_by sub es (Some (a_sign sign.CloseParen)) ts = Ok (done es, behind ts)
argument_by sub es (Some (a_sign sign.Comma)) ts = sub.expression 1 true (behind ts) >>= λ e. Ok (again (joined_exprs es (more_exprs e.0 no_exprs)), e.1)
argument_by sub es w ts = Err (refused syntax ts)

-- the same, at a token
unfoldable pub argument : Parsers → Exprs → List Token → Read (Turn Exprs Exprs)
argument sub es ts = argument_by sub es (word_at ts) ts

-- arguments, by the first word
unfoldable pub arguments_by : Parsers → Option Word → List Token → Read Exprs
arguments_by sub (Some (a_sign sign.CloseParen)) ts = Ok (no_exprs, behind ts)
arguments_by sub w ts = sub.expression 1 true ts >>= λ e. loop (argument sub) (more_exprs e.0 no_exprs) e.1

-- arguments, and the parenthesis that closes them
unfoldable pub arguments : Parsers → List Token → Read Exprs
arguments sub ts = arguments_by sub (word_at ts) ts

-- what may stand behind an expression in an array
unfoldable pub item_end : Items → Option Word → List Token → Read (Turn Items (Items × Bool))
item_end items (Some (a_sign sign.Comma)) ts = Ok (again items, behind ts)
item_end items (Some (a_sign sign.CloseBracket)) ts = Ok (done (items, false), behind ts)
item_end items w ts = Err (refused syntax ts)

-- a further item, or the end of the array
unfoldable pub item_by : Parsers → Items → Option Word → List Token → Read (Turn Items (Items × Bool))
item_by sub items (Some (a_sign sign.Comma)) ts = Ok (again (joined_items items (hole no_items)), behind ts)
item_by sub items (Some (a_sign sign.CloseBracket)) ts = Ok (done (items, ends_with_item items), behind ts)
item_by sub items w ts = sub.expression 1 true ts >>= λ e. item_end (joined_items items (item e.0 no_items)) (word_at e.1) e.1

-- the same, at a token
unfoldable pub item_turn : Parsers → Items → List Token → Read (Turn Items (Items × Bool))
item_turn sub items ts = item_by sub items (word_at ts) ts

-- items, and the bracket that closes them
unfoldable pub array_rest : Parsers → ℕ → List Token → Read Expr
array_rest sub at ts = loop (item_turn sub) no_items ts >>= λ x. Ok (array at x.0.0 x.0.1, x.1)

-- a key and a value
unfoldable pub value_rest : Parsers → ℕ → List Token → Read Property
value_rest sub at ts = taken (key_at ts) ts >>= λ k. expect is_colon k.1 >>= λ inner. sub.expression 1 true inner >>= λ e. Ok (value at k.0 e.0, e.1)

-- what stands behind `get`
unfoldable pub getter_rest : Parsers → ℕ → List Token → Read Property
getter_rest sub at ts = taken (key_at ts) ts >>= λ k. expect is_open_paren k.1 >>= λ inner. expect is_close_paren inner >>= λ rest. body_at sub rest >>= λ body. Ok (getter at k.0 (function_of at None [] body.0), body.1)

-- what stands behind `set`
unfoldable pub setter_rest : Parsers → ℕ → List Token → Read Property
setter_rest sub at ts =
    taken (key_at ts) ts >>= λ k. expect is_open_paren k.1 >>= λ inner. taken (ident_at inner) inner >>= λ param. expect is_close_paren param.1 >>= λ rest. body_at sub rest >>= λ body. Ok (setter at k.0 (function_of at None (param.0 ∷ []) body.0), body.1)

-- whether a word is this name
abbrev pub is_named : Option Word → List ℕ → Bool
is_named (Some (a_name text)) wanted = bytes_eq text wanted
is_named w wanted = false

-- the tokens begin with this name and a key: `get` and `set` are keys of their own before a colon
unfoldable pub begins_accessor : List ℕ → List Token → Bool
begins_accessor text ts = is_named (word_at ts) text && has_key (key_at (behind ts))

-- a property (ECMA-262 11.1.5)
unfoldable pub property_at : Parsers → List Token → Read Property
property_at sub ts =
    if begins_accessor (codes "get") ts then getter_rest sub (place_of ts) (behind ts) else
    if begins_accessor (codes "set") ts then setter_rest sub (place_of ts) (behind ts) else value_rest sub (place_of ts) ts

-- what may stand behind a property
unfoldable pub property_end : Properties → Option Word → List Token → Read (Turn Properties (Properties × Bool))
property_end props (Some (a_sign sign.Comma)) ts = Ok (again props, behind ts)
property_end props (Some (a_sign sign.CloseBrace)) ts = Ok (done (props, false), behind ts)
property_end props w ts = Err (refused syntax ts)

-- a further property, or the end of the object
unfoldable pub property_by : Parsers → Properties → Option Word → List Token → Read (Turn Properties (Properties × Bool))
property_by sub props (Some (a_sign sign.CloseBrace)) ts = Ok (done (props, has_properties props), behind ts)
property_by sub props w ts = property_at sub ts >>= λ p. property_end (joined_properties props (more_properties p.0 no_properties)) (word_at p.1) p.1

-- the same, at a token
unfoldable pub property_turn : Parsers → Properties → List Token → Read (Turn Properties (Properties × Bool))
property_turn sub props ts = property_by sub props (word_at ts) ts

-- properties, and the brace that closes them
unfoldable pub object_rest : Parsers → ℕ → List Token → Read Expr
object_rest sub at ts = loop (property_turn sub) no_properties ts >>= λ x. Ok (object at x.0.0 x.0.1, x.1)

-- ---- how an expression begins

-- an expression, and the parenthesis that closes it
unfoldable pub paren_rest : Parsers → ℕ → List Token → Read Expr
paren_rest sub at ts = sub.expression 0 true ts >>= λ e. expect is_close_paren e.1 >>= λ rest. Ok (paren at e.0, rest)

-- arguments of `new`, or none
unfoldable pub new_by : Parsers → ℕ → Expr → Option Word → List Token → Read Expr
new_by sub at e (Some (a_sign sign.OpenParen)) ts = arguments sub (behind ts) >>= λ args. Ok (new_with at e args.0, args.1)
new_by sub at e w ts = Ok (new_bare at e, ts)

-- what stands behind `new`
unfoldable pub new_rest : Parsers → Bool → ℕ → List Token → Read Expr
new_rest sub free at ts = sub.expression 16 free ts >>= λ e. new_by sub at e.0 (word_at e.1) e.1

-- the level of an operand: one that is changed is a target, and those have 15 at least
abbrev pub operand_level : UnaryOperator → ℕ
operand_level unary_operator.Increment = 15
operand_level unary_operator.Decrement = 15
operand_level _ = 13

-- the operator in front that a word is
abbrev pub unary_of : Option Word → Option UnaryOperator
unary_of (Some (a_key key.Delete)) = Some unary_operator.Delete
unary_of (Some (a_key key.Void)) = Some unary_operator.Void
unary_of (Some (a_key key.Typeof)) = Some unary_operator.Typeof
unary_of (Some (a_sign sign.Plus)) = Some unary_operator.Plus
unary_of (Some (a_sign sign.Minus)) = Some unary_operator.Minus
unary_of (Some (a_sign sign.Tilde)) = Some unary_operator.BitNot
unary_of (Some (a_sign sign.Not)) = Some unary_operator.Not
unary_of (Some (a_sign sign.PlusPlus)) = Some unary_operator.Increment
unary_of (Some (a_sign sign.MinusMinus)) = Some unary_operator.Decrement
unary_of _ = None

-- an operator and an operand
unfoldable pub unary_made : ℕ → UnaryOperator → Expr → List Token → Read Expr
unary_made at o e ts = if not (is_step o) || is_target e then Ok (unary at o e, ts) else Err (refused syntax ts)

-- an operand: what is changed has to become a target
unfoldable pub unary_operand : Parsers → Bool → UnaryOperator → List Token → Read Expr
unary_operand sub free o ts = if is_step o then sub.operand (operand_level o) free ts else sub.expression (operand_level o) free ts

-- the same, and the expression that it makes with its operator
unfoldable pub unary_rest : Parsers → Bool → ℕ → UnaryOperator → List Token → Read Expr
unary_rest sub free at o ts = unary_operand sub free o ts >>= λ e. unary_made at o e.0 e.1

-- an operator in front, where the wanted level allows one
unfoldable pub unary_by : Parsers → ℕ → ℕ → Bool → Option UnaryOperator → List Token → Read Expr
unary_by sub d wanted free (Some o) ts = if leb wanted 13 then room d 0 ts (unary_rest sub free (place_of ts) o (behind ts)) else Err (refused syntax ts)
unary_by sub d wanted free None ts = Err (refused syntax ts)

-- an expression up to what may be behind it
unfoldable pub primary_by : Parsers → ℕ → ℕ → Bool → Option Word → List Token → Read Expr
primary_by sub d wanted free (Some (a_name text)) ts = Ok (name (place_of ts) text, behind ts)
primary_by sub d wanted free (Some (a_number n)) ts = Ok (number (place_of ts) n, behind ts)
primary_by sub d wanted free (Some (a_string text v)) ts = Ok (string (place_of ts) text v, behind ts)
primary_by sub d wanted free (Some (a_key key.This)) ts = Ok (this (place_of ts), behind ts)
primary_by sub d wanted free (Some (a_key key.Null)) ts = Ok (null (place_of ts), behind ts)
primary_by sub d wanted free (Some (a_key key.True)) ts = Ok (boolean (place_of ts) true, behind ts)
primary_by sub d wanted free (Some (a_key key.False)) ts = Ok (boolean (place_of ts) false, behind ts)
primary_by sub d wanted free (Some (a_sign sign.OpenParen)) ts = room d 0 ts (paren_rest sub (place_of ts) (behind ts))
primary_by sub d wanted free (Some (a_sign sign.OpenBracket)) ts = room d 0 ts (array_rest sub (place_of ts) (behind ts))
primary_by sub d wanted free (Some (a_sign sign.OpenBrace)) ts = room d 0 ts (object_rest sub (place_of ts) (behind ts))
primary_by sub d wanted free (Some (a_key key.Function)) ts = room d 0 ts (function_by sub (place_of ts) (ident_at (behind ts)) (behind ts))
primary_by sub d wanted free (Some (a_key key.New)) ts = room d 0 ts (new_rest sub free (place_of ts) (behind ts))
primary_by sub d wanted free w ts = unary_by sub d wanted free (unary_of w) ts

-- the same, at a token
unfoldable pub primary : Parsers → ℕ → ℕ → Bool → List Token → Read Expr
primary sub d wanted free ts = primary_by sub d wanted free (word_at ts) ts

-- ---- how an expression goes on

-- what a word makes of the expression before it
abbrev pub suffix_of : Option Word → Suffix
suffix_of (Some (a_sign sign.Dot)) = by_member
suffix_of (Some (a_sign sign.OpenBracket)) = by_index
suffix_of (Some (a_sign sign.OpenParen)) = by_call
suffix_of (Some (a_sign sign.PlusPlus)) = by_postfix postfix_operator.Increment
suffix_of (Some (a_sign sign.MinusMinus)) = by_postfix postfix_operator.Decrement
suffix_of (Some (a_sign sign.Star)) = by_binary binary_operator.Multiply
suffix_of (Some (a_sign sign.Slash)) = by_binary binary_operator.Divide
suffix_of (Some (a_sign sign.Percent)) = by_binary binary_operator.Remainder
suffix_of (Some (a_sign sign.Plus)) = by_binary binary_operator.Add
suffix_of (Some (a_sign sign.Minus)) = by_binary binary_operator.Subtract
suffix_of (Some (a_sign sign.ShiftLeft)) = by_binary binary_operator.ShiftLeft
suffix_of (Some (a_sign sign.ShiftRight)) = by_binary binary_operator.ShiftRight
suffix_of (Some (a_sign sign.ShiftRightZero)) = by_binary binary_operator.ShiftRightZero
suffix_of (Some (a_sign sign.Less)) = by_binary binary_operator.Less
suffix_of (Some (a_sign sign.Greater)) = by_binary binary_operator.Greater
suffix_of (Some (a_sign sign.LessEqual)) = by_binary binary_operator.LessEqual
suffix_of (Some (a_sign sign.GreaterEqual)) = by_binary binary_operator.GreaterEqual
suffix_of (Some (a_key key.Instanceof)) = by_binary binary_operator.Instanceof
suffix_of (Some (a_key key.In)) = by_binary binary_operator.In
suffix_of (Some (a_sign sign.Equal)) = by_binary binary_operator.Equal
suffix_of (Some (a_sign sign.NotEqual)) = by_binary binary_operator.NotEqual
suffix_of (Some (a_sign sign.StrictEqual)) = by_binary binary_operator.StrictEqual
suffix_of (Some (a_sign sign.StrictNotEqual)) = by_binary binary_operator.StrictNotEqual
suffix_of (Some (a_sign sign.And)) = by_binary binary_operator.BitAnd
suffix_of (Some (a_sign sign.Xor)) = by_binary binary_operator.BitXor
suffix_of (Some (a_sign sign.Or)) = by_binary binary_operator.BitOr
suffix_of (Some (a_sign sign.AndAnd)) = by_binary binary_operator.And
suffix_of (Some (a_sign sign.OrOr)) = by_binary binary_operator.Or
suffix_of (Some (a_sign sign.Question)) = by_conditional
suffix_of (Some (a_sign sign.Assign)) = by_assign assign_operator.Assign
suffix_of (Some (a_sign sign.StarAssign)) = by_assign assign_operator.Multiply
suffix_of (Some (a_sign sign.SlashAssign)) = by_assign assign_operator.Divide
suffix_of (Some (a_sign sign.PercentAssign)) = by_assign assign_operator.Remainder
suffix_of (Some (a_sign sign.PlusAssign)) = by_assign assign_operator.Add
suffix_of (Some (a_sign sign.MinusAssign)) = by_assign assign_operator.Subtract
suffix_of (Some (a_sign sign.ShiftLeftAssign)) = by_assign assign_operator.ShiftLeft
suffix_of (Some (a_sign sign.ShiftRightAssign)) = by_assign assign_operator.ShiftRight
suffix_of (Some (a_sign sign.ShiftRightZeroAssign)) = by_assign assign_operator.ShiftRightZero
suffix_of (Some (a_sign sign.AndAssign)) = by_assign assign_operator.BitAnd
suffix_of (Some (a_sign sign.XorAssign)) = by_assign assign_operator.BitXor
suffix_of (Some (a_sign sign.OrAssign)) = by_assign assign_operator.BitOr
suffix_of (Some (a_sign sign.Comma)) = by_comma
suffix_of _ = by_nothing

-- the same, at a token
abbrev pub suffix_at : List Token → Suffix
suffix_at ts = suffix_of (word_at ts)

-- an expression that may be the base of a member, an element or a call
abbrev pub is_base : Expr → Bool
is_base e = leb 15 (level e) && not (is_bare_new e)

-- whether a token on the same line or not goes on with an expression, where a level is wanted and the operator `in` is allowed or not
abbrev pub applies_by : ℕ → Bool → Expr → Bool → Suffix → Bool
applies_by wanted free e same_line by_member = is_base e && leb wanted (min 16 (level e))
applies_by wanted free e same_line by_index = is_base e && leb wanted (min 16 (level e))
applies_by wanted free e same_line by_call = is_base e && leb wanted 15
applies_by wanted free e same_line (by_postfix o) = same_line && (is_target e && leb wanted 14)
applies_by wanted free e same_line (by_binary o) = (free || not (is_in o)) && (leb (binding o) (level e) && leb wanted (binding o))
applies_by wanted free e same_line by_conditional = leb 3 (level e) && leb wanted 2
applies_by wanted free e same_line (by_assign o) = is_target e && leb wanted 1
applies_by wanted free e same_line by_comma = leb wanted 0
applies_by wanted free e same_line by_nothing = false

-- the same, at a token
abbrev pub applies : ℕ → Bool → Expr → List Token → Bool
applies wanted free e ts = applies_by wanted free e (on_line ts) (suffix_at ts)

-- whether it is a call
abbrev pub is_call : Suffix → Bool
is_call by_call = true
is_call _ = false

-- the last part of an expression would take the token
abbrev pub captured : Bool → Expr → List Token → Bool
captured free (new_bare at e) ts = is_call (suffix_at ts) || (applies 16 free e ts || captured free e ts)
captured free (unary at o e) ts = applies (operand_level o) free e ts || captured free e ts
captured free (binary at l o r) ts = applies (suc (binding o)) free r ts || captured free r ts
captured free (conditional at c a b) ts = applies 1 free b ts || captured free b ts
captured free (assign at l o r) ts = applies 1 free r ts || captured free r ts
captured free (comma at l r) ts = applies 1 free r ts || captured free r ts
captured free _ ts = false

-- the tokens go on with the expression in no place where it stands at a level
abbrev pub Stops : ℕ → Bool → Expr → List Token → Type 0
Stops wanted free e ts = (applies wanted free e ts ≡ false) × (captured free e ts ≡ false)

-- an expression that may stand where a level is wanted: what `new` makes an instance of may be a `new` without arguments
abbrev pub Reaches : ℕ → Expr → Type 0
Reaches wanted e = (wanted ≤ level e) ⊎ ((is_bare_new e ≡ true) × (wanted ≤ 16))

-- the expression with what a token makes of it, from the tokens behind that one
unfoldable pub suffix : Parsers → Bool → Expr → Suffix → List Token → Read Expr
suffix sub free e by_member ts = taken (name_at ts) ts >>= λ text. Ok (member (at_of e) e text.0, text.1)
suffix sub free e by_index ts = sub.expression 0 true ts >>= λ i. expect is_close_bracket i.1 >>= λ rest. Ok (index (at_of e) e i.0, rest)
suffix sub free e by_call ts = arguments sub ts >>= λ args. Ok (call (at_of e) e args.0, args.1)
suffix sub free e (by_postfix o) ts = Ok (postfix (at_of e) e o, ts)
suffix sub free e (by_binary o) ts = sub.expression (suc (binding o)) free ts >>= λ r. Ok (binary (at_of e) e o r.0, r.1)
suffix sub free e by_conditional ts = sub.expression 1 true ts >>= λ a. expect is_colon a.1 >>= λ rest. sub.expression 1 free rest >>= λ b. Ok (conditional (at_of e) e a.0 b.0, b.1)
suffix sub free e (by_assign o) ts = sub.expression 1 free ts >>= λ r. Ok (assign (at_of e) e o r.0, r.1)
suffix sub free e by_comma ts = sub.expression 1 free ts >>= λ r. Ok (comma (at_of e) e r.0, r.1)
suffix sub free e by_nothing ts = Err (refused syntax ts)

-- a turn: the expression goes on, or ends
unfoldable pub climb_step : Parsers → ℕ → ℕ → Bool → Expr → List Token → Read (Turn Expr Expr)
climb_step sub d wanted free e ts = if applies wanted free e ts then room d (depth e) ts (suffix sub free e (suffix_at ts) (behind ts) >>= λ x. Ok (again x.0, x.1)) else Ok (done e, ts)

-- an expression with all that goes on with it
unfoldable pub climb : Parsers → ℕ → ℕ → Bool → Expr → List Token → Read Expr
climb sub d wanted free e ts = loop (climb_step sub d wanted free) e ts

-- an expression of at least the wanted level, whose depth is at most d and whose parts are read by sub
unfoldable pub expression_at : Parsers → ℕ → ℕ → Bool → List Token → Read Expr
expression_at sub d wanted free ts = primary sub d wanted free ts >>= λ x. climb sub d wanted free x.0 x.1

-- ---- what may be behind an expression

-- a token that ends each expression before it
abbrev pub is_closer : Option Word → Bool
is_closer None = true
is_closer (Some (a_sign sign.CloseParen)) = true
is_closer (Some (a_sign sign.CloseBracket)) = true
is_closer (Some (a_sign sign.CloseBrace)) = true
is_closer (Some (a_sign sign.Colon)) = true
is_closer (Some (a_sign sign.Semicolon)) = true
is_closer _ = false

-- a token that begins an expression
abbrev pub begins_expression : Option Word → Bool
begins_expression (Some (a_name text)) = true
begins_expression (Some (a_number n)) = true
begins_expression (Some (a_string text v)) = true
begins_expression (Some (a_key key.This)) = true
begins_expression (Some (a_key key.Null)) = true
begins_expression (Some (a_key key.True)) = true
begins_expression (Some (a_key key.False)) = true
begins_expression (Some (a_key key.Function)) = true
begins_expression (Some (a_key key.New)) = true
begins_expression (Some (a_key key.Delete)) = true
begins_expression (Some (a_key key.Void)) = true
begins_expression (Some (a_key key.Typeof)) = true
begins_expression (Some (a_sign sign.OpenParen)) = true
begins_expression (Some (a_sign sign.OpenBracket)) = true
begins_expression (Some (a_sign sign.OpenBrace)) = true
begins_expression (Some (a_sign sign.Plus)) = true
begins_expression (Some (a_sign sign.Minus)) = true
begins_expression (Some (a_sign sign.PlusPlus)) = true
begins_expression (Some (a_sign sign.MinusMinus)) = true
begins_expression (Some (a_sign sign.Tilde)) = true
begins_expression (Some (a_sign sign.Not)) = true
begins_expression _ = false

-- a token that begins a statement, or that may be behind one, or none
abbrev pub begins_or_follows_statement : Option Word → Bool
begins_or_follows_statement None = true
begins_or_follows_statement (Some (a_sign sign.CloseBrace)) = true
begins_or_follows_statement (Some (a_sign sign.Semicolon)) = true
begins_or_follows_statement (Some (a_key key.Break)) = true
begins_or_follows_statement (Some (a_key key.Case)) = true
begins_or_follows_statement (Some (a_key key.Continue)) = true
begins_or_follows_statement (Some (a_key key.Debugger)) = true
begins_or_follows_statement (Some (a_key key.Default)) = true
begins_or_follows_statement (Some (a_key key.Do)) = true
begins_or_follows_statement (Some (a_key key.Else)) = true
begins_or_follows_statement (Some (a_key key.For)) = true
begins_or_follows_statement (Some (a_key key.If)) = true
begins_or_follows_statement (Some (a_key key.Return)) = true
begins_or_follows_statement (Some (a_key key.Switch)) = true
begins_or_follows_statement (Some (a_key key.Throw)) = true
begins_or_follows_statement (Some (a_key key.Try)) = true
begins_or_follows_statement (Some (a_key key.Var)) = true
begins_or_follows_statement (Some (a_key key.While)) = true
begins_or_follows_statement w = begins_expression w

-- the same, at a token
abbrev pub begins_statement_or_end : List Token → Bool
begins_statement_or_end ts = begins_or_follows_statement (word_at ts)

-- ---- the operand of `++` and `--`

-- a token that begins an expression where a level is wanted
abbrev pub begins_operator : Option UnaryOperator → Bool
begins_operator (Some o) = true
begins_operator None = false

abbrev pub begins_at : ℕ → Option Word → Bool
begins_at wanted w = begins_expression w && (leb wanted 13 || not (begins_operator (unary_of w)))

-- an operand in parentheses
unfoldable pub operand_paren : Parsers → ℕ → List Token → Read Expr
operand_paren sub at ts = sub.operand 0 true ts >>= λ e. expect is_close_paren e.1 >>= λ rest. Ok (paren at e.0, rest)

-- how an operand begins: a name is a target, what is in parentheses may become one, and behind anything else a member must come
unfoldable pub operand_first_by : Parsers → ℕ → ℕ → Bool → Option Word → List Token → Read Expr
operand_first_by sub d wanted free (Some (a_name text)) ts = Ok (name (place_of ts) text, behind ts)
operand_first_by sub d wanted free (Some (a_sign sign.OpenParen)) ts = room d 0 ts (operand_paren sub (place_of ts) (behind ts))
operand_first_by sub d wanted free w ts = if begins_at wanted w then room d 0 ts (sub.first wanted free ts) else Err (refused syntax ts)

unfoldable pub operand_first : Parsers → ℕ → ℕ → Bool → List Token → Read Expr
operand_first sub d wanted free ts = operand_first_by sub d wanted free (word_at ts) ts

-- members and elements are targets
abbrev pub makes_target : Suffix → Bool
makes_target by_member = true
makes_target by_index = true
makes_target _ = false

-- an expression with what goes on with it, at the token that says what
unfoldable pub further_at : Parsers → ℕ → Bool → Expr → Suffix → List Token → Read Expr
further_at sub d free e s ts = room d (depth e) ts (suffix sub free e s (behind ts))

unfoldable pub operand_further : Parsers → ℕ → Bool → Expr → Suffix → List Token → Read Expr
operand_further sub d free e s ts = if makes_target s then further_at sub d free e s ts else room d 0 ts (sub.further free e s ts)

-- a turn: the operand goes on, or ends
unfoldable pub operand_step : Parsers → ℕ → ℕ → Bool → Expr → List Token → Read (Turn Expr Expr)
operand_step sub d wanted free e ts = if applies wanted free e ts then (operand_further sub d free e (suffix_at ts) ts >>= λ x. Ok (again x.0, x.1)) else Ok (done e, ts)

-- an operand with all that goes on with it
unfoldable pub operand_climb : Parsers → ℕ → ℕ → Bool → Expr → List Token → Read Expr
operand_climb sub d wanted free e ts = loop (operand_step sub d wanted free) e ts

-- an operand of at least the wanted level: a target whose depth is at most d, or another expression whose depth is below d
unfoldable pub operand_at : Parsers → ℕ → ℕ → Bool → List Token → Read Expr
operand_at sub d wanted free ts = operand_first sub d wanted free ts >>= λ x. operand_climb sub d wanted free x.0 x.1

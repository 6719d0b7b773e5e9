-- The grammar: which tokens spell a tree. A part of the grammar is a relation: the tokens begin with its spelling, and then come the rest.
use Rattle.std.specs.Prelude.{◌≡◌, ℕ, List, [], ◌∷◌, Bool, true, false, not, ◌&&◌, ◌||◌, Option, Some, None, codes}
use Rattle.js_ast.specs.declared.token.Token.{Token}
use Rattle.js_ast.specs.declared.words.Keyword.{Keyword}
use Rattle.js_ast.specs.declared.words.Keyword.TheVariants as key
use Rattle.js_ast.specs.declared.words.Sign.{Sign}
use Rattle.js_ast.specs.declared.words.Sign.TheVariants as sign
use Rattle.js_ast.specs.Words.{Word, a_name, a_number, a_string, a_key, a_sign, word_of, identifier_name}
use Rattle.js_ast.specs.Trees.{Ident, Key, name_key, string_key, number_key, Semi, written, elided, Expr, name, number, string, this, null, boolean, paren, array, object, function, member, index, new_with, new_bare, call, postfix, unary, binary, conditional, assign, comma, Exprs, no_exprs, more_exprs, MaybeExpr, absent, present, Items, no_items, hole, item, Property, value, getter, setter, Properties, no_properties, more_properties, Declarations, one_declaration, more_declarations, First, first_expr, first_var, Target, target_expr, target_var, Clauses, no_clauses, case, default, Block, block_of, Statement, block, var, empty, expression, if_then, if_else, do_while, while, for, for_in, continue, break, return, throw, switch, labelled, try_catch, try_finally, try_both, debugger, function_declaration, Statements, no_statements, more_statements, Function, function_of}
use Rattle.js_ast.specs.Levels.{unary_word, postfix_word, binary_word, assign_word, ends_postfix}

abbrev pub Part : Type 1
Part = List Token → List Token → Type 0

-- one part, and then another
infixr 20 ◌⨾◌
abbrev pub ◌⨾◌ : Part → Part → Part
(p ⨾ q) ts rest = (middle : List Token) × p ts middle × q middle rest

-- nothing
abbrev pub nothing : Part
nothing ts rest = ts ≡ rest

-- the place of the first token
abbrev pub place_of : List Token → ℕ
place_of [] = 0
place_of (t ∷ ts) = t.from

-- no line terminator stands before the first token
abbrev pub on_line : List Token → Bool
on_line [] = true
on_line (t ∷ ts) = not t.newline

-- a part that begins at a place, and one that begins on the same line as what is before it
abbrev pub At : ℕ → Part → Part
At at p ts rest = (at ≡ place_of ts) × p ts rest

abbrev pub OnLine : Part → Part
OnLine p ts rest = (on_line ts ≡ true) × p ts rest

-- one token, by its word
abbrev pub Takes : Word → Part
Takes w ts rest = (t : Token) × (ts ≡ t ∷ rest) × (word_of t ≡ w)

abbrev pub sign_part : Sign → Part
sign_part s = Takes (a_sign s)

abbrev pub key_part : Keyword → Part
key_part k = Takes (a_key k)

-- a part in parentheses, in brackets, and in braces
abbrev pub parens : Part → Part
parens p = sign_part sign.OpenParen ⨾ (p ⨾ sign_part sign.CloseParen)

abbrev pub brackets : Part → Part
brackets p = sign_part sign.OpenBracket ⨾ (p ⨾ sign_part sign.CloseBracket)

abbrev pub braces : Part → Part
braces p = sign_part sign.OpenBrace ⨾ (p ⨾ sign_part sign.CloseBrace)

-- an identifier name, reserved or not
abbrev pub TakesName : List ℕ → Part
TakesName text ts rest = (t : Token) × (ts ≡ t ∷ rest) × (identifier_name t ≡ Some text)

abbrev pub ReadsIdent : Ident → Part
ReadsIdent ident = At ident.at (Takes (a_name ident.text))

abbrev pub MaybeIdent : Option Ident → Part
MaybeIdent None = nothing
MaybeIdent (Some ident) = ReadsIdent ident

-- a label behind `break` or `continue`, on its line
abbrev pub MaybeLabel : Option Ident → Part
MaybeLabel None = nothing
MaybeLabel (Some ident) = OnLine (ReadsIdent ident)

-- parameters, with commas between
abbrev pub ReadsIdents : List Ident → Part
ReadsIdents [] = nothing
ReadsIdents (i ∷ []) = ReadsIdent i
ReadsIdents (i ∷ j ∷ idents) = ReadsIdent i ⨾ (sign_part sign.Comma ⨾ ReadsIdents (j ∷ idents))

abbrev pub ReadsKey : Key → Part
ReadsKey (name_key text) = TakesName text
ReadsKey (string_key text v) = Takes (a_string text v)
ReadsKey (number_key n) = Takes (a_number n)

abbrev pub boolean_key : Bool → Keyword
boolean_key true = key.True
boolean_key false = key.False

-- a final comma, or none
abbrev pub FinalComma : Bool → Part
FinalComma true = sign_part sign.Comma
FinalComma false = nothing

-- whether a token in this word goes on with the expression before it, where a semicolon may be left out: `+`, `-`, and behind no `++` or `--`
-- also `(` and `[`
abbrev pub continues : Option Expr → Word → Bool
continues None w = false
continues (Some e) (a_sign sign.Plus) = true
continues (Some e) (a_sign sign.Minus) = true
continues (Some e) (a_sign sign.OpenParen) = not (ends_postfix e)
continues (Some e) (a_sign sign.OpenBracket) = not (ends_postfix e)
continues (Some e) w = false

abbrev pub is_close_brace : Word → Bool
is_close_brace (a_sign sign.CloseBrace) = true
is_close_brace w = false

-- the end of the tokens, or `}`
abbrev pub closes : List Token → Bool
closes [] = true
closes (t ∷ ts) = is_close_brace (word_of t)

abbrev pub is_semicolon : Word → Bool
is_semicolon (a_sign sign.Semicolon) = true
is_semicolon w = false

-- a semicolon may be left out (ECMA-262 7.9.1): at the end, before `}`, and before a token on a new line that is no `;` and doesn't go on
abbrev pub may_elide : Option Expr → List Token → Bool
may_elide before [] = true
may_elide before (t ∷ ts) = is_close_brace (word_of t) || (t.newline && not (is_semicolon (word_of t) || continues before (word_of t)))

-- the end of a statement behind this expression, or behind none
abbrev pub Ends : Option Expr → Semi → Part
Ends before written ts rest = sign_part sign.Semicolon ts rest
Ends before elided ts rest = (ts ≡ rest) × (may_elide before ts ≡ true)

abbrev pub as_option : MaybeExpr → Option Expr
as_option absent = None
as_option (present e) = Some e

-- the initialiser of the last variable
abbrev pub last_initialiser : Declarations → Option Expr
last_initialiser (one_declaration ident init) = as_option init
last_initialiser (more_declarations ident init ds) = last_initialiser ds

abbrev pub is_brace_or_function : Word → Bool
is_brace_or_function (a_sign sign.OpenBrace) = true
is_brace_or_function (a_key key.Function) = true
is_brace_or_function w = false

-- an expression statement begins with neither `{` nor `function`
abbrev pub starts_expression : List Token → Bool
starts_expression [] = false
starts_expression (t ∷ ts) = not (is_brace_or_function (word_of t))

abbrev pub StartsExpression : Part → Part
StartsExpression p ts rest = (starts_expression ts ≡ true) × p ts rest

abbrev mutual
  pub Reads : Expr → Part
  Reads (name at text) = At at (Takes (a_name text))
  Reads (number at n) = At at (Takes (a_number n))
  Reads (string at text v) = At at (Takes (a_string text v))
  Reads (this at) = At at (key_part key.This)
  Reads (null at) = At at (key_part key.Null)
  Reads (boolean at b) = At at (key_part (boolean_key b))
  Reads (paren at e) = At at (parens (Reads e))
  Reads (array at items final) = At at (brackets (ReadsItems items final))
  Reads (object at properties final) = At at (braces (ReadsProperties properties final))
  Reads (function at f) = At at (key_part key.Function ⨾ ReadsFunction f)
  Reads (member at e text) = At at (Reads e ⨾ (sign_part sign.Dot ⨾ TakesName text))
  Reads (index at e i) = At at (Reads e ⨾ brackets (Reads i))
  Reads (new_with at e args) = At at (key_part key.New ⨾ (Reads e ⨾ parens (ReadsExprs args)))
  Reads (new_bare at e) = At at (key_part key.New ⨾ Reads e)
  Reads (call at e args) = At at (Reads e ⨾ parens (ReadsExprs args))
  Reads (postfix at e o) = At at (Reads e ⨾ OnLine (Takes (postfix_word o)))
  Reads (unary at o e) = At at (Takes (unary_word o) ⨾ Reads e)
  Reads (binary at l o r) = At at (Reads l ⨾ (Takes (binary_word o) ⨾ Reads r))
  Reads (conditional at c a b) = At at (Reads c ⨾ (sign_part sign.Question ⨾ (Reads a ⨾ (sign_part sign.Colon ⨾ Reads b))))
  Reads (assign at l o r) = At at (Reads l ⨾ (Takes (assign_word o) ⨾ Reads r))
  Reads (comma at l r) = At at (Reads l ⨾ (sign_part sign.Comma ⨾ Reads r))

  -- arguments, with commas between
  pub ReadsExprs : Exprs → Part
  ReadsExprs no_exprs = nothing
  ReadsExprs (more_exprs e no_exprs) = Reads e
  ReadsExprs (more_exprs e (more_exprs f es)) = Reads e ⨾ (sign_part sign.Comma ⨾ ReadsExprs (more_exprs f es))

  pub ReadsMaybe : MaybeExpr → Part
  ReadsMaybe absent = nothing
  ReadsMaybe (present e) = Reads e

  -- items of an array: a comma stands behind each hole, and between an expression and what follows it
  pub ReadsItems : Items → Bool → Part
  ReadsItems no_items final = nothing
  ReadsItems (hole items) final = sign_part sign.Comma ⨾ ReadsItems items final
  ReadsItems (item e no_items) final = Reads e ⨾ FinalComma final
  ReadsItems (item e (hole items)) final = Reads e ⨾ (sign_part sign.Comma ⨾ ReadsItems (hole items) final)
  ReadsItems (item e (item f items)) final = Reads e ⨾ (sign_part sign.Comma ⨾ ReadsItems (item f items) final)

  pub ReadsProperty : Property → Part
  ReadsProperty (value at k e) = At at (ReadsKey k ⨾ (sign_part sign.Colon ⨾ Reads e))
  ReadsProperty (getter at k f) = At at (Takes (a_name (codes "get")) ⨾ (ReadsKey k ⨾ ReadsFunction f))
  ReadsProperty (setter at k f) = At at (Takes (a_name (codes "set")) ⨾ (ReadsKey k ⨾ ReadsFunction f))

  -- a function behind its first words: its name or none, its parameters and its body
  pub ReadsFunction : Function → Part
  ReadsFunction (function_of at ident params body) = MaybeIdent ident ⨾ (parens (ReadsIdents params) ⨾ braces (ReadsStatements body))

  -- properties of an object, with commas between
  pub ReadsProperties : Properties → Bool → Part
  ReadsProperties no_properties final = nothing
  ReadsProperties (more_properties p no_properties) final = ReadsProperty p ⨾ FinalComma final
  ReadsProperties (more_properties p (more_properties q ps)) final = ReadsProperty p ⨾ (sign_part sign.Comma ⨾ ReadsProperties (more_properties q ps) final)

  pub ReadsInitialiser : MaybeExpr → Part
  ReadsInitialiser absent = nothing
  ReadsInitialiser (present e) = sign_part sign.Assign ⨾ Reads e

  pub ReadsDeclarations : Declarations → Part
  ReadsDeclarations (one_declaration ident init) = ReadsIdent ident ⨾ ReadsInitialiser init
  ReadsDeclarations (more_declarations ident init ds) = (ReadsIdent ident ⨾ ReadsInitialiser init) ⨾ (sign_part sign.Comma ⨾ ReadsDeclarations ds)

  pub ReadsFirst : First → Part
  ReadsFirst (first_expr e) = ReadsMaybe e
  ReadsFirst (first_var ds) = key_part key.Var ⨾ ReadsDeclarations ds

  pub ReadsTarget : Target → Part
  ReadsTarget (target_expr e) = Reads e
  ReadsTarget (target_var ident) = key_part key.Var ⨾ ReadsIdent ident

  pub ReadsClauses : Clauses → Part
  ReadsClauses no_clauses = nothing
  ReadsClauses (case e body clauses) = (key_part key.Case ⨾ (Reads e ⨾ (sign_part sign.Colon ⨾ ReadsStatements body))) ⨾ ReadsClauses clauses
  ReadsClauses (default body clauses) = (key_part key.Default ⨾ (sign_part sign.Colon ⨾ ReadsStatements body)) ⨾ ReadsClauses clauses

  pub ReadsBlock : Block → Part
  ReadsBlock (block_of at body) = At at (braces (ReadsStatements body))

  pub ReadsStatement : Statement → Part
  ReadsStatement (block b) = ReadsBlock b
  ReadsStatement (var at ds semi) = At at (key_part key.Var ⨾ (ReadsDeclarations ds ⨾ Ends (last_initialiser ds) semi))
  ReadsStatement (empty at) = At at (sign_part sign.Semicolon)
  ReadsStatement (expression at e semi) = StartsExpression (At at (Reads e ⨾ Ends (Some e) semi))
  ReadsStatement (if_then at e s) = At at (key_part key.If ⨾ (parens (Reads e) ⨾ ReadsStatement s))
  ReadsStatement (if_else at e s u) = At at (key_part key.If ⨾ (parens (Reads e) ⨾ (ReadsStatement s ⨾ (key_part key.Else ⨾ ReadsStatement u))))
  ReadsStatement (do_while at s e semi) = At at (key_part key.Do ⨾ (ReadsStatement s ⨾ (key_part key.While ⨾ (parens (Reads e) ⨾ Ends None semi))))
  ReadsStatement (while at e s) = At at (key_part key.While ⨾ (parens (Reads e) ⨾ ReadsStatement s))
  ReadsStatement (for at first test step s) =
      At at (key_part key.For ⨾ (parens (ReadsFirst first ⨾ (sign_part sign.Semicolon ⨾ (ReadsMaybe test ⨾ (sign_part sign.Semicolon ⨾ ReadsMaybe step)))) ⨾ ReadsStatement s))
  ReadsStatement (for_in at target e s) = At at (key_part key.For ⨾ (parens (ReadsTarget target ⨾ (key_part key.In ⨾ Reads e)) ⨾ ReadsStatement s))
  ReadsStatement (continue at label semi) = At at (key_part key.Continue ⨾ (MaybeLabel label ⨾ Ends None semi))
  ReadsStatement (break at label semi) = At at (key_part key.Break ⨾ (MaybeLabel label ⨾ Ends None semi))
  ReadsStatement (return at absent semi) = At at (key_part key.Return ⨾ Ends None semi)
  ReadsStatement (return at (present e) semi) = At at (key_part key.Return ⨾ (OnLine (Reads e) ⨾ Ends (Some e) semi))
  ReadsStatement (throw at e semi) = At at (key_part key.Throw ⨾ (OnLine (Reads e) ⨾ Ends (Some e) semi))
  ReadsStatement (switch at e clauses) = At at (key_part key.Switch ⨾ (parens (Reads e) ⨾ braces (ReadsClauses clauses)))
  ReadsStatement (labelled at text s) = At at (Takes (a_name text) ⨾ (sign_part sign.Colon ⨾ ReadsStatement s))
  ReadsStatement (try_catch at b ident handler) = At at (key_part key.Try ⨾ (ReadsBlock b ⨾ (key_part key.Catch ⨾ (parens (ReadsIdent ident) ⨾ ReadsBlock handler))))
  ReadsStatement (try_finally at b final) = At at (key_part key.Try ⨾ (ReadsBlock b ⨾ (key_part key.Finally ⨾ ReadsBlock final)))
  ReadsStatement (try_both at b ident handler final) = At at (key_part key.Try ⨾ (ReadsBlock b ⨾ ((key_part key.Catch ⨾ (parens (ReadsIdent ident) ⨾ ReadsBlock handler)) ⨾ (key_part key.Finally ⨾ ReadsBlock final))))
  ReadsStatement (debugger at semi) = At at (key_part key.Debugger ⨾ Ends None semi)
  ReadsStatement (function_declaration at f) = At at (key_part key.Function ⨾ ReadsFunction f)

  pub ReadsStatements : Statements → Part
  ReadsStatements no_statements = nothing
  ReadsStatements (more_statements s ss) = ReadsStatement s ⨾ ReadsStatements ss

-- the tokens are the expression's spelling, and those of a program
abbrev pub Spells : Expr → List Token → Type 0
Spells e ts = Reads e ts []

abbrev pub SpellsProgram : Statements → List Token → Type 0
SpellsProgram ss ts = ReadsStatements ss ts []

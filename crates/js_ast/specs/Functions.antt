-- Which functions a program has, in the order of their first tokens, each with its name, parameters and body, and whether its code is strict
-- (ECMA-262 10.1.1, 13, 14.1).
use Rattle.std.specs.Prelude.{ℕ, List, [], ◌∷◌, ◌++◌, ◌+◌, Bool, false, ◌||◌, Option, Some, None, length, codes}
use Rattle.std.specs.Str.{bytes_eq}
use Rattle.std.specs.List.{slice_get}
use Rattle.js_ast.specs.Trees.{Ident, Expr, name, number, string, this, null, boolean, paren, array, object, function, member, index, new_with, new_bare, call, postfix, unary, binary, conditional, assign, comma, Exprs, no_exprs, more_exprs, MaybeExpr, absent, present, Items, no_items, hole, item, Property, value, getter, setter, Properties, no_properties, more_properties, Declarations, one_declaration, more_declarations, First, first_expr, first_var, Target, target_expr, target_var, Clauses, no_clauses, case, default, Block, block_of, Statement, block, var, empty, expression, if_then, if_else, do_while, while, for, for_in, continue, break, return, throw, switch, labelled, try_catch, try_finally, try_both, debugger, function_declaration, Function, function_of, Statements, no_statements, more_statements}

-- ---- directives (ECMA-262 14.1)

-- `use strict` between two of a quote
abbrev pub quoted_by : ℕ → List ℕ
quoted_by quote = quote ∷ (codes "use strict" ++ quote ∷ [])

-- the text of a token is that of the Use Strict Directive: no escape and no line continuation stands in it
unfoldable pub is_use_strict : List ℕ → Bool
is_use_strict text = bytes_eq text (quoted_by 34) || bytes_eq text (quoted_by 39)

-- the text of a string literal, which stands in no parentheses
abbrev pub literal_in : Expr → Option (List ℕ)
literal_in (string at text units) = Some text
literal_in _ = None

-- the text of the string literal that a statement is
abbrev pub literal_text : Statement → Option (List ℕ)
literal_text (expression at e semi) = literal_in e
literal_text _ = None

-- a prologue goes on while statements are string literals
abbrev pub prologue_by : Option (List ℕ) → Bool → Bool
prologue_by (Some text) others = is_use_strict text || others
prologue_by None others = false

-- the Directive Prologue of a program or of a function holds a Use Strict Directive
abbrev pub prologue_strict : Statements → Bool
prologue_strict no_statements = false
prologue_strict (more_statements s ss) = prologue_by (literal_text s) (prologue_strict ss)

-- ---- functions

-- the code of a function is strict where the code round it is, or by its own prologue (ECMA-262 10.1.1)
unfoldable pub body_strict : Bool → Statements → Bool
body_strict strict body = strict || prologue_strict body

-- a function of a program, and whether its code is strict
pub record FunctionCode : Type 0 where
  pub function : Function
  pub strict : Bool

-- the functions of a tree in the order of their first tokens, where the code round the tree is strict or not
abbrev mutual
  pub functions_of_expr : Bool → Expr → List FunctionCode
  functions_of_expr s (name at text) = []
  functions_of_expr s (number at n) = []
  functions_of_expr s (string at text v) = []
  functions_of_expr s (this at) = []
  functions_of_expr s (null at) = []
  functions_of_expr s (boolean at b) = []
  functions_of_expr s (paren at e) = functions_of_expr s e
  functions_of_expr s (array at items final) = functions_of_items s items
  functions_of_expr s (object at props final) = functions_of_properties s props
  functions_of_expr s (function at f) = functions_of_function s f
  functions_of_expr s (member at e text) = functions_of_expr s e
  functions_of_expr s (index at e i) = functions_of_expr s e ++ functions_of_expr s i
  functions_of_expr s (new_with at e args) = functions_of_expr s e ++ functions_of_exprs s args
  functions_of_expr s (new_bare at e) = functions_of_expr s e
  functions_of_expr s (call at e args) = functions_of_expr s e ++ functions_of_exprs s args
  functions_of_expr s (postfix at e o) = functions_of_expr s e
  functions_of_expr s (unary at o e) = functions_of_expr s e
  functions_of_expr s (binary at l o r) = functions_of_expr s l ++ functions_of_expr s r
  functions_of_expr s (conditional at e a b) = functions_of_expr s e ++ (functions_of_expr s a ++ functions_of_expr s b)
  functions_of_expr s (assign at l o r) = functions_of_expr s l ++ functions_of_expr s r
  functions_of_expr s (comma at l r) = functions_of_expr s l ++ functions_of_expr s r

  pub functions_of_exprs : Bool → Exprs → List FunctionCode
  functions_of_exprs s no_exprs = []
  functions_of_exprs s (more_exprs e es) = functions_of_expr s e ++ functions_of_exprs s es

  pub functions_of_maybe : Bool → MaybeExpr → List FunctionCode
  functions_of_maybe s absent = []
  functions_of_maybe s (present e) = functions_of_expr s e

  pub functions_of_items : Bool → Items → List FunctionCode
  functions_of_items s no_items = []
  functions_of_items s (hole items) = functions_of_items s items
  functions_of_items s (item e items) = functions_of_expr s e ++ functions_of_items s items

  pub functions_of_property : Bool → Property → List FunctionCode
  functions_of_property s (value at k e) = functions_of_expr s e
  functions_of_property s (getter at k f) = functions_of_function s f
  functions_of_property s (setter at k f) = functions_of_function s f

  pub functions_of_properties : Bool → Properties → List FunctionCode
  functions_of_properties s no_properties = []
  functions_of_properties s (more_properties p ps) = functions_of_property s p ++ functions_of_properties s ps

  -- a function, and then those in its body
  pub functions_of_function : Bool → Function → List FunctionCode
  functions_of_function s (function_of at ident params body) =
      record { function = function_of at ident params body; strict = body_strict s body } ∷ functions_of_statements (body_strict s body) body

  pub functions_of_declarations : Bool → Declarations → List FunctionCode
  functions_of_declarations s (one_declaration ident init) = functions_of_maybe s init
  functions_of_declarations s (more_declarations ident init ds) = functions_of_maybe s init ++ functions_of_declarations s ds

  pub functions_of_first : Bool → First → List FunctionCode
  functions_of_first s (first_expr e) = functions_of_maybe s e
  functions_of_first s (first_var ds) = functions_of_declarations s ds

  pub functions_of_target : Bool → Target → List FunctionCode
  functions_of_target s (target_expr e) = functions_of_expr s e
  functions_of_target s (target_var ident) = []

  pub functions_of_clauses : Bool → Clauses → List FunctionCode
  functions_of_clauses s no_clauses = []
  functions_of_clauses s (case e body clauses) = functions_of_expr s e ++ (functions_of_statements s body ++ functions_of_clauses s clauses)
  functions_of_clauses s (default body clauses) = functions_of_statements s body ++ functions_of_clauses s clauses

  pub functions_of_block : Bool → Block → List FunctionCode
  functions_of_block s (block_of at body) = functions_of_statements s body

  pub functions_of_statement : Bool → Statement → List FunctionCode
  functions_of_statement s (block b) = functions_of_block s b
  functions_of_statement s (var at ds semi) = functions_of_declarations s ds
  functions_of_statement s (empty at) = []
  functions_of_statement s (expression at e semi) = functions_of_expr s e
  functions_of_statement s (if_then at e t) = functions_of_expr s e ++ functions_of_statement s t
  functions_of_statement s (if_else at e t u) = functions_of_expr s e ++ (functions_of_statement s t ++ functions_of_statement s u)
  functions_of_statement s (do_while at t e semi) = functions_of_statement s t ++ functions_of_expr s e
  functions_of_statement s (while at e t) = functions_of_expr s e ++ functions_of_statement s t
  functions_of_statement s (for at first test step t) = functions_of_first s first ++ (functions_of_maybe s test ++ (functions_of_maybe s step ++ functions_of_statement s t))
  functions_of_statement s (for_in at target e t) = functions_of_target s target ++ (functions_of_expr s e ++ functions_of_statement s t)
  functions_of_statement s (continue at label semi) = []
  functions_of_statement s (break at label semi) = []
  functions_of_statement s (return at e semi) = functions_of_maybe s e
  functions_of_statement s (throw at e semi) = functions_of_expr s e
  functions_of_statement s (switch at e clauses) = functions_of_expr s e ++ functions_of_clauses s clauses
  functions_of_statement s (labelled at text t) = functions_of_statement s t
  functions_of_statement s (try_catch at b ident handler) = functions_of_block s b ++ functions_of_block s handler
  functions_of_statement s (try_finally at b final) = functions_of_block s b ++ functions_of_block s final
  functions_of_statement s (try_both at b ident handler final) = functions_of_block s b ++ (functions_of_block s handler ++ functions_of_block s final)
  functions_of_statement s (debugger at semi) = []
  functions_of_statement s (function_declaration at f) = functions_of_function s f

  pub functions_of_statements : Bool → Statements → List FunctionCode
  functions_of_statements s no_statements = []
  functions_of_statements s (more_statements t ts) = functions_of_statement s t ++ functions_of_statements s ts

-- variables behind the first
abbrev pub functions_of_others : Bool → List (Ident × MaybeExpr) → List FunctionCode
functions_of_others s [] = []
functions_of_others s (d ∷ ds) = functions_of_maybe s d.1 ++ functions_of_others s ds

-- ---- the functions of a program

-- in the order of their first tokens
abbrev pub functions_of : Statements → List FunctionCode
functions_of program = functions_of_statements (prologue_strict program) program

-- the one that has a number
abbrev pub function_numbered : ℕ → Statements → Option FunctionCode
function_numbered n program = slice_get (functions_of program) n

-- functions with their numbers, from a first one on
abbrev pub numbered : ℕ → List FunctionCode → List (ℕ × FunctionCode)
numbered n [] = []
numbered n (f ∷ others) = (n, f) ∷ numbered (n + 1) others

-- the number behind those of functions
unfoldable pub after : ℕ → List FunctionCode → ℕ
after n fs = n + length fs

-- Which trees are valid: the levels of their parts, no `in` in the first part of a `for` header, the dangling `else`, final commas, where
-- function declarations stand, and which functions have a name and how many parameters.
use Rattle.std.specs.Prelude.{◌≡◌, ℕ, suc, ◌+◌, ◌≤◌, ◌⊎◌, Bool, true, false, not, ◌&&◌, [], length, None, is_some}
use Rattle.js_ast.specs.Trees.{Expr, name, number, string, this, null, boolean, paren, array, object, function, member, index, new_with, new_bare, call, postfix, unary, binary, conditional, assign, comma, Exprs, no_exprs, more_exprs, MaybeExpr, absent, present, Items, no_items, hole, item, Property, value, getter, setter, Properties, no_properties, more_properties, Declarations, one_declaration, more_declarations, First, first_expr, first_var, Target, target_expr, target_var, Clauses, no_clauses, case, default, Block, block_of, Statement, block, var, empty, expression, if_then, if_else, do_while, while, for, for_in, continue, break, return, throw, switch, labelled, try_catch, try_finally, try_both, debugger, function_declaration, Statements, no_statements, more_statements, Function, function_of, name_of, params_of}
use Rattle.js_ast.specs.Levels.{binding, is_in, is_step, level, is_bare_new, is_target}

-- no operator `in` stands outside brackets, parentheses, braces and the middle part of a conditional
abbrev pub no_in : Expr → Bool
no_in (member at e text) = no_in e
no_in (index at e i) = no_in e
no_in (new_with at e args) = no_in e
no_in (new_bare at e) = no_in e
no_in (call at e args) = no_in e
no_in (postfix at e o) = no_in e
no_in (unary at o e) = no_in e
no_in (binary at l o r) = not (is_in o) && (no_in l && no_in r)
no_in (conditional at c a b) = no_in c && no_in b
no_in (assign at l o r) = no_in l && no_in r
no_in (comma at l r) = no_in l && no_in r
no_in _ = true

abbrev pub no_in_maybe : MaybeExpr → Bool
no_in_maybe absent = true
no_in_maybe (present e) = no_in e

abbrev pub no_in_declarations : Declarations → Bool
no_in_declarations (one_declaration ident init) = no_in_maybe init
no_in_declarations (more_declarations ident init ds) = no_in_maybe init && no_in_declarations ds

abbrev pub no_in_first : First → Bool
no_in_first (first_expr e) = no_in_maybe e
no_in_first (first_var ds) = no_in_declarations ds

-- a comma may stand behind the last item: it is an expression
abbrev pub ends_with_item : Items → Bool
ends_with_item no_items = false
ends_with_item (hole items) = ends_with_item items
ends_with_item (item e no_items) = true
ends_with_item (item e (hole items)) = ends_with_item (hole items)
ends_with_item (item e (item f items)) = ends_with_item (item f items)

abbrev pub has_properties : Properties → Bool
has_properties no_properties = false
has_properties (more_properties p ps) = true

-- an `else` behind the statement would belong to an `if` at its end
abbrev pub open_if : Statement → Bool
open_if (if_then at e s) = true
open_if (if_else at e s u) = open_if u
open_if (while at e s) = open_if s
open_if (for at first test step s) = open_if s
open_if (for_in at target e s) = open_if s
open_if (labelled at text s) = open_if s
open_if _ = false

-- how many clauses are `default`
abbrev pub defaults : Clauses → ℕ
defaults no_clauses = 0
defaults (case e body clauses) = defaults clauses
defaults (default body clauses) = 1 + defaults clauses

-- the base of a member, an element or a call
abbrev pub IsBase : Expr → Type 0
IsBase e = (15 ≤ level e) × (is_bare_new e ≡ false)

-- what a `for in` assigns to, where it is an expression
abbrev pub IsTarget : Expr → Type 0
IsTarget e = is_target e ≡ true

-- a getter has no name and no parameter
abbrev pub IsGetter : Function → Type 0
IsGetter f = (name_of f ≡ None) × (params_of f ≡ [])

-- a setter has no name and one parameter
abbrev pub IsSetter : Function → Type 0
IsSetter f = (name_of f ≡ None) × (length (params_of f) ≡ 1)

-- a declaration has a name
abbrev pub IsNamed : Function → Type 0
IsNamed f = is_some (name_of f) ≡ true

abbrev mutual
  pub Valid : Expr → Type 0
  Valid (name at text) = Unit {0}
  Valid (number at n) = Unit {0}
  Valid (string at text v) = Unit {0}
  Valid (this at) = Unit {0}
  Valid (null at) = Unit {0}
  Valid (boolean at b) = Unit {0}
  Valid (paren at e) = Valid e
  Valid (array at items final) = ValidItems items × (final ≡ true → ends_with_item items ≡ true)
  Valid (object at properties final) = ValidProperties properties × (final ≡ true → has_properties properties ≡ true)
  Valid (function at f) = ValidFunction at f
  Valid (member at e text) = Valid e × IsBase e
  Valid (index at e i) = Valid e × IsBase e × Valid i
  Valid (new_with at e args) = Valid e × (16 ≤ level e) × ValidExprs args
  Valid (new_bare at e) = Valid e × ((16 ≤ level e) ⊎ (is_bare_new e ≡ true))
  Valid (call at e args) = Valid e × IsBase e × ValidExprs args
  Valid (postfix at e o) = Valid e × IsTarget e
  Valid (unary at o e) = Valid e × (13 ≤ level e) × (is_step o ≡ true → is_target e ≡ true)
  Valid (binary at l o r) = Valid l × (binding o ≤ level l) × Valid r × (suc (binding o) ≤ level r)
  Valid (conditional at c a b) = Valid c × (3 ≤ level c) × Valid a × (1 ≤ level a) × Valid b × (1 ≤ level b)
  Valid (assign at l o r) = Valid l × IsTarget l × Valid r × (1 ≤ level r)
  Valid (comma at l r) = Valid l × Valid r × (1 ≤ level r)

  pub ValidExprs : Exprs → Type 0
  ValidExprs no_exprs = Unit {0}
  ValidExprs (more_exprs e es) = Valid e × (1 ≤ level e) × ValidExprs es

  pub ValidMaybe : MaybeExpr → Type 0
  ValidMaybe absent = Unit {0}
  ValidMaybe (present e) = Valid e

  pub ValidItems : Items → Type 0
  ValidItems no_items = Unit {0}
  ValidItems (hole items) = ValidItems items
  ValidItems (item e items) = Valid e × (1 ≤ level e) × ValidItems items

  pub ValidProperty : Property → Type 0
  ValidProperty (value at k e) = Valid e × (1 ≤ level e)
  ValidProperty (getter at k f) = ValidFunction at f × IsGetter f
  ValidProperty (setter at k f) = ValidFunction at f × IsSetter f

  pub ValidProperties : Properties → Type 0
  ValidProperties no_properties = Unit {0}
  ValidProperties (more_properties p ps) = ValidProperty p × ValidProperties ps

  -- a function begins where the node does that holds it
  pub ValidFunction : ℕ → Function → Type 0
  ValidFunction at (function_of place ident params body) = (place ≡ at) × ValidStatements true body

  pub ValidInitialiser : MaybeExpr → Type 0
  ValidInitialiser absent = Unit {0}
  ValidInitialiser (present e) = Valid e × (1 ≤ level e)

  pub ValidDeclarations : Declarations → Type 0
  ValidDeclarations (one_declaration ident init) = ValidInitialiser init
  ValidDeclarations (more_declarations ident init ds) = ValidInitialiser init × ValidDeclarations ds

  pub ValidFirst : First → Type 0
  ValidFirst (first_expr e) = ValidMaybe e
  ValidFirst (first_var ds) = ValidDeclarations ds

  pub ValidTarget : Target → Type 0
  ValidTarget (target_expr e) = Valid e × IsTarget e
  ValidTarget (target_var ident) = Unit {0}

  pub ValidClauses : Clauses → Type 0
  ValidClauses no_clauses = Unit {0}
  ValidClauses (case e body clauses) = Valid e × ValidStatements false body × ValidClauses clauses
  ValidClauses (default body clauses) = ValidStatements false body × ValidClauses clauses

  pub ValidBlock : Block → Type 0
  ValidBlock (block_of at body) = ValidStatements false body

  pub ValidStatement : Bool → Statement → Type 0
  ValidStatement outer (block b) = ValidBlock b
  ValidStatement outer (var at ds semi) = ValidDeclarations ds
  ValidStatement outer (empty at) = Unit {0}
  ValidStatement outer (expression at e semi) = Valid e
  ValidStatement outer (if_then at e s) = Valid e × ValidStatement false s
  ValidStatement outer (if_else at e s u) = Valid e × ValidStatement false s × (open_if s ≡ false) × ValidStatement false u
  ValidStatement outer (do_while at s e semi) = ValidStatement false s × Valid e
  ValidStatement outer (while at e s) = Valid e × ValidStatement false s
  ValidStatement outer (for at first test step s) = ValidFirst first × (no_in_first first ≡ true) × ValidMaybe test × ValidMaybe step × ValidStatement false s
  ValidStatement outer (for_in at target e s) = ValidTarget target × Valid e × ValidStatement false s
  ValidStatement outer (continue at label semi) = Unit {0}
  ValidStatement outer (break at label semi) = Unit {0}
  ValidStatement outer (return at e semi) = ValidMaybe e
  ValidStatement outer (throw at e semi) = Valid e
  ValidStatement outer (switch at e clauses) = Valid e × ValidClauses clauses × (defaults clauses ≤ 1)
  ValidStatement outer (labelled at text s) = ValidStatement false s
  ValidStatement outer (try_catch at b ident handler) = ValidBlock b × ValidBlock handler
  ValidStatement outer (try_finally at b final) = ValidBlock b × ValidBlock final
  ValidStatement outer (try_both at b ident handler final) = ValidBlock b × ValidBlock handler × ValidBlock final
  ValidStatement outer (debugger at semi) = Unit {0}
  ValidStatement outer (function_declaration at f) = (outer ≡ true) × ValidFunction at f × IsNamed f

  -- the statements of a program or a body, where function declarations stand, or of any other list
  pub ValidStatements : Bool → Statements → Type 0
  ValidStatements outer no_statements = Unit {0}
  ValidStatements outer (more_statements s ss) = ValidStatement outer s × ValidStatements outer ss

abbrev pub ValidProgram : Statements → Type 0
ValidProgram ss = ValidStatements true ss

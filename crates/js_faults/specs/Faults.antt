-- All that is told of a tree, of which some is told of each node on its own, and what of it comes first: what stands furthest to the left, and
-- of several at one place the first in some order.
use Rattle.std.specs.Prelude.{ℕ, List, [], ◌∷◌, ◌++◌, Bool, ◌==◌, ◌&&◌, ◌||◌, nat_lt, Option, Some, None, if◌then◌else◌}
use Rattle.js_ast.specs.Trees.{Expr, name, number, string, this, null, boolean, paren, array, object, function, member, index, new_with, new_bare, call, postfix, unary, binary, conditional, assign, comma, Exprs, no_exprs, more_exprs, MaybeExpr, absent, present, Items, no_items, hole, item, Property, value, getter, setter, Properties, no_properties, more_properties, Declarations, one_declaration, more_declarations, First, first_expr, first_var, Target, target_expr, target_var, Clauses, no_clauses, case, default, Block, block_of, Statement, block, var, empty, expression, if_then, if_else, do_while, while, for, for_in, continue, break, return, throw, switch, labelled, try_catch, try_finally, try_both, debugger, function_declaration, Statements, no_statements, more_statements, Function, function_of}
use Rattle.js_faults.specs.declared.fault.EarlyError.{EarlyError}
use Rattle.js_faults.specs.declared.fault.EarlyErrorKind.{EarlyErrorKind}
use Rattle.js_faults.specs.declared.fault.EarlyErrorKind.TheVariants as kind
use Rattle.js_faults.specs.Scopes.{Scope, in_body, looped, switched, labelled_by}

-- what is told of a node, without its parts
pub record Own (F : Type 0) : Type 0 where
  pub expr : Expr → List F
  pub function : Function → List F
  pub statement : Scope → Statement → List F

-- what is told of a node and its parts
abbrev mutual
  pub in_expr : {F : Type 0} → Own F → Expr → List F
  in_expr own (name at text) = own.expr (name at text)
  in_expr own (number at n) = own.expr (number at n)
  in_expr own (string at text v) = own.expr (string at text v)
  in_expr own (this at) = own.expr (this at)
  in_expr own (null at) = own.expr (null at)
  in_expr own (boolean at b) = own.expr (boolean at b)
  in_expr own (paren at e) = own.expr (paren at e) ++ in_expr own e
  in_expr own (array at items final) = own.expr (array at items final) ++ in_items own items
  in_expr own (object at props final) = own.expr (object at props final) ++ in_properties own props
  in_expr own (function at f) = own.expr (function at f) ++ in_function own f
  in_expr own (member at e text) = own.expr (member at e text) ++ in_expr own e
  in_expr own (index at e i) = own.expr (index at e i) ++ (in_expr own e ++ in_expr own i)
  in_expr own (new_with at e args) = own.expr (new_with at e args) ++ (in_expr own e ++ in_exprs own args)
  in_expr own (new_bare at e) = own.expr (new_bare at e) ++ in_expr own e
  in_expr own (call at e args) = own.expr (call at e args) ++ (in_expr own e ++ in_exprs own args)
  in_expr own (postfix at e o) = own.expr (postfix at e o) ++ in_expr own e
  in_expr own (unary at o e) = own.expr (unary at o e) ++ in_expr own e
  in_expr own (binary at l o r) = own.expr (binary at l o r) ++ (in_expr own l ++ in_expr own r)
  in_expr own (conditional at e a b) = own.expr (conditional at e a b) ++ (in_expr own e ++ (in_expr own a ++ in_expr own b))
  in_expr own (assign at l o r) = own.expr (assign at l o r) ++ (in_expr own l ++ in_expr own r)
  in_expr own (comma at l r) = own.expr (comma at l r) ++ (in_expr own l ++ in_expr own r)

  pub in_exprs : {F : Type 0} → Own F → Exprs → List F
  in_exprs own no_exprs = []
  in_exprs own (more_exprs e es) = in_expr own e ++ in_exprs own es

  pub in_maybe : {F : Type 0} → Own F → MaybeExpr → List F
  in_maybe own absent = []
  in_maybe own (present e) = in_expr own e

  pub in_items : {F : Type 0} → Own F → Items → List F
  in_items own no_items = []
  in_items own (hole items) = in_items own items
  in_items own (item e items) = in_expr own e ++ in_items own items

  pub in_property : {F : Type 0} → Own F → Property → List F
  in_property own (value at k e) = in_expr own e
  in_property own (getter at k f) = in_function own f
  in_property own (setter at k f) = in_function own f

  pub in_properties : {F : Type 0} → Own F → Properties → List F
  in_properties own no_properties = []
  in_properties own (more_properties p ps) = in_property own p ++ in_properties own ps

  pub in_function : {F : Type 0} → Own F → Function → List F
  in_function own (function_of at ident params body) = own.function (function_of at ident params body) ++ in_statements own in_body body

  pub in_declarations : {F : Type 0} → Own F → Declarations → List F
  in_declarations own (one_declaration ident init) = in_maybe own init
  in_declarations own (more_declarations ident init ds) = in_maybe own init ++ in_declarations own ds

  pub in_first : {F : Type 0} → Own F → First → List F
  in_first own (first_expr e) = in_maybe own e
  in_first own (first_var ds) = in_declarations own ds

  pub in_target : {F : Type 0} → Own F → Target → List F
  in_target own (target_expr e) = in_expr own e
  in_target own (target_var ident) = []

  pub in_clauses : {F : Type 0} → Own F → Scope → Clauses → List F
  in_clauses own s no_clauses = []
  in_clauses own s (case e body clauses) = in_expr own e ++ (in_statements own s body ++ in_clauses own s clauses)
  in_clauses own s (default body clauses) = in_statements own s body ++ in_clauses own s clauses

  pub in_block : {F : Type 0} → Own F → Scope → Block → List F
  in_block own s (block_of at body) = in_statements own s body

  pub in_statement : {F : Type 0} → Own F → Scope → Statement → List F
  in_statement own s (block b) = own.statement s (block b) ++ in_block own s b
  in_statement own s (var at ds semi) = own.statement s (var at ds semi) ++ in_declarations own ds
  in_statement own s (empty at) = own.statement s (empty at)
  in_statement own s (expression at e semi) = own.statement s (expression at e semi) ++ in_expr own e
  in_statement own s (if_then at e t) = own.statement s (if_then at e t) ++ (in_expr own e ++ in_statement own s t)
  in_statement own s (if_else at e t u) = own.statement s (if_else at e t u) ++ (in_expr own e ++ (in_statement own s t ++ in_statement own s u))
  in_statement own s (do_while at t e semi) = own.statement s (do_while at t e semi) ++ (in_statement own (looped s) t ++ in_expr own e)
  in_statement own s (while at e t) = own.statement s (while at e t) ++ (in_expr own e ++ in_statement own (looped s) t)
  in_statement own s (for at first test step t) = own.statement s (for at first test step t) ++ (in_first own first ++ (in_maybe own test ++ (in_maybe own step ++ in_statement own (looped s) t)))
  in_statement own s (for_in at target e t) = own.statement s (for_in at target e t) ++ (in_target own target ++ (in_expr own e ++ in_statement own (looped s) t))
  in_statement own s (continue at label semi) = own.statement s (continue at label semi)
  in_statement own s (break at label semi) = own.statement s (break at label semi)
  in_statement own s (return at e semi) = own.statement s (return at e semi) ++ in_maybe own e
  in_statement own s (throw at e semi) = own.statement s (throw at e semi) ++ in_expr own e
  in_statement own s (switch at e clauses) = own.statement s (switch at e clauses) ++ (in_expr own e ++ in_clauses own (switched s) clauses)
  in_statement own s (labelled at text t) = own.statement s (labelled at text t) ++ in_statement own (labelled_by text t s) t
  in_statement own s (try_catch at b ident handler) = own.statement s (try_catch at b ident handler) ++ (in_block own s b ++ in_block own s handler)
  in_statement own s (try_finally at b final) = own.statement s (try_finally at b final) ++ (in_block own s b ++ in_block own s final)
  in_statement own s (try_both at b ident handler final) = own.statement s (try_both at b ident handler final) ++ (in_block own s b ++ (in_block own s handler ++ in_block own s final))
  in_statement own s (debugger at semi) = own.statement s (debugger at semi)
  in_statement own s (function_declaration at f) = own.statement s (function_declaration at f) ++ in_function own f

  pub in_statements : {F : Type 0} → Own F → Scope → Statements → List F
  in_statements own s no_statements = []
  in_statements own s (more_statements t ts) = in_statement own s t ++ in_statements own s ts

-- where something is that is told, and which row it has in the order of what is told at one place
pub record Order (F : Type 0) : Type 0 where
  pub at : F → ℕ
  pub row : F → ℕ

-- it comes before another
abbrev pub precedes : {F : Type 0} → Order F → F → F → Bool
precedes order f g = nat_lt (order.at f) (order.at g) || (order.at f == order.at g && nat_lt (order.row f) (order.row g))

-- the first of two
abbrev pub earlier_by : {F : Type 0} → Order F → Option F → Option F → Option F
earlier_by order None g = g
earlier_by order (Some f) None = Some f
earlier_by order (Some f) (Some g) = if precedes order g f then Some g else Some f

-- the first of many
abbrev pub first_by : {F : Type 0} → Order F → List F → Option F
first_by order [] = None
first_by order (f ∷ fs) = earlier_by order (Some f) (first_by order fs)

-- the order of the kinds
abbrev pub row : EarlyErrorKind → ℕ
row kind.EvalArguments = 0
row kind.RepeatedParameter = 1
row kind.RepeatedProperty = 2
row kind.DeleteName = 3
row kind.Jump = 4
row kind.RepeatedLabel = 5
row kind.StrictWord = 6

-- early errors in their order
abbrev pub by_kind : Order EarlyError
by_kind = record { at = λ f. f.at; row = λ f. row f.kind }

abbrev pub is_before : EarlyError → EarlyError → Bool
is_before f g = precedes by_kind f g

abbrev pub earlier : Option EarlyError → Option EarlyError → Option EarlyError
earlier f g = earlier_by by_kind f g

abbrev pub first_of : List EarlyError → Option EarlyError
first_of fs = first_by by_kind fs

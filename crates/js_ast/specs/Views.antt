-- The trees in memory, as the grammar sees them: no place in memory, no number of a function, no strictness.
use Rattle.std.specs.Prelude.{ℕ, List, [], ◌∷◌, map, Option, Some, None, option_map}
use Rattle.js_ast.specs.declared.trees.Ident.{Ident}
use Rattle.js_ast.specs.declared.trees.Key.{Key}
use Rattle.js_ast.specs.declared.trees.Key.TheVariants as key
use Rattle.js_ast.specs.declared.trees.Semi.{Semi}
use Rattle.js_ast.specs.declared.trees.Semi.TheVariants as semi
use Rattle.js_ast.specs.declared.trees.Expr.{Expr}
use Rattle.js_ast.specs.declared.trees.ExprKind.{ExprKind}
use Rattle.js_ast.specs.declared.trees.ExprKind as expr
use Rattle.js_ast.specs.declared.trees.Item.{Item}
use Rattle.js_ast.specs.declared.trees.Item as an_item
use Rattle.js_ast.specs.declared.trees.Property.{Property}
use Rattle.js_ast.specs.declared.trees.PropertyKind.{PropertyKind}
use Rattle.js_ast.specs.declared.trees.PropertyKind as property
use Rattle.js_ast.specs.declared.trees.Function.{Function, Function'}
use Rattle.js_ast.specs.declared.trees.Stmt.{Stmt}
use Rattle.js_ast.specs.declared.trees.StmtKind.{StmtKind}
use Rattle.js_ast.specs.declared.trees.StmtKind as stmt
use Rattle.js_ast.specs.declared.trees.Declaration.{Declaration, Declaration'}
use Rattle.js_ast.specs.declared.trees.Declarations.{Declarations, Declarations'}
use Rattle.js_ast.specs.declared.trees.ForFirst.{ForFirst}
use Rattle.js_ast.specs.declared.trees.ForFirst as first
use Rattle.js_ast.specs.declared.trees.ForTarget.{ForTarget}
use Rattle.js_ast.specs.declared.trees.ForTarget as target
use Rattle.js_ast.specs.declared.trees.Clause.{Clause, Clause'}
use Rattle.js_ast.specs.declared.trees.Block.{Block, Block'}
use Rattle.js_ast.specs.declared.trees.Program.{Program}
use Rattle.js_ast.specs.declared.trees.ExprKind.TheBlock.{ExprKind-New-1-None', ExprKind-New-1-Some', Held-ForFirst-Expr-0, ForFirst-Expr-0-None', ForFirst-Expr-0-Some', StmtKind-If-2-None', StmtKind-If-2-Some', Row_of-Item, end_of-Item, more_of-Item, Row_of-Property, end_of-Property, more_of-Property, Row_of-Expr, end_of-Expr, more_of-Expr, Row_of-Stmt, end_of-Stmt, more_of-Stmt, Row_of-Clause, end_of-Clause, more_of-Clause, Row_of-Declaration, end_of-Declaration, more_of-Declaration}
use Rattle.js_ast.specs.Nodes.{nodes_of}
use Rattle.js_ast.specs.Trees as trees
use Rattle.js_ast.specs.Trees.{name_key, string_key, number_key, written, elided, name, number, string, this, null, boolean, paren, array, object, function, member, index, new_with, new_bare, call, postfix, unary, binary, conditional, assign, comma, no_exprs, more_exprs, absent, present, no_items, hole, item, value, getter, setter, no_properties, more_properties, one_declaration, more_declarations, first_expr, first_var, target_expr, target_var, no_clauses, case, default, block_of, block, var, empty, expression, if_then, if_else, do_while, while, for, for_in, continue, break, return, throw, switch, labelled, try_catch, try_finally, try_both, debugger, function_declaration, no_statements, more_statements, function_of}

-- ---- names, keys and ends

-- a name where it is bound
abbrev pub view_ident : Ident → trees.Ident
view_ident i = record { at = i.at; text = i.text }

-- a name or none
abbrev pub view_name : Option Ident → Option trees.Ident
view_name ident = option_map view_ident ident

-- names in their order
abbrev pub view_idents : List Ident → List trees.Ident
view_idents is = map view_ident is

-- the key of a property
abbrev pub view_key : Key → trees.Key
view_key (key.Name text) = name_key text
view_key (key.String text v) = string_key text v
view_key (key.Number n) = number_key n

-- how a statement ends
abbrev pub view_semi : Semi → trees.Semi
view_semi semi.Written = written
view_semi semi.Elided = elided

-- ---- parts of the views that don't recurse

-- variables from the first and the others
abbrev pub declarations_from : trees.Ident × trees.MaybeExpr → List (trees.Ident × trees.MaybeExpr) → trees.Declarations
declarations_from d [] = one_declaration d.0 d.1
declarations_from d (e ∷ es) = more_declarations d.0 d.1 (declarations_from e es)

-- a clause in front of others, by its test
abbrev pub clause_by : trees.MaybeExpr → trees.Statements → trees.Clauses → trees.Clauses
clause_by (present e) body cs = case e body cs
clause_by absent body cs = default body cs

-- ---- trees

abbrev mutual
  -- an expression, by its place and what it is
  pub view_expr_kind : ℕ → ExprKind → trees.Expr
  view_expr_kind at (expr.Name text) = name at text
  view_expr_kind at (expr.Number n) = number at n
  view_expr_kind at (expr.String text v) = string at text v
  view_expr_kind at expr.This = this at
  view_expr_kind at expr.Null = null at
  view_expr_kind at (expr.Bool b) = boolean at b
  view_expr_kind at (expr.Paren' a p e) = paren at (view_expr_kind a e)
  view_expr_kind at (expr.Array' shape is order final) = array at (view_item_row is) final
  view_expr_kind at (expr.Object' shape ps order final) = object at (view_property_row ps) final
  view_expr_kind at (expr.Function f) = function at (view_function f)
  view_expr_kind at (expr.Member' a p e text) = member at (view_expr_kind a e) text
  view_expr_kind at (expr.Index' a p e b q i) = index at (view_expr_kind a e) (view_expr_kind b i)
  view_expr_kind at (expr.New' a p e ExprKind-New-1-None') = new_bare at (view_expr_kind a e)
  view_expr_kind at (expr.New' a p e (ExprKind-New-1-Some' shape es order)) = new_with at (view_expr_kind a e) (view_expr_row es)
  view_expr_kind at (expr.Call' a p e shape es order) = call at (view_expr_kind a e) (view_expr_row es)
  view_expr_kind at (expr.Postfix' a p e o) = postfix at (view_expr_kind a e) o
  view_expr_kind at (expr.Unary' o a p e) = unary at o (view_expr_kind a e)
  view_expr_kind at (expr.Binary' a p l o b q r) = binary at (view_expr_kind a l) o (view_expr_kind b r)
  view_expr_kind at (expr.Conditional' a p t b q x c r y) = conditional at (view_expr_kind a t) (view_expr_kind b x) (view_expr_kind c y)
  view_expr_kind at (expr.Assign' a p l o b q r) = assign at (view_expr_kind a l) o (view_expr_kind b r)
  view_expr_kind at (expr.Comma' a p l b q r) = comma at (view_expr_kind a l) (view_expr_kind b r)

  pub view_expr_row : {m : _} → Row_of-Expr m → trees.Exprs
  view_expr_row end_of-Expr = no_exprs
  view_expr_row (more_of-Expr a p e es) = more_exprs (view_expr_kind a e) (view_expr_row es)

  -- an expression that may be missing
  pub view_held_expr : Held-ForFirst-Expr-0 → trees.MaybeExpr
  view_held_expr ForFirst-Expr-0-None' = absent
  view_held_expr (ForFirst-Expr-0-Some' a p e) = present (view_expr_kind a e)

  -- an item in front of others
  pub view_item : Item → trees.Items → trees.Items
  view_item an_item.Hole rest = hole rest
  view_item (an_item.Value' a p e) rest = item (view_expr_kind a e) rest

  pub view_item_row : {m : _} → Row_of-Item m → trees.Items
  view_item_row end_of-Item = no_items
  view_item_row (more_of-Item i is) = view_item i (view_item_row is)

  -- a property, by its place, its key and what it is
  pub view_property_kind : ℕ → Key → PropertyKind → trees.Property
  view_property_kind at k (property.Value' a p e) = value at (view_key k) (view_expr_kind a e)
  view_property_kind at k (property.Getter f) = getter at (view_key k) (view_function f)
  view_property_kind at k (property.Setter f) = setter at (view_key k) (view_function f)

  pub view_property_row : {m : _} → Row_of-Property m → trees.Properties
  view_property_row end_of-Property = no_properties
  view_property_row (more_of-Property at k p ps) = more_properties (view_property_kind at k p) (view_property_row ps)

  -- a function
  pub view_function : Function → trees.Function
  view_function (Function' at n strict ident params shape ss order) = function_of at (view_name ident) (view_idents (nodes_of params)) (view_stmt_row ss)

  -- a variable
  pub view_declaration : Declaration → trees.Ident × trees.MaybeExpr
  view_declaration (Declaration' ident init) = (view_ident ident, view_held_expr init)

  pub view_declaration_row : {m : _} → Row_of-Declaration m → List (trees.Ident × trees.MaybeExpr)
  view_declaration_row end_of-Declaration = []
  view_declaration_row (more_of-Declaration d ds) = view_declaration d ∷ view_declaration_row ds

  -- variables
  pub view_declarations : Declarations → trees.Declarations
  view_declarations (Declarations' d shape ds order) = declarations_from (view_declaration d) (view_declaration_row ds)

  -- the first part of a `for` header
  pub view_first : ForFirst → trees.First
  view_first (first.Expr' e) = first_expr (view_held_expr e)
  view_first (first.Var ds) = first_var (view_declarations ds)

  -- what a `for in` assigns to
  pub view_target : ForTarget → trees.Target
  view_target (target.Expr' a p e) = target_expr (view_expr_kind a e)
  view_target (target.Var i) = target_var (view_ident i)

  -- a clause in front of others
  pub view_clause : Clause → trees.Clauses → trees.Clauses
  view_clause (Clause' e shape ss order) rest = clause_by (view_held_expr e) (view_stmt_row ss) rest

  pub view_clause_row : {m : _} → Row_of-Clause m → trees.Clauses
  view_clause_row end_of-Clause = no_clauses
  view_clause_row (more_of-Clause c cs) = view_clause c (view_clause_row cs)

  -- statements between braces
  pub view_block : Block → trees.Block
  view_block (Block' at shape ss order) = block_of at (view_stmt_row ss)

  -- a statement, by its place and what it is
  pub view_stmt_kind : ℕ → StmtKind → trees.Statement
  view_stmt_kind at (stmt.Block' shape ss order) = block (block_of at (view_stmt_row ss))
  view_stmt_kind at (stmt.Var ds s) = var at (view_declarations ds) (view_semi s)
  view_stmt_kind at stmt.Empty = empty at
  view_stmt_kind at (stmt.Expr' a p e s) = expression at (view_expr_kind a e) (view_semi s)
  view_stmt_kind at (stmt.If' a p e b q s StmtKind-If-2-None') = if_then at (view_expr_kind a e) (view_stmt_kind b s)
  view_stmt_kind at (stmt.If' a p e b q s (StmtKind-If-2-Some' c r t)) = if_else at (view_expr_kind a e) (view_stmt_kind b s) (view_stmt_kind c t)
  view_stmt_kind at (stmt.DoWhile' a p s b q e end) = do_while at (view_stmt_kind a s) (view_expr_kind b e) (view_semi end)
  view_stmt_kind at (stmt.While' a p e b q s) = while at (view_expr_kind a e) (view_stmt_kind b s)
  view_stmt_kind at (stmt.For' f t u a p s) = for at (view_first f) (view_held_expr t) (view_held_expr u) (view_stmt_kind a s)
  view_stmt_kind at (stmt.ForIn' t a p e b q s) = for_in at (view_target t) (view_expr_kind a e) (view_stmt_kind b s)
  view_stmt_kind at (stmt.Continue label s) = continue at (view_name label) (view_semi s)
  view_stmt_kind at (stmt.Break label s) = break at (view_name label) (view_semi s)
  view_stmt_kind at (stmt.Return' e s) = return at (view_held_expr e) (view_semi s)
  view_stmt_kind at (stmt.Throw' a p e s) = throw at (view_expr_kind a e) (view_semi s)
  view_stmt_kind at (stmt.Switch' a p e shape cs order) = switch at (view_expr_kind a e) (view_clause_row cs)
  view_stmt_kind at (stmt.Labelled' text a p s) = labelled at text (view_stmt_kind a s)
  view_stmt_kind at (stmt.TryCatch b i h) = try_catch at (view_block b) (view_ident i) (view_block h)
  view_stmt_kind at (stmt.TryFinally b f) = try_finally at (view_block b) (view_block f)
  view_stmt_kind at (stmt.TryBoth b i h f) = try_both at (view_block b) (view_ident i) (view_block h) (view_block f)
  view_stmt_kind at (stmt.Debugger s) = debugger at (view_semi s)
  view_stmt_kind at (stmt.Function f) = function_declaration at (view_function f)

  pub view_stmt_row : {m : _} → Row_of-Stmt m → trees.Statements
  view_stmt_row end_of-Stmt = no_statements
  view_stmt_row (more_of-Stmt a p s ss) = more_statements (view_stmt_kind a s) (view_stmt_row ss)

-- ---- trees outside others

-- an expression
abbrev pub view_expr : Expr → trees.Expr
view_expr e = view_expr_kind e.at e.kind.value

-- a property
abbrev pub view_property : Property → trees.Property
view_property p = view_property_kind p.at p.key p.kind

-- a statement
abbrev pub view_stmt : Stmt → trees.Statement
view_stmt s = view_stmt_kind s.at s.kind.value

-- an expression that may be missing
abbrev pub view_maybe_expr : Option Expr → trees.MaybeExpr
view_maybe_expr (Some e) = present (view_expr e)
view_maybe_expr None = absent

-- expressions in their order
abbrev pub view_exprs : List Expr → trees.Exprs
view_exprs [] = no_exprs
view_exprs (e ∷ es) = more_exprs (view_expr e) (view_exprs es)

-- items in their order
abbrev pub view_items : List Item → trees.Items
view_items [] = no_items
view_items (i ∷ is) = view_item i (view_items is)

-- properties in their order
abbrev pub view_properties : List Property → trees.Properties
view_properties [] = no_properties
view_properties (p ∷ ps) = more_properties (view_property p) (view_properties ps)

-- variables behind the first
abbrev pub view_other_declarations : List Declaration → List (trees.Ident × trees.MaybeExpr)
view_other_declarations ds = map view_declaration ds

-- clauses in their order
abbrev pub view_clauses : List Clause → trees.Clauses
view_clauses [] = no_clauses
view_clauses (c ∷ cs) = view_clause c (view_clauses cs)

-- statements in their order
abbrev pub view_stmts : List Stmt → trees.Statements
view_stmts [] = no_statements
view_stmts (s ∷ ss) = more_statements (view_stmt s) (view_stmts ss)

-- a script
abbrev pub view_program : Program → trees.Statements
view_program p = view_stmts (nodes_of p.body)

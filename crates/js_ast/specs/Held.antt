-- The functions that the trees in memory hold, each with its number and whether its code is marked as strict, in the order of their first tokens.
use Rattle.std.specs.Prelude.{ℕ, List, [], ◌∷◌, ◌++◌, Bool, Option, Some, None}
use Rattle.js_ast.specs.declared.trees.Expr.{Expr}
use Rattle.js_ast.specs.declared.trees.ExprKind.{ExprKind}
use Rattle.js_ast.specs.declared.trees.ExprKind as expr
use Rattle.js_ast.specs.declared.trees.Item.{Item}
use Rattle.js_ast.specs.declared.trees.Item as an_item
use Rattle.js_ast.specs.declared.trees.Property.{Property}
use Rattle.js_ast.specs.declared.trees.PropertyKind.{PropertyKind}
use Rattle.js_ast.specs.declared.trees.PropertyKind as property
use Rattle.js_ast.specs.declared.trees.Function.{Function, Function', out-Function}
use Rattle.js_ast.specs.declared.trees.Stmt.{Stmt}
use Rattle.js_ast.specs.declared.trees.StmtKind.{StmtKind}
use Rattle.js_ast.specs.declared.trees.StmtKind as stmt
use Rattle.js_ast.specs.declared.trees.Declaration.{Declaration, Declaration'}
use Rattle.js_ast.specs.declared.trees.Declarations.{Declarations, Declarations'}
use Rattle.js_ast.specs.declared.trees.ForFirst.{ForFirst}
use Rattle.js_ast.specs.declared.trees.ForFirst as first
use Rattle.js_ast.specs.declared.trees.ForTarget.{ForTarget}
use Rattle.js_ast.specs.declared.trees.ForTarget as target
use Rattle.js_ast.specs.declared.trees.Clause.{Clause, Clause'}
use Rattle.js_ast.specs.declared.trees.Block.{Block, Block'}
use Rattle.js_ast.specs.declared.trees.Program.{Program}
use Rattle.js_ast.specs.declared.trees.ExprKind.TheBlock.{ExprKind-New-1-None', ExprKind-New-1-Some', Held-ForFirst-Expr-0, ForFirst-Expr-0-None', ForFirst-Expr-0-Some', StmtKind-If-2-None', StmtKind-If-2-Some', Row_of-Item, end_of-Item, more_of-Item, Row_of-Property, end_of-Property, more_of-Property, Row_of-Expr, end_of-Expr, more_of-Expr, Row_of-Stmt, end_of-Stmt, more_of-Stmt, Row_of-Clause, end_of-Clause, more_of-Clause, Row_of-Declaration, end_of-Declaration, more_of-Declaration}
use Rattle.js_ast.specs.Nodes.{nodes_of}
use Rattle.js_ast.specs.Views.{view_function}
use Rattle.js_ast.specs.Functions.{FunctionCode}

-- ---- functions

-- a function by what it shows, and whether its code is marked as strict
abbrev pub code_of : Function → FunctionCode
code_of f = record { function = view_function f; strict = (out-Function f).strict }

-- its number
abbrev pub number_of : Function → ℕ
number_of f = (out-Function f).number

-- a function as it is held: its number, and what it shows
abbrev pub held : Function → ℕ × FunctionCode
held f = (number_of f, code_of f)

-- ---- trees

abbrev mutual
  -- an expression
  pub held_in_expr_kind : ExprKind → List (ℕ × FunctionCode)
  held_in_expr_kind (expr.Name text) = []
  held_in_expr_kind (expr.Number n) = []
  held_in_expr_kind (expr.String text v) = []
  held_in_expr_kind expr.This = []
  held_in_expr_kind expr.Null = []
  held_in_expr_kind (expr.Bool b) = []
  held_in_expr_kind (expr.Paren' a p e) = held_in_expr_kind e
  held_in_expr_kind (expr.Array' shape is order final) = held_in_item_row is
  held_in_expr_kind (expr.Object' shape ps order final) = held_in_property_row ps
  held_in_expr_kind (expr.Function f) = held_in_function f
  held_in_expr_kind (expr.Member' a p e text) = held_in_expr_kind e
  held_in_expr_kind (expr.Index' a p e b q i) = held_in_expr_kind e ++ held_in_expr_kind i
  held_in_expr_kind (expr.New' a p e ExprKind-New-1-None') = held_in_expr_kind e
  held_in_expr_kind (expr.New' a p e (ExprKind-New-1-Some' shape es order)) = held_in_expr_kind e ++ held_in_expr_row es
  held_in_expr_kind (expr.Call' a p e shape es order) = held_in_expr_kind e ++ held_in_expr_row es
  held_in_expr_kind (expr.Postfix' a p e o) = held_in_expr_kind e
  held_in_expr_kind (expr.Unary' o a p e) = held_in_expr_kind e
  held_in_expr_kind (expr.Binary' a p l o b q r) = held_in_expr_kind l ++ held_in_expr_kind r
  held_in_expr_kind (expr.Conditional' a p t b q x c r y) = held_in_expr_kind t ++ (held_in_expr_kind x ++ held_in_expr_kind y)
  held_in_expr_kind (expr.Assign' a p l o b q r) = held_in_expr_kind l ++ held_in_expr_kind r
  held_in_expr_kind (expr.Comma' a p l b q r) = held_in_expr_kind l ++ held_in_expr_kind r

  pub held_in_expr_row : {m : _} → Row_of-Expr m → List (ℕ × FunctionCode)
  held_in_expr_row end_of-Expr = []
  held_in_expr_row (more_of-Expr a p e es) = held_in_expr_kind e ++ held_in_expr_row es

  -- an expression that may be missing
  pub held_in_held_expr : Held-ForFirst-Expr-0 → List (ℕ × FunctionCode)
  held_in_held_expr ForFirst-Expr-0-None' = []
  held_in_held_expr (ForFirst-Expr-0-Some' a p e) = held_in_expr_kind e

  -- an item
  pub held_in_item : Item → List (ℕ × FunctionCode)
  held_in_item an_item.Hole = []
  held_in_item (an_item.Value' a p e) = held_in_expr_kind e

  pub held_in_item_row : {m : _} → Row_of-Item m → List (ℕ × FunctionCode)
  held_in_item_row end_of-Item = []
  held_in_item_row (more_of-Item i is) = held_in_item i ++ held_in_item_row is

  -- what a property is
  pub held_in_property_kind : PropertyKind → List (ℕ × FunctionCode)
  held_in_property_kind (property.Value' a p e) = held_in_expr_kind e
  held_in_property_kind (property.Getter f) = held_in_function f
  held_in_property_kind (property.Setter f) = held_in_function f

  pub held_in_property_row : {m : _} → Row_of-Property m → List (ℕ × FunctionCode)
  held_in_property_row end_of-Property = []
  held_in_property_row (more_of-Property at k p ps) = held_in_property_kind p ++ held_in_property_row ps

  -- a function, and then those in its body
  pub held_in_function : Function → List (ℕ × FunctionCode)
  held_in_function (Function' at n strict ident params shape ss order) = held (Function' at n strict ident params shape ss order) ∷ held_in_stmt_row ss

  -- a variable
  pub held_in_declaration : Declaration → List (ℕ × FunctionCode)
  held_in_declaration (Declaration' ident init) = held_in_held_expr init

  pub held_in_declaration_row : {m : _} → Row_of-Declaration m → List (ℕ × FunctionCode)
  held_in_declaration_row end_of-Declaration = []
  held_in_declaration_row (more_of-Declaration d ds) = held_in_declaration d ++ held_in_declaration_row ds

  -- variables
  pub held_in_declarations : Declarations → List (ℕ × FunctionCode)
  held_in_declarations (Declarations' d shape ds order) = held_in_declaration d ++ held_in_declaration_row ds

  -- the first part of a `for` header
  pub held_in_first : ForFirst → List (ℕ × FunctionCode)
  held_in_first (first.Expr' e) = held_in_held_expr e
  held_in_first (first.Var ds) = held_in_declarations ds

  -- what a `for in` assigns to
  pub held_in_target : ForTarget → List (ℕ × FunctionCode)
  held_in_target (target.Expr' a p e) = held_in_expr_kind e
  held_in_target (target.Var i) = []

  -- a clause of a `switch`
  pub held_in_clause : Clause → List (ℕ × FunctionCode)
  held_in_clause (Clause' e shape ss order) = held_in_held_expr e ++ held_in_stmt_row ss

  pub held_in_clause_row : {m : _} → Row_of-Clause m → List (ℕ × FunctionCode)
  held_in_clause_row end_of-Clause = []
  held_in_clause_row (more_of-Clause c cs) = held_in_clause c ++ held_in_clause_row cs

  -- statements between braces
  pub held_in_block : Block → List (ℕ × FunctionCode)
  held_in_block (Block' at shape ss order) = held_in_stmt_row ss

  -- a statement
  pub held_in_stmt_kind : StmtKind → List (ℕ × FunctionCode)
  held_in_stmt_kind (stmt.Block' shape ss order) = held_in_stmt_row ss
  held_in_stmt_kind (stmt.Var ds s) = held_in_declarations ds
  held_in_stmt_kind stmt.Empty = []
  held_in_stmt_kind (stmt.Expr' a p e s) = held_in_expr_kind e
  held_in_stmt_kind (stmt.If' a p e b q s StmtKind-If-2-None') = held_in_expr_kind e ++ held_in_stmt_kind s
  held_in_stmt_kind (stmt.If' a p e b q s (StmtKind-If-2-Some' c r t)) = held_in_expr_kind e ++ (held_in_stmt_kind s ++ held_in_stmt_kind t)
  held_in_stmt_kind (stmt.DoWhile' a p s b q e end) = held_in_stmt_kind s ++ held_in_expr_kind e
  held_in_stmt_kind (stmt.While' a p e b q s) = held_in_expr_kind e ++ held_in_stmt_kind s
  held_in_stmt_kind (stmt.For' f t u a p s) = held_in_first f ++ (held_in_held_expr t ++ (held_in_held_expr u ++ held_in_stmt_kind s))
  held_in_stmt_kind (stmt.ForIn' t a p e b q s) = held_in_target t ++ (held_in_expr_kind e ++ held_in_stmt_kind s)
  held_in_stmt_kind (stmt.Continue label s) = []
  held_in_stmt_kind (stmt.Break label s) = []
  held_in_stmt_kind (stmt.Return' e s) = held_in_held_expr e
  held_in_stmt_kind (stmt.Throw' a p e s) = held_in_expr_kind e
  held_in_stmt_kind (stmt.Switch' a p e shape cs order) = held_in_expr_kind e ++ held_in_clause_row cs
  held_in_stmt_kind (stmt.Labelled' text a p s) = held_in_stmt_kind s
  held_in_stmt_kind (stmt.TryCatch b i h) = held_in_block b ++ held_in_block h
  held_in_stmt_kind (stmt.TryFinally b f) = held_in_block b ++ held_in_block f
  held_in_stmt_kind (stmt.TryBoth b i h f) = held_in_block b ++ (held_in_block h ++ held_in_block f)
  held_in_stmt_kind (stmt.Debugger s) = []
  held_in_stmt_kind (stmt.Function f) = held_in_function f

  pub held_in_stmt_row : {m : _} → Row_of-Stmt m → List (ℕ × FunctionCode)
  held_in_stmt_row end_of-Stmt = []
  held_in_stmt_row (more_of-Stmt a p s ss) = held_in_stmt_kind s ++ held_in_stmt_row ss

-- ---- trees outside others

-- an expression
abbrev pub held_in_expr : Expr → List (ℕ × FunctionCode)
held_in_expr e = held_in_expr_kind e.kind.value

-- a property
abbrev pub held_in_property : Property → List (ℕ × FunctionCode)
held_in_property p = held_in_property_kind p.kind

-- a statement
abbrev pub held_in_stmt : Stmt → List (ℕ × FunctionCode)
held_in_stmt s = held_in_stmt_kind s.kind.value

-- an expression that may be missing
abbrev pub held_in_maybe_expr : Option Expr → List (ℕ × FunctionCode)
held_in_maybe_expr (Some e) = held_in_expr e
held_in_maybe_expr None = []

-- expressions in their order
abbrev pub held_in_exprs : List Expr → List (ℕ × FunctionCode)
held_in_exprs [] = []
held_in_exprs (e ∷ es) = held_in_expr e ++ held_in_exprs es

-- items in their order
abbrev pub held_in_items : List Item → List (ℕ × FunctionCode)
held_in_items [] = []
held_in_items (i ∷ is) = held_in_item i ++ held_in_items is

-- properties in their order
abbrev pub held_in_properties : List Property → List (ℕ × FunctionCode)
held_in_properties [] = []
held_in_properties (p ∷ ps) = held_in_property p ++ held_in_properties ps

-- variables behind the first
abbrev pub held_in_other_declarations : List Declaration → List (ℕ × FunctionCode)
held_in_other_declarations [] = []
held_in_other_declarations (d ∷ ds) = held_in_declaration d ++ held_in_other_declarations ds

-- clauses in their order
abbrev pub held_in_clauses : List Clause → List (ℕ × FunctionCode)
held_in_clauses [] = []
held_in_clauses (c ∷ cs) = held_in_clause c ++ held_in_clauses cs

-- statements in their order
abbrev pub held_in_stmts : List Stmt → List (ℕ × FunctionCode)
held_in_stmts [] = []
held_in_stmts (s ∷ ss) = held_in_stmt s ++ held_in_stmts ss

-- a script
abbrev pub held_in_program : Program → List (ℕ × FunctionCode)
held_in_program p = held_in_stmts (nodes_of p.body)

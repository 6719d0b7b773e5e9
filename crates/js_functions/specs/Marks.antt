-- What it is to mark a tree: it shows what it showed, its functions have the numbers from the first one on and their marks, and the number behind them is told.
use Rattle.std.specs.Prelude.{ℕ, Bool, ◌≡◌, List, Option}
use Rattle.js_ast.specs.declared.trees.Expr.{Expr}
use Rattle.js_ast.specs.declared.trees.Item.{Item}
use Rattle.js_ast.specs.declared.trees.Property.{Property}
use Rattle.js_ast.specs.declared.trees.Function.{Function}
use Rattle.js_ast.specs.declared.trees.Declaration.{Declaration}
use Rattle.js_ast.specs.declared.trees.Declarations.{Declarations}
use Rattle.js_ast.specs.declared.trees.ForFirst.{ForFirst}
use Rattle.js_ast.specs.declared.trees.ForTarget.{ForTarget}
use Rattle.js_ast.specs.declared.trees.Clause.{Clause}
use Rattle.js_ast.specs.declared.trees.Block.{Block}
use Rattle.js_ast.specs.declared.trees.Stmt.{Stmt}
use Rattle.js_ast.specs.Trees.{no_items, no_clauses}
use Rattle.js_ast.specs.Views.{view_expr, view_maybe_expr, view_exprs, view_item, view_items, view_property, view_properties, view_function, view_declaration, view_other_declarations, view_declarations, view_first, view_target, view_clause, view_clauses, view_block, view_stmt, view_stmts}
use Rattle.js_ast.specs.Functions.{FunctionCode, numbered, after, functions_of_expr, functions_of_exprs, functions_of_maybe, functions_of_items, functions_of_property, functions_of_properties, functions_of_function, functions_of_others, functions_of_declarations, functions_of_first, functions_of_target, functions_of_clauses, functions_of_block, functions_of_statement, functions_of_statements}
use Rattle.js_ast.specs.Held.{held_in_expr, held_in_maybe_expr, held_in_exprs, held_in_item, held_in_items, held_in_property, held_in_properties, held_in_function, held_in_declaration, held_in_other_declarations, held_in_declarations, held_in_first, held_in_target, held_in_clause, held_in_clauses, held_in_block, held_in_stmt, held_in_stmts}

pub record Marked {T V : Type 0} (view : T → V) (held : T → List (ℕ × FunctionCode)) (functions : V → List FunctionCode) (first : ℕ) (old new : T) (behind : ℕ) : Type 0 where
  pub kept : view new ≡ view old
  pub marks : held new ≡ numbered first (functions (view old))
  pub count : behind ≡ after first (functions (view old))

abbrev pub MarkedExpr : Bool → ℕ → Expr → Expr → ℕ → Type 0
MarkedExpr s first old new behind = Marked view_expr held_in_expr (functions_of_expr s) first old new behind

abbrev pub MarkedExprs : Bool → ℕ → List Expr → List Expr → ℕ → Type 0
MarkedExprs s first old new behind = Marked view_exprs held_in_exprs (functions_of_exprs s) first old new behind

abbrev pub MarkedItem : Bool → ℕ → Item → Item → ℕ → Type 0
MarkedItem s first old new behind = Marked (λ i. view_item i no_items) held_in_item (functions_of_items s) first old new behind

abbrev pub MarkedItems : Bool → ℕ → List Item → List Item → ℕ → Type 0
MarkedItems s first old new behind = Marked view_items held_in_items (functions_of_items s) first old new behind

abbrev pub MarkedMaybe : Bool → ℕ → Option Expr → Option Expr → ℕ → Type 0
MarkedMaybe s first old new behind = Marked view_maybe_expr held_in_maybe_expr (functions_of_maybe s) first old new behind

abbrev pub MarkedProperty : Bool → ℕ → Property → Property → ℕ → Type 0
MarkedProperty s first old new behind = Marked view_property held_in_property (functions_of_property s) first old new behind

abbrev pub MarkedProperties : Bool → ℕ → List Property → List Property → ℕ → Type 0
MarkedProperties s first old new behind = Marked view_properties held_in_properties (functions_of_properties s) first old new behind

abbrev pub MarkedFunction : Bool → ℕ → Function → Function → ℕ → Type 0
MarkedFunction s first old new behind = Marked view_function held_in_function (functions_of_function s) first old new behind

abbrev pub MarkedDeclaration : Bool → ℕ → Declaration → Declaration → ℕ → Type 0
MarkedDeclaration s first old new behind = Marked view_declaration held_in_declaration (λ d. functions_of_maybe s d.1) first old new behind

abbrev pub MarkedOthers : Bool → ℕ → List Declaration → List Declaration → ℕ → Type 0
MarkedOthers s first old new behind = Marked view_other_declarations held_in_other_declarations (functions_of_others s) first old new behind

abbrev pub MarkedDeclarations : Bool → ℕ → Declarations → Declarations → ℕ → Type 0
MarkedDeclarations s first old new behind = Marked view_declarations held_in_declarations (functions_of_declarations s) first old new behind

abbrev pub MarkedFirst : Bool → ℕ → ForFirst → ForFirst → ℕ → Type 0
MarkedFirst s first old new behind = Marked view_first held_in_first (functions_of_first s) first old new behind

abbrev pub MarkedTarget : Bool → ℕ → ForTarget → ForTarget → ℕ → Type 0
MarkedTarget s first old new behind = Marked view_target held_in_target (functions_of_target s) first old new behind

abbrev pub MarkedClause : Bool → ℕ → Clause → Clause → ℕ → Type 0
MarkedClause s first old new behind = Marked (λ c. view_clause c no_clauses) held_in_clause (functions_of_clauses s) first old new behind

abbrev pub MarkedClauses : Bool → ℕ → List Clause → List Clause → ℕ → Type 0
MarkedClauses s first old new behind = Marked view_clauses held_in_clauses (functions_of_clauses s) first old new behind

abbrev pub MarkedBlock : Bool → ℕ → Block → Block → ℕ → Type 0
MarkedBlock s first old new behind = Marked view_block held_in_block (functions_of_block s) first old new behind

abbrev pub MarkedStatement : Bool → ℕ → Stmt → Stmt → ℕ → Type 0
MarkedStatement s first old new behind = Marked view_stmt held_in_stmt (functions_of_statement s) first old new behind

abbrev pub MarkedStatements : Bool → ℕ → List Stmt → List Stmt → ℕ → Type 0
MarkedStatements s first old new behind = Marked view_stmts held_in_stmts (functions_of_statements s) first old new behind

-- What is told first of a node, by what is told of it on its own and of its parts.
use Rattle.std.proofs.Common.{refl, sym, ap, ◌∙◌, ◌≡◌, ℕ, List, ◌++◌, Option}
use Rattle.js_ast.specs.declared.trees.Expr.{Expr}
use Rattle.js_ast.specs.declared.trees.ExprKind.{ExprKind}
use Rattle.js_ast.specs.declared.trees.Stmt.{Stmt}
use Rattle.js_ast.specs.declared.trees.StmtKind.{StmtKind}
use Rattle.js_ast.specs.declared.trees.StmtKind as stmt
use Rattle.js_ast.specs.declared.trees.ExprKind.TheBlock.{StmtKind-If-2-None', StmtKind-If-2-Some'}
use Rattle.js_ast.specs.Trees as trees
use Rattle.js_ast.specs.Views.{view_expr, view_expr_kind, view_stmt, view_stmt_kind}
use Rattle.js_faults.specs.Scopes.{Scope}
use Rattle.js_faults.specs.Directives.{directive_of, of_directive, without_form}
use Rattle.js_faults.specs.Faults.{Own, Order, earlier_by, first_by, in_expr, in_statement}
use Rattle.js_faults.proofs.Told.{first_by_append}

module _ {F : Type 0} (order : Order F) where
  -- two parts, and three
  pub both : {r f g : Option F} (xs ys : List F) → r ≡ earlier_by order f g → f ≡ first_by order xs → g ≡ first_by order ys → r ≡ first_by order (xs ++ ys)
  both {r} {f} {g} xs ys is one two = is ∙ ap (λ h. earlier_by order h g) one ∙ ap (earlier_by order (first_by order xs)) two ∙ sym (first_by_append order xs ys)

  pub three : {r f g h rest : Option F} (xs ys zs : List F) → r ≡ earlier_by order f rest → rest ≡ earlier_by order g h → f ≡ first_by order xs → g ≡ first_by order ys → h ≡ first_by order zs
      → r ≡ first_by order (xs ++ (ys ++ zs))
  three xs ys zs is later one two more = both xs (ys ++ zs) is one (both ys zs later two more)

module _ {F : Type 0} (own : Own F) (order : Order F) where
  -- an expression, by what it is
  pub expr_told : {r : Option F} (e : Expr) (k : ExprKind) (v : trees.Expr) (parts : List F) → r ≡ first_by order parts → e.kind.value ≡ k → view_expr_kind e.at k ≡ v → in_expr own v ≡ own.expr v ++ parts
      → earlier_by order (first_by order (own.expr (view_expr e))) r ≡ first_by order (in_expr own (view_expr e))
  expr_told {r} e k v parts told is sees all =
      let seen : view_expr e ≡ v = ap (view_expr_kind e.at) is ∙ sees in
      ap (λ v. earlier_by order (first_by order (own.expr v)) r) seen ∙ ap (earlier_by order (first_by order (own.expr v))) told ∙ sym (first_by_append order (own.expr v) parts) ∙ sym (ap (first_by order) all)
      ∙ sym (ap (λ v. first_by order (in_expr own v)) seen)

  -- a statement, by what it is
  pub statement_told : {r : Option F} (scope : Scope) (s : Stmt) (k : StmtKind) (v : trees.Statement) (parts : List F) → r ≡ first_by order parts → s.kind.value ≡ k → view_stmt_kind s.at k ≡ v → in_statement own scope v ≡ own.statement scope v ++ parts
      → earlier_by order (first_by order (own.statement scope (view_stmt s))) r ≡ first_by order (in_statement own scope (view_stmt s))
  statement_told {r} scope s k v parts told is sees all =
      let seen : view_stmt s ≡ v = ap (view_stmt_kind s.at) is ∙ sees in
      ap (λ v. earlier_by order (first_by order (own.statement scope v)) r) seen ∙ ap (earlier_by order (first_by order (own.statement scope v))) told ∙ sym (first_by_append order (own.statement scope v) parts) ∙ sym (ap (first_by order) all)
      ∙ sym (ap (λ v. first_by order (in_statement own scope v)) seen)

-- ---- directives

-- a statement that is no directive is none without its form
pub formless : (at : ℕ) (k : StmtKind) → of_directive at (directive_of (view_stmt_kind at k)) ≡ without_form (view_stmt_kind at k)
unfolding without_form
formless at (stmt.If' a p e b q s StmtKind-If-2-None') = refl
formless at (stmt.If' a p e b q s (StmtKind-If-2-Some' c r t)) = refl
formless at _ = refl

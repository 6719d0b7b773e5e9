use Rattle.std.proofs.Common.{refl, ap, ◌∙◌, ◌≡◌, Option, Some, None}
use Rattle.js_ast.specs.declared.trees.Expr.{Expr}
use Rattle.js_ast.specs.declared.trees.Stmt.{Stmt}
use Rattle.js_ast.specs.declared.trees.StmtKind.{StmtKind}
use Rattle.js_ast.specs.declared.trees.StmtKind as stmt
use Rattle.js_ast.specs.declared.trees.ForFirst.{ForFirst}
use Rattle.js_ast.specs.declared.trees.ExprKind.TheBlock.{ForFirst-Expr-0-None', ForFirst-Expr-0-Some', StmtKind-If-2-None', StmtKind-If-2-Some'}
use Rattle.js_ast.specs.Views.{view_stmt_kind}
use Rattle.js_ast.specs.Trees.{absent}
use Rattle.continuations.specs.Shapes.{update_of}
use Rattle.continuations.proofs.continuation.Round.update.Goals as goal

-- a statement that is no `for` loop
no_update : (at : _) (k : StmtKind) → ((first : ForFirst) (test update : Option Expr) (body : Stmt) → k ≡ stmt.For first test update body → ⊥) → absent ≡ update_of (view_stmt_kind at k)
no_update at (stmt.For' first ForFirst-Expr-0-None' ForFirst-Expr-0-None' a p s) no_for = absurd (no_for first None None (record { at = a; kind = record { ptr = p.ptr; alloc = p.alloc; value = s } }) refl)
no_update at (stmt.For' first ForFirst-Expr-0-None' (ForFirst-Expr-0-Some' d dp de) a p s) no_for = absurd (no_for first None (Some (record { at = d; kind = record { ptr = dp.ptr; alloc = dp.alloc; value = de } })) (record { at = a; kind = record { ptr = p.ptr; alloc = p.alloc; value = s } }) refl)
no_update at (stmt.For' first (ForFirst-Expr-0-Some' c cp ce) ForFirst-Expr-0-None' a p s) no_for = absurd (no_for first (Some (record { at = c; kind = record { ptr = cp.ptr; alloc = cp.alloc; value = ce } })) None (record { at = a; kind = record { ptr = p.ptr; alloc = p.alloc; value = s } }) refl)
no_update at (stmt.For' first (ForFirst-Expr-0-Some' c cp ce) (ForFirst-Expr-0-Some' d dp de) a p s) no_for = absurd (no_for first (Some (record { at = c; kind = record { ptr = cp.ptr; alloc = cp.alloc; value = ce } })) (Some (record { at = d; kind = record { ptr = dp.ptr; alloc = dp.alloc; value = de } })) (record { at = a; kind = record { ptr = p.ptr; alloc = p.alloc; value = s } }) refl)
no_update at (stmt.If' a p e b q s StmtKind-If-2-None') no_for = refl
no_update at (stmt.If' a p e b q s (StmtKind-If-2-Some' d r t)) no_for = refl
no_update at _ no_for = refl

pub returns-in_default : goal.returns-in_default
returns-in_default c = (no_update _ _ (λ first test update body e. c.in_default.not-For first test update body (c.deref.ensures ∙ e))) ∙ ap update_of c.inner.ensures

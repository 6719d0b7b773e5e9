use Rattle.std.proofs.Common.{refl, ◌∙◌, ◌≡◌, false, Option, Some, None}
use Rattle.js_ast.specs.declared.trees.Expr.{Expr}
use Rattle.js_ast.specs.declared.trees.Stmt.{Stmt}
use Rattle.js_ast.specs.declared.trees.StmtKind.{StmtKind}
use Rattle.js_ast.specs.declared.trees.StmtKind as stmt
use Rattle.js_ast.specs.declared.trees.ForFirst.{ForFirst}
use Rattle.js_ast.specs.declared.trees.ForTarget.{ForTarget}
use Rattle.js_ast.specs.declared.trees.ExprKind.TheBlock.{ForFirst-Expr-0-None', ForFirst-Expr-0-Some', StmtKind-If-2-None', StmtKind-If-2-Some'}
use Rattle.js_ast.specs.Views.{view_stmt_kind}
use Rattle.js_faults.specs.Scopes.{is_loop}
use Rattle.js_faults.proofs.scope.+is_loop.Goals as goal

-- a statement that is no loop, and has no label in front
no_loop : (at : _) (k : StmtKind) → ((body : Stmt) (test : Expr) (semi : _) → k ≡ stmt.DoWhile body test semi → ⊥) → ((test : Expr) (body : Stmt) → k ≡ stmt.While test body → ⊥)
    → ((first : ForFirst) (test update : Option Expr) (body : Stmt) → k ≡ stmt.For first test update body → ⊥) → ((target : ForTarget) (object : Expr) (body : Stmt) → k ≡ stmt.ForIn target object body → ⊥)
    → ((label : _) (body : Stmt) → k ≡ stmt.Labelled label body → ⊥) → false ≡ is_loop (view_stmt_kind at k)
no_loop at (stmt.DoWhile' a p s b q e semi) no_do no_while no_for no_in no_label = absurd (no_do (record { at = a; kind = record { ptr = p.ptr; alloc = p.alloc; value = s } }) (record { at = b; kind = record { ptr = q.ptr; alloc = q.alloc; value = e } }) semi refl)
no_loop at (stmt.While' a p e b q s) no_do no_while no_for no_in no_label = absurd (no_while (record { at = a; kind = record { ptr = p.ptr; alloc = p.alloc; value = e } }) (record { at = b; kind = record { ptr = q.ptr; alloc = q.alloc; value = s } }) refl)
no_loop at (stmt.For' first ForFirst-Expr-0-None' ForFirst-Expr-0-None' a p s) no_do no_while no_for no_in no_label = absurd (no_for first None None (record { at = a; kind = record { ptr = p.ptr; alloc = p.alloc; value = s } }) refl)
no_loop at (stmt.For' first ForFirst-Expr-0-None' (ForFirst-Expr-0-Some' d dp de) a p s) no_do no_while no_for no_in no_label = absurd (no_for first None (Some (record { at = d; kind = record { ptr = dp.ptr; alloc = dp.alloc; value = de } })) (record { at = a; kind = record { ptr = p.ptr; alloc = p.alloc; value = s } }) refl)
no_loop at (stmt.For' first (ForFirst-Expr-0-Some' c cp ce) ForFirst-Expr-0-None' a p s) no_do no_while no_for no_in no_label = absurd (no_for first (Some (record { at = c; kind = record { ptr = cp.ptr; alloc = cp.alloc; value = ce } })) None (record { at = a; kind = record { ptr = p.ptr; alloc = p.alloc; value = s } }) refl)
no_loop at (stmt.For' first (ForFirst-Expr-0-Some' c cp ce) (ForFirst-Expr-0-Some' d dp de) a p s) no_do no_while no_for no_in no_label = absurd (no_for first (Some (record { at = c; kind = record { ptr = cp.ptr; alloc = cp.alloc; value = ce } })) (Some (record { at = d; kind = record { ptr = dp.ptr; alloc = dp.alloc; value = de } })) (record { at = a; kind = record { ptr = p.ptr; alloc = p.alloc; value = s } }) refl)
no_loop at (stmt.ForIn' target a p e b q s) no_do no_while no_for no_in no_label = absurd (no_in target (record { at = a; kind = record { ptr = p.ptr; alloc = p.alloc; value = e } }) (record { at = b; kind = record { ptr = q.ptr; alloc = q.alloc; value = s } }) refl)
no_loop at (stmt.Labelled' label a p s) no_do no_while no_for no_in no_label = absurd (no_label label (record { at = a; kind = record { ptr = p.ptr; alloc = p.alloc; value = s } }) refl)
no_loop at (stmt.If' a p e b q s StmtKind-If-2-None') no_do no_while no_for no_in no_label = refl
no_loop at (stmt.If' a p e b q s (StmtKind-If-2-Some' d r t)) no_do no_while no_for no_in no_label = refl
no_loop at _ no_do no_while no_for no_in no_label = refl

pub returns-in_default : goal.returns-in_default
returns-in_default t c = no_loop _ _ (λ body test semi e. c.in_default.not-DoWhile body test semi (c.deref.ensures ∙ e)) (λ test body e. c.in_default.not-While test body (c.deref.ensures ∙ e)) (λ first test update body e. c.in_default.not-For first test update body (c.deref.ensures ∙ e))
    (λ target object body e. c.in_default.not-ForIn target object body (c.deref.ensures ∙ e)) (λ label body e. c.in_default.not-Labelled label body (c.deref.ensures ∙ e))

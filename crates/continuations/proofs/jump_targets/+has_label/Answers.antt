use Rattle.std.proofs.Common.{refl, ◌∙◌, ◌≡◌, ℕ, List, false}
use Rattle.js_ast.specs.declared.trees.Stmt.{Stmt}
use Rattle.js_ast.specs.declared.trees.StmtKind.{StmtKind}
use Rattle.js_ast.specs.declared.trees.StmtKind as stmt
use Rattle.js_ast.specs.declared.trees.ExprKind.TheBlock.{StmtKind-If-2-None', StmtKind-If-2-Some'}
use Rattle.js_ast.specs.Views.{view_stmt_kind}
use Rattle.continuations.specs.JumpTargets.{stands_before}
use Rattle.continuations.proofs.jump_targets.+has_label.Goals as goal

-- a statement without a label in front
unlabelled : (x : List ℕ) (at : _) (k : StmtKind) → ((label : _) (body : Stmt) → k ≡ stmt.Labelled label body → ⊥) → false ≡ stands_before x (view_stmt_kind at k)
unlabelled x at (stmt.Labelled' label a p s) no_label = absurd (no_label label (record { at = a; kind = record { ptr = p.ptr; alloc = p.alloc; value = s } }) refl)
unlabelled x at (stmt.If' a p e b q s StmtKind-If-2-None') no_label = refl
unlabelled x at (stmt.If' a p e b q s (StmtKind-If-2-Some' d r t)) no_label = refl
unlabelled x at _ no_label = refl

pub returns-in_default : goal.returns-in_default
returns-in_default t c = unlabelled _ _ _ (λ label body e. c.in_default.not-Labelled label body (c.deref.ensures ∙ e))

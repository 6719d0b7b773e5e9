use Rattle.std.proofs.Common.{refl, ◌∙◌, ◌≡◌}
use Rattle.js_ast.specs.declared.trees.Stmt.{Stmt}
use Rattle.js_ast.specs.declared.trees.StmtKind.{StmtKind}
use Rattle.js_ast.specs.declared.trees.StmtKind as stmt
use Rattle.js_ast.specs.declared.trees.ExprKind.TheBlock.{StmtKind-If-2-None', StmtKind-If-2-Some'}
use Rattle.js_ast.specs.Views.{view_stmt_kind}
use Rattle.continuations.specs.Shapes.{inner_of}
use Rattle.continuations.proofs.continuation.+inner.Goals as goal

-- a statement without a label in front
alone : (at : _) (k : StmtKind) → ((label : _) (body : Stmt) → k ≡ stmt.Labelled label body → ⊥) → view_stmt_kind at k ≡ inner_of (view_stmt_kind at k)
unfolding inner_of
alone at (stmt.Labelled' label a p s) no_label = absurd (no_label label (record { at = a; kind = record { ptr = p.ptr; alloc = p.alloc; value = s } }) refl)
alone at (stmt.If' a p e b q s StmtKind-If-2-None') no_label = refl
alone at (stmt.If' a p e b q s (StmtKind-If-2-Some' d r t)) no_label = refl
alone at _ no_label = refl

pub returns-in_default : goal.returns-in_default
returns-in_default t c = alone _ _ (λ label body e. c.in_default.not-Labelled label body (c.deref.ensures ∙ e))

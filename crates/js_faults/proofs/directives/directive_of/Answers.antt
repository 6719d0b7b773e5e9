use Rattle.std.proofs.Common.{refl, sym, ap, ◌∙◌, ◌≡◌, None}
use Rattle.js_ast.specs.declared.trees.Expr.{Expr}
use Rattle.js_ast.specs.declared.trees.StmtKind.{StmtKind}
use Rattle.js_ast.specs.declared.trees.StmtKind as stmt
use Rattle.js_ast.specs.declared.trees.ExprKind.TheBlock.{StmtKind-If-2-None', StmtKind-If-2-Some'}
use Rattle.js_ast.specs.Views.{view_stmt_kind}
use Rattle.js_faults.specs.Directives.{directive_of}
use Rattle.js_faults.proofs.directives.directive_of.Goals as goal

-- a statement that is no expression is no directive
no_directive : (at : _) (k : StmtKind) → ((x : Expr) (semi : _) → k ≡ stmt.Expr x semi → ⊥) → None ≡ directive_of (view_stmt_kind at k)
no_directive at (stmt.Expr' a p e semi) other = absurd (other (record { at = a; kind = record { ptr = p.ptr; alloc = p.alloc; value = e } }) semi refl)
no_directive at (stmt.If' a p e b q s StmtKind-If-2-None') other = refl
no_directive at (stmt.If' a p e b q s (StmtKind-If-2-Some' d r t)) other = refl
no_directive at _ other = refl

pub returns-in-Expr : goal.returns-in-Expr
returns-in-Expr c = c.directive_in.ensures ∙ ap (λ k. directive_of (view_stmt_kind c.args.statement.now.at k)) (sym c.in-Expr.is ∙ c.deref.ensures)

pub returns-in_default : goal.returns-in_default
returns-in_default c = no_directive _ _ (λ x semi e. c.in_default.not-Expr x semi (c.deref.ensures ∙ e))

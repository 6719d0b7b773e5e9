use Rattle.std.proofs.Common.{refl, ◌∙◌, ◌≡◌, None}
use Rattle.js_ast.specs.declared.trees.Block.{Block}
use Rattle.js_ast.specs.declared.trees.Ident.{Ident}
use Rattle.js_ast.specs.declared.trees.StmtKind.{StmtKind}
use Rattle.js_ast.specs.declared.trees.StmtKind as stmt
use Rattle.js_ast.specs.declared.trees.ExprKind.TheBlock.{StmtKind-If-2-None', StmtKind-If-2-Some'}
use Rattle.js_ast.specs.Views.{view_stmt_kind}
use Rattle.step_jumps.specs.Parts.{last_in}
use Rattle.step_jumps.proofs.parts.last.Goals as goal

-- another statement does nothing last
nothing_last : (at : _) (k : StmtKind) → ((block : Block) (finalizer : Block) → k ≡ stmt.TryFinally block finalizer → ⊥) → ((block : Block) (param : Ident) (handler : Block) (finalizer : Block) → k ≡ stmt.TryBoth block param handler finalizer → ⊥) → None ≡ last_in (view_stmt_kind at k)
nothing_last at (stmt.TryFinally b f) no_finally no_both = absurd (no_finally b f refl)
nothing_last at (stmt.TryBoth b i h f) no_finally no_both = absurd (no_both b i h f refl)
nothing_last at (stmt.If' a p e b q s StmtKind-If-2-None') no_finally no_both = refl
nothing_last at (stmt.If' a p e b q s (StmtKind-If-2-Some' d r t)) no_finally no_both = refl
nothing_last at _ no_finally no_both = refl

pub returns-in_default : goal.returns-in_default
returns-in_default c = nothing_last _ _ (λ block finalizer e. c.in_default.not-TryFinally block finalizer (c.deref.ensures ∙ e)) (λ block param handler finalizer e. c.in_default.not-TryBoth block param handler finalizer (c.deref.ensures ∙ e))

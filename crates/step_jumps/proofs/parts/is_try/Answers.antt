use Rattle.std.proofs.Common.{refl, ◌∙◌, ◌≡◌, false}
use Rattle.js_ast.specs.declared.trees.Block.{Block}
use Rattle.js_ast.specs.declared.trees.Ident.{Ident}
use Rattle.js_ast.specs.declared.trees.StmtKind.{StmtKind}
use Rattle.js_ast.specs.declared.trees.StmtKind as stmt
use Rattle.js_ast.specs.declared.trees.ExprKind.TheBlock.{StmtKind-If-2-None', StmtKind-If-2-Some'}
use Rattle.js_ast.specs.Views.{view_stmt_kind}
use Rattle.step_jumps.specs.Parts.{is_try}
use Rattle.step_jumps.proofs.parts.is_try.Goals as goal

-- another statement is none
no_try : (at : _) (k : StmtKind) → ((block : Block) (param : Ident) (handler : Block) → k ≡ stmt.TryCatch block param handler → ⊥) → ((block : Block) (finalizer : Block) → k ≡ stmt.TryFinally block finalizer → ⊥) → ((block : Block) (param : Ident) (handler : Block) (finalizer : Block) → k ≡ stmt.TryBoth block param handler finalizer → ⊥) → false ≡ is_try (view_stmt_kind at k)
no_try at (stmt.TryCatch b i h) no_catch no_finally no_both = absurd (no_catch b i h refl)
no_try at (stmt.TryFinally b f) no_catch no_finally no_both = absurd (no_finally b f refl)
no_try at (stmt.TryBoth b i h f) no_catch no_finally no_both = absurd (no_both b i h f refl)
no_try at (stmt.If' a p e b q s StmtKind-If-2-None') no_catch no_finally no_both = refl
no_try at (stmt.If' a p e b q s (StmtKind-If-2-Some' d r t)) no_catch no_finally no_both = refl
no_try at _ no_catch no_finally no_both = refl

pub returns-in_default : goal.returns-in_default
returns-in_default c = no_try _ _ (λ block param handler e. c.in_default.not-TryCatch block param handler (c.deref.ensures ∙ e)) (λ block finalizer e. c.in_default.not-TryFinally block finalizer (c.deref.ensures ∙ e)) (λ block param handler finalizer e. c.in_default.not-TryBoth block param handler finalizer (c.deref.ensures ∙ e))

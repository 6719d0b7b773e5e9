use Rattle.std.proofs.Common.{refl, ◌∙◌, ◌≡◌, None}
use Rattle.js_ast.specs.declared.trees.Block.{Block}
use Rattle.js_ast.specs.declared.trees.Ident.{Ident}
use Rattle.js_ast.specs.declared.trees.StmtKind.{StmtKind}
use Rattle.js_ast.specs.declared.trees.StmtKind as stmt
use Rattle.js_ast.specs.declared.trees.ExprKind.TheBlock.{StmtKind-If-2-None', StmtKind-If-2-Some'}
use Rattle.js_ast.specs.Views.{view_stmt_kind}
use Rattle.step_jumps.specs.Parts.{handler_in}
use Rattle.step_jumps.proofs.parts.handler.Goals as goal

-- another statement has no handler
no_handler : (at : _) (k : StmtKind) → ((block : Block) (param : Ident) (handler : Block) → k ≡ stmt.TryCatch block param handler → ⊥) → ((block : Block) (param : Ident) (handler : Block) (finalizer : Block) → k ≡ stmt.TryBoth block param handler finalizer → ⊥) → None ≡ handler_in (view_stmt_kind at k)
no_handler at (stmt.TryCatch b i h) no_catch no_both = absurd (no_catch b i h refl)
no_handler at (stmt.TryBoth b i h f) no_catch no_both = absurd (no_both b i h f refl)
no_handler at (stmt.If' a p e b q s StmtKind-If-2-None') no_catch no_both = refl
no_handler at (stmt.If' a p e b q s (StmtKind-If-2-Some' d r t)) no_catch no_both = refl
no_handler at _ no_catch no_both = refl

pub returns-in_default : goal.returns-in_default
returns-in_default c = no_handler _ _ (λ block param handler e. c.in_default.not-TryCatch block param handler (c.deref.ensures ∙ e)) (λ block param handler finalizer e. c.in_default.not-TryBoth block param handler finalizer (c.deref.ensures ∙ e))

-- How deep a node is that a maker gives, by what it is seen as and by the number beside it.
use Rattle.std.proofs.Common.{◌≡◌, ℕ, sym, ap, ◌∙◌, Result, Ok, Err, IfOk}
use Rattle.js_ast.specs.declared.trees.Expr.{Expr}
use Rattle.js_ast.specs.Trees as trees
use Rattle.js_ast.specs.Depth.{depth}
use Rattle.js_ast.specs.Views.{view_expr}

-- its depth
pub made_deep : {E : Type 0} (r : Result (Expr × ℕ) E) (v : trees.Expr) (n : ℕ) → IfOk r (λ x. view_expr x.0 ≡ v) → IfOk r (λ x. x.1 ≡ n) → n ≡ depth v → IfOk r (λ x. x.1 ≡ depth (view_expr x.0))
made_deep (Ok x) v n node number e = number ∙ e ∙ sym (ap depth node)
made_deep (Err x) v n node number e = tt

-- the number, written otherwise
pub made_size : {E : Type 0} (r : Result (Expr × ℕ) E) (n m : ℕ) → IfOk r (λ x. x.1 ≡ n) → n ≡ m → IfOk r (λ x. x.1 ≡ m)
made_size (Ok x) n m number e = number ∙ e
made_size (Err x) n m number e = tt

-- The place of a node is that of what it is seen as.
use Rattle.std.proofs.Common.{◌≡◌, ℕ, refl}
use Rattle.js_ast.specs.declared.trees.Expr.{Expr}
use Rattle.js_ast.specs.declared.trees.ExprKind.{ExprKind}
use Rattle.js_ast.specs.declared.trees.ExprKind as expr
use Rattle.js_ast.specs.declared.trees.ExprKind.TheBlock.{ExprKind-New-1-None', ExprKind-New-1-Some'}
use Rattle.js_ast.specs.Trees.{at_of}
use Rattle.js_ast.specs.Views.{view_expr_kind, view_expr}

-- by what the node is
kind_place : (at : ℕ) (k : ExprKind) → at_of (view_expr_kind at k) ≡ at
kind_place at (expr.New' a p e ExprKind-New-1-None') = refl
kind_place at (expr.New' a p e (ExprKind-New-1-Some' shape es order)) = refl
kind_place at _ = refl

-- the place of an expression
pub place_is : (e : Expr) → at_of (view_expr e) ≡ e.at
place_is e = kind_place e.at e.kind.value

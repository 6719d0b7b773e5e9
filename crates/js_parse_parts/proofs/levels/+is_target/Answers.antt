use Rattle.std.proofs.Common.{◌≡◌, ℕ, false, refl, ◌∙◌}
use Rattle.js_ast.specs.declared.trees.Expr.{Expr}
use Rattle.js_ast.specs.declared.trees.ExprKind.{ExprKind}
use Rattle.js_ast.specs.declared.trees.ExprKind as expr
use Rattle.js_ast.specs.declared.trees.ExprKind.TheBlock.{ExprKind-New-1-None', ExprKind-New-1-Some'}
use Rattle.js_ast.specs.Levels.{is_target}
use Rattle.js_ast.specs.Views.{view_expr_kind}
use Rattle.js_parse_parts.proofs.levels.+is_target.Goals as goal

-- what is no name, no member, no element and not in parentheses is no target
no_target : (at : ℕ) (k : ExprKind) → ((t : _) → k ≡ expr.Name t → ⊥) → ((e : Expr) → k ≡ expr.Paren e → ⊥) → ((e : Expr) (t : _) → k ≡ expr.Member e t → ⊥) → ((e i : Expr) → k ≡ expr.Index e i → ⊥) → false ≡ is_target (view_expr_kind at k)
no_target at (expr.Name text) name paren member index = absurd (name text refl)
no_target at (expr.Paren' a p e) name paren member index = absurd (paren (record { at = a; kind = record { ptr = p.ptr; alloc = p.alloc; value = e } }) refl)
no_target at (expr.Member' a p e text) name paren member index = absurd (member (record { at = a; kind = record { ptr = p.ptr; alloc = p.alloc; value = e } }) text refl)
no_target at (expr.Index' a p e b q i) name paren member index = absurd (index (record { at = a; kind = record { ptr = p.ptr; alloc = p.alloc; value = e } }) (record { at = b; kind = record { ptr = q.ptr; alloc = q.alloc; value = i } }) refl)
no_target at (expr.New' a p e ExprKind-New-1-None') name paren member index = refl
no_target at (expr.New' a p e (ExprKind-New-1-Some' shape es order)) name paren member index = refl
no_target at _ name paren member index = refl

pub returns-in_default : goal.returns-in_default
returns-in_default t c = no_target c.args.expr.now.at c.args.expr.now.kind.value (λ x e. c.in_default.not-Name x (c.deref.ensures ∙ e)) (λ x e. c.in_default.not-Paren x (c.deref.ensures ∙ e)) (λ x y e. c.in_default.not-Member x y (c.deref.ensures ∙ e)) (λ x y e. c.in_default.not-Index x y (c.deref.ensures ∙ e))

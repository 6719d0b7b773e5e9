use Rattle.std.proofs.Common.{◌≡◌, ℕ, false, refl, ◌∙◌}
use Rattle.js_ast.specs.declared.trees.Expr.{Expr}
use Rattle.js_ast.specs.declared.trees.ExprKind.{ExprKind}
use Rattle.js_ast.specs.declared.trees.ExprKind as expr
use Rattle.js_ast.specs.declared.trees.ExprKind.TheBlock.{ExprKind-New-1-None', ExprKind-New-1-Some'}
use Rattle.js_ast.specs.Levels.{ends_postfix}
use Rattle.js_ast.specs.Views.{view_expr_kind}
use Rattle.js_parse_parts.proofs.ends.+ends_postfix.Goals as goal

-- what is made by no operator has none at its right edge
no_operator : (at : ℕ) (k : ExprKind) → ((e : Expr) (o : _) → k ≡ expr.Postfix e o → ⊥) → ((o : _) (e : Expr) → k ≡ expr.Unary o e → ⊥) → ((l : Expr) (o : _) (r : Expr) → k ≡ expr.Binary l o r → ⊥) → ((x y z : Expr) → k ≡ expr.Conditional x y z → ⊥) → ((l : Expr) (o : _) (r : Expr) → k ≡ expr.Assign l o r → ⊥) → ((l r : Expr) → k ≡ expr.Comma l r → ⊥) → false ≡ ends_postfix (view_expr_kind at k)
no_operator at (expr.Postfix' a p e o) postfix unary binary conditional assign comma = absurd (postfix (record { at = a; kind = record { ptr = p.ptr; alloc = p.alloc; value = e } }) o refl)
no_operator at (expr.Unary' o a p e) postfix unary binary conditional assign comma = absurd (unary o (record { at = a; kind = record { ptr = p.ptr; alloc = p.alloc; value = e } }) refl)
no_operator at (expr.Binary' a p l o b q r) postfix unary binary conditional assign comma = absurd (binary (record { at = a; kind = record { ptr = p.ptr; alloc = p.alloc; value = l } }) o (record { at = b; kind = record { ptr = q.ptr; alloc = q.alloc; value = r } }) refl)
no_operator at (expr.Conditional' a p t b q x c r y) postfix unary binary conditional assign comma = absurd (conditional (record { at = a; kind = record { ptr = p.ptr; alloc = p.alloc; value = t } }) (record { at = b; kind = record { ptr = q.ptr; alloc = q.alloc; value = x } }) (record { at = c; kind = record { ptr = r.ptr; alloc = r.alloc; value = y } }) refl)
no_operator at (expr.Assign' a p l o b q r) postfix unary binary conditional assign comma = absurd (assign (record { at = a; kind = record { ptr = p.ptr; alloc = p.alloc; value = l } }) o (record { at = b; kind = record { ptr = q.ptr; alloc = q.alloc; value = r } }) refl)
no_operator at (expr.Comma' a p l b q r) postfix unary binary conditional assign comma = absurd (comma (record { at = a; kind = record { ptr = p.ptr; alloc = p.alloc; value = l } }) (record { at = b; kind = record { ptr = q.ptr; alloc = q.alloc; value = r } }) refl)
no_operator at (expr.New' a p e ExprKind-New-1-None') postfix unary binary conditional assign comma = refl
no_operator at (expr.New' a p e (ExprKind-New-1-Some' shape es order)) postfix unary binary conditional assign comma = refl
no_operator at _ postfix unary binary conditional assign comma = refl

pub returns-in_default : goal.returns-in_default
returns-in_default t c = no_operator c.args.expr.now.at c.args.expr.now.kind.value (λ x o e. c.in_default.not-Postfix x o (c.deref.ensures ∙ e)) (λ o x e. c.in_default.not-Unary o x (c.deref.ensures ∙ e)) (λ x o y e. c.in_default.not-Binary x o y (c.deref.ensures ∙ e)) (λ x y z e. c.in_default.not-Conditional x y z (c.deref.ensures ∙ e)) (λ x o y e. c.in_default.not-Assign x o y (c.deref.ensures ∙ e)) (λ x y e. c.in_default.not-Comma x y (c.deref.ensures ∙ e))

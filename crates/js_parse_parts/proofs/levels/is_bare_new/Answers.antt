use Rattle.std.proofs.Common.{◌≡◌, ℕ, false, None, refl, ap, ◌∙◌}
use Rattle.js_ast.specs.contracts.trees.ExprKind.{the_type, enum}
use Rattle.js_ast.specs.declared.trees.Expr.{Expr}
use Rattle.js_ast.specs.declared.trees.ExprKind.{ExprKind}
use Rattle.js_ast.specs.declared.trees.ExprKind as expr
use Rattle.js_ast.specs.declared.trees.ExprKind.TheBlock.{ExprKind-New-1-None', ExprKind-New-1-Some'}
use Rattle.js_ast.specs.Levels.{is_bare_new}
use Rattle.js_ast.specs.Views.{view_expr_kind}
use borrow.Enum.Known.{choose}
use denote.Enum.Declared.{tag_of, variants, intoss}
use denote.Enum.Enum.{tag}
use Rattle.js_parse_parts.proofs.levels.is_bare_new.Goals as goal

-- an expression that is no `new`
no_new : (at : ℕ) (k : ExprKind) → ((e : Expr) → k ≡ expr.New e None → ⊥) → false ≡ is_bare_new (view_expr_kind at k)
no_new at (expr.New' a p e ExprKind-New-1-None') other = absurd (other (record { at = a; kind = record { ptr = p.ptr; alloc = p.alloc; value = e } }) refl)
no_new at (expr.New' a p e (ExprKind-New-1-Some' shape es order)) other = refl
no_new at _ other = refl

-- the number of the kind of a `new`
new_tag : (e : Expr) → tag_of the_type (expr.New e None) ≡ 12
new_tag e = ap (λ v. tag (variants the_type) (intoss enum.parts v)) (enum.beta (choose enum.parts 12 (e, (None, tt))))

pub returns-in_default-2 : goal.returns-in_default-2
returns-in_default-2 c = no_new c.args.expr.now.at c.args.expr.now.kind.value (λ e is. c.in_default.in_default-own.refused-1.1 (ap (tag_of the_type) (c.deref.ensures ∙ is) ∙ new_tag e))

-- Clauses of a `switch`.
use Rattle.std.specs.Prelude.{Bool, true, false}
use Rattle.js_ast.specs.declared.trees.Clause.{Clause, Clause'}
use Rattle.js_ast.specs.declared.trees.ExprKind.TheBlock.{ForFirst-Expr-0-None', ForFirst-Expr-0-Some'}

-- a clause with no test, which is `default` (ECMA-262 12.11)
abbrev pub is_default : Clause → Bool
is_default (Clause' ForFirst-Expr-0-None' shape ss order) = true
is_default (Clause' (ForFirst-Expr-0-Some' a p e) shape ss order) = false

use Rattle.std.proofs.Common.{◌≡◌, ◌<◌, ℕ, false, nat_eq, get_or, Bor}
use Rattle.js_ast.specs.declared.trees.Function.{Function}
use Rattle.js_ast.specs.Views.{view_function}
use Rattle.es_meaning.specs.Functions.{begins_at}
use Rattle.function_table.proofs.table.place_of.Given as goal

-- none before this one begins there
abbrev pub invariant-loop-i : goal.invariant-loop-i
invariant-loop-i l = (k : ℕ) (d : Bor Function) → k < l.i → nat_eq (begins_at (view_function (get_or l.list k d).now)) (begins_at (view_function l.fn.f)) ≡ false

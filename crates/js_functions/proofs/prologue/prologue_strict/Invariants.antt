use Rattle.std.proofs.Common.{◌≡◌, length}
use Rattle.js_ast.specs.Views.{view_stmts}
use Rattle.js_ast.specs.Functions.{prologue_strict}
use Rattle.js_functions.proofs.prologue.prologue_strict.Given as goal

abbrev pub invariant-loop-rest : goal.invariant-loop-rest
invariant-loop-rest l = prologue_strict (view_stmts l.rest) ≡ prologue_strict (view_stmts l.statements)

abbrev pub decreases-loop-rest : goal.decreases-loop-rest
decreases-loop-rest l = length l.rest

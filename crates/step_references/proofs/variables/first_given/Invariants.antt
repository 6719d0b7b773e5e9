use Rattle.std.proofs.Common.{◌≡◌, length}
use Rattle.js_ast.specs.Views.{view_other_declarations}
use Rattle.step_references.specs.Variables.{first_given}
use Rattle.step_references.proofs.variables.first_given.Given as goal

abbrev pub invariant-loop-left : goal.invariant-loop-left
invariant-loop-left l = first_given (view_other_declarations l.left) ≡ first_given (view_other_declarations l.list)

abbrev pub decreases-loop-left : goal.decreases-loop-left
decreases-loop-left l = length l.left

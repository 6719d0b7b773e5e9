use Rattle.std.proofs.Common.{◌≡◌, drop}
use Rattle.js_ast.specs.Views.{view_other_declarations}
use Rattle.js_faults.specs.Faults.{earlier, first_of}
use Rattle.js_faults.proofs.Bound.{bound_in}
use Rattle.js_faults.proofs.own.of_declarations.Given as goal

abbrev pub invariant-others : goal.invariant-others
invariant-others l = earlier l.first (first_of (bound_in (view_other_declarations (drop l.declaration-index l.declaration-items)))) ≡ earlier l.initial.first (first_of (bound_in (view_other_declarations l.declaration-items)))

use Rattle.std.proofs.Common.{◌≡◌, drop}
use Rattle.js_ast.specs.Views.{view_idents}
use Rattle.js_faults.specs.Faults.{earlier, first_of}
use Rattle.js_faults.specs.Ordered.{of_each}
use Rattle.js_faults.proofs.names.of_each.Given as goal

abbrev pub invariant-names : goal.invariant-names
invariant-names l = earlier l.first (first_of (of_each (view_idents (drop l.name-index l.names)))) ≡ first_of (of_each (view_idents l.names))

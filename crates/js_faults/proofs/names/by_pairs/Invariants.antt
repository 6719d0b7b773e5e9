use Rattle.std.proofs.Common.{◌≡◌, take, drop, []}
use Rattle.js_ast.specs.Views.{view_idents}
use Rattle.js_faults.specs.Early.{of_parameters}
use Rattle.js_faults.specs.Faults.{earlier, first_of}
use Rattle.js_faults.proofs.names.by_pairs.Given as goal

abbrev pub invariant-names : goal.invariant-names
invariant-names l = earlier l.first (first_of (of_parameters (view_idents (take l.i l.names)) (view_idents (drop l.i l.names)))) ≡ first_of (of_parameters [] (view_idents l.names))

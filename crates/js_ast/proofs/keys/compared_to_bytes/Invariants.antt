use Rattle.std.proofs.Common.{◌≡◌, length}
use Rattle.std.specs.Cmp.Lexicographic.{slice_cmp}
use Rattle.std.specs.Ordering.{nat_cmp}
use Rattle.js_ast.proofs.keys.compared_to_bytes.Given as goal

abbrev pub invariant-units : goal.invariant-units
invariant-units l = slice_cmp nat_cmp l.text l.digits ≡ slice_cmp nat_cmp l.units l.bytes

abbrev pub decreases-units : goal.decreases-units
decreases-units l = length l.text

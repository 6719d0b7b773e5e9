use Rattle.std.proofs.Common.{arith}
use Rattle.step_statements.proofs.keys.lay_keys.Goals as goal

pub offset_bounds-left-left : goal.offset_bounds-left-left
offset_bounds-left-left g c = let fewer = c.loop-left.invariant.fewer in omega (arith, fewer)

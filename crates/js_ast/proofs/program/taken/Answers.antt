use Rattle.js_ast.proofs.SlotLaws.{taken_more}
use Rattle.js_ast.proofs.program.taken.Goals as goal

pub loop-slot-preserved : goal.loop-slot-preserved
loop-slot-preserved c = taken_more _ _ _ _ c.loop-slot-test.true c.slot-item.is _ _ c.loop-slot.invariant c.in_ok-keep.ensures

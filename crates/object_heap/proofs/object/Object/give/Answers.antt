use Rattle.object_heap.proofs.GivenLaws.{row_given}
use Rattle.object_heap.proofs.object.Object.give.Goals as goal

pub returns-in-Some-clause-ok : goal.returns-in-Some-clause-ok
returns-in-Some-clause-ok g c =
    row_given _ c.args.self.now c.self.view_is c.args.key c.args.slot c.in-Some.place c.in-Some.ensures c.set_slot.new.self c.set_slot.ensures

use Rattle.object_heap.proofs.GivenLaws.{row_given_first, row_inserted}
use Rattle.object_heap.proofs.object.Object.give_first.Goals as goal

pub returns-in-Some-clause-ok : goal.returns-in-Some-clause-ok
returns-in-Some-clause-ok g c =
    row_given_first _ c.args.self.now c.self.view_is c.args.key c.args.slot c.in-Some.place c.in-Some.ensures c.set_slot.new.self c.set_slot.ensures

pub returns-in_ok-insert-in-None-clause-ok : goal.returns-in_ok-insert-in-None-clause-ok
returns-in_ok-insert-in-None-clause-ok g c =
    row_inserted _ c.args.self.now c.self.view_is c.args.key c.args.slot c.first_place-place.result c.in-None.ensures c.first_place-place.ensures.place c.insert.new.self c.in_ok-insert-in-None.ensures.ok

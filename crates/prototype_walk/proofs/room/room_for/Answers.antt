use Rattle.std.proofs.Common.{◌≡◌, Some, IfOk, sym, ap, subst, ◌∙◌}
use Rattle.std.specs.Option.{option_map}
use Rattle.js_values.specs.Arrays.{length_key, element_label}
use Rattle.js_values.specs.Readings.{read_slot}
use Rattle.prototype_walk.specs.Answers.{Means}
use Rattle.prototype_walk.specs.Plans.{gets_element}
use Rattle.prototype_walk.proofs.HeldLaws.{own_has}
use Rattle.prototype_walk.proofs.room.room_for.Goals as goal

pub room_beside-requires : goal.room_beside-requires
room_beside-requires g c = own_has (g.L.Labels.made c.args.labels.now) c.args.heap.now c.args.o.0 length_key c.in-Some.slot.now c.requires.belongs (sym c.in-Some.ensures)

pub returns-in-Some-clause-allowed : goal.returns-in-Some-clause-allowed
returns-in-Some-clause-allowed g c = subst (λ s. IfOk c.room_beside.result (λ room. room.allowed ≡ gets_element (Some c.args.i) s)) c.in-Some.ensures c.room_beside.ensures.allowed

pub returns-in-Some-clause-label : goal.returns-in-Some-clause-label
returns-in-Some-clause-label g c = subst (λ s. IfOk c.room_beside.result (λ room. Means g.L.Labels.made g.L.Labels.meaning c.room_beside.new.labels room.label (λ reading. element_label (Some c.args.i) (option_map (read_slot reading) s)))) c.in-Some.ensures c.room_beside.ensures.label

pub returns-in-None-clause-allowed : goal.returns-in-None-clause-allowed
returns-in-None-clause-allowed g c = ap (gets_element (Some c.args.i)) c.in-None.ensures

pub returns-in-None-clause-label : goal.returns-in-None-clause-label
returns-in-None-clause-label g c = record {
  belongs = c.bottom.ensures.made;
  is = λ reading read. read.agrees c.bottom.result c.bottom.ensures.made ∙ c.bottom.ensures.meaning ∙ ap (λ s. element_label (Some c.args.i) (option_map (read_slot reading) s)) c.in-None.ensures;
}

use Rattle.std.proofs.Common.{sym, ◌≡◌}
use Rattle.origin_labels.specs.Label.{union}
use Rattle.js_values.specs.declared.value.Value.TheVariants as value
use Rattle.property_access.proofs.HeldLaws.{own_has}
use Rattle.step_numbers.specs.Evaluated.{integer}
use Rattle.step_numbers.proofs.GlobalLaws.{ok_has, value_is_held}
use Rattle.step_numbers.proofs.evaluating.global_number.Goals as goal

pub join-requires-clause-first : goal.join-requires-clause-first
join-requires-clause-first g c = (own_has c.args.world.now.heap 1 (g.L.Labels.made c.args.labels.now) c.args.name.now c.in_ok-slot.slot.now c.requires.heap (sym c.in_ok-slot.ensures)).1

pub join-requires-clause-second : goal.join-requires-clause-second
join-requires-clause-second g c = (own_has c.args.world.now.heap 1 (g.L.Labels.made c.args.labels.now) c.args.name.now c.in_ok-slot.slot.now c.requires.heap (sym c.in_ok-slot.ensures)).0

pub returns-clause-held : goal.returns-clause-held
returns-clause-held g c =
    let slot = own_has c.args.world.now.heap 1 (g.L.Labels.made c.args.labels.now) c.args.name.now c.in_ok-slot.slot.now c.requires.heap (sym c.in_ok-slot.ensures) in
    let joined = c.in_ok-label.ensures.value in
    let made = ok_has (g.L.Labels.made c.join.new.self) c.join.result c.in_ok-label.label joined c.join.ensures.made in
    let means = ok_has (λ l. g.L.Labels.meaning c.join.new.self l ≡ union (g.L.Labels.meaning c.args.labels.now c.in_ok-slot.slot.now.existence) (g.L.Labels.meaning c.args.labels.now c.in_ok-slot.slot.now.label)) c.join.result c.in_ok-label.label joined c.join.ensures.meaning in
    value_is_held g.L.Labels.made g.L.Labels.meaning g.L.Labels.room g.L.Labels.firm c.args.labels.now c.join.new.self c.join.ensures.kept g.met.L.Labels.rising c.args.name.now c.args.world.now.heap c.in_ok-slot.slot.now (value.Primitive (integer c.in_ok-number.number)) c.in_ok-label.label (sym c.in_ok-slot.ensures)
    c.in_ok-number.ensures.holds slot made means

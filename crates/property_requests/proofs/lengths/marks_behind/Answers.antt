use Rattle.std.proofs.Common.{Option, ap, ◌∙◌}
use Rattle.js_values.specs.declared.property.Slot.{Slot}
use Rattle.property_requests.specs.Lengths.{marks_behind}
use Rattle.property_requests.proofs.lengths.marks_behind.Goals as goal

pub returns-in-None : goal.returns-in-None
returns-in-None g c = ap (λ (x : Option (Slot g.row.T.Denot)). marks_behind c.args.how c.args.number x) c.in-None.ensures

pub returns-in-Some : goal.returns-in-Some
returns-in-Some g c = c.marks_over.ensures ∙ ap (λ (x : Option (Slot g.row.T.Denot)). marks_behind c.args.how c.args.number x) c.in-Some.ensures

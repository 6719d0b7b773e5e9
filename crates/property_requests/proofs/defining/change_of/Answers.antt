use Rattle.property_requests.proofs.ChangingLaws.{marks_are}
use Rattle.property_requests.proofs.defining.change_of.Goals as goal

pub returns-clause-change : goal.returns-clause-change
returns-clause-change g c = record {
  marks = marks_are c.args.slot.now c.args.definition c.is_accessor.result c.becomes_accessor-accessor.result c.is_accessor.ensures c.becomes_accessor-accessor.ensures c.marks_of_kind-marks.result c.marks_of_kind-marks.ensures;
  body = c.in_ok-body.ensures.body;
}

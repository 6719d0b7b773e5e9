use Rattle.std.proofs.Common.{sym, ◌∙◌}
use Rattle.std.proofs.lemmas.Bool.{cond-true, cond-false}
use Rattle.origin_labels.specs.Label.{union}
use Rattle.prototype_walk.proofs.room.room_beside.Goals as goal

pub returns-then-slot-clause-label : goal.returns-then-slot-clause-label
returns-then-slot-clause-label g c = record {
  belongs = c.requires.1;
  is = λ reading read. sym (cond-true c.args.slot.now.marks.writable (reading c.args.slot.now.existence) (union (reading c.args.slot.now.existence) (reading c.args.slot.now.label)) c.if-slot.true);
}

pub returns-clause-label : goal.returns-clause-label
returns-clause-label g c = record {
  belongs = c.in_ok-label.ensures.means.belongs;
  is = λ reading read. c.in_ok-label.ensures.means.is reading read ∙ sym (cond-false c.args.slot.now.marks.writable (reading c.args.slot.now.existence) (union (reading c.args.slot.now.existence) (reading c.args.slot.now.label)) c.if-slot.false);
}

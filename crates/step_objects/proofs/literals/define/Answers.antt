use Rattle.std.proofs.Common.{sym}
use Rattle.property_access.proofs.HeldLaws.{own_has}
use Rattle.property_access.proofs.MeansLaws.{means_later}
use Rattle.step_objects.specs.Literals.{kind_of, label_over}
use Rattle.step_objects.proofs.LiteralLaws.{defines_absent, defines_present}
use Rattle.step_objects.proofs.literals.define.Goals as goal

pub returns-in_default-clause-does : goal.returns-in_default-clause-does
returns-in_default-clause-does g c =
    defines_absent g.L.Labels.made g.L.Labels.meaning c.add.new.labels c.args.heap.now c.add.new.self c.args.o.0 (kind_of c.args.part.part) c.args.part.key c.args.context c.args.part.value c.body_of-body.result c.marks_of-marks.result c.add.result
    (sym c.in_default.ensures) c.body_of-body.ensures c.marks_of-marks.ensures c.add.ensures.acts

pub label_over-requires-clause-old : goal.label_over-requires-clause-old
label_over-requires-clause-old g c = (own_has c.args.heap.now c.args.o.0 (g.L.Labels.made c.args.labels.now) c.args.part.key c.in-Some.slot.now c.requires.belongs (sym c.in-Some.ensures)).0

pub returns-clause-does : goal.returns-clause-does
returns-clause-does g c =
    defines_present g.L.Labels.made g.L.Labels.meaning c.redefine.new.labels c.args.heap.now c.redefine.new.heap c.args.o.0 (kind_of c.args.part.part) c.args.part.key c.args.context c.args.part.value c.in-Some.slot.now c.body_over-body.result c.marks_of-marks.result c.in_ok-label.label c.redefine.result
    (sym c.in-Some.ensures) c.body_over-body.ensures c.marks_of-marks.ensures
    (means_later g.L.Labels.made g.L.Labels.meaning g.L.Labels.room g.L.Labels.firm c.label_over.new.labels c.redefine.new.labels c.redefine.ensures.kept c.in_ok-label.label (λ reading. label_over (kind_of c.args.part.part) (reading c.args.part.value.label) (reading c.in-Some.slot.now.label)) c.in_ok-label.ensures.means)
    c.redefine.ensures.does

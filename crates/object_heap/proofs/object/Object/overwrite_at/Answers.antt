use Rattle.std.proofs.Common.{ap, sym, subst, true, false, Ok}
use Rattle.js_values.specs.declared.property.Slot.{Slot}
use Rattle.js_values.specs.Objects.{Object}
use Rattle.js_values.specs.Readings.{read_object}
use Rattle.object_heap.specs.Answers.{Acts}
use Rattle.origin_labels.specs.Label.{Label}
use Rattle.object_heap.specs.Acts.{overwrite_own, value_have, with_body}
use Rattle.object_heap.proofs.ActLaws.{acts_stopped, acts_done, change_stops, change_does, tested, joined_is, row_written, HasObject-at, placed, value_is}
use Rattle.js_values.proofs.ReadingLaws.{IsReading-earlier}
use Rattle.js_values.proofs.ReadingLaws.{HasObject-weaker}
use Rattle.object_heap.proofs.BelongLaws.{row_belongs}
use Rattle.object_heap.proofs.object.Object.overwrite_at.Goals as goal

pub returns-in_err-check-clause-acts : goal.returns-in_err-check-clause-acts
returns-in_err-check-clause-acts g c =
    let r = placed c.args.self.now c.args._name.now c.args.place c.requires.stands in
    let s = r.0.1 in
    let made = HasObject-at (g.L.Labels.made c.args.labels.now) c.args.self.now c.args._name.now s r.2 c.requires.belongs in
    let need = c.in_ok-have.ensures.kept.labels c.args.need c.requires.need in
    acts_stopped g.L.Labels.made g.L.Labels.meaning c.value_label.new.labels read_object (λ reading. overwrite_own c.args.rule c.args._name.now (reading c.args.need) c.args.body (reading c.args.label)) c.args.self.now c.args.rule c.args.need c.in_ok-have.have c.in_err-check.field-0.0 c.from_residual-in_err-check.result c.in_err-check.ensures.stops.0 need.0 c.in_ok-have.ensures.made
    (λ reading read. change_stops reading c.args.self.now c.args._name.now s r.2 c.args.rule value_have (with_body (reading c.args.need) c.args.body (reading c.args.label)) (reading c.args.need) (reading c.in_ok-have.have)
    (joined_is g.L.Labels.made g.L.Labels.meaning c.value_label.new.labels reading read g.L.Labels.room g.L.Labels.firm c.args.labels.now s.label s.existence c.in_ok-have.have c.in_ok-have.ensures.kept made.0 made.1 c.in_ok-have.ensures.made (value_is (g.L.Labels.meaning c.args.labels.now) c.args.self.now.rows c.args.place r.0 r.1 _ c.in_ok-have.ensures.meaning))
    (tested g.L.Labels.made g.L.Labels.meaning c.value_label.new.labels reading read c.args.need c.in_ok-have.have false need.0 c.in_ok-have.ensures.made c.in_err-check.ensures.stops.1))
    c.from_residual-in_err-check.ensures.1

pub returns-clause-acts : goal.returns-clause-acts
returns-clause-acts g c =
    let r = placed c.args.self.now c.args._name.now c.args.place c.requires.stands in
    let s = r.0.1 in
    let made = HasObject-at (g.L.Labels.made c.args.labels.now) c.args.self.now c.args._name.now s r.2 c.requires.belongs in
    let need = c.in_ok-have.ensures.kept.labels c.args.need c.requires.need in
    let label = c.in_ok-have.ensures.kept.labels c.args.label c.requires.label in
    let to = λ (x : Slot g.row.T.Denot). record x { body = c.args.body; label = c.in_ok-label.label } in
    subst (λ (p : Object g.row.T.Denot). Acts g.L.Labels.made g.L.Labels.meaning c.join.new.self read_object (λ reading. overwrite_own c.args.rule c.args._name.now (reading c.args.need) c.args.body (reading c.args.label)) c.args.self.now p (Ok tt))
    (sym (row_written _ c.args.self.now c.self.view_is c.args._name.now c.args.place c.requires.stands to c.set_body.new.self c.set_body.ensures))
    (acts_done g.L.Labels.made g.L.Labels.meaning c.join.new.self read_object (λ reading. overwrite_own c.args.rule c.args._name.now (reading c.args.need) c.args.body (reading c.args.label)) c.args.self.now _
    (λ reading read.
    let earlier = IsReading-earlier g.L.Labels.made g.L.Labels.meaning g.L.Labels.room g.L.Labels.firm c.value_label.new.labels c.join.new.self reading c.in_ok-label.ensures.kept read in
    let is = joined_is g.L.Labels.made g.L.Labels.meaning c.join.new.self reading read g.L.Labels.room g.L.Labels.firm c.value_label.new.labels c.args.label c.args.need c.in_ok-label.label c.in_ok-label.ensures.kept label.0 need.0 c.in_ok-label.ensures.made c.in_ok-label.ensures.meaning in
    change_does reading c.args.self.now c.args._name.now s r.2 c.args.rule value_have (with_body (reading c.args.need) c.args.body (reading c.args.label)) (reading c.args.need) (reading c.in_ok-have.have)
    (joined_is g.L.Labels.made g.L.Labels.meaning c.value_label.new.labels reading earlier g.L.Labels.room g.L.Labels.firm c.args.labels.now s.label s.existence c.in_ok-have.have c.in_ok-have.ensures.kept made.0 made.1 c.in_ok-have.ensures.made (value_is (g.L.Labels.meaning c.args.labels.now) c.args.self.now.rows c.args.place r.0 r.1 _ c.in_ok-have.ensures.meaning))
    to (tested g.L.Labels.made g.L.Labels.meaning c.value_label.new.labels reading earlier c.args.need c.in_ok-have.have true need.0 c.in_ok-have.ensures.made c.in_ok-check.ensures.allows)
    (ap (λ (l : Label). record { body = c.args.body; label = l; existence = reading s.existence; marks = s.marks }) (sym is))))

pub returns-clause-belongs : goal.returns-clause-belongs
returns-clause-belongs g c =
    let has = HasObject-weaker (g.L.Labels.made c.args.labels.now) (g.L.Labels.made c.join.new.self) (λ l m. (c.in_ok-label.ensures.kept.labels l (c.in_ok-have.ensures.kept.labels l m).0).0) c.args.self.now c.requires.belongs in
    row_belongs (g.L.Labels.made c.join.new.self) _ c.args.self.now c.self.view_is has (λ (x : Slot g.row.T.Denot). record x { body = c.args.body; label = c.in_ok-label.label }) (λ s h. (c.in_ok-label.ensures.made, h.1)) c.args.place c.set_body.new.self c.set_body.ensures

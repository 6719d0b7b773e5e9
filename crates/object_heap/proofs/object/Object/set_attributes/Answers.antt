use Rattle.std.proofs.Common.{sym, subst, refl, true, false, ◌∙◌, ◌≡◌, Some, Ok}
use Rattle.js_values.specs.declared.property.Slot.{Slot}
use Rattle.js_values.specs.Objects.{Object, own}
use Rattle.js_values.specs.Readings.{read_object}
use Rattle.object_heap.specs.Answers.{Acts}
use Rattle.flow_frames.specs.declared.faults.Rule.TheVariants.{W6}
use Rattle.object_heap.specs.Acts.{set_own_attributes, existence_have, with_marks}
use Rattle.object_heap.proofs.ActLaws.{acts_stopped, acts_done, change_stops, change_does, tested, row_written, HasObject-at}
use Rattle.object_heap.proofs.BelongLaws.{row_belongs}
use Rattle.object_heap.proofs.object.Object.set_attributes.Goals as goal

pub returns-in_err-check-clause-acts : goal.returns-in_err-check-clause-acts
returns-in_err-check-clause-acts g c =
    let s = c.slot.result.now in
    let here : own c.args.key.now c.args.self.now.rows ≡ Some s = sym c.present-place.ensures.here ∙ c.slot.ensures in
    let have = HasObject-at (g.L.Labels.made c.args.labels.now) c.args.self.now c.args.key.now s here c.requires.belongs in
    acts_stopped g.L.Labels.made g.L.Labels.meaning c.args.labels.now read_object (λ reading. set_own_attributes c.args.key.now (reading c.args.need) c.args.marks) c.args.self.now W6 c.args.need s.existence c.in_err-check.field-0.0 c.from_residual.result c.in_err-check.ensures.stops.0 c.requires.need have.1
    (λ reading read. change_stops reading c.args.self.now c.args.key.now s here W6 existence_have (with_marks c.args.marks) (reading c.args.need) (reading s.existence) refl (tested g.L.Labels.made g.L.Labels.meaning c.args.labels.now reading read c.args.need s.existence false c.requires.need have.1 c.in_err-check.ensures.stops.1))
    c.from_residual.ensures.1

pub returns-clause-acts : goal.returns-clause-acts
returns-clause-acts g c =
    let s = c.slot.result.now in
    let here : own c.args.key.now c.args.self.now.rows ≡ Some s = sym c.present-place.ensures.here ∙ c.slot.ensures in
    let have = HasObject-at (g.L.Labels.made c.args.labels.now) c.args.self.now c.args.key.now s here c.requires.belongs in
    let to = λ (x : Slot g.row.T.Denot). record x { marks = c.args.marks } in
    subst (λ (p : Object g.row.T.Denot). Acts g.L.Labels.made g.L.Labels.meaning c.args.labels.now read_object (λ reading. set_own_attributes c.args.key.now (reading c.args.need) c.args.marks) c.args.self.now p (Ok tt))
    (sym (row_written _ c.args.self.now c.self.view_is c.args.key.now c.present-place.result c.present-place.ensures to c.set_marks.new.self c.set_marks.ensures))
    (acts_done g.L.Labels.made g.L.Labels.meaning c.args.labels.now read_object (λ reading. set_own_attributes c.args.key.now (reading c.args.need) c.args.marks) c.args.self.now _
    (λ reading read. change_does reading c.args.self.now c.args.key.now s here W6 existence_have (with_marks c.args.marks) (reading c.args.need) (reading s.existence) refl to (tested g.L.Labels.made g.L.Labels.meaning c.args.labels.now reading read c.args.need s.existence true c.requires.need have.1 c.in_ok-check.ensures.allows) refl))

pub returns-clause-belongs : goal.returns-clause-belongs
returns-clause-belongs g c =
    row_belongs (g.L.Labels.made c.args.labels.now) _ c.args.self.now c.self.view_is c.requires.belongs (λ (x : Slot g.row.T.Denot). record x { marks = c.args.marks }) (λ s h. h) c.present-place.result c.set_marks.new.self c.set_marks.ensures

pub check-requires-clause-have : goal.check-requires-clause-have
check-requires-clause-have g c =
    let here : own c.args.key.now c.args.self.now.rows ≡ Some c.slot.result.now = sym c.present-place.ensures.here ∙ c.slot.ensures in
    (HasObject-at (g.L.Labels.made c.args.labels.now) c.args.self.now c.args.key.now c.slot.result.now here c.requires.belongs).1

use Rattle.std.proofs.Common.{ap, sym, subst, refl, true, false, ◌∙◌, ◌≡◌, Some, Ok}
use Rattle.js_values.specs.declared.property.Slot.{Slot}
use Rattle.js_values.specs.Objects.{Object, own}
use Rattle.js_values.specs.Readings.{read_object}
use Rattle.origin_labels.specs.Label.{Label}
use Rattle.object_heap.specs.Answers.{Acts}
use Rattle.flow_frames.specs.declared.faults.Rule.TheVariants.{W8}
use Rattle.object_heap.specs.Acts.{raise_own_existence, existence_have, with_existence}
use Rattle.object_heap.proofs.ActLaws.{acts_stopped, acts_done, change_stops, change_does, tested, joined_is, row_written, HasObject-at}
use Rattle.js_values.proofs.ReadingLaws.{IsReading-earlier}
use Rattle.js_values.proofs.ReadingLaws.{HasObject-weaker}
use Rattle.object_heap.proofs.BelongLaws.{row_belongs}
use Rattle.object_heap.proofs.object.Object.raise_existence.Goals as goal

pub returns-in_err-check-clause-acts : goal.returns-in_err-check-clause-acts
returns-in_err-check-clause-acts g c =
    let s = c.slot.result.now in
    let here : own c.args.key.now c.args.self.now.rows ≡ Some s = sym c.present-place.ensures.here ∙ c.slot.ensures in
    let have = HasObject-at (g.L.Labels.made c.args.labels.now) c.args.self.now c.args.key.now s here c.requires.belongs in
    acts_stopped g.L.Labels.made g.L.Labels.meaning c.args.labels.now read_object (λ reading. raise_own_existence c.args.key.now (reading c.args.need) (reading c.args.label)) c.args.self.now W8 c.args.need s.existence c.in_err-check.field-0.0 c.from_residual.result c.in_err-check.ensures.stops.0 c.requires.need have.1
    (λ reading read. change_stops reading c.args.self.now c.args.key.now s here W8 existence_have (with_existence (reading c.args.label)) (reading c.args.need) (reading s.existence) refl (tested g.L.Labels.made g.L.Labels.meaning c.args.labels.now reading read c.args.need s.existence false c.requires.need have.1 c.in_err-check.ensures.stops.1))
    c.from_residual.ensures.1

pub returns-clause-acts : goal.returns-clause-acts
returns-clause-acts g c =
    let s = c.slot.result.now in
    let here : own c.args.key.now c.args.self.now.rows ≡ Some s = sym c.present-place.ensures.here ∙ c.slot.ensures in
    let have = HasObject-at (g.L.Labels.made c.args.labels.now) c.args.self.now c.args.key.now s here c.requires.belongs in
    let to = λ (x : Slot g.row.T.Denot). record x { existence = c.in_ok-raised.raised } in
    subst (λ (p : Object g.row.T.Denot). Acts g.L.Labels.made g.L.Labels.meaning c.join.new.self read_object (λ reading. raise_own_existence c.args.key.now (reading c.args.need) (reading c.args.label)) c.args.self.now p (Ok tt))
    (sym (row_written _ c.args.self.now c.self.view_is c.args.key.now c.present-place.result c.present-place.ensures to c.set_existence.new.self c.set_existence.ensures))
    (acts_done g.L.Labels.made g.L.Labels.meaning c.join.new.self read_object (λ reading. raise_own_existence c.args.key.now (reading c.args.need) (reading c.args.label)) c.args.self.now _
    (λ reading read.
    let earlier = IsReading-earlier g.L.Labels.made g.L.Labels.meaning g.L.Labels.room g.L.Labels.firm c.args.labels.now c.join.new.self reading c.in_ok-raised.ensures.kept read in
    let is = joined_is g.L.Labels.made g.L.Labels.meaning c.join.new.self reading read g.L.Labels.room g.L.Labels.firm c.args.labels.now s.existence c.args.label c.in_ok-raised.raised c.in_ok-raised.ensures.kept have.1 c.requires.label c.in_ok-raised.ensures.made c.in_ok-raised.ensures.meaning in
    change_does reading c.args.self.now c.args.key.now s here W8 existence_have (with_existence (reading c.args.label)) (reading c.args.need) (reading s.existence) refl to (tested g.L.Labels.made g.L.Labels.meaning c.args.labels.now reading earlier c.args.need s.existence true c.requires.need have.1 c.in_ok-check.ensures.allows)
    (ap (λ (e : Label). record { body = s.body; label = reading s.label; existence = e; marks = s.marks }) (sym is))))

pub returns-clause-belongs : goal.returns-clause-belongs
returns-clause-belongs g c =
    let has = HasObject-weaker (g.L.Labels.made c.args.labels.now) (g.L.Labels.made c.join.new.self) (λ l m. (c.in_ok-raised.ensures.kept.labels l m).0) c.args.self.now c.requires.belongs in
    row_belongs (g.L.Labels.made c.join.new.self) _ c.args.self.now c.self.view_is has (λ (x : Slot g.row.T.Denot). record x { existence = c.in_ok-raised.raised }) (λ s h. (h.0, c.in_ok-raised.ensures.made)) c.present-place.result c.set_existence.new.self c.set_existence.ensures

pub check-requires-clause-have : goal.check-requires-clause-have
check-requires-clause-have g c =
    let here : own c.args.key.now c.args.self.now.rows ≡ Some c.slot.result.now = sym c.present-place.ensures.here ∙ c.slot.ensures in
    (HasObject-at (g.L.Labels.made c.args.labels.now) c.args.self.now c.args.key.now c.slot.result.now here c.requires.belongs).1

pub join-requires-clause-first : goal.join-requires-clause-first
join-requires-clause-first g c =
    let here : own c.args.key.now c.args.self.now.rows ≡ Some c.slot.result.now = sym c.present-place.ensures.here ∙ c.slot.ensures in
    (HasObject-at (g.L.Labels.made c.args.labels.now) c.args.self.now c.args.key.now c.slot.result.now here c.requires.belongs).1

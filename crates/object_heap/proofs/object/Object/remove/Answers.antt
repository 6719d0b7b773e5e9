use Rattle.std.proofs.Common.{ap, sym, subst, true, false, ◌∙◌, ◌≡◌, List, ℕ, Some, Ok, take, drop, ◌++◌, suc}
use Rattle.js_values.specs.declared.property.Slot.{Slot}
use Rattle.js_values.specs.Objects.{Object, own}
use Rattle.js_values.specs.Readings.{read_object}
use Rattle.object_heap.specs.Answers.{Acts}
use Rattle.flow_frames.specs.declared.faults.Rule.TheVariants.{W4, W5}
use Rattle.origin_labels.specs.Label.{within}
use Rattle.object_heap.specs.Acts.{remove_own, with_rows}
use Rattle.object_heap.proofs.ActLaws.{acts_stopped, acts_done, remove_stops_first, remove_stops_second, remove_does, tested, HasObject-at}
use Rattle.object_heap.proofs.BelongLaws.{removed_belongs}
use Rattle.object_heap.proofs.object.Object.remove.Goals as goal

pub returns-in_err-check-clause-acts : goal.returns-in_err-check-clause-acts
returns-in_err-check-clause-acts g c =
    let s = c.slot.result.now in
    let here : own c.args.key.now c.args.self.now.rows ≡ Some s = sym c.present-place.ensures.here ∙ c.slot.ensures in
    let have = HasObject-at (g.L.Labels.made c.args.labels.now) c.args.self.now c.args.key.now s here c.requires.belongs in
    acts_stopped g.L.Labels.made g.L.Labels.meaning c.args.labels.now read_object (λ reading. remove_own c.args.key.now (reading c.args.need)) c.args.self.now W4 c.args.need s.existence c.in_err-check.field-0.0 c.from_residual.result c.in_err-check.ensures.stops.0 c.requires.need have.1
    (λ reading read. remove_stops_first reading c.args.self.now c.args.key.now s here (reading c.args.need) (tested g.L.Labels.made g.L.Labels.meaning c.args.labels.now reading read c.args.need s.existence false c.requires.need have.1 c.in_err-check.ensures.stops.1))
    c.from_residual.ensures.1

pub returns-in_err-check-2-clause-acts : goal.returns-in_err-check-2-clause-acts
returns-in_err-check-2-clause-acts g c =
    let s = c.slot.result.now in
    let here : own c.args.key.now c.args.self.now.rows ≡ Some s = sym c.present-place.ensures.here ∙ c.slot.ensures in
    let have = HasObject-at (g.L.Labels.made c.args.labels.now) c.args.self.now c.args.key.now s here c.requires.belongs in
    let structure = ap (λ (p : Object g.row.T.Denot). p.structure) c.self.view_is in
    acts_stopped g.L.Labels.made g.L.Labels.meaning c.args.labels.now read_object (λ reading. remove_own c.args.key.now (reading c.args.need)) c.args.self.now W5 c.args.need c.args.self.now.structure c.in_err-check-2.field-0.0 c.from_residual-in_err-check-2.result (c.in_err-check-2.ensures.stops.0 ∙ ap (λ (h : g.row.T.Denot). record { rule = W5; need = c.args.need; have = h }) structure) c.requires.need c.requires.belongs.structure
    (λ reading read. remove_stops_second reading c.args.self.now c.args.key.now s here (reading c.args.need) (tested g.L.Labels.made g.L.Labels.meaning c.args.labels.now reading read c.args.need s.existence true c.requires.need have.1 c.in_ok-check.ensures.allows) (tested g.L.Labels.made g.L.Labels.meaning c.args.labels.now reading read c.args.need c.args.self.now.structure false c.requires.need c.requires.belongs.structure (sym (ap (λ (h : g.row.T.Denot). within (g.L.Labels.meaning c.args.labels.now c.args.need) (g.L.Labels.meaning c.args.labels.now h)) structure) ∙ c.in_err-check-2.ensures.stops.1)))
    c.from_residual-in_err-check-2.ensures.1

pub returns-clause-acts : goal.returns-clause-acts
returns-clause-acts g c =
    let s = c.slot.result.now in
    let here : own c.args.key.now c.args.self.now.rows ≡ Some s = sym c.present-place.ensures.here ∙ c.slot.ensures in
    let have = HasObject-at (g.L.Labels.made c.args.labels.now) c.args.self.now c.args.key.now s here c.requires.belongs in
    let structure = ap (λ (p : Object g.row.T.Denot). p.structure) c.self.view_is in
    let written = ap (λ (rows : List (List ℕ × Slot g.row.T.Denot)). record { class = c.self.inside.class; inner = c.self.inside.inner; proto = c.self.inside.proto; link = c.self.inside.link; structure = c.self.inside.structure; extensible = c.self.inside.extensible; rows = rows }) c.remove.ensures ∙ ap (λ (p : Object g.row.T.Denot). with_rows p (take c.present-place.result p.rows ++ drop (suc c.present-place.result) p.rows)) c.self.view_is ∙ ap (with_rows c.args.self.now) c.present-place.ensures.removes in
    subst (λ (p : Object g.row.T.Denot). Acts g.L.Labels.made g.L.Labels.meaning c.args.labels.now read_object (λ reading. remove_own c.args.key.now (reading c.args.need)) c.args.self.now p (Ok tt)) (sym written)
    (acts_done g.L.Labels.made g.L.Labels.meaning c.args.labels.now read_object (λ reading. remove_own c.args.key.now (reading c.args.need)) c.args.self.now _
    (λ reading read. remove_does reading c.args.self.now c.args.key.now s here (reading c.args.need) (tested g.L.Labels.made g.L.Labels.meaning c.args.labels.now reading read c.args.need s.existence true c.requires.need have.1 c.in_ok-check.ensures.allows) (tested g.L.Labels.made g.L.Labels.meaning c.args.labels.now reading read c.args.need c.args.self.now.structure true c.requires.need c.requires.belongs.structure (sym (ap (λ (h : g.row.T.Denot). within (g.L.Labels.meaning c.args.labels.now c.args.need) (g.L.Labels.meaning c.args.labels.now h)) structure) ∙ c.in_ok-check-2.ensures.allows))))

pub returns-clause-belongs : goal.returns-clause-belongs
returns-clause-belongs g c =
    removed_belongs (g.L.Labels.made c.args.labels.now) _ c.args.self.now c.self.view_is c.requires.belongs c.present-place.result c.remove.new.self c.remove.ensures

pub check-requires-clause-have : goal.check-requires-clause-have
check-requires-clause-have g c =
    let here : own c.args.key.now c.args.self.now.rows ≡ Some c.slot.result.now = sym c.present-place.ensures.here ∙ c.slot.ensures in
    (HasObject-at (g.L.Labels.made c.args.labels.now) c.args.self.now c.args.key.now c.slot.result.now here c.requires.belongs).1

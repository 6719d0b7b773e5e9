use Rattle.std.proofs.Common.{ap, sym, false, true, Ok, ◌∙◌}
use Rattle.js_values.specs.Objects.{Object}
use Rattle.js_values.specs.Readings.{read_object}
use Rattle.origin_labels.specs.Label.{within}
use Rattle.flow_frames.specs.declared.faults.Rule.TheVariants.{W3}
use Rattle.object_heap.specs.Acts.{add_own}
use Rattle.object_heap.specs.Lengths.{add_past}
use Rattle.js_values.proofs.ReadingLaws.{IsReading-earlier}
use Rattle.object_heap.proofs.ActLaws.{acts_stopped, acts_done, tested}
use Rattle.object_heap.proofs.AddLaws.{add_stops, add_below, add_at_past, acts_as}
use Rattle.object_heap.proofs.BoundLaws.{element_below}
use Rattle.object_heap.proofs.object.Object.add.Goals as goal

pub returns-in_err-check-clause-acts : goal.returns-in_err-check-clause-acts
returns-in_err-check-clause-acts g c =
    let structure = ap (λ (p : Object g.row.T.Denot). p.structure) c.self.view_is in
    acts_stopped g.L.Labels.made g.L.Labels.meaning c.args.labels.now read_object (λ reading. add_own c.args.key (reading c.args.need) c.args.body (reading c.args.label) c.args.marks) c.args.self.now W3 c.args.need c.args.self.now.structure c.in_err-check.field-0.0 c.from_residual.result (c.in_err-check.ensures.stops.0 ∙ ap (λ (h : g.row.T.Denot). record { rule = W3; need = c.args.need; have = h }) structure) c.requires.need c.requires.belongs.structure
    (λ reading read. add_stops reading c.args.self.now c.args.key c.requires.absent (reading c.args.need) c.args.body (reading c.args.label) c.args.marks (tested g.L.Labels.made g.L.Labels.meaning c.args.labels.now reading read c.args.need c.args.self.now.structure false c.requires.need c.requires.belongs.structure (sym (ap (λ (h : g.row.T.Denot). within (g.L.Labels.meaning c.args.labels.now c.args.need) (g.L.Labels.meaning c.args.labels.now h)) structure) ∙ c.in_err-check.ensures.stops.1)))
    c.from_residual.ensures.1

pub add_past-requires-clause-element : goal.add_past-requires-clause-element
add_past-requires-clause-element g c = element_below c.args.self.now.class c.args.key c.in-Some.i c.in-Some.ensures.element

pub returns-in-Some-clause-acts : goal.returns-in-Some-clause-acts
returns-in-Some-clause-acts g c =
    let structure = ap (λ (p : Object g.row.T.Denot). p.structure) c.self.view_is in
    acts_as g.L.Labels.made g.L.Labels.meaning c.add_past.new.labels read_object (λ reading. add_own c.args.key (reading c.args.need) c.args.body (reading c.args.label) c.args.marks) (λ reading. add_past c.in-Some.i c.args.key (reading c.args.need) c.args.body (reading c.args.label) c.args.marks) c.args.self.now
    (λ reading read.
    let earlier = IsReading-earlier g.L.Labels.made g.L.Labels.meaning g.L.Labels.room g.L.Labels.firm c.args.labels.now c.add_past.new.labels reading c.add_past.ensures.kept read in
    add_at_past reading c.args.self.now c.args.key c.requires.absent (reading c.args.need) c.args.body (reading c.args.label) c.args.marks (tested g.L.Labels.made g.L.Labels.meaning c.args.labels.now reading earlier c.args.need c.args.self.now.structure true c.requires.need c.requires.belongs.structure (sym (ap (λ (h : g.row.T.Denot). within (g.L.Labels.meaning c.args.labels.now c.args.need) (g.L.Labels.meaning c.args.labels.now h)) structure) ∙ c.in_ok-check.ensures.allows)) c.in-Some.i c.in-Some.ensures)
    c.add_past.new.self c.add_past.result c.add_past.ensures.acts

pub returns-clause-acts : goal.returns-clause-acts
returns-clause-acts g c =
    let structure = ap (λ (p : Object g.row.T.Denot). p.structure) c.self.view_is in
    acts_done g.L.Labels.made g.L.Labels.meaning c.append.new.labels read_object (λ reading. add_own c.args.key (reading c.args.need) c.args.body (reading c.args.label) c.args.marks) c.args.self.now c.append.new.self
    (λ reading read.
    let earlier = IsReading-earlier g.L.Labels.made g.L.Labels.meaning g.L.Labels.room g.L.Labels.firm c.args.labels.now c.append.new.labels reading c.append.ensures.kept read in
    add_below reading c.args.self.now c.args.key c.requires.absent (reading c.args.need) c.args.body (reading c.args.label) c.args.marks (tested g.L.Labels.made g.L.Labels.meaning c.args.labels.now reading earlier c.args.need c.args.self.now.structure true c.requires.need c.requires.belongs.structure (sym (ap (λ (h : g.row.T.Denot). within (g.L.Labels.meaning c.args.labels.now c.args.need) (g.L.Labels.meaning c.args.labels.now h)) structure) ∙ c.in_ok-check.ensures.allows)) c.in_default.ensures
    ∙ ap Ok (c.in_ok-append.ensures.does reading read))

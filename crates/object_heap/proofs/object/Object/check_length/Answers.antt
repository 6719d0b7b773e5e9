use Rattle.std.proofs.Common.{true, false}
use Rattle.js_values.specs.Readings.{read_object}
use Rattle.flow_frames.specs.declared.faults.Rule.TheVariants.{W2}
use Rattle.js_values.specs.Arrays.{length_key}
use Rattle.object_heap.specs.Lengths.{ask_length}
use Rattle.object_heap.proofs.ActLaws.{acts_stopped, acts_done, tested, joined_is, HasObject-at, placed, value_is}
use Rattle.object_heap.proofs.AddLaws.{asked_stops, asked_does}
use Rattle.object_heap.proofs.object.Object.check_length.Goals as goal

pub returns-in_err-check-clause-acts : goal.returns-in_err-check-clause-acts
returns-in_err-check-clause-acts g c =
    let r = placed c.args.self.now length_key c.length_place-place.result c.length_place-place.ensures in
    let s = r.0.1 in
    let made = HasObject-at (g.L.Labels.made c.args.labels.now) c.args.self.now length_key s r.2 c.requires.belongs in
    let need = c.in_ok-have.ensures.kept.labels c.args.need c.requires.need in
    acts_stopped g.L.Labels.made g.L.Labels.meaning c.value_label.new.labels read_object (λ reading. ask_length (reading c.args.need)) c.args.self.now W2 c.args.need c.in_ok-have.have c.in_err-check.field-0.0 c.from_residual-in_err-check.result c.in_err-check.ensures.stops.0 need.0 c.in_ok-have.ensures.made
    (λ reading read. asked_stops reading c.args.self.now s r.2 (reading c.args.need) (reading c.in_ok-have.have)
    (joined_is g.L.Labels.made g.L.Labels.meaning c.value_label.new.labels reading read g.L.Labels.room g.L.Labels.firm c.args.labels.now s.label s.existence c.in_ok-have.have c.in_ok-have.ensures.kept made.0 made.1 c.in_ok-have.ensures.made (value_is (g.L.Labels.meaning c.args.labels.now) c.args.self.now.rows c.length_place-place.result r.0 r.1 _ c.in_ok-have.ensures.meaning))
    (tested g.L.Labels.made g.L.Labels.meaning c.value_label.new.labels reading read c.args.need c.in_ok-have.have false need.0 c.in_ok-have.ensures.made c.in_err-check.ensures.stops.1))
    c.from_residual-in_err-check.ensures.1

pub returns-clause-acts : goal.returns-clause-acts
returns-clause-acts g c =
    let r = placed c.args.self.now length_key c.length_place-place.result c.length_place-place.ensures in
    let s = r.0.1 in
    let made = HasObject-at (g.L.Labels.made c.args.labels.now) c.args.self.now length_key s r.2 c.requires.belongs in
    let need = c.in_ok-have.ensures.kept.labels c.args.need c.requires.need in
    acts_done g.L.Labels.made g.L.Labels.meaning c.value_label.new.labels read_object (λ reading. ask_length (reading c.args.need)) c.args.self.now c.args.self.now
    (λ reading read. asked_does reading c.args.self.now s r.2 (reading c.args.need) (reading c.in_ok-have.have)
    (joined_is g.L.Labels.made g.L.Labels.meaning c.value_label.new.labels reading read g.L.Labels.room g.L.Labels.firm c.args.labels.now s.label s.existence c.in_ok-have.have c.in_ok-have.ensures.kept made.0 made.1 c.in_ok-have.ensures.made (value_is (g.L.Labels.meaning c.args.labels.now) c.args.self.now.rows c.length_place-place.result r.0 r.1 _ c.in_ok-have.ensures.meaning))
    (tested g.L.Labels.made g.L.Labels.meaning c.value_label.new.labels reading read c.args.need c.in_ok-have.have true need.0 c.in_ok-have.ensures.made c.in_ok-check.ensures.allows))

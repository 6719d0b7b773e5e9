use Rattle.std.proofs.Common.{arith, ◌≤◌, length, map, refl, Ok}
use Rattle.origin_labels.specs.Label.{union}
use Rattle.origin_labels.proofs.StoreLaws.{IsKept-trans}
use Rattle.flow_frames.specs.Frames.{context}
use Rattle.flow_frames.specs.Held.{seen_frame}
use Rattle.js_values.specs.Readings.{read_value}
use Rattle.object_heap.specs.Acts as heap_acts
use Rattle.run_state.specs.declared.outcome.Outcome.TheVariants as outcome
use Rattle.run_state.proofs.ActLaws.{Belongs-later}
use Rattle.property_access.proofs.MeansLaws.{means_later}
use Rattle.property_access.proofs.ObjectLaws.{with_heap, Belongs-heap, heap_done, heap_refused}
use Rattle.property_requests.specs.Finding.{nothing}
use Rattle.property_requests.proofs.ExtendingLaws.{prevents_nowhere, prevents}
use Rattle.property_requests.proofs.extending.prevent.Goals as goal

pub returns-then-o-len-clause-acts : goal.returns-then-o-len-clause-acts
returns-then-o-len-clause-acts g c =
    let past : length c.args.world.now.heap ≤ c.args.o.0 = omega (arith, c.len.ensures.length, c.if-o-len.true) in
    prevents_nowhere g.L.Labels.made g.L.Labels.meaning c.args.labels.now c.args.world.now c.args.o.0 c.args.label c.undefined.result c.undefined.ensures past

pub returns-in_err-need-clause-belongs : goal.returns-in_err-need-clause-belongs
returns-in_err-need-clause-belongs g c = Belongs-later g.L.Labels.made g.L.Labels.meaning g.L.Labels.room g.L.Labels.firm c.args.labels.now c.need_of.new.labels c.need_of.ensures.kept g.met.L.Labels.rising c.args.world.now c.requires.belongs

pub returns-in_err-prevent_extensions-clause-acts : goal.returns-in_err-prevent_extensions-clause-acts
returns-in_err-prevent_extensions-clause-acts g c =
    prevents g.L.Labels.made g.L.Labels.meaning c.prevent_extensions.new.labels c.args.world.now c.args.o.0 c.args.label (nothing c.args.label) refl c.in_ok-need.need (with_heap c.prevent_extensions.new.self c.args.world.now) c.from_residual-in_err-prevent_extensions.result
    (means_later g.L.Labels.made g.L.Labels.meaning g.L.Labels.room g.L.Labels.firm c.need_of.new.labels c.prevent_extensions.new.labels c.prevent_extensions.ensures.kept c.in_ok-need.need (λ reading. union (context (map (seen_frame reading) c.args.world.now.frames.frames)) (reading c.args.label)) c.in_ok-need.ensures.means)
    (heap_refused g.L.Labels.made g.L.Labels.meaning c.prevent_extensions.new.labels c.args.world.now (λ reading. read_value reading) (nothing c.args.label) (λ reading. heap_acts.prevent_extensions c.args.o.0 (reading c.in_ok-need.need)) c.prevent_extensions.new.self
    c.prevent_extensions.result c.in_err-prevent_extensions.field-0.0 c.from_residual-in_err-prevent_extensions.result c.in_err-prevent_extensions.was c.from_residual-in_err-prevent_extensions.ensures.1 c.prevent_extensions.ensures.acts)

pub returns-in_err-prevent_extensions-clause-belongs : goal.returns-in_err-prevent_extensions-clause-belongs
returns-in_err-prevent_extensions-clause-belongs g c = Belongs-heap g.L.Labels.made g.L.Labels.meaning g.L.Labels.room g.L.Labels.firm c.args.labels.now c.prevent_extensions.new.labels (IsKept-trans _ _ _ _ _ _ _ c.need_of.ensures.kept c.prevent_extensions.ensures.kept) g.met.L.Labels.rising c.args.world.now c.requires.belongs c.prevent_extensions.new.self c.prevent_extensions.ensures.belongs c.prevent_extensions.ensures.length

pub returns-clause-acts : goal.returns-clause-acts
returns-clause-acts g c =
    prevents g.L.Labels.made g.L.Labels.meaning c.prevent_extensions.new.labels c.args.world.now c.args.o.0 c.args.label c.undefined-2.result c.undefined-2.ensures c.in_ok-need.need (with_heap c.prevent_extensions.new.self c.args.world.now) (Ok (outcome.Goes c.undefined-2.result))
    (means_later g.L.Labels.made g.L.Labels.meaning g.L.Labels.room g.L.Labels.firm c.need_of.new.labels c.prevent_extensions.new.labels c.prevent_extensions.ensures.kept c.in_ok-need.need (λ reading. union (context (map (seen_frame reading) c.args.world.now.frames.frames)) (reading c.args.label)) c.in_ok-need.ensures.means)
    (heap_done g.L.Labels.made g.L.Labels.meaning c.prevent_extensions.new.labels c.args.world.now (λ reading. read_value reading) c.undefined-2.result (λ reading. heap_acts.prevent_extensions c.args.o.0 (reading c.in_ok-need.need)) c.prevent_extensions.new.self
    c.prevent_extensions.result c.in_ok-prevent_extensions.was c.prevent_extensions.ensures.acts)

pub returns-clause-belongs : goal.returns-clause-belongs
returns-clause-belongs g c = Belongs-heap g.L.Labels.made g.L.Labels.meaning g.L.Labels.room g.L.Labels.firm c.args.labels.now c.prevent_extensions.new.labels (IsKept-trans _ _ _ _ _ _ _ c.need_of.ensures.kept c.prevent_extensions.ensures.kept) g.met.L.Labels.rising c.args.world.now c.requires.belongs c.prevent_extensions.new.self c.prevent_extensions.ensures.belongs c.prevent_extensions.ensures.length

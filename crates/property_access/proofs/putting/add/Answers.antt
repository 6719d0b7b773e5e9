use Rattle.std.proofs.Common.{Ok, map, subst, List, ℕ, ◌∙◌}
use Rattle.origin_labels.specs.Label.{union}
use Rattle.origin_labels.proofs.StoreLaws.{IsKept-trans}
use Rattle.flow_frames.specs.Frames.{context}
use Rattle.flow_frames.specs.Held.{seen_frame}
use Rattle.js_values.specs.Readings.{read_value}
use Rattle.run_state.specs.declared.outcome.Outcome.TheVariants as outcome
use Rattle.run_state.proofs.ActLaws.{Belongs-later}
use Rattle.property_access.proofs.MeansLaws.{means_later}
use Rattle.property_access.proofs.ObjectLaws.{Belongs-heap, with_heap, heap_done, heap_refused, put_adds}
use Rattle.js_values.specs.declared.property.Body.TheVariants.{Data}
use Rattle.object_heap.specs.Acts.{add as heap_add}
use Rattle.prototype_walk.specs.declared.plan.PutPlan.TheVariants.{Add}
use Rattle.es_meaning.specs.Objects.{made_by_script}
use Rattle.flow_meaning.specs.Tracked.{put_by}
use Rattle.run_state.specs.declared.outcome.Putting.TheVariants as putting
use Rattle.run_state.specs.Accesses.{read_putting}
use Rattle.run_state.specs.Acts.{Acts}
use Rattle.property_access.proofs.putting.add.Goals as goal

pub returns-in_err-need-clause-belongs : goal.returns-in_err-need-clause-belongs
returns-in_err-need-clause-belongs g c = Belongs-later g.L.Labels.made g.L.Labels.meaning g.L.Labels.room g.L.Labels.firm c.args.labels.now c.need_of.new.labels c.need_of.ensures.kept g.met.L.Labels.rising c.args.world.now c.requires.belongs

pub returns-in_err-copy-clause-belongs : goal.returns-in_err-copy-clause-belongs
returns-in_err-copy-clause-belongs g c = Belongs-later g.L.Labels.made g.L.Labels.meaning g.L.Labels.room g.L.Labels.firm c.args.labels.now c.need_of.new.labels c.need_of.ensures.kept g.met.L.Labels.rising c.args.world.now c.requires.belongs

pub returns-in_err-add-clause-acts : goal.returns-in_err-add-clause-acts
returns-in_err-add-clause-acts g c =
    λ rule base.
    subst (λ (k : List ℕ). Acts g.L.Labels.made g.L.Labels.meaning c.add.new.labels (λ reading. read_putting reading) (λ reading. put_by (Add (reading c.args.walk)) rule c.args.o.0 k (reading c.args.label) (read_value reading base) (read_value reading c.args.value)) c.args.world.now (with_heap c.add.new.self c.args.world.now) c.from_residual-in_err-add.result) (c.new-key.ensures ∙ c.in_ok-copy.ensures)
    (put_adds g.L.Labels.made g.L.Labels.meaning c.add.new.labels c.args.world.now (with_heap c.add.new.self c.args.world.now) c.args.o c.new-key.result c.args.label c.args.walk c.in_ok-need.need base c.args.value c.from_residual-in_err-add.result (means_later g.L.Labels.made g.L.Labels.meaning g.L.Labels.room g.L.Labels.firm c.need_of.new.labels c.add.new.labels c.add.ensures.kept c.in_ok-need.need (λ reading. union (context (map (seen_frame reading) c.args.world.now.frames.frames)) (union (reading c.args.label) (reading c.args.walk))) c.in_ok-need.ensures.means) rule
    (heap_refused g.L.Labels.made g.L.Labels.meaning c.add.new.labels c.args.world.now (λ reading. read_putting reading) putting.Put (λ reading. heap_add c.args.o.0 c.new-key.result (reading c.in_ok-need.need) (Data c.args.value.value) (reading c.args.value.label) made_by_script) c.add.new.self c.add.result c.in_err-add.field-0.0 c.from_residual-in_err-add.result c.in_err-add.was c.from_residual-in_err-add.ensures.1 c.add.ensures.acts))

pub returns-in_err-add-clause-belongs : goal.returns-in_err-add-clause-belongs
returns-in_err-add-clause-belongs g c = Belongs-heap g.L.Labels.made g.L.Labels.meaning g.L.Labels.room g.L.Labels.firm c.args.labels.now c.add.new.labels (IsKept-trans _ _ _ _ _ _ _ c.need_of.ensures.kept c.add.ensures.kept) g.met.L.Labels.rising c.args.world.now c.requires.belongs c.add.new.self c.add.ensures.belongs c.add.ensures.length

pub returns-clause-acts : goal.returns-clause-acts
returns-clause-acts g c =
    λ rule base.
    subst (λ (k : List ℕ). Acts g.L.Labels.made g.L.Labels.meaning c.add.new.labels (λ reading. read_putting reading) (λ reading. put_by (Add (reading c.args.walk)) rule c.args.o.0 k (reading c.args.label) (read_value reading base) (read_value reading c.args.value)) c.args.world.now (with_heap c.add.new.self c.args.world.now) (Ok (outcome.Goes putting.Put))) (c.new-key.ensures ∙ c.in_ok-copy.ensures)
    (put_adds g.L.Labels.made g.L.Labels.meaning c.add.new.labels c.args.world.now (with_heap c.add.new.self c.args.world.now) c.args.o c.new-key.result c.args.label c.args.walk c.in_ok-need.need base c.args.value (Ok (outcome.Goes putting.Put)) (means_later g.L.Labels.made g.L.Labels.meaning g.L.Labels.room g.L.Labels.firm c.need_of.new.labels c.add.new.labels c.add.ensures.kept c.in_ok-need.need (λ reading. union (context (map (seen_frame reading) c.args.world.now.frames.frames)) (union (reading c.args.label) (reading c.args.walk))) c.in_ok-need.ensures.means) rule
    (heap_done g.L.Labels.made g.L.Labels.meaning c.add.new.labels c.args.world.now (λ reading. read_putting reading) putting.Put (λ reading. heap_add c.args.o.0 c.new-key.result (reading c.in_ok-need.need) (Data c.args.value.value) (reading c.args.value.label) made_by_script) c.add.new.self c.add.result c.in_ok-add.was c.add.ensures.acts))

pub returns-clause-belongs : goal.returns-clause-belongs
returns-clause-belongs g c = Belongs-heap g.L.Labels.made g.L.Labels.meaning g.L.Labels.room g.L.Labels.firm c.args.labels.now c.add.new.labels (IsKept-trans _ _ _ _ _ _ _ c.need_of.ensures.kept c.add.ensures.kept) g.met.L.Labels.rising c.args.world.now c.requires.belongs c.add.new.self c.add.ensures.belongs c.add.ensures.length

use Rattle.std.proofs.Common.{Ok, map, sym, ◌∙◌}
use Rattle.origin_labels.specs.Label.{union}
use Rattle.origin_labels.proofs.StoreLaws.{IsKept-trans}
use Rattle.flow_frames.specs.Frames.{context}
use Rattle.flow_frames.specs.Held.{seen_frame}
use Rattle.js_values.specs.Readings.{read_value}
use Rattle.run_state.specs.declared.outcome.Outcome.TheVariants as outcome
use Rattle.run_state.specs.declared.outcome.Putting.TheVariants as putting
use Rattle.run_state.specs.Accesses.{read_putting}
use Rattle.run_state.proofs.ActLaws.{Belongs-later}
use Rattle.property_access.proofs.MeansLaws.{means_later}
use Rattle.property_access.proofs.ObjectLaws.{Belongs-heap, with_heap, heap_done, heap_refused, put_writes, put_counts}
use Rattle.object_heap.specs.Acts.{write as heap_write}
use Rattle.property_access.proofs.putting.write.Goals as goal

pub returns-in_err-need-clause-belongs : goal.returns-in_err-need-clause-belongs
returns-in_err-need-clause-belongs g c = Belongs-later g.L.Labels.made g.L.Labels.meaning g.L.Labels.room g.L.Labels.firm c.args.labels.now c.need_of.new.labels c.need_of.ensures.kept g.met.L.Labels.rising c.args.world.now c.requires.belongs

pub returns-in_err-write_named-clause-acts : goal.returns-in_err-write_named-clause-acts
returns-in_err-write_named-clause-acts g c = λ base.
    put_writes g.L.Labels.made g.L.Labels.meaning c.write_named.new.labels c.args.world.now (with_heap c.write_named.new.self c.args.world.now) c.args.o c.args.key.now c.args.label c.args.walk c.in_ok-need.need base c.args.value c.from_residual-in_err-write_named.result (means_later g.L.Labels.made g.L.Labels.meaning g.L.Labels.room g.L.Labels.firm c.need_of.new.labels c.write_named.new.labels c.write_named.ensures.kept c.in_ok-need.need (λ reading. union (context (map (seen_frame reading) c.args.world.now.frames.frames)) (union (reading c.args.label) (reading c.args.walk))) c.in_ok-need.ensures.means) c.args.rule (sym c.is_length.ensures ∙ c.if-is_length.false)
    (heap_refused g.L.Labels.made g.L.Labels.meaning c.write_named.new.labels c.args.world.now (λ reading. read_putting reading) putting.Put (λ reading. heap_write c.args.rule c.args.o.0 c.args.key.now (reading c.in_ok-need.need) (read_value reading c.args.value)) c.write_named.new.self c.write_named.result c.in_err-write_named.field-0.0 c.from_residual-in_err-write_named.result c.in_err-write_named.was c.from_residual-in_err-write_named.ensures.1 c.write_named.ensures.acts)

pub returns-in_err-write_named-clause-belongs : goal.returns-in_err-write_named-clause-belongs
returns-in_err-write_named-clause-belongs g c = Belongs-heap g.L.Labels.made g.L.Labels.meaning g.L.Labels.room g.L.Labels.firm c.args.labels.now c.write_named.new.labels (IsKept-trans _ _ _ _ _ _ _ c.need_of.ensures.kept c.write_named.ensures.kept) g.met.L.Labels.rising c.args.world.now c.requires.belongs c.write_named.new.self c.write_named.ensures.belongs c.write_named.ensures.length

pub returns-clause-acts : goal.returns-clause-acts
returns-clause-acts g c = λ base.
    put_writes g.L.Labels.made g.L.Labels.meaning c.write_named.new.labels c.args.world.now (with_heap c.write_named.new.self c.args.world.now) c.args.o c.args.key.now c.args.label c.args.walk c.in_ok-need.need base c.args.value (Ok (outcome.Goes putting.Put)) (means_later g.L.Labels.made g.L.Labels.meaning g.L.Labels.room g.L.Labels.firm c.need_of.new.labels c.write_named.new.labels c.write_named.ensures.kept c.in_ok-need.need (λ reading. union (context (map (seen_frame reading) c.args.world.now.frames.frames)) (union (reading c.args.label) (reading c.args.walk))) c.in_ok-need.ensures.means) c.args.rule (sym c.is_length.ensures ∙ c.if-is_length.false)
    (heap_done g.L.Labels.made g.L.Labels.meaning c.write_named.new.labels c.args.world.now (λ reading. read_putting reading) putting.Put (λ reading. heap_write c.args.rule c.args.o.0 c.args.key.now (reading c.in_ok-need.need) (read_value reading c.args.value)) c.write_named.new.self c.write_named.result c.in_ok-write_named.was c.write_named.ensures.acts)

pub returns-clause-belongs : goal.returns-clause-belongs
returns-clause-belongs g c = Belongs-heap g.L.Labels.made g.L.Labels.meaning g.L.Labels.room g.L.Labels.firm c.args.labels.now c.write_named.new.labels (IsKept-trans _ _ _ _ _ _ _ c.need_of.ensures.kept c.write_named.ensures.kept) g.met.L.Labels.rising c.args.world.now c.requires.belongs c.write_named.new.self c.write_named.ensures.belongs c.write_named.ensures.length

pub returns-in_err-label-clause-belongs : goal.returns-in_err-label-clause-belongs
returns-in_err-label-clause-belongs g c = Belongs-later g.L.Labels.made g.L.Labels.meaning g.L.Labels.room g.L.Labels.firm c.args.labels.now c.join.new.labels c.join.ensures.kept g.met.L.Labels.rising c.args.world.now c.requires.belongs

pub returns-then-is_length-clause-acts : goal.returns-then-is_length-clause-acts
returns-then-is_length-clause-acts g c = λ base.
    put_counts g.L.Labels.made g.L.Labels.meaning c.join.new.labels c.args.world.now c.args.rule c.args.key.now c.args.o c.args.label c.args.walk c.in_ok-label.label base c.args.value (sym c.is_length.ensures ∙ c.if-is_length.true) c.in_ok-label.ensures.means

pub returns-then-is_length-clause-belongs : goal.returns-then-is_length-clause-belongs
returns-then-is_length-clause-belongs g c = Belongs-later g.L.Labels.made g.L.Labels.meaning g.L.Labels.room g.L.Labels.firm c.args.labels.now c.join.new.labels c.join.ensures.kept g.met.L.Labels.rising c.args.world.now c.requires.belongs

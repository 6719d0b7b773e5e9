use Rattle.std.proofs.Common.{refl, map}
use Rattle.origin_labels.specs.Label.{union}
use Rattle.origin_labels.proofs.StoreLaws.{IsKept-trans}
use Rattle.flow_frames.specs.Frames.{context}
use Rattle.flow_frames.specs.Held.{seen_frame}
use Rattle.js_values.specs.Readings.{read_value}
use Rattle.object_heap.specs.Acts as heap_acts
use Rattle.es_meaning.specs.Operations.{Value}
use Rattle.run_state.proofs.ActLaws.{Belongs-later}
use Rattle.property_access.proofs.MeansLaws.{means_later, need_means}
use Rattle.property_access.proofs.ObjectLaws.{with_heap, Belongs-heap, heap_done, heap_refused}
use Rattle.step_objects.proofs.DeletingLaws.{yes_of, refuses, takes_away}
use Rattle.step_objects.proofs.deleting.remove_present.Goals as goal

pub returns-then-not-configurable-clause-acts : goal.returns-then-not-configurable-clause-acts
returns-then-not-configurable-clause-acts g c =
    refuses g.L.Labels.made g.L.Labels.meaning c.throw_error.new.labels c.args.world.now c.args.o c.args.key.now c.args.configurable c.args.place c.throw_error.new.world c.throw_error.result c.if-not-configurable.true
    (c.throw_error.ensures.acts Value (λ reading. read_value reading))

pub returns-in_err-need-clause-belongs : goal.returns-in_err-need-clause-belongs
returns-in_err-need-clause-belongs g c = Belongs-later g.L.Labels.made g.L.Labels.meaning g.L.Labels.room g.L.Labels.firm c.args.labels.now c.join.new.labels c.join.ensures.kept g.met.L.Labels.rising c.args.world.now c.requires.belongs

pub returns-in_err-remove-clause-acts : goal.returns-in_err-remove-clause-acts
returns-in_err-remove-clause-acts g c =
    let need = need_means g.L.Labels.made g.L.Labels.meaning g.L.Labels.room g.L.Labels.firm c.args.labels.now c.join.new.labels c.in_ok-need.ensures.kept c.args.world.now.frames.frames c.context-context.result c.args.place c.in_ok-need.need (λ reading. reading c.args.place)
    c.requires.belongs.frames c.context-context.ensures.made c.context-context.ensures.meaning (record { belongs = c.requires.place; is = λ reading read. refl }) c.in_ok-need.ensures.means in
    takes_away g.L.Labels.made g.L.Labels.meaning c.remove.new.labels c.args.world.now c.args.o c.args.key.now c.args.configurable c.args.place (with_heap c.remove.new.self c.args.world.now) c.from_residual-in_err-remove.result c.if-not-configurable.false c.in_ok-need.need (yes_of c.args.place) refl
    (means_later g.L.Labels.made g.L.Labels.meaning g.L.Labels.room g.L.Labels.firm c.join.new.labels c.remove.new.labels c.remove.ensures.kept c.in_ok-need.need (λ reading. union (context (map (seen_frame reading) c.args.world.now.frames.frames)) (reading c.args.place)) need)
    (heap_refused g.L.Labels.made g.L.Labels.meaning c.remove.new.labels c.args.world.now (λ reading. read_value reading) (yes_of c.args.place) (λ reading. heap_acts.remove c.args.o.0 c.args.key.now (reading c.in_ok-need.need)) c.remove.new.self
    c.remove.result c.in_err-remove.field-0.0 c.from_residual-in_err-remove.result c.in_err-remove.was c.from_residual-in_err-remove.ensures.1 c.remove.ensures.acts)

pub returns-in_err-remove-clause-belongs : goal.returns-in_err-remove-clause-belongs
returns-in_err-remove-clause-belongs g c = Belongs-heap g.L.Labels.made g.L.Labels.meaning g.L.Labels.room g.L.Labels.firm c.args.labels.now c.remove.new.labels (IsKept-trans _ _ _ _ _ _ _ c.in_ok-need.ensures.kept c.remove.ensures.kept) g.met.L.Labels.rising c.args.world.now c.requires.belongs c.remove.new.self c.remove.ensures.belongs c.remove.ensures.length

pub returns-clause-acts : goal.returns-clause-acts
returns-clause-acts g c =
    let need = need_means g.L.Labels.made g.L.Labels.meaning g.L.Labels.room g.L.Labels.firm c.args.labels.now c.join.new.labels c.in_ok-need.ensures.kept c.args.world.now.frames.frames c.context-context.result c.args.place c.in_ok-need.need (λ reading. reading c.args.place)
    c.requires.belongs.frames c.context-context.ensures.made c.context-context.ensures.meaning (record { belongs = c.requires.place; is = λ reading read. refl }) c.in_ok-need.ensures.means in
    takes_away g.L.Labels.made g.L.Labels.meaning c.remove.new.labels c.args.world.now c.args.o c.args.key.now c.args.configurable c.args.place (with_heap c.remove.new.self c.args.world.now) _ c.if-not-configurable.false c.in_ok-need.need c.yes.result c.yes.ensures
    (means_later g.L.Labels.made g.L.Labels.meaning g.L.Labels.room g.L.Labels.firm c.join.new.labels c.remove.new.labels c.remove.ensures.kept c.in_ok-need.need (λ reading. union (context (map (seen_frame reading) c.args.world.now.frames.frames)) (reading c.args.place)) need)
    (heap_done g.L.Labels.made g.L.Labels.meaning c.remove.new.labels c.args.world.now (λ reading. read_value reading) c.yes.result (λ reading. heap_acts.remove c.args.o.0 c.args.key.now (reading c.in_ok-need.need)) c.remove.new.self
    c.remove.result c.in_ok-remove.was c.remove.ensures.acts)

pub returns-clause-belongs : goal.returns-clause-belongs
returns-clause-belongs g c = Belongs-heap g.L.Labels.made g.L.Labels.meaning g.L.Labels.room g.L.Labels.firm c.args.labels.now c.remove.new.labels (IsKept-trans _ _ _ _ _ _ _ c.in_ok-need.ensures.kept c.remove.ensures.kept) g.met.L.Labels.rising c.args.world.now c.requires.belongs c.remove.new.self c.remove.ensures.belongs c.remove.ensures.length

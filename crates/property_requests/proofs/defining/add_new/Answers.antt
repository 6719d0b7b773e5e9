use Rattle.std.proofs.Common.{map, Ok}
use Rattle.origin_labels.specs.Label.{union}
use Rattle.origin_labels.proofs.StoreLaws.{IsKept-trans}
use Rattle.flow_frames.specs.Frames.{context}
use Rattle.flow_frames.specs.Held.{seen_frame}
use Rattle.flow_frames.proofs.StandingLaws.{Belong-kept}
use Rattle.object_heap.specs.Acts as heap_acts
use Rattle.run_state.specs.declared.outcome.Outcome.TheVariants as outcome
use Rattle.run_state.proofs.ActLaws.{Belongs-later}
use Rattle.property_access.proofs.MeansLaws.{means_later}
use Rattle.property_access.proofs.ObjectLaws.{with_heap, Belongs-heap, heap_done, heap_refused}
use Rattle.run_state.specs.declared.outcome.Defining.TheVariants as defined_as
use Rattle.run_state.specs.Accesses.{read_defining}
use Rattle.property_requests.proofs.DefiningLaws.{new_added}
use Rattle.property_requests.proofs.defining.add_new.Goals as goal

pub returns-in_err-decided-clause-belongs : goal.returns-in_err-decided-clause-belongs
returns-in_err-decided-clause-belongs g c = Belongs-later g.L.Labels.made g.L.Labels.meaning g.L.Labels.room g.L.Labels.firm c.args.labels.now c.join.new.labels c.join.ensures.kept g.met.L.Labels.rising c.args.world.now c.requires.belongs

pub need_of-requires-clause-belongs : goal.need_of-requires-clause-belongs
need_of-requires-clause-belongs g c = Belong-kept g.L.Labels.made g.L.Labels.meaning g.met.L.Labels.rising g.L.Labels.room g.L.Labels.firm c.args.labels.now c.join.new.labels c.args.world.now.frames.frames c.in_ok-decided.ensures.kept c.requires.belongs.frames

pub returns-in_err-need-clause-belongs : goal.returns-in_err-need-clause-belongs
returns-in_err-need-clause-belongs g c = Belongs-later g.L.Labels.made g.L.Labels.meaning g.L.Labels.room g.L.Labels.firm c.args.labels.now c.need_of.new.labels (IsKept-trans _ _ _ _ _ _ _ c.in_ok-decided.ensures.kept c.need_of.ensures.kept) g.met.L.Labels.rising c.args.world.now c.requires.belongs

pub returns-in_err-body-clause-belongs : goal.returns-in_err-body-clause-belongs
returns-in_err-body-clause-belongs g c = Belongs-later g.L.Labels.made g.L.Labels.meaning g.L.Labels.room g.L.Labels.firm c.args.labels.now c.need_of.new.labels (IsKept-trans _ _ _ _ _ _ _ c.in_ok-decided.ensures.kept c.in_ok-need.ensures.kept) g.met.L.Labels.rising c.args.world.now c.requires.belongs

pub returns-in_err-add-clause-acts : goal.returns-in_err-add-clause-acts
returns-in_err-add-clause-acts g c =
    new_added g.L.Labels.made g.L.Labels.meaning c.add.new.labels c.args.world.now (with_heap c.add.new.self c.args.world.now) c.from_residual-in_err-add.result c.args.site.object.0 c.args.site.key c.args.site.place c.args.site.given c.args.definition
    c.in_ok-decided.decided c.in_ok-need.need c.becomes_accessor-accessor.result c.in_ok-body.body c.marks_of_kind-marks.result c.becomes_accessor-accessor.ensures c.marks_of_kind-marks.ensures c.in_ok-body.ensures
    (means_later g.L.Labels.made g.L.Labels.meaning g.L.Labels.room g.L.Labels.firm c.join.new.labels c.add.new.labels (IsKept-trans _ _ _ _ _ _ _ c.in_ok-need.ensures.kept c.add.ensures.kept) c.in_ok-decided.decided (λ reading. union (reading c.args.site.place) (reading c.args.site.given)) c.in_ok-decided.ensures.means)
    (means_later g.L.Labels.made g.L.Labels.meaning g.L.Labels.room g.L.Labels.firm c.need_of.new.labels c.add.new.labels c.add.ensures.kept c.in_ok-need.need (λ reading. union (context (map (seen_frame reading) c.args.world.now.frames.frames)) (reading c.in_ok-decided.decided)) c.in_ok-need.ensures.means)
    (heap_refused g.L.Labels.made g.L.Labels.meaning c.add.new.labels c.args.world.now (λ reading. read_defining reading) (defined_as.Defined c.args.site.place) (λ reading. heap_acts.add c.args.site.object.0 c.args.site.key (reading c.in_ok-need.need) c.in_ok-body.body (reading c.args.site.given) c.marks_of_kind-marks.result) c.add.new.self
    c.add.result c.in_err-add.field-0.0 c.from_residual-in_err-add.result c.in_err-add.was c.from_residual-in_err-add.ensures.1 c.add.ensures.acts)

pub returns-in_err-add-clause-belongs : goal.returns-in_err-add-clause-belongs
returns-in_err-add-clause-belongs g c = Belongs-heap g.L.Labels.made g.L.Labels.meaning g.L.Labels.room g.L.Labels.firm c.args.labels.now c.add.new.labels (IsKept-trans _ _ _ _ _ _ _ c.in_ok-decided.ensures.kept (IsKept-trans _ _ _ _ _ _ _ c.in_ok-need.ensures.kept c.add.ensures.kept)) g.met.L.Labels.rising c.args.world.now c.requires.belongs c.add.new.self c.add.ensures.belongs c.add.ensures.length

pub returns-clause-acts : goal.returns-clause-acts
returns-clause-acts g c =
    new_added g.L.Labels.made g.L.Labels.meaning c.add.new.labels c.args.world.now (with_heap c.add.new.self c.args.world.now) (Ok (outcome.Goes (defined_as.Defined c.args.site.place))) c.args.site.object.0 c.args.site.key c.args.site.place c.args.site.given c.args.definition
    c.in_ok-decided.decided c.in_ok-need.need c.becomes_accessor-accessor.result c.in_ok-body.body c.marks_of_kind-marks.result c.becomes_accessor-accessor.ensures c.marks_of_kind-marks.ensures c.in_ok-body.ensures
    (means_later g.L.Labels.made g.L.Labels.meaning g.L.Labels.room g.L.Labels.firm c.join.new.labels c.add.new.labels (IsKept-trans _ _ _ _ _ _ _ c.in_ok-need.ensures.kept c.add.ensures.kept) c.in_ok-decided.decided (λ reading. union (reading c.args.site.place) (reading c.args.site.given)) c.in_ok-decided.ensures.means)
    (means_later g.L.Labels.made g.L.Labels.meaning g.L.Labels.room g.L.Labels.firm c.need_of.new.labels c.add.new.labels c.add.ensures.kept c.in_ok-need.need (λ reading. union (context (map (seen_frame reading) c.args.world.now.frames.frames)) (reading c.in_ok-decided.decided)) c.in_ok-need.ensures.means)
    (heap_done g.L.Labels.made g.L.Labels.meaning c.add.new.labels c.args.world.now (λ reading. read_defining reading) (defined_as.Defined c.args.site.place) (λ reading. heap_acts.add c.args.site.object.0 c.args.site.key (reading c.in_ok-need.need) c.in_ok-body.body (reading c.args.site.given) c.marks_of_kind-marks.result) c.add.new.self
    c.add.result c.in_ok-add.was c.add.ensures.acts)

pub returns-clause-belongs : goal.returns-clause-belongs
returns-clause-belongs g c = Belongs-heap g.L.Labels.made g.L.Labels.meaning g.L.Labels.room g.L.Labels.firm c.args.labels.now c.add.new.labels (IsKept-trans _ _ _ _ _ _ _ c.in_ok-decided.ensures.kept (IsKept-trans _ _ _ _ _ _ _ c.in_ok-need.ensures.kept c.add.ensures.kept)) g.met.L.Labels.rising c.args.world.now c.requires.belongs c.add.new.self c.add.ensures.belongs c.add.ensures.length

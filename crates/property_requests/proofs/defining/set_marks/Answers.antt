use Rattle.std.proofs.Common.{map}
use Rattle.origin_labels.specs.Label.{union}
use Rattle.origin_labels.proofs.StoreLaws.{IsKept-trans}
use Rattle.flow_frames.specs.Frames.{context}
use Rattle.flow_frames.specs.Held.{seen_frame}
use Rattle.flow_frames.proofs.StandingLaws.{Belong-kept}
use Rattle.object_heap.specs.Acts as heap_acts
use Rattle.run_state.proofs.ActLaws.{Belongs-later}
use Rattle.property_access.proofs.MeansLaws.{means_later}
use Rattle.property_access.proofs.ObjectLaws.{with_heap, Belongs-heap, heap_done, heap_refused}
use Rattle.property_requests.specs.Finding.{went}
use Rattle.property_requests.proofs.ChangingLaws.{marks_set, present_still, went_refused}
use Rattle.property_requests.proofs.KeptLaws.{outline_stays}
use Rattle.property_requests.proofs.defining.set_marks.Goals as goal

pub returns-in_err-decided-clause-belongs : goal.returns-in_err-decided-clause-belongs
returns-in_err-decided-clause-belongs g c = Belongs-later g.L.Labels.made g.L.Labels.meaning g.L.Labels.room g.L.Labels.firm c.args.labels.now c.join.new.labels c.join.ensures.kept g.met.L.Labels.rising c.args.world.now c.requires.belongs

pub need_of-requires-clause-belongs : goal.need_of-requires-clause-belongs
need_of-requires-clause-belongs g c = Belong-kept g.L.Labels.made g.L.Labels.meaning g.met.L.Labels.rising g.L.Labels.room g.L.Labels.firm c.args.labels.now c.join.new.labels c.args.world.now.frames.frames c.in_ok-decided.ensures.kept c.requires.belongs.frames

pub returns-in_err-need-clause-belongs : goal.returns-in_err-need-clause-belongs
returns-in_err-need-clause-belongs g c = Belongs-later g.L.Labels.made g.L.Labels.meaning g.L.Labels.room g.L.Labels.firm c.args.labels.now c.need_of.new.labels (IsKept-trans _ _ _ _ _ _ _ c.in_ok-decided.ensures.kept c.need_of.ensures.kept) g.met.L.Labels.rising c.args.world.now c.requires.belongs

pub returns-in_err-set_attributes-clause-acts : goal.returns-in_err-set_attributes-clause-acts
returns-in_err-set_attributes-clause-acts g c =
    marks_set g.L.Labels.made g.L.Labels.meaning c.set_attributes.new.labels c.args.world.now (with_heap c.set_attributes.new.self c.args.world.now) c.args.site.now.object.0 c.args.site.now.key c.args.site.now.place c.in_ok-need.need (went c.from_residual-in_err-set_attributes.result) c.args.site.now.given c.in_ok-decided.decided c.args.marks
    (means_later g.L.Labels.made g.L.Labels.meaning g.L.Labels.room g.L.Labels.firm c.join.new.labels c.set_attributes.new.labels (IsKept-trans _ _ _ _ _ _ _ c.in_ok-need.ensures.kept c.set_attributes.ensures.kept) c.in_ok-decided.decided (λ reading. union (reading c.args.site.now.place) (reading c.args.site.now.given)) c.in_ok-decided.ensures.means)
    (means_later g.L.Labels.made g.L.Labels.meaning g.L.Labels.room g.L.Labels.firm c.need_of.new.labels c.set_attributes.new.labels c.set_attributes.ensures.kept c.in_ok-need.need (λ reading. union (context (map (seen_frame reading) c.args.world.now.frames.frames)) (reading c.in_ok-decided.decided)) c.in_ok-need.ensures.means)
    (heap_refused g.L.Labels.made g.L.Labels.meaning c.set_attributes.new.labels c.args.world.now (λ reading u. u) _ (λ reading. heap_acts.set_attributes c.args.site.now.object.0 c.args.site.now.key (reading c.in_ok-need.need) c.args.marks) c.set_attributes.new.self
    c.set_attributes.result c.in_err-set_attributes.field-0.0 (went c.from_residual-in_err-set_attributes.result) c.in_err-set_attributes.was (went_refused c.in_err-set_attributes.field-0.0 c.from_residual-in_err-set_attributes.result c.from_residual-in_err-set_attributes.ensures.1) c.set_attributes.ensures.acts)

pub returns-in_err-set_attributes-clause-belongs : goal.returns-in_err-set_attributes-clause-belongs
returns-in_err-set_attributes-clause-belongs g c = Belongs-heap g.L.Labels.made g.L.Labels.meaning g.L.Labels.room g.L.Labels.firm c.args.labels.now c.set_attributes.new.labels (IsKept-trans _ _ _ _ _ _ _ c.in_ok-decided.ensures.kept (IsKept-trans _ _ _ _ _ _ _ c.in_ok-need.ensures.kept c.set_attributes.ensures.kept)) g.met.L.Labels.rising c.args.world.now c.requires.belongs c.set_attributes.new.self c.set_attributes.ensures.belongs c.set_attributes.ensures.length

pub returns-clause-acts : goal.returns-clause-acts
returns-clause-acts g c =
    marks_set g.L.Labels.made g.L.Labels.meaning c.set_attributes.new.labels c.args.world.now (with_heap c.set_attributes.new.self c.args.world.now) c.args.site.now.object.0 c.args.site.now.key c.args.site.now.place c.in_ok-need.need _ c.args.site.now.given c.in_ok-decided.decided c.args.marks
    (means_later g.L.Labels.made g.L.Labels.meaning g.L.Labels.room g.L.Labels.firm c.join.new.labels c.set_attributes.new.labels (IsKept-trans _ _ _ _ _ _ _ c.in_ok-need.ensures.kept c.set_attributes.ensures.kept) c.in_ok-decided.decided (λ reading. union (reading c.args.site.now.place) (reading c.args.site.now.given)) c.in_ok-decided.ensures.means)
    (means_later g.L.Labels.made g.L.Labels.meaning g.L.Labels.room g.L.Labels.firm c.need_of.new.labels c.set_attributes.new.labels c.set_attributes.ensures.kept c.in_ok-need.need (λ reading. union (context (map (seen_frame reading) c.args.world.now.frames.frames)) (reading c.in_ok-decided.decided)) c.in_ok-need.ensures.means)
    (heap_done g.L.Labels.made g.L.Labels.meaning c.set_attributes.new.labels c.args.world.now (λ reading u. u) _ (λ reading. heap_acts.set_attributes c.args.site.now.object.0 c.args.site.now.key (reading c.in_ok-need.need) c.args.marks) c.set_attributes.new.self
    c.set_attributes.result c.in_ok-set_attributes.was c.set_attributes.ensures.acts)

pub returns-clause-present : goal.returns-clause-present
returns-clause-present g c = present_still g.L.Labels.made g.L.Labels.meaning c.set_attributes.new.labels c.args.site.now.object.0 c.args.site.now.key c.in_ok-need.need c.args.marks c.args.world.now.heap c.set_attributes.new.self c.set_attributes.result c.in_ok-set_attributes.was c.set_attributes.ensures.acts c.requires.present

pub returns-clause-belongs : goal.returns-clause-belongs
returns-clause-belongs g c = Belongs-heap g.L.Labels.made g.L.Labels.meaning g.L.Labels.room g.L.Labels.firm c.args.labels.now c.set_attributes.new.labels (IsKept-trans _ _ _ _ _ _ _ c.in_ok-decided.ensures.kept (IsKept-trans _ _ _ _ _ _ _ c.in_ok-need.ensures.kept c.set_attributes.ensures.kept)) g.met.L.Labels.rising c.args.world.now c.requires.belongs c.set_attributes.new.self c.set_attributes.ensures.belongs c.set_attributes.ensures.length

pub returns-clause-outline : goal.returns-clause-outline
returns-clause-outline g c = outline_stays g.L.Labels.made g.L.Labels.meaning c.set_attributes.new.labels c.args.site.now.object.0 c.args.site.now.key c.in_ok-need.need c.args.marks c.args.world.now.heap c.set_attributes.new.self c.set_attributes.result c.in_ok-set_attributes.was c.set_attributes.ensures.acts

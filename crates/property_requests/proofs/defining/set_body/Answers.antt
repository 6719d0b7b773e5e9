use Rattle.std.proofs.Common.{map}
use Rattle.origin_labels.specs.Label.{union}
use Rattle.origin_labels.proofs.StoreLaws.{IsKept-trans}
use Rattle.flow_frames.specs.Frames.{context}
use Rattle.flow_frames.specs.Held.{seen_frame}
use Rattle.object_heap.specs.Acts as heap_acts
use Rattle.run_state.proofs.ActLaws.{Belongs-later}
use Rattle.property_access.proofs.MeansLaws.{means_later}
use Rattle.property_access.proofs.ObjectLaws.{with_heap, Belongs-heap, heap_done, heap_refused}
use Rattle.property_requests.specs.Finding.{went}
use Rattle.property_requests.proofs.ChangingLaws.{body_is_set, body_stays, went_refused}
use Rattle.property_requests.proofs.defining.set_body.Goals as goal

pub returns-in_default-clause-acts : goal.returns-in_default-clause-acts
returns-in_default-clause-acts g c = body_stays g.L.Labels.made g.L.Labels.meaning c.args.labels.now c.args.world.now c.args.site.now.object.0 c.args.site.now.key c.args.site.now.place c.args.new c.in_default.is

pub returns-in_err-need-clause-belongs : goal.returns-in_err-need-clause-belongs
returns-in_err-need-clause-belongs g c = Belongs-later g.L.Labels.made g.L.Labels.meaning g.L.Labels.room g.L.Labels.firm c.args.labels.now c.need_of.new.labels c.need_of.ensures.kept g.met.L.Labels.rising c.args.world.now c.requires.belongs

pub returns-in_err-set_body-clause-acts : goal.returns-in_err-set_body-clause-acts
returns-in_err-set_body-clause-acts g c =
    body_is_set g.L.Labels.made g.L.Labels.meaning c.set_body.new.labels c.args.world.now (with_heap c.set_body.new.self c.args.world.now) c.args.site.now.object.0 c.args.site.now.key c.args.site.now.place c.in_ok-need.need (went c.from_residual-in_err-set_body.result) c.args.new c.in-Some.new.body c.in-Some.new.label c.in-Some.is
    (means_later g.L.Labels.made g.L.Labels.meaning g.L.Labels.room g.L.Labels.firm c.need_of.new.labels c.set_body.new.labels c.set_body.ensures.kept c.in_ok-need.need (λ reading. union (context (map (seen_frame reading) c.args.world.now.frames.frames)) (reading c.args.site.now.place)) c.in_ok-need.ensures.means)
    (heap_refused g.L.Labels.made g.L.Labels.meaning c.set_body.new.labels c.args.world.now (λ reading u. u) _ (λ reading. heap_acts.set_body c.args.site.now.object.0 c.args.site.now.key (reading c.in_ok-need.need) c.in-Some.new.body (reading c.in-Some.new.label)) c.set_body.new.self
    c.set_body.result c.in_err-set_body.field-0.0 (went c.from_residual-in_err-set_body.result) c.in_err-set_body.was (went_refused c.in_err-set_body.field-0.0 c.from_residual-in_err-set_body.result c.from_residual-in_err-set_body.ensures.1) c.set_body.ensures.acts)

pub returns-in_err-set_body-clause-belongs : goal.returns-in_err-set_body-clause-belongs
returns-in_err-set_body-clause-belongs g c = Belongs-heap g.L.Labels.made g.L.Labels.meaning g.L.Labels.room g.L.Labels.firm c.args.labels.now c.set_body.new.labels (IsKept-trans _ _ _ _ _ _ _ c.in_ok-need.ensures.kept c.set_body.ensures.kept) g.met.L.Labels.rising c.args.world.now c.requires.belongs c.set_body.new.self c.set_body.ensures.belongs c.set_body.ensures.length

pub returns-clause-acts : goal.returns-clause-acts
returns-clause-acts g c =
    body_is_set g.L.Labels.made g.L.Labels.meaning c.set_body.new.labels c.args.world.now (with_heap c.set_body.new.self c.args.world.now) c.args.site.now.object.0 c.args.site.now.key c.args.site.now.place c.in_ok-need.need _ c.args.new c.in-Some.new.body c.in-Some.new.label c.in-Some.is
    (means_later g.L.Labels.made g.L.Labels.meaning g.L.Labels.room g.L.Labels.firm c.need_of.new.labels c.set_body.new.labels c.set_body.ensures.kept c.in_ok-need.need (λ reading. union (context (map (seen_frame reading) c.args.world.now.frames.frames)) (reading c.args.site.now.place)) c.in_ok-need.ensures.means)
    (heap_done g.L.Labels.made g.L.Labels.meaning c.set_body.new.labels c.args.world.now (λ reading u. u) _ (λ reading. heap_acts.set_body c.args.site.now.object.0 c.args.site.now.key (reading c.in_ok-need.need) c.in-Some.new.body (reading c.in-Some.new.label)) c.set_body.new.self
    c.set_body.result c.in_ok-set_body.was c.set_body.ensures.acts)

pub returns-clause-belongs : goal.returns-clause-belongs
returns-clause-belongs g c = Belongs-heap g.L.Labels.made g.L.Labels.meaning g.L.Labels.room g.L.Labels.firm c.args.labels.now c.set_body.new.labels (IsKept-trans _ _ _ _ _ _ _ c.in_ok-need.ensures.kept c.set_body.ensures.kept) g.met.L.Labels.rising c.args.world.now c.requires.belongs c.set_body.new.self c.set_body.ensures.belongs c.set_body.ensures.length

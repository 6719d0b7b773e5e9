use Rattle.std.proofs.Common.{◌≡◌, false, map, sym, subst, IsSome}
use Rattle.std.specs.List.{slice_get}
use Rattle.origin_labels.specs.Label.{union}
use Rattle.origin_labels.specs.Names.{same_name}
use Rattle.origin_labels.proofs.StoreLaws.{IsKept-trans}
use Rattle.flow_frames.specs.Frames.{context}
use Rattle.flow_frames.specs.Held.{seen_frame}
use Rattle.flow_frames.proofs.StandingLaws.{Belong-kept}
use Rattle.js_values.specs.Arrays.{length_key}
use Rattle.object_heap.specs.Acts as heap_acts
use Rattle.object_heap.specs.Formed.{own_in}
use Rattle.run_state.proofs.ActLaws.{Belongs-later}
use Rattle.property_access.proofs.MeansLaws.{means_later}
use Rattle.property_access.proofs.ObjectLaws.{with_heap, Belongs-heap, heap_done, heap_refused}
use Rattle.property_requests.specs.Finding.{went}
use Rattle.property_requests.proofs.ArrayLaws.{element_no_length}
use Rattle.property_requests.proofs.ChangingLaws.{went_refused}
use Rattle.property_requests.proofs.KeptLaws.{other_stays}
use Rattle.property_requests.proofs.LengthLaws.{removes}
use Rattle.property_requests.proofs.lengths.delete_element.Goals as goal

pub returns-in_err-depends-clause-belongs : goal.returns-in_err-depends-clause-belongs
returns-in_err-depends-clause-belongs g c = Belongs-later g.L.Labels.made g.L.Labels.meaning g.L.Labels.room g.L.Labels.firm c.args.labels.now c.join.new.labels c.join.ensures.kept g.met.L.Labels.rising c.args.world.now c.requires.belongs

pub need_of-requires-clause-belongs : goal.need_of-requires-clause-belongs
need_of-requires-clause-belongs g c = Belong-kept g.L.Labels.made g.L.Labels.meaning g.met.L.Labels.rising g.L.Labels.room g.L.Labels.firm c.args.labels.now c.join.new.labels c.args.world.now.frames.frames c.in_ok-depends.ensures.kept c.requires.belongs.frames

pub returns-in_err-need-clause-belongs : goal.returns-in_err-need-clause-belongs
returns-in_err-need-clause-belongs g c = Belongs-later g.L.Labels.made g.L.Labels.meaning g.L.Labels.room g.L.Labels.firm c.args.labels.now c.need_of.new.labels (IsKept-trans _ _ _ _ _ _ _ c.in_ok-depends.ensures.kept c.need_of.ensures.kept) g.met.L.Labels.rising c.args.world.now c.requires.belongs

pub remove-requires-clause-present : goal.remove-requires-clause-present
remove-requires-clause-present g c = subst (λ k. IsSome (own_in k (slice_get c.args.world.now.heap c.args.o.0))) (sym c.in_ok-key.ensures) c.requires.present

pub returns-in_err-remove-clause-acts : goal.returns-in_err-remove-clause-acts
returns-in_err-remove-clause-acts g c =
    removes g.L.Labels.made g.L.Labels.meaning c.remove.new.labels c.args.world.now (with_heap c.remove.new.self c.args.world.now) c.args.o.0 c.args.i c.in_ok-key.key c.args.place c.args.tested c.in_ok-depends.depends c.in_ok-need.need (went c.from_residual-in_err-remove.result) c.in_ok-key.ensures
    (means_later g.L.Labels.made g.L.Labels.meaning g.L.Labels.room g.L.Labels.firm c.join.new.labels c.remove.new.labels (IsKept-trans _ _ _ _ _ _ _ c.in_ok-need.ensures.kept c.remove.ensures.kept) c.in_ok-depends.depends (λ reading. union (reading c.args.place) (reading c.args.tested)) c.in_ok-depends.ensures.means)
    (means_later g.L.Labels.made g.L.Labels.meaning g.L.Labels.room g.L.Labels.firm c.need_of.new.labels c.remove.new.labels c.remove.ensures.kept c.in_ok-need.need (λ reading. union (context (map (seen_frame reading) c.args.world.now.frames.frames)) (reading c.in_ok-depends.depends)) c.in_ok-need.ensures.means)
    (heap_refused g.L.Labels.made g.L.Labels.meaning c.remove.new.labels c.args.world.now (λ reading u. u) _ (λ reading. heap_acts.remove c.args.o.0 c.in_ok-key.key (reading c.in_ok-need.need)) c.remove.new.self
    c.remove.result c.in_err-remove.field-0.0 (went c.from_residual-in_err-remove.result) c.in_err-remove.was (went_refused c.in_err-remove.field-0.0 c.from_residual-in_err-remove.result c.from_residual-in_err-remove.ensures.1) c.remove.ensures.acts)

pub returns-in_err-remove-clause-belongs : goal.returns-in_err-remove-clause-belongs
returns-in_err-remove-clause-belongs g c = Belongs-heap g.L.Labels.made g.L.Labels.meaning g.L.Labels.room g.L.Labels.firm c.args.labels.now c.remove.new.labels (IsKept-trans _ _ _ _ _ _ _ c.in_ok-depends.ensures.kept (IsKept-trans _ _ _ _ _ _ _ c.in_ok-need.ensures.kept c.remove.ensures.kept)) g.met.L.Labels.rising c.args.world.now c.requires.belongs c.remove.new.self c.remove.ensures.belongs c.remove.ensures.length

pub returns-clause-acts : goal.returns-clause-acts
returns-clause-acts g c =
    removes g.L.Labels.made g.L.Labels.meaning c.remove.new.labels c.args.world.now (with_heap c.remove.new.self c.args.world.now) c.args.o.0 c.args.i c.in_ok-key.key c.args.place c.args.tested c.in_ok-depends.depends c.in_ok-need.need _ c.in_ok-key.ensures
    (means_later g.L.Labels.made g.L.Labels.meaning g.L.Labels.room g.L.Labels.firm c.join.new.labels c.remove.new.labels (IsKept-trans _ _ _ _ _ _ _ c.in_ok-need.ensures.kept c.remove.ensures.kept) c.in_ok-depends.depends (λ reading. union (reading c.args.place) (reading c.args.tested)) c.in_ok-depends.ensures.means)
    (means_later g.L.Labels.made g.L.Labels.meaning g.L.Labels.room g.L.Labels.firm c.need_of.new.labels c.remove.new.labels c.remove.ensures.kept c.in_ok-need.need (λ reading. union (context (map (seen_frame reading) c.args.world.now.frames.frames)) (reading c.in_ok-depends.depends)) c.in_ok-need.ensures.means)
    (heap_done g.L.Labels.made g.L.Labels.meaning c.remove.new.labels c.args.world.now (λ reading u. u) _ (λ reading. heap_acts.remove c.args.o.0 c.in_ok-key.key (reading c.in_ok-need.need)) c.remove.new.self
    c.remove.result c.in_ok-remove.was c.remove.ensures.acts)

pub returns-clause-belongs : goal.returns-clause-belongs
returns-clause-belongs g c = Belongs-heap g.L.Labels.made g.L.Labels.meaning g.L.Labels.room g.L.Labels.firm c.args.labels.now c.remove.new.labels (IsKept-trans _ _ _ _ _ _ _ c.in_ok-depends.ensures.kept (IsKept-trans _ _ _ _ _ _ _ c.in_ok-need.ensures.kept c.remove.ensures.kept)) g.met.L.Labels.rising c.args.world.now c.requires.belongs c.remove.new.self c.remove.ensures.belongs c.remove.ensures.length

pub returns-clause-present : goal.returns-clause-present
returns-clause-present g c = λ some.
    other_stays g.L.Labels.made g.L.Labels.meaning c.remove.new.labels c.args.o.0 c.in_ok-key.key length_key (subst (λ k. same_name k length_key ≡ false) (sym c.in_ok-key.ensures) (element_no_length c.args.i c.requires.small)) c.in_ok-need.need c.args.world.now.heap c.remove.new.self c.remove.result c.in_ok-remove.was c.remove.ensures.acts some

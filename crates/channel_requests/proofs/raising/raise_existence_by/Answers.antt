use Rattle.std.proofs.Common.{map, refl, Ok}
use Rattle.origin_labels.specs.Label.{union}
use Rattle.origin_labels.proofs.StoreLaws.{IsKept-trans}
use Rattle.flow_frames.specs.Frames.{context}
use Rattle.flow_frames.specs.Held.{seen_frame}
use Rattle.js_values.specs.Readings.{read_value}
use Rattle.object_heap.specs.Acts as heap_acts
use Rattle.run_state.specs.declared.outcome.Outcome.TheVariants as outcome
use Rattle.run_state.proofs.ActLaws.{Belongs-later}
use Rattle.property_access.proofs.ObjectLaws.{with_heap, Belongs-heap, heap_done, heap_refused}
use Rattle.channel_requests.specs.Raising.{nothing}
use Rattle.channel_requests.proofs.MeansLaws.{means_itself, means_later, means_joined}
use Rattle.channel_requests.proofs.ObjectRaises.{raises_nothing, existence_raised, existence_has, existence_some}
use Rattle.channel_requests.proofs.raising.raise_existence_by.Goals as goal

pub returns-in_default-clause-acts : goal.returns-in_default-clause-acts
returns-in_default-clause-acts g c = raises_nothing g.L.Labels.made g.L.Labels.meaning c.args.labels.now c.args.world.now c.args.o.0 c.args.label c.args.origins c.undefined.result c.undefined.ensures c.args.key.now c.in_default.ensures

pub join-requires-clause-second : goal.join-requires-clause-second
join-requires-clause-second g c = existence_has c.args.world.now.heap c.args.o.0 (g.L.Labels.made c.args.labels.now) c.args.key.now c.in-Some.existence c.requires.belongs.heap c.in-Some.ensures

pub returns-in_err-place-clause-belongs : goal.returns-in_err-place-clause-belongs
returns-in_err-place-clause-belongs g c = Belongs-later g.L.Labels.made g.L.Labels.meaning g.L.Labels.room g.L.Labels.firm c.args.labels.now c.join.new.self (c.join.ensures.kept) g.met.L.Labels.rising c.args.world.now c.requires.belongs

pub need_of-requires-clause-belongs : goal.need_of-requires-clause-belongs
need_of-requires-clause-belongs g c = (Belongs-later g.L.Labels.made g.L.Labels.meaning g.L.Labels.room g.L.Labels.firm c.args.labels.now c.join.new.self (c.join.ensures.kept) g.met.L.Labels.rising c.args.world.now c.requires.belongs).frames

pub returns-in_err-need-clause-belongs : goal.returns-in_err-need-clause-belongs
returns-in_err-need-clause-belongs g c = Belongs-later g.L.Labels.made g.L.Labels.meaning g.L.Labels.room g.L.Labels.firm c.args.labels.now c.need_of.new.labels (IsKept-trans _ _ _ _ _ _ _ c.join.ensures.kept c.need_of.ensures.kept) g.met.L.Labels.rising c.args.world.now c.requires.belongs

pub raise_existence-requires-clause-present : goal.raise_existence-requires-clause-present
raise_existence-requires-clause-present g c = existence_some c.args.world.now.heap c.args.o.0 c.args.key.now c.in-Some.existence c.in-Some.ensures

pub raise_existence-requires-clause-belongs : goal.raise_existence-requires-clause-belongs
raise_existence-requires-clause-belongs g c = (Belongs-later g.L.Labels.made g.L.Labels.meaning g.L.Labels.room g.L.Labels.firm c.args.labels.now c.need_of.new.labels (IsKept-trans _ _ _ _ _ _ _ c.join.ensures.kept c.need_of.ensures.kept) g.met.L.Labels.rising c.args.world.now c.requires.belongs).heap

pub returns-in_err-raise_existence-clause-acts : goal.returns-in_err-raise_existence-clause-acts
returns-in_err-raise_existence-clause-acts g c =
    existence_raised g.L.Labels.made g.L.Labels.meaning c.raise_existence.new.labels c.args.world.now c.args.o.0 c.args.label c.args.origins c.in_ok-need.need (nothing c.args.label) refl (with_heap c.raise_existence.new.self c.args.world.now) c.from_residual-in_err-raise_existence.result
    c.args.key.now c.in-Some.existence c.in_ok-place.place c.in-Some.ensures
    (means_later g.L.Labels.made g.L.Labels.meaning g.L.Labels.room g.L.Labels.firm c.join.new.self c.raise_existence.new.labels (IsKept-trans _ _ _ _ _ _ _ c.need_of.ensures.kept c.raise_existence.ensures.kept) c.in_ok-place.place (λ reading. union (reading c.args.label) (reading c.in-Some.existence))
    (means_joined g.L.Labels.made g.L.Labels.meaning g.L.Labels.room g.L.Labels.firm c.args.labels.now c.join.new.self c.join.ensures.kept c.args.label c.in-Some.existence c.in_ok-place.place _ _ (means_itself g.L.Labels.made g.L.Labels.meaning c.args.labels.now c.args.label c.requires.label)
    (means_itself g.L.Labels.made g.L.Labels.meaning c.args.labels.now c.in-Some.existence (existence_has c.args.world.now.heap c.args.o.0 (g.L.Labels.made c.args.labels.now) c.args.key.now c.in-Some.existence c.requires.belongs.heap c.in-Some.ensures)) c.in_ok-place.ensures.made c.in_ok-place.ensures.meaning))
    (means_later g.L.Labels.made g.L.Labels.meaning g.L.Labels.room g.L.Labels.firm c.need_of.new.labels c.raise_existence.new.labels c.raise_existence.ensures.kept c.in_ok-need.need (λ reading. union (context (map (seen_frame reading) c.args.world.now.frames.frames)) (reading c.in_ok-place.place)) c.in_ok-need.ensures.means)
    (heap_refused g.L.Labels.made g.L.Labels.meaning c.raise_existence.new.labels c.args.world.now (λ reading. read_value reading) (nothing c.args.label) (λ reading. heap_acts.raise_existence c.args.o.0 c.args.key.now (reading c.in_ok-need.need) (reading c.args.origins)) c.raise_existence.new.self
    c.raise_existence.result c.in_err-raise_existence.field-0.0 c.from_residual-in_err-raise_existence.result c.in_err-raise_existence.was c.from_residual-in_err-raise_existence.ensures.1 c.raise_existence.ensures.acts)

pub returns-in_err-raise_existence-clause-belongs : goal.returns-in_err-raise_existence-clause-belongs
returns-in_err-raise_existence-clause-belongs g c = Belongs-heap g.L.Labels.made g.L.Labels.meaning g.L.Labels.room g.L.Labels.firm c.args.labels.now c.raise_existence.new.labels (IsKept-trans _ _ _ _ _ _ _ c.join.ensures.kept (IsKept-trans _ _ _ _ _ _ _ c.need_of.ensures.kept c.raise_existence.ensures.kept)) g.met.L.Labels.rising c.args.world.now c.requires.belongs c.raise_existence.new.self c.raise_existence.ensures.belongs c.raise_existence.ensures.length

pub returns-clause-acts : goal.returns-clause-acts
returns-clause-acts g c =
    existence_raised g.L.Labels.made g.L.Labels.meaning c.raise_existence.new.labels c.args.world.now c.args.o.0 c.args.label c.args.origins c.in_ok-need.need c.undefined-2.result c.undefined-2.ensures (with_heap c.raise_existence.new.self c.args.world.now) (Ok (outcome.Goes c.undefined-2.result))
    c.args.key.now c.in-Some.existence c.in_ok-place.place c.in-Some.ensures
    (means_later g.L.Labels.made g.L.Labels.meaning g.L.Labels.room g.L.Labels.firm c.join.new.self c.raise_existence.new.labels (IsKept-trans _ _ _ _ _ _ _ c.need_of.ensures.kept c.raise_existence.ensures.kept) c.in_ok-place.place (λ reading. union (reading c.args.label) (reading c.in-Some.existence))
    (means_joined g.L.Labels.made g.L.Labels.meaning g.L.Labels.room g.L.Labels.firm c.args.labels.now c.join.new.self c.join.ensures.kept c.args.label c.in-Some.existence c.in_ok-place.place _ _ (means_itself g.L.Labels.made g.L.Labels.meaning c.args.labels.now c.args.label c.requires.label)
    (means_itself g.L.Labels.made g.L.Labels.meaning c.args.labels.now c.in-Some.existence (existence_has c.args.world.now.heap c.args.o.0 (g.L.Labels.made c.args.labels.now) c.args.key.now c.in-Some.existence c.requires.belongs.heap c.in-Some.ensures)) c.in_ok-place.ensures.made c.in_ok-place.ensures.meaning))
    (means_later g.L.Labels.made g.L.Labels.meaning g.L.Labels.room g.L.Labels.firm c.need_of.new.labels c.raise_existence.new.labels c.raise_existence.ensures.kept c.in_ok-need.need (λ reading. union (context (map (seen_frame reading) c.args.world.now.frames.frames)) (reading c.in_ok-place.place)) c.in_ok-need.ensures.means)
    (heap_done g.L.Labels.made g.L.Labels.meaning c.raise_existence.new.labels c.args.world.now (λ reading. read_value reading) c.undefined-2.result (λ reading. heap_acts.raise_existence c.args.o.0 c.args.key.now (reading c.in_ok-need.need) (reading c.args.origins)) c.raise_existence.new.self
    c.raise_existence.result c.in_ok-raise_existence.was c.raise_existence.ensures.acts)

pub returns-clause-belongs : goal.returns-clause-belongs
returns-clause-belongs g c = Belongs-heap g.L.Labels.made g.L.Labels.meaning g.L.Labels.room g.L.Labels.firm c.args.labels.now c.raise_existence.new.labels (IsKept-trans _ _ _ _ _ _ _ c.join.ensures.kept (IsKept-trans _ _ _ _ _ _ _ c.need_of.ensures.kept c.raise_existence.ensures.kept)) g.met.L.Labels.rising c.args.world.now c.requires.belongs c.raise_existence.new.self c.raise_existence.ensures.belongs c.raise_existence.ensures.length

pub returns-clause-kept : goal.returns-clause-kept
returns-clause-kept g c = IsKept-trans _ _ _ _ _ _ _ c.join.ensures.kept (IsKept-trans _ _ _ _ _ _ _ c.need_of.ensures.kept c.raise_existence.ensures.kept)

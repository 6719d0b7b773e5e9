use Rattle.std.proofs.Common.{refl, length, subst}
use Rattle.origin_labels.proofs.StoreLaws.{IsKept-trans}
use Rattle.flow_frames.proofs.StandingLaws.{Belong-kept}
use Rattle.js_values.proofs.ReadingLaws.{HasHeap-kept}
use Rattle.run_state.proofs.ActLaws.{Belongs-later}
use Rattle.property_access.proofs.MeansLaws.{means_later}
use Rattle.std.specs.List.{slice_get}
use Rattle.js_values.specs.Readings.{read_inner}
use Rattle.es_meaning.specs.Requested.{bound_count}
use Rattle.std.specs.Option.{option_map}
use Rattle.flow_meaning.specs.Erased.{erased_object}
use Rattle.property_requests.specs.Binding.{function_with}
use Rattle.property_requests.specs.Building.{IsLast}
use Rattle.property_requests.proofs.BindingLaws.{bound_made, inner_has}
use Rattle.property_requests.proofs.MakingLaws.{belongs_grown}
use Rattle.property_requests.proofs.MeansLaws.{means_bottom, means_context}
use Rattle.property_requests.proofs.binding.bind_object.Goals as goal

pub returns-in_err-depends-clause-belongs : goal.returns-in_err-depends-clause-belongs
returns-in_err-depends-clause-belongs g c = Belongs-later g.L.Labels.made g.L.Labels.meaning g.L.Labels.room g.L.Labels.firm c.args.labels.now c.length_depends.new.labels c.length_depends.ensures.kept g.met.L.Labels.rising c.args.world.now c.requires.belongs

pub returns-in_err-inner-clause-belongs : goal.returns-in_err-inner-clause-belongs
returns-in_err-inner-clause-belongs g c = Belongs-later g.L.Labels.made g.L.Labels.meaning g.L.Labels.room g.L.Labels.firm c.args.labels.now c.length_depends.new.labels c.in_ok-depends.ensures.kept g.met.L.Labels.rising c.args.world.now c.requires.belongs

pub context-context-requires : goal.context-context-requires
context-context-requires g c = Belong-kept g.L.Labels.made g.L.Labels.meaning g.met.L.Labels.rising g.L.Labels.room g.L.Labels.firm c.args.labels.now c.length_depends.new.labels c.args.world.now.frames.frames c.in_ok-depends.ensures.kept c.requires.belongs.frames

pub make_function-requires-clause-belongs : goal.make_function-requires-clause-belongs
make_function-requires-clause-belongs g c = HasHeap-kept g.L.Labels.made g.L.Labels.meaning g.L.Labels.room g.L.Labels.firm c.args.labels.now c.length_depends.new.labels c.in_ok-depends.ensures.kept c.args.world.now.heap c.requires.belongs.heap

pub make_function-requires-clause-inner : goal.make_function-requires-clause-inner
make_function-requires-clause-inner g c = inner_has g.L.Labels.made g.L.Labels.meaning g.L.Labels.room g.L.Labels.firm c.args.labels.now c.length_depends.new.labels c.in_ok-depends.ensures.kept c.args.o c.args.label c.args.this.now c.args.args.now c.in_ok-inner.inner c.in_ok-inner.ensures c.requires.label c.requires.this c.requires.args

pub returns-in_err-f-clause-belongs : goal.returns-in_err-f-clause-belongs
returns-in_err-f-clause-belongs g c = belongs_grown g.L.Labels.made g.L.Labels.meaning g.L.Labels.room g.L.Labels.firm c.args.labels.now c.make_function.new.labels (IsKept-trans _ _ _ _ _ _ _ c.in_ok-depends.ensures.kept c.make_function.ensures.kept) g.met.L.Labels.rising c.args.world.now c.requires.belongs c.make_function.new.heap c.make_function.ensures.belongs c.make_function.ensures.grows

pub returns-clause-belongs : goal.returns-clause-belongs
returns-clause-belongs g c = belongs_grown g.L.Labels.made g.L.Labels.meaning g.L.Labels.room g.L.Labels.firm c.args.labels.now c.make_function.new.labels (IsKept-trans _ _ _ _ _ _ _ c.in_ok-depends.ensures.kept c.in_ok-f.ensures.kept) g.met.L.Labels.rising c.args.world.now c.requires.belongs c.make_function.new.heap c.in_ok-f.ensures.belongs c.in_ok-f.ensures.grows

pub returns-clause-acts : goal.returns-clause-acts
returns-clause-acts g c =
    let last = c.in_ok-f.ensures.kept in
    let middle = c.length_depends.new.labels in
    let n = bound_count (option_map erased_object (slice_get c.args.world.now.heap c.args.o.0)) (length c.args.args.now) in
    bound_made g.L.Labels.made g.L.Labels.meaning c.make_function.new.labels c.args.world.now c.make_function.new.heap c.args.o c.in_ok-f.f c.args.label c.in_ok-depends.depends c.context-context.result c.bottom.result c.args.this.now c.args.args.now n c.in_ok-f.ensures.number refl
    (means_context g.L.Labels.made g.L.Labels.meaning g.L.Labels.room g.L.Labels.firm middle c.make_function.new.labels last c.args.world.now.frames.frames c.context-context.result (Belongs-later g.L.Labels.made g.L.Labels.meaning g.L.Labels.room g.L.Labels.firm c.args.labels.now middle c.in_ok-depends.ensures.kept g.met.L.Labels.rising c.args.world.now c.requires.belongs).frames c.context-context.ensures.made c.context-context.ensures.meaning)
    (means_bottom g.L.Labels.made g.L.Labels.meaning c.make_function.new.labels c.bottom.result c.bottom.ensures.made c.bottom.ensures.meaning)
    (means_later g.L.Labels.made g.L.Labels.meaning g.L.Labels.room g.L.Labels.firm middle c.make_function.new.labels last c.in_ok-depends.depends _ c.in_ok-depends.ensures.means)
    (subst (λ inner. IsLast g.L.Labels.made g.L.Labels.meaning c.make_function.new.labels c.args.world.now.heap c.make_function.new.heap (λ reading. function_with (read_inner reading inner) (reading c.in_ok-depends.depends) n (reading c.context-context.result))) c.in_ok-inner.ensures
    (c.in_ok-f.ensures.makes n c.bound_count-count.ensures))

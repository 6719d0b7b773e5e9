use Rattle.std.proofs.Common.{refl}
use Rattle.js_values.proofs.ReadingLaws.{HasHeap-kept}
use Rattle.run_state.proofs.ActLaws.{Belongs-later}
use Rattle.origin_labels.proofs.StoreLaws.{IsKept-trans}
use Rattle.property_access.proofs.MeansLaws.{means_later, need_means}
use Rattle.property_requests.proofs.MakingLaws.{object_made, belongs_grown}
use Rattle.property_requests.proofs.MeansLaws.{means_bottom, means_context}
use Rattle.property_requests.proofs.making.make.Goals as goal

pub returns-in_err-link-clause-belongs : goal.returns-in_err-link-clause-belongs
returns-in_err-link-clause-belongs g c = Belongs-later g.L.Labels.made g.L.Labels.meaning g.L.Labels.room g.L.Labels.firm c.args.labels.now c.join.new.labels c.join.ensures.kept g.met.L.Labels.rising c.args.world.now c.requires.belongs

pub make_of-requires-clause-context : goal.make_of-requires-clause-context
make_of-requires-clause-context g c = (c.in_ok-link.ensures.kept.labels c.context-context.result c.context-context.ensures.made).0

pub make_of-requires-clause-link : goal.make_of-requires-clause-link
make_of-requires-clause-link g c = c.in_ok-link.ensures.means.belongs

pub make_of-requires-clause-belongs : goal.make_of-requires-clause-belongs
make_of-requires-clause-belongs g c = HasHeap-kept g.L.Labels.made g.L.Labels.meaning g.L.Labels.room g.L.Labels.firm c.args.labels.now c.join.new.labels c.in_ok-link.ensures.kept c.args.world.now.heap c.requires.belongs.heap

pub returns-clause-acts : goal.returns-clause-acts
returns-clause-acts g c =
    let kept = IsKept-trans _ _ _ _ _ _ _ c.in_ok-link.ensures.kept c.make_of.ensures.kept in
    object_made g.L.Labels.made g.L.Labels.meaning c.make_of.new.labels c.args.world.now c.args.class c.args.proto c.make_of.new.heap c.args.label c.context-context.result c.in_ok-link.link c.bottom.result c.in_ok-o.o c.in_ok-o.ensures.number c.in_ok-o.ensures.makes
    (means_context g.L.Labels.made g.L.Labels.meaning g.L.Labels.room g.L.Labels.firm c.args.labels.now c.make_of.new.labels kept c.args.world.now.frames.frames c.context-context.result c.requires.belongs.frames c.context-context.ensures.made c.context-context.ensures.meaning)
    (means_later g.L.Labels.made g.L.Labels.meaning g.L.Labels.room g.L.Labels.firm c.join.new.labels c.make_of.new.labels c.make_of.ensures.kept c.in_ok-link.link _
    (need_means g.L.Labels.made g.L.Labels.meaning g.L.Labels.room g.L.Labels.firm c.args.labels.now c.join.new.labels c.in_ok-link.ensures.kept c.args.world.now.frames.frames c.context-context.result c.args.label c.in_ok-link.link (λ reading. reading c.args.label)
    c.requires.belongs.frames c.context-context.ensures.made c.context-context.ensures.meaning (record { belongs = c.requires.label; is = λ reading read. refl }) c.in_ok-link.ensures.means))
    (means_bottom g.L.Labels.made g.L.Labels.meaning c.make_of.new.labels c.bottom.result c.bottom.ensures.made c.bottom.ensures.meaning)

pub returns-clause-belongs : goal.returns-clause-belongs
returns-clause-belongs g c =
    belongs_grown g.L.Labels.made g.L.Labels.meaning g.L.Labels.room g.L.Labels.firm c.args.labels.now c.make_of.new.labels (IsKept-trans _ _ _ _ _ _ _ c.in_ok-link.ensures.kept c.make_of.ensures.kept) g.met.L.Labels.rising c.args.world.now c.requires.belongs c.make_of.new.heap c.make_of.ensures.belongs c.make_of.ensures.longer

pub returns-in_err-o-clause-belongs : goal.returns-in_err-o-clause-belongs
returns-in_err-o-clause-belongs g c =
    belongs_grown g.L.Labels.made g.L.Labels.meaning g.L.Labels.room g.L.Labels.firm c.args.labels.now c.make_of.new.labels (IsKept-trans _ _ _ _ _ _ _ c.in_ok-link.ensures.kept c.make_of.ensures.kept) g.met.L.Labels.rising c.args.world.now c.requires.belongs c.make_of.new.heap c.make_of.ensures.belongs c.make_of.ensures.longer

use Rattle.origin_labels.proofs.StoreLaws.{IsKept-trans}
use Rattle.run_state.proofs.ActLaws.{Belongs-later}
use Rattle.step_objects.proofs.InstanceLaws.{linked_later, prototype_found}
use Rattle.step_objects.proofs.instances.has_prototype.Goals as goal

pub returns-in_err-linked-clause-belongs : goal.returns-in_err-linked-clause-belongs
returns-in_err-linked-clause-belongs g c = Belongs-later g.L.Labels.made g.L.Labels.meaning g.L.Labels.room g.L.Labels.firm c.args.labels.now c.find_link.new.labels (c.find_link.ensures.kept) g.met.L.Labels.rising c.args.world.now c.requires.belongs

pub returns-in_err-depends-clause-belongs : goal.returns-in_err-depends-clause-belongs
returns-in_err-depends-clause-belongs g c = Belongs-later g.L.Labels.made g.L.Labels.meaning g.L.Labels.room g.L.Labels.firm c.args.labels.now c.join.new.labels (IsKept-trans _ _ _ _ _ _ _ c.find_link.ensures.kept c.join.ensures.kept) g.met.L.Labels.rising c.args.world.now c.requires.belongs

pub returns-clause-acts : goal.returns-clause-acts
returns-clause-acts g c = prototype_found g.L.Labels.made g.L.Labels.meaning c.join.new.labels c.args.world.now c.args.o.0 c.args.proto c.args.label c.in_ok-depends.depends c.in_ok-linked.linked
    (linked_later g.L.Labels.made g.L.Labels.meaning g.L.Labels.room g.L.Labels.firm c.find_link.new.labels c.join.new.labels c.in_ok-depends.ensures.kept c.args.world.now.heap c.args.o.0 c.args.proto.0 c.in_ok-linked.linked c.in_ok-linked.ensures.linked) c.in_ok-depends.ensures.means

pub returns-clause-belongs : goal.returns-clause-belongs
returns-clause-belongs g c = Belongs-later g.L.Labels.made g.L.Labels.meaning g.L.Labels.room g.L.Labels.firm c.args.labels.now c.join.new.labels (IsKept-trans _ _ _ _ _ _ _ c.in_ok-linked.ensures.kept c.in_ok-depends.ensures.kept) g.met.L.Labels.rising c.args.world.now c.requires.belongs

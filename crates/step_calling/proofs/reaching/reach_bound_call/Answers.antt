use Rattle.std.proofs.Common.{subst}
use Rattle.origin_labels.proofs.StoreLaws.{IsKept-refl}
use Rattle.step_calling.specs.BoundTargets.{ComesTo}
use Rattle.step_calling.proofs.ReachLaws.{calls_aimed, calls_itself}
use Rattle.step_natives.proofs.ConvertingLaws.{union_read}
use Rattle.step_calling.proofs.reaching.reach_bound_call.Goals as goal

pub returns-in-None-clause-reaches : goal.returns-in-None-clause-reaches
returns-in-None-clause-reaches g c =
    calls_itself g.L.Labels.made g.L.Labels.meaning c.args.heap.now c.args.f c.args.label g.L.Labels.room g.L.Labels.firm c.args.labels.now c.bound_target_of.new.labels c.in_ok-aim.ensures.kept (g.met.L.Labels.rising c.bound_target_of.new.labels) c.requires.label
    c.args.stack.now c.args.count c.requires.count c.requires.enough c.requires.leads (subst (ComesTo g.L.Labels.made g.L.Labels.meaning c.bound_target_of.new.labels c.args.heap.now c.args.f.0) c.in-None.is c.in_ok-aim.ensures.comes)

pub returns-in_ok-count-in-Some-clause-reaches : goal.returns-in_ok-count-in-Some-clause-reaches
returns-in_ok-count-in-Some-clause-reaches g c =
    let aimed = subst (ComesTo g.L.Labels.made g.L.Labels.meaning c.bound_target_of.new.labels c.args.heap.now c.args.f.0) c.in-Some.is c.in_ok-aim.ensures.comes in
    calls_aimed g.L.Labels.made g.L.Labels.meaning c.args.heap.now c.args.f c.args.label g.L.Labels.room g.L.Labels.firm c.bound_target_of.new.labels c.join.new.self c.in_ok-joined-in-Some.ensures.kept c.in-Some.aim c.in_ok-joined-in-Some.joined aimed c.in_ok-joined-in-Some.ensures.made
    (union_read g.L.Labels.made g.L.Labels.meaning g.L.Labels.room g.L.Labels.firm c.bound_target_of.new.labels c.join.new.self c.join.new.self c.in_ok-joined-in-Some.ensures.kept (IsKept-refl _ _ _ _ _) c.args.label c.in-Some.aim.label c.in_ok-joined-in-Some.joined ((c.in_ok-aim.ensures.kept.labels c.args.label c.requires.label).0) aimed.has.label c.in_ok-joined-in-Some.ensures.made c.in_ok-joined-in-Some.ensures.meaning)
    c.args.stack.now c.lay_call.new.stack c.in_ok-count-in-Some.count c.lay_call.ensures.tasks c.in_ok-count-in-Some.ensures.count c.in_ok-count-in-Some.ensures.laid

use Rattle.origin_labels.proofs.StoreLaws.{IsKept-refl}
use Rattle.step_calling.proofs.ReachLaws.{calls_itself}
use Rattle.step_calling.proofs.reaching.reach_call.Goals as goal

pub returns-else-is_bound-clause-reaches : goal.returns-else-is_bound-clause-reaches
returns-else-is_bound-clause-reaches g c =
    calls_itself g.L.Labels.made g.L.Labels.meaning c.args.heap.now c.args.f c.args.label g.L.Labels.room g.L.Labels.firm c.args.labels.now c.args.labels.now (IsKept-refl _ _ _ _ _) (g.met.L.Labels.rising c.args.labels.now) c.requires.label
    c.args.stack.now c.args.count c.requires.count c.requires.enough c.requires.leads (c.is_bound.ensures c.if-is_bound.false)

use Rattle.std.proofs.Common.{◌<◌, length}
use Rattle.origin_labels.specs.Stores.{IsKept}
use Rattle.step_calling.specs.BoundTargets.{HasBoundTarget}
use Rattle.step_calling.proofs.BoundTargetLaws.{Aims}
use Rattle.step_calling.proofs.bound_target.walk_targets.Given as goal

-- what this aim comes to is what the first function comes to
abbrev pub invariant-along : goal.invariant-along
invariant-along g l = record {
  there : l.aim.function.0 < length l.heap;
  has : HasBoundTarget (g.L.Labels.made l.labels) l.aim;
  kept : IsKept g.L.Labels.made g.L.Labels.meaning g.L.Labels.room g.L.Labels.firm l.fn.labels l.labels;
  aims : Aims g.L.Labels.made g.L.Labels.meaning l.labels l.heap l.fn._o.0 l.aim;
}

abbrev pub decreases-along : goal.decreases-along
decreases-along g l = l.aim.function.0

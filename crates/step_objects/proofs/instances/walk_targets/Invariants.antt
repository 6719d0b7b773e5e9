use Rattle.std.proofs.Common.{◌<◌, length}
use Rattle.origin_labels.specs.Stores.{IsKept}
use Rattle.step_objects.proofs.TestLaws.{Aims}
use Rattle.step_objects.proofs.instances.walk_targets.Given as goal

-- what this function comes to, behind the labels so far, is what the first one comes to
abbrev pub invariant-along : goal.invariant-along
invariant-along g l = record {
  there : l.at.0 < length l.heap;
  made : g.L.Labels.made l.labels l.label;
  kept : IsKept g.L.Labels.made g.L.Labels.meaning g.L.Labels.room g.L.Labels.firm l.fn.labels l.labels;
  aims : Aims g.L.Labels.made g.L.Labels.meaning l.labels l.heap l.fn.f.0 l.at.0 l.label;
}

abbrev pub decreases-along : goal.decreases-along
decreases-along g l = l.at.0

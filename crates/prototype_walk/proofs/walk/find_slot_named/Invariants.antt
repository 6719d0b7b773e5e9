use Rattle.std.proofs.Common.{◌<◌, length}
use Rattle.origin_labels.specs.Stores.{IsKept}
use Rattle.prototype_walk.proofs.WalkLaws.{Comes}
use Rattle.prototype_walk.proofs.walk.find_slot_named.Given as goal

-- what is found from here on, with the label so far, is what is found from the first object on
abbrev pub invariant-along : goal.invariant-along
invariant-along g l = record {
  there : l.at.0 < length l.heap;
  walk : g.L.Labels.made l.labels l.walk;
  kept : IsKept g.L.Labels.made g.L.Labels.meaning g.L.Labels.room g.L.Labels.firm l.fn.labels l.labels;
  comes : Comes g.L.Labels.made g.L.Labels.meaning l.labels l.heap l.name l.fn.o.0 l.at.0 l.walk;
}

abbrev pub decreases-along : goal.decreases-along
decreases-along g l = l.at.0

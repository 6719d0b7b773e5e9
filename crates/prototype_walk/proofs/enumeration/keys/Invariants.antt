use Rattle.std.proofs.Common.{◌<◌, length}
use Rattle.origin_labels.specs.Stores.{IsKept}
use Rattle.prototype_walk.proofs.KeyLaws.{Enumerates}
use Rattle.prototype_walk.proofs.enumeration.keys.Given as goal

-- the keys so far and those from here on are the keys from the first object on
abbrev pub invariant-along : goal.invariant-along
invariant-along g l = record {
  there : l.at.0 < length l.heap;
  walk : g.L.Labels.made l.labels l.walk;
  kept : IsKept g.L.Labels.made g.L.Labels.meaning g.L.Labels.room g.L.Labels.firm l.fn.labels l.labels;
  comes : Enumerates g.L.Labels.made g.L.Labels.meaning l.labels l.heap l.fn.o.0 l.at.0 l.met.keys l.keys l.walk;
}

abbrev pub decreases-along : goal.decreases-along
decreases-along g l = l.at.0

use Rattle.std.proofs.Common.{◌<◌, length}
use Rattle.origin_labels.specs.Stores.{IsKept}
use Rattle.step_objects.proofs.InstanceLaws.{Leads}
use Rattle.step_objects.proofs.instances.walk_links.Given as goal

-- what is found from here on, behind the links so far, is what is found from the first object on
abbrev pub invariant-along : goal.invariant-along
invariant-along g l = record {
  there : l.at.0 < length l.heap;
  links : g.L.Labels.made l.labels l.links;
  kept : IsKept g.L.Labels.made g.L.Labels.meaning g.L.Labels.room g.L.Labels.firm l.fn.labels l.labels;
  leads : Leads g.L.Labels.made g.L.Labels.meaning l.labels l.heap l.proto.0 l.fn.o.0 l.at.0 l.links;
}

abbrev pub decreases-along : goal.decreases-along
decreases-along g l = l.at.0

use Rattle.std.proofs.Common.{◌≤◌, ◌-◌, IsSome}
use Rattle.std.specs.List.{slice_get}
use Rattle.origin_labels.specs.Stores.{IsKept}
use Rattle.js_values.specs.Arrays.{length_key}
use Rattle.object_heap.specs.Formed.{own_in}
use Rattle.run_state.specs.Worlds.{Belongs, Grows}
use Rattle.property_requests.proofs.LengthLaws.{Downs}
use Rattle.property_requests.proofs.lengths.delete_down.Given as goal

-- what is left to delete, behind the elements that were tested so far
abbrev pub invariant-loop : goal.invariant-loop
invariant-loop g l = record {
  within : l.counter ≤ l.most;
  tested : g.L.Labels.made l.labels l.tested;
  belongs : Belongs g.L.Labels.made g.L.Labels.meaning l.labels l.world;
  grows : Grows l.fn.world l.world;
  kept : IsKept g.L.Labels.made g.L.Labels.meaning g.L.Labels.room g.L.Labels.firm l.fn.labels l.labels;
  present : IsSome (own_in length_key (slice_get l.fn.world.heap l.o.0)) → IsSome (own_in length_key (slice_get l.world.heap l.o.0));
  downs : Downs g.L.Labels.made g.L.Labels.meaning l.place l.o.0 l.number l.most l.fn.world l.labels l.world (l.most - l.counter) l.tested;
}

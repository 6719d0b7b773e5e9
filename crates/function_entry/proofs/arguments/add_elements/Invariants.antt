use Rattle.std.proofs.Common.{◌≡◌, ◌≤◌, length, drop}
use Rattle.origin_labels.specs.Stores.{IsKept}
use Rattle.js_values.specs.Readings.{HasHeap}
use Rattle.function_entry.specs.ArgumentRows.{Gets}
use Rattle.function_entry.specs.Making.{IsOpen}
use Rattle.function_entry.proofs.arguments.add_elements.Given as goal

-- the elements from the place on are there
abbrev pub invariant-loop-i : goal.invariant-loop-i
invariant-loop-i g l = record {
  within : l.i ≤ length l.args;
  gets : Gets g.L.Labels.made g.L.Labels.meaning l.labels l.context l.o.0 l.i (drop l.i l.args) l.fn.heap l.heap;
  opened : IsOpen g.L.Labels.made g.L.Labels.meaning l.labels l.heap l.o.0 l.context;
  length : length l.heap ≡ length l.fn.heap;
  belongs : HasHeap (g.L.Labels.made l.labels) l.heap;
  kept : IsKept g.L.Labels.made g.L.Labels.meaning g.L.Labels.room g.L.Labels.firm l.fn.labels l.labels;
}

use Rattle.std.proofs.Common.{◌≡◌, drop}
use Rattle.std.specs.List.{slice_get}
use Rattle.origin_labels.specs.Label.{union}
use Rattle.origin_labels.specs.Stores.{IsKept}
use Rattle.js_values.specs.Readings.{IsReading, read_rows}
use Rattle.prototype_walk.specs.KeyLists.{existences, rows_in}
use Rattle.prototype_walk.proofs.enumeration.join_existences.Given as goal

-- the label so far and what is left give the whole
abbrev pub invariant-loop-n : goal.invariant-loop-n
invariant-loop-n g l = record {
  joined : g.L.Labels.made l.labels l.joined;
  kept : IsKept g.L.Labels.made g.L.Labels.meaning g.L.Labels.room g.L.Labels.firm l.fn.labels l.labels;
  same : (reading : _) → IsReading g.L.Labels.made g.L.Labels.meaning l.labels reading → union (reading l.joined) (existences (read_rows reading (drop l.n (rows_in (slice_get l.heap l.at.0))))) ≡ union (reading l.fn.walk) (existences (read_rows reading (rows_in (slice_get l.heap l.at.0))));
}

use Rattle.std.proofs.Common.{◌≡◌, ◌<◌, length}
use Rattle.js_values.specs.Readings.{HasHeap}
use Rattle.state_tests.proofs.heap.all_added.Given as goal

-- the object is there, and the heap belongs to the store
abbrev pub invariant-loop-n : goal.invariant-loop-n
invariant-loop-n g l = record {
  there : length l.heap ≡ length l.fn.heap;
  belongs : HasHeap (g.L.Labels.made l.labels) l.heap;
}

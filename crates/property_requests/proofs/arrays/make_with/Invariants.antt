use Rattle.std.proofs.Common.{◌≡◌, ◌++◌, Some, length, suc}
use Rattle.std.specs.Vec.Iter.{into_iter_items, into_iter_len}
use Rattle.origin_labels.specs.Label.{Label}
use Rattle.origin_labels.specs.Stores.{IsKept}
use Rattle.js_values.specs.Readings.{HasHeap}
use Rattle.es_meaning.specs.Start.{array_prototype}
use Rattle.property_requests.specs.Arrays.{ElementsFrom}
use Rattle.property_requests.proofs.ArrayLaws.{IsArrayWith, IsFresh, next_place}
use Rattle.property_requests.proofs.arrays.make_with.Given as goal

-- the array has the elements so far, and those that are left stand behind them
abbrev pub invariant-loop-element : goal.invariant-loop-element
invariant-loop-element g l = record {
  whole : l.yielded ++ into_iter_items l.element-iterator ≡ into_iter_items l.initial.element-iterator;
  count : into_iter_len l.element-iterator ≡ length (into_iter_items l.element-iterator);
  left : ElementsFrom (g.L.Labels.made l.labels) (next_place 0 l.yielded) l.fn.count (into_iter_items l.element-iterator);
  kept : IsKept g.L.Labels.made g.L.Labels.meaning g.L.Labels.room g.L.Labels.firm l.fn.labels l.labels;
  belongs : HasHeap (g.L.Labels.made l.labels) l.heap;
  more : length l.heap ≡ suc (length l.fn.heap);
  number : l.o.0 ≡ length l.fn.heap;
  array : IsArrayWith g.L.Labels.made g.L.Labels.meaning l.fn.heap l.fn.context l.fn.context (Some array_prototype) l.labels l.fn.count l.heap l.yielded;
  fresh : (reading : g.row.T.Denot → Label) → IsFresh reading (reading l.fn.context) l.fn.count l.yielded;
}

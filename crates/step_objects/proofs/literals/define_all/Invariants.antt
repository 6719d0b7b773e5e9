use Rattle.std.proofs.Common.{◌≡◌, ◌++◌, List, [], length}
use Rattle.std.specs.List.{All}
use Rattle.std.specs.Vec.Iter.{into_iter_items, into_iter_len}
use Rattle.origin_labels.specs.Stores.{IsKept}
use Rattle.js_values.specs.Objects.{Object}
use Rattle.js_values.specs.Readings.{HasHeap, HasValue}
use Rattle.step_objects.specs.Literals.{IsLiteral}
use Rattle.step_objects.proofs.literals.define_all.Given as goal

-- the object has the properties of the parts so far, and those that are left have labels of the store
abbrev pub invariant-loop-part : goal.invariant-loop-part
invariant-loop-part g l = record {
  whole : l.yielded ++ into_iter_items l.part-iterator ≡ into_iter_items l.initial.part-iterator;
  count : into_iter_len l.part-iterator ≡ length (into_iter_items l.part-iterator);
  left : All (λ p. HasValue (g.L.Labels.made l.labels) p.value) (into_iter_items l.part-iterator);
  kept : IsKept g.L.Labels.made g.L.Labels.meaning g.L.Labels.room g.L.Labels.firm l.fn.labels l.labels;
  belongs : HasHeap (g.L.Labels.made l.labels) l.heap;
  as_many : length l.heap ≡ length l.fn.heap;
  literal : (before : List (Object g.row.T.Denot)) → l.fn.o.0 ≡ length before → IsLiteral g.L.Labels.made g.L.Labels.meaning l.fn.labels before l.fn.heap l.fn.context [] → IsLiteral g.L.Labels.made g.L.Labels.meaning l.labels before l.heap l.fn.context l.yielded;
}

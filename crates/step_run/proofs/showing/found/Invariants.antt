use Rattle.std.proofs.Common.{◌≡◌, ◌<◌, length}
use Rattle.js_values.specs.Walks.{plain_chain, plain_find}
use Rattle.flow_meaning.specs.Erased.{erased_heap}
use Rattle.step_run.proofs.showing.found.Given as goal

-- what is found from here on is what is found from the first object on
abbrev pub invariant-along : goal.invariant-along
invariant-along g l = record {
  there : l.at.0 < length l.heap;
  same : plain_find l.key (plain_chain (erased_heap l.heap) l.fn.o.0) ≡ plain_find l.key (plain_chain (erased_heap l.heap) l.at.0);
}

abbrev pub decreases-along : goal.decreases-along
decreases-along g l = l.at.0

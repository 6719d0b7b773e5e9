use Rattle.std.proofs.Common.{◌≡◌, ◌-◌}
use Rattle.js_ast.specs.Nodes.{nodes_of}
use Rattle.continuations.specs.Arrays.{item_from}
use Rattle.continuations.proofs.arrays.item_from.Given as goal

-- the first item from here on is that from the beginning on
abbrev pub invariant-along : goal.invariant-along
invariant-along l = item_from l.place (nodes_of l.list) ≡ item_from l.at (nodes_of l.list)

abbrev pub decreases-along : goal.decreases-along
decreases-along l = 4294967295 - l.place

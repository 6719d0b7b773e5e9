use Rattle.std.proofs.Common.{ap, ◌∙◌}
use Rattle.js_values.specs.Numerals.{index_of}
use Rattle.object_heap.proofs.BoundLaws.{index_below}
use Rattle.object_heap.proofs.table.element_named.Goals as goal

pub returns-clause-below : goal.returns-clause-below
returns-clause-below c = index_below c.args.key.now c.array_index.result (c.array_index.ensures ∙ ap index_of (c.units.ensures ∙ c.text.ensures))

use Rattle.std.proofs.Common.{◌≡◌, drop, Some}
use Rattle.js_values.specs.Objects.{number_of}
use Rattle.es_meaning.specs.Holders.{parts_of, led_on}
use Rattle.es_meaning.specs.Start.{global_object}
use Rattle.step_start.specs.Ways.{led_behind}
use Rattle.step_start.proofs.holders.holder_of.Given as goal

-- what is left of the path leads where the whole does
abbrev pub invariant-bytes : goal.invariant-bytes
invariant-bytes g l = led_behind l.heap.objects (number_of l.way.holder) l.way.part (drop l.byte-index l.byte-items) ≡ led_on (parts_of l.byte-items) l.heap.objects (Some global_object.0)

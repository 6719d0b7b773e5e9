use Rattle.std.proofs.Common.{◌≡◌, take}
use Rattle.std.specs.List.{flat_map}
use Rattle.flow_text.specs.Written.{escaped_unit}
use Rattle.flow_text.proofs.text.Text.escaped.Given as goal

abbrev pub invariant-loop-unit : goal.invariant-loop-unit
invariant-loop-unit l = (l.written.items ≡ flat_map escaped_unit (take l.unit-index l.unit-items)) × (l.unit-items ≡ l.fn.self)

use Rattle.std.proofs.Common.{◌≡◌, map, take}
use Rattle.native_programs.specs.Wordings.{lower}
use Rattle.native_programs.proofs.wordings.lowered.Given as goal

abbrev pub invariant-loop-unit : goal.invariant-loop-unit
invariant-loop-unit l = l.text ≡ map lower (take l.unit-index l.units)

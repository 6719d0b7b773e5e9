use Rattle.std.proofs.Common.{◌≡◌, map, take}
use Rattle.native_programs.specs.Wordings.{upper}
use Rattle.native_programs.proofs.wordings.raised.Given as goal

abbrev pub invariant-loop-unit : goal.invariant-loop-unit
invariant-loop-unit l = l.text ≡ map upper (take l.unit-index l.units)

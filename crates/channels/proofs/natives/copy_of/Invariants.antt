use Rattle.std.proofs.Common.{◌≡◌, take}
use Rattle.origin_labels.specs.Names.{AreDistinct}
use Rattle.channels.proofs.natives.copy_of.Given as goal

-- the names so far are the first ones
abbrev pub invariant-loop-i : goal.invariant-loop-i
invariant-loop-i l = record { front : l.copied ≡ take l.i l.origins; distinct : AreDistinct l.origins }

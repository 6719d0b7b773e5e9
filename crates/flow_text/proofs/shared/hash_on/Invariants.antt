use Rattle.std.proofs.Common.{◌≡◌, take}
use Rattle.std.specs.List.{fold}
use Rattle.flow_text.specs.Hashes.{hash_step}
use Rattle.flow_text.proofs.shared.hash_on.Given as goal

-- the hash of the units so far
abbrev pub invariant-loop-unit : goal.invariant-loop-unit
invariant-loop-unit l = (l.hashed ≡ fold hash_step l.hash (take l.unit-index l.units))

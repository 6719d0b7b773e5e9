-- The units of the names by which a run is left.
use Rattle.std.proofs.Common.{◌≡◌, codes, refl}
use Rattle.std.specs.Str.{chars}
use Rattle.flow_text.specs.Utf8.{units_of}

pub wrapper_units : units_of (codes "wrapper") ≡ codes "wrapper"
unfolding units_of chars
wrapper_units = refl

pub number_units : units_of (codes "number") ≡ codes "number"
unfolding units_of chars
number_units = refl

-- all of them
pub ruleset words = (wrapper_units, number_units)

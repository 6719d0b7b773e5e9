-- The units of the names that conversions use.
use Rattle.std.proofs.Common.{◌≡◌, codes, refl}
use Rattle.std.specs.Str.{chars}
use Rattle.flow_text.specs.Utf8.{units_of}

pub value_of_units : units_of (codes "valueOf") ≡ codes "valueOf"
unfolding units_of chars
value_of_units = refl

pub to_string_units : units_of (codes "toString") ≡ codes "toString"
unfolding units_of chars
to_string_units = refl

pub number_units : units_of (codes "number") ≡ codes "number"
unfolding units_of chars
number_units = refl

-- all of them
pub ruleset words = (value_of_units, to_string_units, number_units)

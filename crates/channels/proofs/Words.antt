-- The units of the names by which a run is left.
use Rattle.std.proofs.Common.{◌≡◌, codes, refl}
use Rattle.std.specs.Str.{chars}
use Rattle.flow_text.specs.Utf8.{units_of}

pub channel_units : units_of (codes "channel") ≡ codes "channel"
unfolding units_of chars
channel_units = refl

pub origin_units : units_of (codes "origin") ≡ codes "origin"
unfolding units_of chars
origin_units = refl

-- both of them
pub ruleset words = (channel_units, origin_units)

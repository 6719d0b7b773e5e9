-- The units of the names that descriptors use.
use Rattle.std.proofs.Common.{◌≡◌, codes, refl}
use Rattle.std.specs.Str.{chars}
use Rattle.flow_text.specs.Utf8.{units_of}

pub writable_units : units_of (codes "writable") ≡ codes "writable"
unfolding units_of chars
writable_units = refl

pub enumerable_units : units_of (codes "enumerable") ≡ codes "enumerable"
unfolding units_of chars
enumerable_units = refl

pub configurable_units : units_of (codes "configurable") ≡ codes "configurable"
unfolding units_of chars
configurable_units = refl

pub value_units : units_of (codes "value") ≡ codes "value"
unfolding units_of chars
value_units = refl

pub get_units : units_of (codes "get") ≡ codes "get"
unfolding units_of chars
get_units = refl

pub set_units : units_of (codes "set") ≡ codes "set"
unfolding units_of chars
set_units = refl

pub length_units : units_of (codes "length") ≡ codes "length"
unfolding units_of chars
length_units = refl

-- all of them
pub ruleset words = (writable_units, enumerable_units, configurable_units, value_units, get_units, set_units, length_units)

-- The units of the words that `typeof` gives.
use Rattle.std.proofs.Common.{◌≡◌, codes, refl}
use Rattle.std.specs.Str.{chars}
use Rattle.flow_text.specs.Utf8.{units_of}

pub undefined_units : units_of (codes "undefined") ≡ codes "undefined"
unfolding units_of chars
undefined_units = refl

pub object_units : units_of (codes "object") ≡ codes "object"
unfolding units_of chars
object_units = refl

pub boolean_units : units_of (codes "boolean") ≡ codes "boolean"
unfolding units_of chars
boolean_units = refl

pub number_units : units_of (codes "number") ≡ codes "number"
unfolding units_of chars
number_units = refl

pub string_units : units_of (codes "string") ≡ codes "string"
unfolding units_of chars
string_units = refl

pub function_units : units_of (codes "function") ≡ codes "function"
unfolding units_of chars
function_units = refl

-- all of them
pub ruleset words = (undefined_units, object_units, boolean_units, number_units, string_units, function_units)

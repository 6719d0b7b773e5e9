-- The units of the words that ToString gives.
use Rattle.std.proofs.Common.{◌≡◌, codes, refl}
use Rattle.std.specs.Str.{chars}
use Rattle.flow_text.specs.Utf8.{units_of}

-- the word for undefined
pub undefined_units : units_of (codes "undefined") ≡ codes "undefined"
unfolding units_of chars
undefined_units = refl

-- the word for null
pub null_units : units_of (codes "null") ≡ codes "null"
unfolding units_of chars
null_units = refl

-- the word for true
pub true_units : units_of (codes "true") ≡ codes "true"
unfolding units_of chars
true_units = refl

-- the word for false
pub false_units : units_of (codes "false") ≡ codes "false"
unfolding units_of chars
false_units = refl

-- the word for NaN
pub nan_units : units_of (codes "NaN") ≡ codes "NaN"
unfolding units_of chars
nan_units = refl

-- the sign of a number below zero
pub minus_units : units_of (codes "-") ≡ codes "-"
unfolding units_of chars
minus_units = refl

-- all of them
pub ruleset words = (undefined_units, null_units, true_units, false_units, nan_units, minus_units)

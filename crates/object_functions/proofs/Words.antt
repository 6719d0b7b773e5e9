-- The units of the names of classes, and of what stands before them.
use Rattle.std.proofs.Common.{◌≡◌, codes, refl}
use Rattle.std.specs.Str.{chars}
use Rattle.flow_text.specs.Utf8.{units_of}

pub undefined_units : units_of (codes "Undefined") ≡ codes "Undefined"
unfolding units_of chars
undefined_units = refl

pub null_units : units_of (codes "Null") ≡ codes "Null"
unfolding units_of chars
null_units = refl

pub bracket_units : units_of (codes "[object ") ≡ codes "[object "
unfolding units_of chars
bracket_units = refl

pub object_units : units_of (codes "Object") ≡ codes "Object"
unfolding units_of chars
object_units = refl

pub function_units : units_of (codes "Function") ≡ codes "Function"
unfolding units_of chars
function_units = refl

pub array_units : units_of (codes "Array") ≡ codes "Array"
unfolding units_of chars
array_units = refl

pub arguments_units : units_of (codes "Arguments") ≡ codes "Arguments"
unfolding units_of chars
arguments_units = refl

pub error_units : units_of (codes "Error") ≡ codes "Error"
unfolding units_of chars
error_units = refl

pub math_units : units_of (codes "Math") ≡ codes "Math"
unfolding units_of chars
math_units = refl

pub json_units : units_of (codes "JSON") ≡ codes "JSON"
unfolding units_of chars
json_units = refl

pub string_units : units_of (codes "String") ≡ codes "String"
unfolding units_of chars
string_units = refl

pub number_units : units_of (codes "Number") ≡ codes "Number"
unfolding units_of chars
number_units = refl

pub boolean_units : units_of (codes "Boolean") ≡ codes "Boolean"
unfolding units_of chars
boolean_units = refl

-- all of them
pub ruleset words = (undefined_units, null_units, bracket_units, object_units, function_units, array_units, arguments_units, error_units, math_units, json_units, string_units, number_units, boolean_units)

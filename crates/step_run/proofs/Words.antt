-- The units of the words with which values are shown.
use Rattle.std.proofs.Common.{◌≡◌, codes, refl}
use Rattle.std.specs.Str.{chars}
use Rattle.flow_text.specs.Utf8.{units_of}

-- types
pub undefined_units : units_of (codes "undefined") ≡ codes "undefined"
unfolding units_of chars
undefined_units = refl

pub null_units : units_of (codes "null") ≡ codes "null"
unfolding units_of chars
null_units = refl

pub boolean_units : units_of (codes "boolean ") ≡ codes "boolean "
unfolding units_of chars
boolean_units = refl

pub number_units : units_of (codes "number ") ≡ codes "number "
unfolding units_of chars
number_units = refl

pub string_units : units_of (codes "string ") ≡ codes "string "
unfolding units_of chars
string_units = refl

pub object_units : units_of (codes "object ") ≡ codes "object "
unfolding units_of chars
object_units = refl

-- classes
pub Object_units : units_of (codes "Object") ≡ codes "Object"
unfolding units_of chars
Object_units = refl

pub Function_units : units_of (codes "Function") ≡ codes "Function"
unfolding units_of chars
Function_units = refl

pub Array_units : units_of (codes "Array") ≡ codes "Array"
unfolding units_of chars
Array_units = refl

pub Arguments_units : units_of (codes "Arguments") ≡ codes "Arguments"
unfolding units_of chars
Arguments_units = refl

pub Error_units : units_of (codes "Error") ≡ codes "Error"
unfolding units_of chars
Error_units = refl

pub Math_units : units_of (codes "Math") ≡ codes "Math"
unfolding units_of chars
Math_units = refl

pub Json_units : units_of (codes "JSON") ≡ codes "JSON"
unfolding units_of chars
Json_units = refl

pub String_units : units_of (codes "String") ≡ codes "String"
unfolding units_of chars
String_units = refl

pub Number_units : units_of (codes "Number") ≡ codes "Number"
unfolding units_of chars
Number_units = refl

pub Boolean_units : units_of (codes "Boolean") ≡ codes "Boolean"
unfolding units_of chars
Boolean_units = refl

-- the key of a name, and what stands before it
pub name_units : units_of (codes "name") ≡ codes "name"
unfolding units_of chars
name_units = refl

pub space_units : units_of (codes " ") ≡ codes " "
unfolding units_of chars
space_units = refl

-- all of them
pub ruleset words = (undefined_units, null_units, boolean_units, number_units, string_units, object_units, Object_units, Function_units, Array_units, Arguments_units, Error_units, Math_units, Json_units, String_units, Number_units, Boolean_units, name_units, space_units)

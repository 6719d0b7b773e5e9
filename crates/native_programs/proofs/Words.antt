-- The units of the words that lines use.
use Rattle.std.proofs.Common.{◌≡◌, codes, refl}
use Rattle.std.specs.Str.{chars}
use Rattle.flow_text.specs.Utf8.{units_of}

pub length_units : units_of (codes "length") ≡ codes "length"
unfolding units_of chars
length_units = refl

pub prototype_units : units_of (codes "prototype") ≡ codes "prototype"
unfolding units_of chars
prototype_units = refl

pub name_units : units_of (codes "name") ≡ codes "name"
unfolding units_of chars
name_units = refl

pub message_units : units_of (codes "message") ≡ codes "message"
unfolding units_of chars
message_units = refl

pub join_units : units_of (codes "join") ≡ codes "join"
unfolding units_of chars
join_units = refl

pub wrapper_units : units_of (codes "wrapper") ≡ codes "wrapper"
unfolding units_of chars
wrapper_units = refl

pub string_units : units_of (codes "string") ≡ codes "string"
unfolding units_of chars
string_units = refl

pub case_units : units_of (codes "case") ≡ codes "case"
unfolding units_of chars
case_units = refl

pub comma_units : units_of (codes ",") ≡ codes ","
unfolding units_of chars
comma_units = refl

pub colon_units : units_of (codes ": ") ≡ codes ": "
unfolding units_of chars
colon_units = refl

pub error_units : units_of (codes "Error") ≡ codes "Error"
unfolding units_of chars
error_units = refl

pub object_class_units : units_of (codes "[object Object]") ≡ codes "[object Object]"
unfolding units_of chars
object_class_units = refl

pub function_class_units : units_of (codes "[object Function]") ≡ codes "[object Function]"
unfolding units_of chars
function_class_units = refl

pub array_class_units : units_of (codes "[object Array]") ≡ codes "[object Array]"
unfolding units_of chars
array_class_units = refl

pub arguments_class_units : units_of (codes "[object Arguments]") ≡ codes "[object Arguments]"
unfolding units_of chars
arguments_class_units = refl

pub error_class_units : units_of (codes "[object Error]") ≡ codes "[object Error]"
unfolding units_of chars
error_class_units = refl

pub math_class_units : units_of (codes "[object Math]") ≡ codes "[object Math]"
unfolding units_of chars
math_class_units = refl

pub json_class_units : units_of (codes "[object JSON]") ≡ codes "[object JSON]"
unfolding units_of chars
json_class_units = refl

pub string_class_units : units_of (codes "[object String]") ≡ codes "[object String]"
unfolding units_of chars
string_class_units = refl

pub number_class_units : units_of (codes "[object Number]") ≡ codes "[object Number]"
unfolding units_of chars
number_class_units = refl

pub boolean_class_units : units_of (codes "[object Boolean]") ≡ codes "[object Boolean]"
unfolding units_of chars
boolean_class_units = refl

pub number_units : units_of (codes "number") ≡ codes "number"
unfolding units_of chars
number_units = refl

-- all of them
pub ruleset words = (number_units, length_units, prototype_units, name_units, message_units, join_units, wrapper_units, string_units, case_units, comma_units, colon_units, error_units, object_class_units, function_class_units, array_class_units, arguments_class_units, error_class_units, math_class_units, json_class_units, string_class_units, number_class_units, boolean_class_units)

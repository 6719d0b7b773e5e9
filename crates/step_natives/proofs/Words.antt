-- The units of the names by which the accessors leave.
use Rattle.std.proofs.Common.{◌≡◌, codes, refl}
use Rattle.std.specs.Str.{chars}
use Rattle.flow_text.specs.Utf8.{units_of}

pub caller_units : units_of (codes "caller") ≡ codes "caller"
unfolding units_of chars
caller_units = refl

pub arguments_units : units_of (codes "arguments") ≡ codes "arguments"
unfolding units_of chars
arguments_units = refl

pub callee_units : units_of (codes "callee") ≡ codes "callee"
unfolding units_of chars
callee_units = refl

pub ruleset words = (caller_units, arguments_units, callee_units)

use Rattle.std.proofs.Common.{◌≡◌, ◌≤◌, length, take}
use Rattle.std.specs.Str.Parse.{digits_value, AllDigits}
use Rattle.js_scan.proofs.hexadecimal.hexadecimal_value.Given as goal

abbrev pub invariant-loop-digit : goal.invariant-loop-digit
invariant-loop-digit l = record {
  digits : AllDigits 16 (take l.digit-index l.digits);
  value : l.value ≡ digits_value 16 (take l.digit-index l.digits);
  short : length l.digits ≤ 4;
}

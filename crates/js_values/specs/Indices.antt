-- Keys that are array indices (ECMA-262 15.4): the decimal text of a number below 2^32 - 1.
use Rattle.std.specs.Prelude.{◌≡◌, ℕ, ◌<◌, List, pos}
use Rattle.std.specs.Fmt.{signed_decimal}

pub record IsArrayIndex (key : List ℕ) (n : ℕ) : Type 0 where
  pub text : key ≡ signed_decimal (pos n)
  pub below : n < 4294967295

-- Numeric literals (ECMA-262 7.8.3): those of the literals of numeric texts that have no sign, are not empty or Infinity, and whose
-- digits before the point are `0` or don't begin with 0.
use Rattle.std.specs.Prelude.{◌≡◌, ℕ, List, [], ◌∷◌, ◌⊎◌, false}
use Rattle.js_number.specs.Literal.{unsigned, plus, minus, Mantissa, integer, pointed, fraction, Literal, empty, hexadecimal, decimal, infinity, IsLiteral}
use Rattle.js_scan.specs.Units.{begins_with}

-- DecimalIntegerLiteral
abbrev pub IsDecimalInteger : List ℕ → Type 0
IsDecimalInteger ds = (ds ≡ 48 ∷ []) ⊎ (begins_with 48 ds ≡ false)

abbrev pub IsMantissaOfSource : Mantissa → Type 0
IsMantissaOfSource (integer ds) = IsDecimalInteger ds
IsMantissaOfSource (pointed ds fs) = IsDecimalInteger ds
IsMantissaOfSource (fraction fs) = Unit {0}

-- NumericLiteral
unfoldable pub IsNumeric : Literal → Type 0
IsNumeric empty = ⊥
IsNumeric (hexadecimal x ds) = IsLiteral (hexadecimal x ds)
IsNumeric (decimal unsigned m e) = IsLiteral (decimal unsigned m e) × IsMantissaOfSource m
IsNumeric (decimal plus m e) = ⊥
IsNumeric (decimal minus m e) = ⊥
IsNumeric (infinity sign) = ⊥

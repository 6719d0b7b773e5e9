-- The extent of a numeric literal (ECMA-262 7.8.3), read from left to right. That it is the longest is a clause of `number_length`.
use Rattle.std.specs.Prelude.{ℕ, ◌+◌, ◌==◌, ◌&&◌, ◌||◌, List, [], ◌∷◌, drop, if◌then◌else◌}
use Rattle.js_number.specs.NumericText.{digit_count}

-- DecimalIntegerLiteral: `0` alone, or all digits
unfoldable pub whole_length : List ℕ → ℕ
whole_length [] = 0
whole_length (u ∷ us) = if u == 48 then 1 else digit_count 10 (u ∷ us)

-- a point and all digits behind it, or nothing
unfoldable pub fraction_length : List ℕ → ℕ
fraction_length [] = 0
fraction_length (u ∷ us) = if u == 46 then 1 + digit_count 10 us else 0

-- an exponent by its digits, with so many units in front of them, or nothing where there is no digit
unfoldable pub power_length : ℕ → List ℕ → ℕ
power_length front us = if digit_count 10 us == 0 then 0 else front + digit_count 10 us

-- by what stands behind its letter: a sign and digits, or digits
unfoldable pub signed_power_length : List ℕ → ℕ
signed_power_length [] = power_length 1 []
signed_power_length (u ∷ us) = if u == 43 || u == 45 then power_length 2 us else power_length 1 (u ∷ us)

-- ExponentPart, or nothing
unfoldable pub exponent_length : List ℕ → ℕ
exponent_length [] = 0
exponent_length (u ∷ us) = if u == 101 || u == 69 then signed_power_length us else 0

-- DecimalLiteral without its exponent
unfoldable pub mantissa_length : List ℕ → ℕ
mantissa_length us = whole_length us + fraction_length (drop (whole_length us) us)

-- DecimalLiteral
unfoldable pub decimal_length : List ℕ → ℕ
decimal_length us = mantissa_length us + exponent_length (drop (mantissa_length us) us)

-- what stands behind `0x`: HexIntegerLiteral, or `0` alone where there is no digit
unfoldable pub hexadecimal_length : List ℕ → ℕ
hexadecimal_length us = if digit_count 16 us == 0 then 1 else 2 + digit_count 16 us

-- NumericLiteral
unfoldable pub number_length : List ℕ → ℕ
number_length [] = decimal_length []
number_length (u ∷ []) = decimal_length (u ∷ [])
number_length (u ∷ x ∷ us) = if u == 48 && (x == 120 || x == 88) then hexadecimal_length us else decimal_length (u ∷ x ∷ us)

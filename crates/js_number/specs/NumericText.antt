-- The number that a text spells, read from left to right. It is the value of StringNumericLiteral (`Literal`): the clauses of `text_to_number` say so.
use Rattle.std.specs.Prelude.{ℕ, ◌-◌, ◌*◌, ◌^◌, ◌==◌, Bool, true, false, ◌&&◌, ◌||◌, not, List, [], ◌∷◌, ◌++◌, length, take, drop, codes, ℤ, pos, neg_ℤ, Option, Some, None, Result, Ok, Err, if◌then◌else◌}
use Rattle.std.specs.List.{prefix_len, list_all}
use Rattle.std.specs.Option.{option_map}
use Rattle.std.specs.Char.{is_digit}
use Rattle.std.specs.Str.{bytes_eq}
use Rattle.std.specs.Str.Parse.{digits_value}
use Rattle.js_number.specs.declared.int.LeftNumbers.{LeftNumbers}
use Rattle.js_number.specs.declared.num.Num.{Num}
use Rattle.js_number.specs.declared.num.Num.TheVariants.{Nan, Int}
use Rattle.js_number.specs.declared.numeric_text.PowerOfTen.{PowerOfTen}
use Rattle.js_number.specs.declared.numeric_text.Spelled.{Spelled}
use Rattle.js_number.specs.declared.numeric_text.Spelled.TheVariants.{NoLiteral, NoInteger, Integer}
use Rattle.js_number.specs.Number.{number}
use Rattle.js_number.specs.Literal.{is_blank}

-- how many digits stand first
abbrev pub digit_count : ℕ → List ℕ → ℕ
digit_count radix units = prefix_len (λ u. is_digit u radix) units

-- what follows the blanks that stand first
abbrev pub after_blanks : List ℕ → List ℕ
after_blanks [] = []
after_blanks (u ∷ us) = if is_blank u then after_blanks us else u ∷ us

-- one digit or more, with nothing but blanks behind them
unfoldable pub lone_digits : ℕ → List ℕ → Option (List ℕ)
lone_digits radix units = if digit_count radix units == 0 || not (list_all is_blank (drop (digit_count radix units) units)) then None else Some (take (digit_count radix units) units)

-- a power of ten by its exponent's digits
unfoldable pub power_of : Bool → List ℕ → Option PowerOfTen
power_of negative units = option_map (λ ds. record { negative = negative; size = digits_value 10 ds }) (lone_digits 10 units)

-- a power of ten by its exponent, which may have a sign
unfoldable pub signed_power : List ℕ → Option PowerOfTen
signed_power [] = power_of false []
signed_power (u ∷ us) = if u == 45 then power_of true us else (if u == 43 then power_of false us else power_of false (u ∷ us))

-- what stands behind a mantissa: blanks, or an exponent and then blanks
unfoldable pub exponent_of : List ℕ → Option PowerOfTen
exponent_of [] = Some (record { negative = false; size = 0 })
exponent_of (u ∷ us) = if u == 101 || u == 69 then signed_power us else (if list_all is_blank (u ∷ us) then Some (record { negative = false; size = 0 }) else None)

-- each digit is 0
abbrev pub all_zero : List ℕ → Bool
all_zero ds = list_all (λ u. u == 48) ds

-- digits with a point between them, times a power of ten, where that is an integer: the digits behind the moved point are 0
unfoldable pub scaled_up : List ℕ → List ℕ → ℕ → Option ℕ
scaled_up whole fraction by = if all_zero (drop by fraction) then Some (digits_value 10 (whole ++ take by fraction) * 10 ^ (by - length fraction)) else None

-- the same divided by a power of ten
unfoldable pub scaled_down : List ℕ → List ℕ → ℕ → Option ℕ
scaled_down whole fraction by = if all_zero (drop (length whole - by) whole) && all_zero fraction then Some (digits_value 10 (take (length whole - by) whole)) else None

-- digits times a power of ten
unfoldable pub scaled : List ℕ → List ℕ → PowerOfTen → Option ℕ
scaled whole fraction power = if power.negative then scaled_down whole fraction power.size else scaled_up whole fraction power.size

-- an integer, where there is one
abbrev pub integer_if : Option ℕ → Spelled
integer_if None = NoInteger
integer_if (Some n) = Integer n

-- digits with an exponent behind them: no literal where that isn't one, and else their product, where it is an integer
unfoldable pub scaled_where : List ℕ → List ℕ → Option PowerOfTen → Spelled
scaled_where whole fraction None = NoLiteral
scaled_where whole fraction (Some power) = integer_if (scaled whole fraction power)

-- a mantissa has a digit before its point or behind it
unfoldable pub with_exponent : List ℕ → List ℕ → List ℕ → Spelled
with_exponent whole fraction rest = if length whole == 0 && length fraction == 0 then NoLiteral else scaled_where whole fraction (exponent_of rest)

-- what stands behind the digits before the point: a point and digits, or none
unfoldable pub with_fraction : List ℕ → List ℕ → Spelled
with_fraction whole [] = with_exponent whole [] []
with_fraction whole (u ∷ us) = if u == 46 then with_exponent whole (take (digit_count 10 us) us) (drop (digit_count 10 us) us) else with_exponent whole [] (u ∷ us)

-- the word Infinity, and then only blanks: a literal whose value is no integer
abbrev pub infinity_word : List ℕ
infinity_word = codes "Infinity"

unfoldable pub is_infinity : List ℕ → Bool
is_infinity units = bytes_eq (take 8 units) infinity_word && list_all is_blank (drop 8 units)

-- a decimal number without a sign, and then only blanks
unfoldable pub decimal_of : List ℕ → Spelled
decimal_of units = if is_infinity units then NoInteger else with_fraction (take (digit_count 10 units) units) (drop (digit_count 10 units) units)

-- digits in base 16, and then only blanks
abbrev pub hexadecimal_if : Option (List ℕ) → Spelled
hexadecimal_if None = NoLiteral
hexadecimal_if (Some ds) = Integer (digits_value 16 ds)

unfoldable pub hexadecimal_of : List ℕ → Spelled
hexadecimal_of units = hexadecimal_if (lone_digits 16 units)

-- a number without a sign
unfoldable pub unsigned_of : List ℕ → Spelled
unsigned_of [] = decimal_of []
unsigned_of (u ∷ []) = decimal_of (u ∷ [])
unsigned_of (u ∷ x ∷ us) = if u == 48 && (x == 120 || x == 88) then hexadecimal_of us else decimal_of (u ∷ x ∷ us)

-- a number by its size, with its sign: a text that is no literal gives NaN (9.3.1)
abbrev pub signed_integer : Bool → ℕ → ℤ
signed_integer true n = neg_ℤ (pos n)
signed_integer false n = pos n

abbrev pub number_spelled : Bool → Spelled → Result Num LeftNumbers
number_spelled negative NoLiteral = Ok Nan
number_spelled negative NoInteger = Err (record {})
number_spelled negative (Integer n) = number (signed_integer negative n)

-- nothing, a sign and a decimal number, or a number without a sign
unfoldable pub number_behind_blanks : List ℕ → Result Num LeftNumbers
number_behind_blanks [] = Ok (Int (pos 0))
number_behind_blanks (u ∷ us) = if u == 45 then number_spelled true (decimal_of us) else (if u == 43 then number_spelled false (decimal_of us) else number_spelled false (unsigned_of (u ∷ us)))

-- ToNumber of a text (ECMA-262 9.3.1): NaN where it is no literal; LeftNumbers where it is one whose value is no integer of the profile; and else that integer
unfoldable pub number_of_text : List ℕ → Result Num LeftNumbers
number_of_text text = number_behind_blanks (after_blanks text)

-- Integers in another radix than ten (ECMA-262 15.1.2.2, 15.7.4.2), and texts without the blanks at their ends (15.5.4.20).
use Rattle.std.specs.Prelude.{◌≡◌, ℕ, ◌-◌, ◌==◌, Bool, true, false, ◌&&◌, ◌||◌, ◌⊎◌, List, [], ◌∷◌, ◌++◌, length, map, take, codes, ℤ, pos, unsigned_abs, Result, int_lt, nat_lt, if◌then◌else◌}
use Rattle.std.specs.Char.{digit_char}
use Rattle.std.specs.Int.Digits.{digits_of}
use Rattle.std.specs.List.{list_all, suffix_len}
use Rattle.std.specs.Ordering.{int_eq}
use Rattle.std.specs.Str.Parse.{digits_value}
use Rattle.js_number.specs.declared.int.LeftNumbers.{LeftNumbers}
use Rattle.js_number.specs.declared.num.Num.{Num}
use Rattle.js_number.specs.declared.num.Num.TheVariants.{Nan, Int}
use Rattle.js_number.specs.declared.numeric_text.Spelled.{Spelled}
use Rattle.js_number.specs.declared.numeric_text.Spelled.TheVariants.{NoLiteral, Integer}
use Rattle.js_number.specs.Literal.{is_blank, AreDigits}
use Rattle.js_number.specs.NumericText.{digit_count, after_blanks, number_spelled}

-- ---- parseInt (15.1.2.2) of a text and a radix

-- steps 11 to 14: the integer that the digits write which stand first
unfoldable pub leading : ℕ → List ℕ → Spelled
leading radix units = if digit_count radix units == 0 then NoLiteral else Integer (digits_value radix (take (digit_count radix units) units))

-- step 10: behind `0x` the digits are hexadecimal
unfoldable pub behind_prefix : ℕ → List ℕ → Spelled
behind_prefix radix [] = leading radix []
behind_prefix radix (u ∷ []) = leading radix (u ∷ [])
behind_prefix radix (u ∷ x ∷ us) = if u == 48 && (x == 120 || x == 88) then leading 16 us else leading radix (u ∷ x ∷ us)

-- steps 7 to 9: radix 0 stands for 10; only 0 and 16 let `0x` stand there; and there is no radix below 2 or above 36
unfoldable pub behind_sign : ℤ → List ℕ → Spelled
behind_sign radix units =
    if int_eq radix (pos 0) then behind_prefix 10 units
    else (if int_eq radix (pos 16) then behind_prefix 16 units
    else (if int_lt radix (pos 2) || int_lt (pos 36) radix then NoLiteral else leading (unsigned_abs radix) units))

-- steps 3 to 5, 15 and 16: the sign; NaN where no digit stands there
unfoldable pub signed_prefix : ℤ → List ℕ → Result Num LeftNumbers
signed_prefix radix [] = number_spelled false (behind_sign radix [])
signed_prefix radix (u ∷ us) = if u == 45 then number_spelled true (behind_sign radix us) else (if u == 43 then number_spelled false (behind_sign radix us) else number_spelled false (behind_sign radix (u ∷ us)))

-- step 2: the blanks that stand first are left out. An integer of 2 ^ 53 and more is no number of the profile.
unfoldable pub integer_prefix : List ℕ → ℤ → Result Num LeftNumbers
integer_prefix text radix = signed_prefix radix (after_blanks text)

-- ---- a number in a radix (15.7.4.2)

-- the digits of a number, the greatest place first
unfoldable pub numeral : ℕ → ℕ → List ℕ
numeral radix n = if n == 0 then 48 ∷ [] else map digit_char (digits_of radix n)

-- `-` in front of a number below zero
abbrev pub sign_of : ℤ → List ℕ
sign_of n = if int_lt n (pos 0) then 45 ∷ [] else []

abbrev pub text_in_radix : ℕ → Num → List ℕ
text_in_radix radix Nan = codes "NaN"
text_in_radix radix (Int n) = sign_of n ++ numeral radix (unsigned_abs n)

-- what such a text is: behind the sign it has digits whose value is the number's size, no zero in front of others, and no great letters
abbrev pub first_is_zero : List ℕ → Bool
first_is_zero [] = false
first_is_zero (d ∷ ds) = d == 48

abbrev pub is_small : ℕ → Bool
is_small u = nat_lt u 65 || nat_lt 90 u

pub record SpellsInRadix (radix : ℕ) (n : ℤ) (text : List ℕ) : Type 0 where
  pub digits : List ℕ
  pub spelled : text ≡ sign_of n ++ digits
  pub are_digits : AreDigits radix digits
  pub value : digits_value radix digits ≡ unsigned_abs n
  pub shortest : (first_is_zero digits ≡ false) ⊎ (digits ≡ 48 ∷ [])
  pub small : list_all is_small digits ≡ true

-- ---- trimmed texts (15.5.4.20): without the blanks that stand first, and without those that stand last

abbrev pub without_blanks_behind : List ℕ → List ℕ
without_blanks_behind units = take (length units - suffix_len is_blank units) units

abbrev pub trimmed : List ℕ → List ℕ
trimmed text = without_blanks_behind (after_blanks text)

-- The definitions at worked values.
use Rattle.std.proofs.Common.{◌≡◌, [], ◌∷◌, refl, codes, pos, negsuc, Some, None, Ok, Err, true, false}
use Rattle.js_number.specs.declared.num.Num.TheVariants.{Nan, Int}
use Rattle.js_number.specs.declared.primitive.Primitive.TheVariants.{Undefined, Null, Num, Str}
use Rattle.js_number.specs.Number.{number}
use Rattle.js_number.specs.Arithmetic.{quotient, remainder}
use Rattle.js_number.specs.Bits.{shifted_left, shifted_right, shifted_with_zeros, and_of, not_of}
use Rattle.js_number.specs.Compare.{loosely_equal, is_less}
use Rattle.js_number.specs.NumericText.{lone_digits, power_of, signed_power, exponent_of, scaled_up, scaled_down, scaled, scaled_where, with_exponent, with_fraction, decimal_of, hexadecimal_of, unsigned_of, is_infinity, number_behind_blanks, number_of_text}

-- 9007199254740990 + 1, and one more
last_sum : number (pos 9007199254740991) ≡ Ok (Int (pos 9007199254740991))
last_sum = refl

-- one more has no number
past_last : number (pos 9007199254740992) ≡ Err (record {})
past_last = refl

-- -7 % 3, 7 % -3 and 7 / 2
negative_dividend : remainder (negsuc 6) (pos 3) ≡ Some (negsuc 0)
negative_dividend = refl

-- the sign of the divisor tells nothing
negative_divisor : remainder (pos 7) (negsuc 2) ≡ Some (pos 1)
negative_divisor = refl

-- a fraction is no quotient
no_half : quotient (pos 7) (pos 2) ≡ None
no_half = refl

-- zero has no sign
zero_dividend : quotient (pos 0) (negsuc 4) ≡ Some (pos 0)
zero_dividend = refl

-- 1 << 31, 1 << 32, -1 >>> 0, -7 >> 1, -1 & 255 and ~5
top_bit : shifted_left (pos 1) (pos 31) ≡ negsuc 2147483647
top_bit = refl

-- a count of 32 is one of 0
count_modulo : shifted_left (pos 1) (pos 32) ≡ pos 1
count_modulo = refl

-- all bits, as a number without a sign
all_bits : shifted_with_zeros (negsuc 0) (pos 0) ≡ pos 4294967295
all_bits = refl

-- a shift rounds down
rounded_down : shifted_right (negsuc 6) (pos 1) ≡ negsuc 3
rounded_down = refl

-- the lowest bits of all
low_byte : and_of (negsuc 0) (pos 255) ≡ pos 255
low_byte = refl

-- each bit turned
complement : not_of (pos 5) ≡ negsuc 5
complement = refl

-- null == 0, null == undefined, "" == 0 and null < 1
null_and_zero : loosely_equal Null (Num (Int (pos 0))) ≡ Ok false
null_and_zero = refl

-- null equals undefined
null_and_undefined : loosely_equal Null Undefined ≡ Ok true
null_and_undefined = refl

-- the empty text counts as 0
empty_and_zero : loosely_equal (Str []) (Num (Int (pos 0))) ≡ Ok true
unfolding number_of_text number_behind_blanks
empty_and_zero = refl

-- null counts as 0 in an order
null_below_one : is_less Null (Num (Int (pos 1))) ≡ Ok (Some true)
null_below_one = refl

-- 1.5e1, 100e-2, 1e-1, 0x1F, +0x1 and a blank text
fifteen : number_of_text (codes "1.5e1 ") ≡ Ok (Int (pos 15))
unfolding number_of_text number_behind_blanks unsigned_of decimal_of is_infinity with_fraction with_exponent exponent_of signed_power power_of lone_digits scaled_where scaled scaled_up scaled_down
fifteen = refl

-- an exponent that takes zeros away
one : number_of_text (codes " -100e-2") ≡ Ok (Int (negsuc 0))
unfolding number_of_text number_behind_blanks unsigned_of decimal_of is_infinity with_fraction with_exponent exponent_of signed_power power_of lone_digits scaled_where scaled scaled_up scaled_down
one = refl

-- a fraction is a literal, and no integer
no_tenth : number_of_text (codes "1e-1") ≡ Err (record {})
unfolding number_of_text number_behind_blanks unsigned_of decimal_of is_infinity with_fraction with_exponent exponent_of signed_power power_of lone_digits scaled_where scaled scaled_up scaled_down
no_tenth = refl

-- digits in base 16
in_hexadecimal : number_of_text (codes "0x1F") ≡ Ok (Int (pos 31))
unfolding number_of_text number_behind_blanks unsigned_of hexadecimal_of lone_digits
in_hexadecimal = refl

-- they have no sign: that is no literal
no_signed_hexadecimal : number_of_text (codes "+0x1") ≡ Ok Nan
unfolding number_of_text number_behind_blanks decimal_of is_infinity with_fraction with_exponent exponent_of scaled_where
no_signed_hexadecimal = refl

-- blanks alone are 0
blank : number_of_text (8233 ∷ 160 ∷ 65279 ∷ []) ≡ Ok (Int (pos 0))
unfolding number_of_text number_behind_blanks
blank = refl

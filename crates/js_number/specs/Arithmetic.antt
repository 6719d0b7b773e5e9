-- Arithmetic on numbers (ECMA-262 11.4.7, 11.5, 11.6.3). NaN and an integer give NaN.
use Rattle.std.specs.Prelude.{◌≡◌, ◌≢◌, ℕ, ◌+ℤ◌, ◌-ℤ◌, ◌*ℤ◌, ◌/◌, ◌%◌, ◌==◌, ◌&&◌, ℤ, pos, negsuc, neg_ℤ, unsigned_abs, Option, Some, None, Result, Ok, Err, if◌then◌else◌}
use Rattle.js_number.specs.declared.int.LeftNumbers.{LeftNumbers}
use Rattle.js_number.specs.declared.num.Num.{Num}
use Rattle.js_number.specs.declared.num.Num.TheVariants.{Nan, Int}
use Rattle.js_number.specs.Number.{number, some_number, number_or_nan, of_integers}

-- ---- of integers

-- the number with that size and the sign of a product or a quotient of two numbers
abbrev pub signed_like : ℤ → ℤ → ℕ → ℤ
signed_like (pos _) (pos _) n = pos n
signed_like (pos _) (negsuc _) n = neg_ℤ (pos n)
signed_like (negsuc _) (pos _) n = neg_ℤ (pos n)
signed_like (negsuc _) (negsuc _) n = pos n

-- x / y (ECMA-262 11.5.2) where it is an integer: the divisor isn't 0 and divides exactly; zero has no sign here
abbrev pub quotient : ℤ → ℤ → Option ℤ
quotient a b = if unsigned_abs b == 0 then None else (if unsigned_abs a % unsigned_abs b == 0 then Some (signed_like a b (unsigned_abs a / unsigned_abs b)) else None)

-- n is the quotient: the number whose product with a divisor that isn't 0 is the dividend
abbrev pub IsQuotient : ℤ → ℤ → ℤ → Type 0
IsQuotient a b n = (b ≢ pos 0) × (n *ℤ b ≡ a)

-- 0 / 0 is NaN, and any other integer divided by 0 is an infinity
abbrev pub quotient_of : ℤ → ℤ → Result Num LeftNumbers
quotient_of a b = if unsigned_abs a == 0 && unsigned_abs b == 0 then Ok Nan else some_number (quotient a b)

-- x % y (ECMA-262 11.5.3): the remainder of the sizes with the dividend's sign; a divisor 0 gives none
abbrev pub remainder : ℤ → ℤ → Option ℤ
remainder a b = if unsigned_abs b == 0 then None else Some (signed_like a (pos 0) (unsigned_abs a % unsigned_abs b))

-- ---- of numbers

-- x + y of numbers (ECMA-262 11.6.3)
abbrev pub added : Num → Num → Result Num LeftNumbers
added a b = of_integers (λ m n. number (m +ℤ n)) a b

-- x - y
abbrev pub subtracted : Num → Num → Result Num LeftNumbers
subtracted a b = of_integers (λ m n. number (m -ℤ n)) a b

-- x * y (ECMA-262 11.5.1)
abbrev pub multiplied : Num → Num → Result Num LeftNumbers
multiplied a b = of_integers (λ m n. number (m *ℤ n)) a b

-- x / y (ECMA-262 11.5.2)
abbrev pub divided : Num → Num → Result Num LeftNumbers
divided a b = of_integers quotient_of a b

-- x % y (ECMA-262 11.5.3): a divisor 0 gives NaN
abbrev pub remainder_of : Num → Num → Result Num LeftNumbers
remainder_of a b = of_integers (λ m n. number_or_nan (remainder m n)) a b

-- -x (ECMA-262 11.4.7)
abbrev pub negated : Num → Num
negated Nan = Nan
negated (Int n) = Int (neg_ℤ n)

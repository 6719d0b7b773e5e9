-- Integers of 32 bits (ECMA-262 9.5, 9.6), shifts (11.7) and operators on bits (11.10). NaN counts as 0 in each of them: it is converted by `integer_of`.
use Rattle.std.specs.Prelude.{◌≡◌, ℕ, ◌-◌, ◌/◌, ◌%◌, ◌^◌, ℤ, pos, ◌*ℤ◌, ◌+ℤ◌, ◌-ℤ◌, unsigned_abs, nat_lt, if◌then◌else◌, bit_and, bit_or, bit_xor}
use Rattle.std.specs.Int.{int_rem_euclid, int_div_euclid}

-- k is a residue of z modulo m: z is k and a multiple of m
abbrev pub IsResidue : ℕ → ℤ → ℤ → Type 0
IsResidue m z k = (q : ℤ) × (z ≡ q *ℤ pos m +ℤ k)

-- ToUint32 (ECMA-262 9.6): the residue modulo 2 ^ 32 from 0 up
abbrev pub uint32 : ℤ → ℕ
uint32 n = unsigned_abs (int_rem_euclid n (pos (2 ^ 32)))

-- ToInt32 (ECMA-262 9.5): the residue modulo 2 ^ 32 from -2 ^ 31 up
abbrev pub int32 : ℤ → ℤ
int32 n = if nat_lt (uint32 n) (2 ^ 31) then pos (uint32 n) else pos (uint32 n) -ℤ pos (2 ^ 32)

-- a shift's count (ECMA-262 11.7): the last five bits of ToUint32
abbrev pub shift_count : ℤ → ℕ
shift_count n = uint32 n % 32

-- x << y (ECMA-262 11.7.1)
abbrev pub shifted_left : ℤ → ℤ → ℤ
shifted_left a b = int32 (int32 a *ℤ pos (2 ^ shift_count b))

-- x >> y (ECMA-262 11.7.2): the quotient by the power, rounded down
abbrev pub shifted_right : ℤ → ℤ → ℤ
shifted_right a b = int_div_euclid (int32 a) (pos (2 ^ shift_count b))

-- x >>> y (ECMA-262 11.7.3)
abbrev pub shifted_with_zeros : ℤ → ℤ → ℤ
shifted_with_zeros a b = pos (uint32 a / 2 ^ shift_count b)

-- x & y, x ^ y and x | y (ECMA-262 11.10): on the bits of the two residues
abbrev pub and_of : ℤ → ℤ → ℤ
and_of a b = int32 (pos (bit_and (uint32 a) (uint32 b)))

-- x ^ y: the bits that one of the two residues has
abbrev pub xor_of : ℤ → ℤ → ℤ
xor_of a b = int32 (pos (bit_xor (uint32 a) (uint32 b)))

-- x | y: the bits that either residue has
abbrev pub or_of : ℤ → ℤ → ℤ
or_of a b = int32 (pos (bit_or (uint32 a) (uint32 b)))

-- ~x (ECMA-262 11.4.8): each of the 32 bits turned
abbrev pub not_of : ℤ → ℤ
not_of a = int32 (pos (2 ^ 32 - 1 - uint32 a))

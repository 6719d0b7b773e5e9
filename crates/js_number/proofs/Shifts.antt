-- A number of 32 bits times a power of two below 2 ^ 32.
use Rattle.std.proofs.Common.{◌≡◌, ℕ, ◌%◌, ◌<◌, ◌≤◌, ◌^◌, ℤ, pos, negsuc, ◌*ℤ◌, unsigned_abs, FitsSigned, arith, w64, w32, lit<}
use Rattle.std.proofs.lemmas.Int.{fits_signed_mul}
use Rattle.std.proofs.Math.Pow.{pow_mono}
use lib.Signed.{mag}

-- the size of a number is at most one more than its bound
size_within : (z : ℤ) (n : ℕ) → mag z < n → unsigned_abs z ≤ n
size_within (pos a) n h = omega arith
size_within (negsuc a) n h = omega arith

-- the product fits 64 bits
pub fits_shifted : (z p : ℤ) (k : ℕ) → FitsSigned w32 z → p ≡ pos (2 ^ (k % 32)) → FitsSigned w64 (z *ℤ p)
fits_shifted z p k f e =
    let below : k % 32 ≤ 31 = omega arith in
    let small : 2 ^ (k % 32) ≤ 2 ^ 31 = pow_mono below in
    let size : unsigned_abs p ≤ 2 ^ 31 = rw e small in
    fits_signed_mul w64 z p (2 ^ 31) (2 ^ 31) (size_within z (2 ^ 31) f.sfits) size (lit< tt)

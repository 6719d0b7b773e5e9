-- The residues of ToUint32 and ToInt32.
use Rattle.std.proofs.Common.{◌≡◌, ℕ, ◌/◌, ◌^◌, Bool, true, false, arith, ℤ, pos, negsuc, ◌+ℤ◌, ◌-ℤ◌, ◌*ℤ◌, nat_lt, if◌then◌else◌}
use Rattle.std.proofs.lemmas.Int.{ints}
use Rattle.js_number.specs.Bits.{IsResidue, uint32, int32}

-- an integer is the multiple of 2 ^ 32 below it and what is left
pub uint32_residue : (z : ℤ) → IsResidue (2 ^ 32) z (pos (uint32 z))
uint32_residue (pos a) = (pos (a / 2 ^ 32), omega (arith, ints))
uint32_residue (negsuc a) = (negsuc (a / 2 ^ 32), omega (arith, ints))

-- the signed residue by the test of its top bit
int32_at : (b : Bool) (z q : ℤ) (k : ℕ) → z ≡ q *ℤ pos (2 ^ 32) +ℤ pos k → IsResidue (2 ^ 32) z (if b then pos k else pos k -ℤ pos (2 ^ 32))
int32_at true z q k e = (q, e)
int32_at false z q k e = (q +ℤ pos 1, omega (arith, ints))

-- so is that of ToInt32
pub int32_residue : (z : ℤ) → IsResidue (2 ^ 32) z (int32 z)
int32_residue z =
    let r = uint32_residue z in
    int32_at (nat_lt (uint32 z) (2 ^ 31)) z r.0 (uint32 z) r.1

use Rattle.std.proofs.Common.{rules, arith, FitsSigned, w32, w64, ◌*ℤ◌}
use Rattle.std.proofs.lemmas.Int.{to_z-of_z}
use Rattle.js_number.specs.Number.{integer_of}
use Rattle.js_number.specs.Bits.{uint32}
use Rattle.js_number.proofs.Shifts.{fits_shifted}
use Rattle.js_number.proofs.bits.shift_left.Goals as goal

pub overflow_mul-shifted : goal.overflow_mul-shifted
overflow_mul-shifted c =
    let f : FitsSigned w32 c.to_int32.result = search rules in
    let g : FitsSigned w64 c.power.result = search rules in
    let h : FitsSigned w64 c.from.result = search rules in
    let e : FitsSigned w32 c.from.result = grind (arith, to_z-of_z) in
    simp to_z-of_z (fits_shifted c.from.result c.power.result (uint32 (integer_of c.args.b)) e c.power.ensures)

pub returns : goal.returns
returns c =
    let f : FitsSigned w32 c.to_int32.result = search rules in
    let g : FitsSigned w64 c.power.result = search rules in
    let h : FitsSigned w64 c.from.result = search rules in
    let e : FitsSigned w32 c.from.result = grind (arith, to_z-of_z) in
    let i : FitsSigned w64 (c.from.result *ℤ c.power.result) = fits_shifted c.from.result c.power.result (uint32 (integer_of c.args.b)) e c.power.ensures in
    let j : FitsSigned w32 c.int32_of.result = search rules in
    let k : FitsSigned w64 c.from-2.result = search rules in
    grind (arith, to_z-of_z)

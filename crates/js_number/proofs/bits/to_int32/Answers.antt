use Rattle.std.proofs.Common.{◌≡◌, subst, sym, ap, ◌∙◌, ◌^◌, FitsSigned, w32, w64, rules}
use Rattle.std.proofs.lemmas.Int.{to_z-of_z}
use Rattle.js_number.specs.Number.{integer_of}
use Rattle.js_number.specs.Bits.{IsResidue, int32}
use Rattle.js_number.proofs.Residues.{int32_residue}
use Rattle.js_number.proofs.bits.to_int32.Goals as goal

pub returns-clause-residue : goal.returns-clause-residue
returns-clause-residue c =
    let f : FitsSigned w64 c.to_integer.result = search rules in
    let g : FitsSigned w32 c.int32_of.result = search rules in
    let e : c.int32_of.result ≡ int32 (integer_of c.args.a) = c.int32_of.ensures ∙ ap int32 (to_z-of_z w64 c.to_integer.result f ∙ c.to_integer.ensures) in
    subst (λ n. IsResidue (2 ^ 32) (integer_of c.args.a) n) (sym (to_z-of_z w32 c.int32_of.result g ∙ e)) (int32_residue (integer_of c.args.a))

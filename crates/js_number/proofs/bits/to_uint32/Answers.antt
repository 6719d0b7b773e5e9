use Rattle.std.proofs.Common.{◌≡◌, subst, sym, ap, ◌∙◌, ◌^◌, pos, FitsSigned, w64, rules}
use Rattle.std.proofs.lemmas.Int.{to_z-of_z}
use Rattle.js_number.specs.Number.{integer_of}
use Rattle.js_number.specs.Bits.{IsResidue, uint32}
use Rattle.js_number.proofs.Residues.{uint32_residue}
use Rattle.js_number.proofs.bits.to_uint32.Goals as goal

pub returns-clause-residue : goal.returns-clause-residue
returns-clause-residue c =
    let f : FitsSigned w64 c.to_integer.result = search rules in
    let e : c.uint32_of.result ≡ uint32 (integer_of c.args.a) = c.uint32_of.ensures ∙ ap uint32 (to_z-of_z w64 c.to_integer.result f ∙ c.to_integer.ensures) in
    subst (λ n. IsResidue (2 ^ 32) (integer_of c.args.a) (pos n)) (sym e) (uint32_residue (integer_of c.args.a))

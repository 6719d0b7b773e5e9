use Rattle.std.proofs.Common.{◌≡◌, ◌<◌, ◌^◌, ℤ, unsigned_abs, IfOk, FitsSigned, to_z, of_z, w64, sym, ap, subst, ◌∙◌, arith, rules}
use Rattle.std.proofs.lemmas.Int.{to_z-of_z}
use Rattle.js_number.specs.Conversions.{number_text}
use Rattle.js_number.specs.declared.num.Num.{Num}
use Rattle.js_number.specs.declared.num.Num.TheVariants.{Int}
use Rattle.js_number.proofs.TenLaws.{ten}
use Rattle.js_number.proofs.radix.text_in_radix.Goals as goal

pub returns-in-Int-clause-decimal : goal.returns-in-Int-clause-decimal
returns-in-Int-clause-decimal c = λ e.
    let fits : FitsSigned w64 c.get.result = search rules in
    let back : to_z w64 (of_z w64 c.get.result) ≡ c.get.result = to_z-of_z w64 c.get.result fits in
    let small : unsigned_abs c.get.result < 2 ^ 64 = omega (arith, c.get.ensures.profile) in
    let same : c.args.a ≡ Int (to_z w64 (of_z w64 c.get.result)) = c.in-Int.is ∙ ap Int (sym (back ∙ c.get.ensures.value)) in
    subst (λ (m : Num). IfOk c.integer_in_radix.result (λ text. text ≡ number_text m)) (sym same)
    (ten c.from.result (to_z w64 (of_z w64 c.get.result)) c.integer_in_radix.result (subst (λ (z : ℤ). unsigned_abs z < 2 ^ 64) (sym back) small) (c.from.ensures ∙ e) c.integer_in_radix.ensures)

use Rattle.std.proofs.Common.{◌≡◌, sym, subst, ◌∙◌, ap, Ok, take, ℤ}
use Rattle.std.proofs.lemmas.Bool.{true≢false}
use Rattle.js_number.specs.Literal.{SpellsNumber}
use Rattle.js_number.specs.Profile.{IsProfile}
use Rattle.js_number.specs.declared.num.Num.TheVariants.{Int}
use Rattle.js_scan.specs.Units.{begins_with_digit}
use Rattle.js_scan.specs.Names.{BeginsName}
use Rattle.js_scan.proofs.element.number.Goals as goal
use Rattle.js_scan.proofs.element.number.Goals.{then-begins_with_digit-via-then-begins_with_digit, then-begins_with_digit-via-else-begins_with_digit+then-begins_name}
use Rattle.js_scan.proofs.Finding.{number_begins, number_found_at, number_digit, number_name, number_value, number_rest}

pub number_length-length-requires : goal.number_length-length-requires
number_length-length-requires c = number_begins c.args.units.now c.requires.class

pub returns-then-begins_with_digit : goal.returns-then-begins_with_digit
returns-then-begins_with_digit c =
    let us = c.args.units.now in
    let n = c.number_length-length.result in
    let rest = number_rest us n c.number_length-length.ensures in
    elim c.then-begins_with_digit.branch [
      | then-begins_with_digit-via-then-begins_with_digit w ↦ number_digit c.args.state us n c.requires.class c.number_length-length.ensures (ap begins_with_digit (sym rest) ∙ sym c.begins_with_digit.ensures ∙ w.if-begins_with_digit.true)
      | then-begins_with_digit-via-else-begins_with_digit+then-begins_name w ↦ number_name c.args.state us n c.requires.class c.number_length-length.ensures (subst BeginsName rest (w.begins_name.ensures.0 w.if-begins_name.true))
    ]

pub returns-in-Int : goal.returns-in-Int
returns-in-Int c =
    let us = c.args.units.now in
    let n = c.number_length-length.result in
    let rest = number_rest us n c.number_length-length.ensures in
    let value = (c.text_to_number.ensures.grammar c.in-Int.value).0 (rw c.in-Int.is at c.in-Ok.is) in
    number_found_at c.args.state us n c.in-Int.value c.in_ok-text.text c.lexeme.result c.requires.class c.number_length-length.ensures value.0 value.1 c.in_ok-text.ensures
    (ap begins_with_digit (sym rest) ∙ sym c.if-begins_with_digit.ensures)
    (λ h. true≢false (sym (c.begins_name.ensures.1 (subst BeginsName (sym rest) h)) ∙ c.if-begins_name.false)) c.lexeme.ensures

pub returns-in-Nan : goal.returns-in-Nan
returns-in-Nan c =
    let none : (v : ℤ) → IsProfile v × SpellsNumber (take c.number_length-length.result c.args.units.now) v → ⊥ =
    λ v h. let spells = subst (λ x. SpellsNumber x v) (sym c.in_ok-text.ensures) h.1 in c.text_to_number.ensures.nan.0 (rw c.in-Nan.is at c.in-Ok.is) (record { literal = spells.literal; spells = spells.spells }) in
    number_value c.args.state c.args.units.now c.number_length-length.result c.requires.class c.number_length-length.ensures none

pub returns-in-Err : goal.returns-in-Err
returns-in-Err c =
    let none : (v : ℤ) → IsProfile v × SpellsNumber (take c.number_length-length.result c.args.units.now) v → ⊥ =
    λ v h. let g : c.text_to_number.result ≡ Ok (Int v) = (c.text_to_number.ensures.grammar v).1 (h.0, subst (λ x. SpellsNumber x v) (sym c.in_ok-text.ensures) h.1) in cc (g, c.in-Err.is) in
    number_value c.args.state c.args.units.now c.number_length-length.result c.requires.class c.number_length-length.ensures none

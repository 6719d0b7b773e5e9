use Rattle.std.proofs.Common.{◌≡◌, sym, ◌∙◌, ap, false, true, ◌&&◌}
use Rattle.std.proofs.lemmas.Bool.{and_from}
use Rattle.js_scan.specs.Units.{begins_with}
use Rattle.js_scan.specs.Names.{is_reserved, word_kind}
use Rattle.js_scan.proofs.element.name.Goals as goal
use Rattle.js_scan.proofs.element.name.Goals.{then-reserved-2, else-reserved-2}
use Rattle.js_scan.proofs.Finding.{name_backslash, name_reserved, name_found_at, name_rest, kind_of_reserved, kind_of_name, not_reserved}

pub returns-then-begins_with : goal.returns-then-begins_with
returns-then-begins_with c =
    let rest = name_rest c.args.units.now c.args.word c.requires.word in
    name_backslash c.args.state c.args.units.now c.args.word c.requires.class c.requires.word (ap (begins_with 92) (sym rest) ∙ sym c.if-begins_with.ensures)

pub returns-then-reserved : goal.returns-then-reserved
returns-then-reserved c =
    let rest = name_rest c.args.units.now c.args.word c.requires.word in
    let reserved : is_reserved c.args.word.text ≡ true = ap is_reserved (sym c.units.ensures) ∙ sym c.if-reserved.ensures in
    name_reserved c.args.state c.args.units.now c.args.word c.requires.class c.requires.word (ap (begins_with 92) (sym rest) ∙ sym c.if-begins_with.ensures) (and_from c.args.word.escaped (is_reserved c.args.word.text) c.if-word.true reserved)

pub returns : goal.returns
returns c =
    let rest = name_rest c.args.units.now c.args.word c.requires.word in
    let tested : c.is_reserved-reserved.result ≡ is_reserved c.args.word.text = c.is_reserved-reserved.ensures ∙ ap is_reserved c.units.ensures in
    let good : (c.args.word.escaped && is_reserved c.args.word.text) ≡ false = ap (λ x. c.args.word.escaped && x) (sym tested) ∙ not_reserved c.args.word.escaped c.is_reserved-reserved.result c.else-word.either in
    let kind_is : c.if-reserved-2.kind ≡ word_kind c.args.word.text = elim c.if-reserved-2.branch [
      | then-reserved-2 w ↦ w.kind-is ∙ kind_of_reserved c.args.word.text (sym tested ∙ w.if-reserved-2.true)
      | else-reserved-2 w ↦ w.kind-is ∙ kind_of_name c.args.word.text (sym tested ∙ w.if-reserved-2.false)
    ] in
    name_found_at c.args.state c.args.units.now c.args.word c.if-reserved-2.kind c.lexeme.result c.requires.class c.requires.word (ap (begins_with 92) (sym rest) ∙ sym c.if-begins_with.ensures) good kind_is c.lexeme.ensures

use Rattle.std.proofs.Common.{◌≡◌, sym, ◌∙◌, false, not, ◌&&◌}
use Rattle.std.proofs.lemmas.Bool.{and_left, and_right, not-true}
use Rattle.js_scan.specs.Units.{begins_with}
use Rattle.js_scan.proofs.element.punctuator.Goals as goal
use Rattle.js_scan.proofs.element.punctuator.Goals.{else-begins_with-via-then-begins_with+else-not-state, else-begins_with-via-else-begins_with}
use Rattle.js_scan.proofs.Finding.{none_fault_at, expression_fault, punctuator_found_at}

pub returns-then-length-eq0 : goal.returns-then-length-eq0
returns-then-length-eq0 c = none_fault_at c.args.state c.args.units.now c.punctuator_length-length.result c.requires.class c.requires.none c.requires.some c.punctuator_length-length.ensures c.if-length-eq0.true

pub returns-then-not-state : goal.returns-then-not-state
returns-then-not-state c = expression_fault c.args.state c.args.units.now c.requires.class (sym c.if-begins_with.ensures) (not-true c.args.state.divides c.if-not-state.true)

pub returns : goal.returns
returns c =
    let us = c.args.units.now in
    let divides : (begins_with 47 us && not c.args.state.divides) ≡ false = elim c.else-begins_with.branch [
      | else-begins_with-via-then-begins_with+else-not-state w ↦ and_right (begins_with 47 us) (not c.args.state.divides) w.if-not-state.false
      | else-begins_with-via-else-begins_with w ↦ and_left (begins_with 47 us) (not c.args.state.divides) (sym c.begins_with.ensures ∙ w.if-begins_with.false)
    ] in
    punctuator_found_at c.args.state us c.punctuator_length-length.result c.in_ok-text.text c.lexeme.result c.requires.class c.requires.none c.punctuator_length-length.ensures c.if-length-eq0.false divides c.in_ok-text.ensures c.lexeme.ensures

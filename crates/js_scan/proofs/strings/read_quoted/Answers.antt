use Rattle.std.proofs.Common.{arith, get_or, ◌+◌, subst, sym}
use Rattle.std.proofs.lemmas.List.{take_rest}
use Rattle.js_scan.specs.Found.{FindsString}
use Rattle.js_scan.proofs.StringReadingLaws.{quote_read, quote_first, ReadOn, on_within, value_read, nothing_read, quote_found, line_end_found, bad_escape_found}
use Rattle.js_scan.proofs.strings.read_quoted.Goals as goal
use Rattle.js_scan.proofs.strings.read_quoted.Goals.{In_ok-push-in-Value, In-Nothing}

pub parts-init : goal.parts-init
parts-init c = rw c.new-value.ensures.items (quote_read c.args.units.now c.requires.0 c.requires.1 c.requires.2)

-- where the reader goes behind a unit, and behind a line continuation
on_value : (c : In_ok-push-in-Value) → ReadOn c.args.units.now (get_or c.args.units.now 0 0) c.push.new.self.items c.parts.at c.in-Value.length
on_value c =
    rw c.in_ok-push-in-Value.ensures.items (value_read c.args.units.now (get_or c.args.units.now 0 0) c.parts.value.items c.parts.at c.parts.invariant c.in-Value.unit c.in-Value.length (rw take_rest at c.in-Value.ensures))

on_nothing : (c : In-Nothing) → ReadOn c.args.units.now (get_or c.args.units.now 0 0) c.parts.value.items c.parts.at c.in-Nothing.length
on_nothing c = nothing_read c.args.units.now (get_or c.args.units.now 0 0) c.parts.value.items c.parts.at c.parts.invariant c.in-Nothing.length (rw take_rest at c.in-Nothing.ensures)

pub overflow_add-at : goal.overflow_add-at
overflow_add-at c = omega (arith, on_within _ _ _ _ _ (on_value c))

pub parts-smaller-in-Value : goal.parts-smaller-in-Value
parts-smaller-in-Value c = let on = on_value c in omega (arith, on_within _ _ _ _ _ on, on.moves)

pub parts-preserved-in-Value : goal.parts-preserved-in-Value
parts-preserved-in-Value c = (on_value c).read

pub overflow_add-at-in-Nothing : goal.overflow_add-at-in-Nothing
overflow_add-at-in-Nothing c = omega (arith, on_within _ _ _ _ _ (on_nothing c))

pub parts-smaller : goal.parts-smaller
parts-smaller c = let on = on_nothing c in omega (arith, on_within _ _ _ _ _ on, on.moves)

pub parts-preserved : goal.parts-preserved
parts-preserved c = (on_nothing c).read

pub returns-in-Quote : goal.returns-in-Quote
returns-in-Quote c =
    subst (λ value. FindsString c.args.units.now value (c.parts.at + 1)) (sym c.in_ok-value-in-Quote.ensures) (quote_found c.args.units.now (get_or c.args.units.now 0 0) c.parts.value.items c.parts.at c.parts.invariant (quote_first c.args.units.now c.requires.0 c.requires.1 c.requires.2 c.requires.3) (rw take_rest at c.in-Quote.ensures))

pub returns-in-LineEnd : goal.returns-in-LineEnd
returns-in-LineEnd c =
    line_end_found c.args.units.now (get_or c.args.units.now 0 0) c.parts.value.items c.parts.at c.parts.invariant (quote_first c.args.units.now c.requires.0 c.requires.1 c.requires.2 c.requires.3) (rw take_rest at c.in-LineEnd.ensures)

pub returns-in-BadEscape : goal.returns-in-BadEscape
returns-in-BadEscape c =
    bad_escape_found c.args.units.now (get_or c.args.units.now 0 0) c.parts.value.items c.parts.at c.parts.invariant (quote_first c.args.units.now c.requires.0 c.requires.1 c.requires.2 c.requires.3) (rw take_rest at c.in-BadEscape.ensures)

use Rattle.std.proofs.Common.{◌≡◌, ◌+◌, ◌-◌, ◌<◌, ◌≤◌, ◌^◌, [], ◌∷◌, ◌++◌, ◌||◌, nat_lt, length, drop, Some, None, subst, sym, ap, ◌∙◌, arith, rules}
use Rattle.js_scan.specs.Found.{FindsName}
use Rattle.js_scan.specs.NameReading.{ReadsName, part_at}
use Rattle.js_scan.proofs.NameLaws.{none_begins, first_read, more_read, less_left, part_behind, all_read}
use Rattle.js_scan.proofs.names.read_word.Goals as goal
use Rattle.js_scan.proofs.names.read_word.Goals.{In_ok-push-2}

-- the part that one turn reads
part : (c : In_ok-push-2) → part_at (drop c.loop-unit.length c.args.units.now) ≡ Some (c.in-Some-part_at.unit, c.in-Some-part_at.taken)
part c = part_behind c.args.units.now c.loop-unit.length c.part_at.result (Some (c.in-Some-part_at.unit, c.in-Some-part_at.taken)) c.part_at.ensures c.in-Some-part_at.is

-- what is left behind it
left : (c : In_ok-push-2) → (c.loop-unit.length + c.in-Some-part_at.taken ≤ length c.args.units.now)
    × (length c.args.units.now - (c.loop-unit.length + c.in-Some-part_at.taken) < length c.args.units.now - c.loop-unit.length)
left c = less_left c.args.units.now c.loop-unit.name.items c.loop-unit.length c.loop-unit.escaped (c.in-Some-part_at.unit, c.in-Some-part_at.taken) c.loop-unit.invariant (part c)

pub returns-in_default : goal.returns-in_default
returns-in_default c = none_begins c.args.units.now (sym c.start_at.ensures ∙ c.in_default.is)

pub loop-unit-init : goal.loop-unit-init
loop-unit-init c =
    subst (λ text. ReadsName c.args.units.now text c.in-Some.taken (nat_lt 1 c.in-Some.taken)) (sym (c.in_ok-push.ensures.items ∙ ap (λ xs. xs ++ c.in-Some.first ∷ []) c.new-name.ensures.items))
    (first_read c.args.units.now (c.in-Some.first, c.in-Some.taken) (sym c.start_at.ensures ∙ c.in-Some.is))

pub overflow_add-length : goal.overflow_add-length
overflow_add-length c =
    let short : length c.args.units.now < 2 ^ 63 = search rules in
    let l = left c in
    omega arith

pub loop-unit-smaller : goal.loop-unit-smaller
loop-unit-smaller c = (left c).1

pub loop-unit-preserved : goal.loop-unit-preserved
loop-unit-preserved c =
    subst (λ text. ReadsName c.args.units.now text (c.loop-unit.length + c.in-Some-part_at.taken) (c.loop-unit.escaped || nat_lt 1 c.in-Some-part_at.taken)) (sym c.in_ok-push-2.ensures.items)
    (more_read c.args.units.now c.loop-unit.name.items c.loop-unit.length c.loop-unit.escaped (c.in-Some-part_at.unit, c.in-Some-part_at.taken) c.loop-unit.invariant (part c))

pub returns : goal.returns
returns c =
    subst (λ text. FindsName c.args.units.now (record { text = text; length = c.loop-unit.length; escaped = c.loop-unit.escaped })) (sym c.in_ok-text.ensures)
    (all_read c.args.units.now c.loop-unit.name.items c.loop-unit.length c.loop-unit.escaped c.loop-unit.invariant (part_behind c.args.units.now c.loop-unit.length c.part_at.result None c.part_at.ensures c.in_default-part_at.is))

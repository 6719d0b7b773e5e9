use Rattle.std.proofs.Common.{arith, ap, sym, ◌∙◌, ◌≡◌, ◌<◌, ◌∷◌, length, List, eqb-true}
use Rattle.origin_labels.specs.Label.{Label, bottom}
use Rattle.interned_labels.proofs.TableLaws.{added_none, added_number, added_sets, added_formed, place_fits, nonempty}
use Rattle.interned_labels.proofs.set_table.SetTable.add.Goals as goal

pub returns-then-is_empty-clause-number : goal.returns-then-is_empty-clause-number
returns-then-is_empty-clause-number c =
    let none : length c.args.set.items ≡ 0 = sym c.args.set.ok.0 ∙ eqb-true c.args.set.len 0 (sym c.if-is_empty.ensures) in
    (added_none c.self.inside.sets.keys c.args.self.now c.args.set.items c.self.view_is none).0

pub returns-then-is_empty-clause-sets : goal.returns-then-is_empty-clause-sets
returns-then-is_empty-clause-sets c =
    let none : length c.args.set.items ≡ 0 = sym c.args.set.ok.0 ∙ eqb-true c.args.set.len 0 (sym c.if-is_empty.ensures) in
    (added_none c.self.inside.sets.keys c.args.self.now c.args.set.items c.self.view_is none).1

pub overflow_cast-result : goal.overflow_cast-result
overflow_cast-result c =
    let few : length c.self.inside.sets.keys < 4294967295 = omega (arith, c.len.ensures.len, c.if-len-ge-MOST_SETS.false) in
    let fits = place_fits c.self.inside.sets.keys c.insert_full.new.self.keys c.new.result _ c.in_ok-place.ensures.keys c.in_ok-place.ensures.within few in
    omega (arith, fits)

pub overflow_add-result : goal.overflow_add-result
overflow_add-result c =
    let few : length c.self.inside.sets.keys < 4294967295 = omega (arith, c.len.ensures.len, c.if-len-ge-MOST_SETS.false) in
    let fits = place_fits c.self.inside.sets.keys c.insert_full.new.self.keys c.new.result _ c.in_ok-place.ensures.keys c.in_ok-place.ensures.within few in
    omega (arith, fits)

pub invariant_of-self-2 : goal.invariant_of-self-2
invariant_of-self-2 c =
    let few : length c.self.inside.sets.keys < 4294967295 = omega (arith, c.len.ensures.len, c.if-len-ge-MOST_SETS.false) in
    let some : 0 < length c.args.set.items = omega (arith, c.args.set.ok.0, nonempty c.args.set.len c.if-is_empty.ensures) in
    added_formed c.self.inside.sets.keys c.insert_full.new.self.keys c.args.set.items c.new.result some c.new.ensures c.in_ok-place.ensures.keys few c.self.invariant.0

pub returns-clause-number : goal.returns-clause-number
returns-clause-number c =
    let some : 0 < length c.args.set.items = omega (arith, c.args.set.ok.0, nonempty c.args.set.len c.if-is_empty.ensures) in
    added_number c.self.inside.sets.keys c.args.self.now c.args.set.items c.new.result _ c.self.view_is some c.new.ensures c.in_ok-place.ensures.index

pub returns-clause-sets : goal.returns-clause-sets
returns-clause-sets c =
    let some : 0 < length c.args.set.items = omega (arith, c.args.set.ok.0, nonempty c.args.set.len c.if-is_empty.ensures) in
    added_sets c.self.inside.sets.keys c.insert_full.new.self.keys c.args.self.now c.args.set.items c.new.result c.self.view_is some c.new.ensures c.in_ok-place.ensures.keys

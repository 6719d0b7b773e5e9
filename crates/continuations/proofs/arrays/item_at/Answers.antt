use Rattle.std.proofs.Common.{sym, length}
use borrow.Author.Tests.{ltb-true, ltb-false}
use Rattle.continuations.proofs.ArrayLaws.{found_end, found_hole, found_value}
use Rattle.continuations.proofs.arrays.item_at.Goals as goal

pub returns-in_default : goal.returns-in_default
returns-in_default c = found_end c.items.result.now c.args.list.now c.args.place c.items.ensures (ltb-false c.args.place (length c.items.result.now) (sym c.in_default.ensures.lookup.0))

pub returns-in-Value : goal.returns-in-Value
returns-in-Value c =
    found_value c.items.result.now c.args.list.now c.args.place c.in-Some.item.now c.items.ensures (ltb-true c.args.place (length c.items.result.now) (sym c.in-Some.ensures.lookup.0)) c.in-Some.ensures.lookup.1
    (record { ref_ptr = (0, 0); now = c.in-Value.value }) c.in-Value.is

pub returns-in-Hole : goal.returns-in-Hole
returns-in-Hole c =
    found_hole c.items.result.now c.args.list.now c.args.place c.in-Some.item.now c.items.ensures (ltb-true c.args.place (length c.items.result.now) (sym c.in-Some.ensures.lookup.0)) c.in-Some.ensures.lookup.1 c.in-Hole.is

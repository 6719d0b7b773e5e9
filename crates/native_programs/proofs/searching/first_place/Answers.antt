use Rattle.std.proofs.Common.{◌+◌, ◌-◌, length, sym, ◌∙◌, arith}
use Rattle.native_programs.specs.Searching.{stands_at}
use Rattle.native_programs.proofs.PlaceLaws.{smallest_here, smallest_later, smallest_nowhere}
use Rattle.native_programs.proofs.searching.first_place.Goals as goal

pub loop-place-preserved : goal.loop-place-preserved
loop-place-preserved c =
    c.loop-place.invariant
    ∙ smallest_later (stands_at c.args.subject.now c.args.sought.now) c.loop-place.place ((length c.args.subject.now + 1) - c.loop-place.place) ((length c.args.subject.now + 1) - (c.loop-place.place + 1))
    (sym c.stands_at.ensures ∙ c.if-stands_at.false) (omega arith)

pub returns-then-stands_at : goal.returns-then-stands_at
returns-then-stands_at c =
    sym (c.loop-place.invariant
    ∙ smallest_here (stands_at c.args.subject.now c.args.sought.now) c.loop-place.place ((length c.args.subject.now + 1) - c.loop-place.place) (length c.args.subject.now - c.loop-place.place)
    (sym c.stands_at.ensures ∙ c.if-stands_at.true) (omega arith))

pub returns : goal.returns
returns c =
    sym (c.loop-place.invariant ∙ smallest_nowhere (stands_at c.args.subject.now c.args.sought.now) c.loop-place.place ((length c.args.subject.now + 1) - c.loop-place.place) (omega arith))

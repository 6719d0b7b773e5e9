use Rattle.std.proofs.Common.{◌≡◌, ℕ, ◌+◌, ◌-◌, sym, ap, ◌∙◌, arith}
use Rattle.native_programs.specs.Searching.{largest_below, stands_at}
use Rattle.native_programs.proofs.PlaceLaws.{largest_here, largest_before, largest_nowhere}
use Rattle.native_programs.proofs.searching.last_place.Goals as goal

pub loop-back-preserved : goal.loop-back-preserved
loop-back-preserved c =
    let fewer : c.args.last - c.loop-back.back ≡ (c.args.last + 1) - (c.loop-back.back + 1) = omega arith in
    c.loop-back.invariant
    ∙ largest_before (stands_at c.args.subject.now c.args.sought.now) ((c.args.last + 1) - c.loop-back.back) (c.args.last - c.loop-back.back) (sym c.stands_at.ensures ∙ c.if-stands_at.false) (omega arith)
    ∙ ap (λ (n : ℕ). largest_below (stands_at c.args.subject.now c.args.sought.now) n) fewer

pub returns-then-stands_at : goal.returns-then-stands_at
returns-then-stands_at c =
    sym (c.loop-back.invariant
    ∙ largest_here (stands_at c.args.subject.now c.args.sought.now) ((c.args.last + 1) - c.loop-back.back) (c.args.last - c.loop-back.back) (sym c.stands_at.ensures ∙ c.if-stands_at.true) (omega arith))

pub returns : goal.returns
returns c = sym (c.loop-back.invariant ∙ largest_nowhere (stands_at c.args.subject.now c.args.sought.now) ((c.args.last + 1) - c.loop-back.back) (omega arith))

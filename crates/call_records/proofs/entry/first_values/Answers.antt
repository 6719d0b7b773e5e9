use Rattle.std.proofs.Common.{arith, sym, ap, subst, ◌∙◌, ◌≤◌, ◌+◌, ℕ}
use Rattle.call_records.proofs.EntryLaws.{more_missing}
use Rattle.call_records.proofs.entry.first_values.Goals as goal

pub push_reserved-requires-in-loop : goal.push_reserved-requires-in-loop
push_reserved-requires-in-loop g c =
    let i = c.loop.invariant in
    omega (arith, i.2, i.3)

pub loop-preserved : goal.loop-preserved
loop-preserved g c =
    let i = c.loop.invariant in
    let pushed = c.push_reserved-in-loop.ensures in (
      omega (arith, i.0),
      omega arith,
      pushed.len ∙ ap (λ (n : ℕ). n + 1) i.2,
      subst (λ n. c.args.count ≤ n) (sym pushed.capacity) i.3,
      more_missing c.args.this c.args.function c.args.missing.now c.in_ok-copy.field-0 c.loop.counter c.loop.values.items _ i.0 i.4 pushed.items c.in_ok-copy.ensures,
    )

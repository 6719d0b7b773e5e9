use Rattle.std.proofs.Common.{arith, ◌<◌, ◌≤◌, length, None, sym, ◌∙◌}
use Rattle.step_calling.proofs.BoundTargetLaws.{holds_none, nowhere_itself, own_itself, stands_bound}
use Rattle.step_calling.proofs.bound_target.is_bound.Goals as goal

pub returns-then-o-len : goal.returns-then-o-len
returns-then-o-len g c =
    let past : length c.args.heap.now ≤ c.args.o.0 = omega (arith, c.len.ensures.length, c.if-o-len.true) in
    λ free. nowhere_itself c.args.heap.now c.args.o.0 past

pub returns : goal.returns
returns g c =
    let there : c.args.o.0 < length c.args.heap.now = omega (arith, c.len.ensures.length, c.if-o-len.false) in
    λ free. own_itself c.args.heap.now c.len.ensures.formed c.args.o.0
    (stands_bound c.args.heap.now c.args.o.0 c.inner.result.now None there c.inner.ensures (holds_none c.inner.result.now (sym c.holds_target.ensures ∙ free)))

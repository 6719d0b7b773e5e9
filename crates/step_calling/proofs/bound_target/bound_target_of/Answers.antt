use Rattle.std.proofs.Common.{arith, ◌<◌, ◌≤◌, length, Some, None, sym, ◌∙◌}
use Rattle.step_calling.proofs.BoundTargetLaws.{comes_nowhere, comes_own, stands_bound}
use Rattle.step_calling.proofs.bound_target.bound_target_of.Goals as goal

pub walk_targets-requires-clause-there : goal.walk_targets-requires-clause-there
walk_targets-requires-clause-there g c =
    let there : c.args.o.0 < length c.args.heap.now = omega (arith, c.len.ensures.length, c.if-o-len.false) in
    stands_bound c.args.heap.now c.args.o.0 c.inner.result.now (Some c.in-Some.aim) there c.inner.ensures (sym c.in-Some.is ∙ c.in_ok-bound.ensures)

pub returns-then-o-len-clause-comes : goal.returns-then-o-len-clause-comes
returns-then-o-len-clause-comes g c =
    let past : length c.args.heap.now ≤ c.args.o.0 = omega (arith, c.len.ensures.length, c.if-o-len.true) in
    comes_nowhere g.L.Labels.made g.L.Labels.meaning c.args.labels.now c.args.heap.now c.args.o.0 past

pub returns-in-None-clause-comes : goal.returns-in-None-clause-comes
returns-in-None-clause-comes g c =
    let there : c.args.o.0 < length c.args.heap.now = omega (arith, c.len.ensures.length, c.if-o-len.false) in
    comes_own g.L.Labels.made g.L.Labels.meaning c.args.labels.now c.args.heap.now c.len.ensures.formed c.args.o.0
    (stands_bound c.args.heap.now c.args.o.0 c.inner.result.now None there c.inner.ensures (sym c.in-None.is ∙ c.in_ok-bound.ensures))

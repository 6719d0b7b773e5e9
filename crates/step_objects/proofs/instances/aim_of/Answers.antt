use Rattle.std.proofs.Common.{arith, ◌≤◌, length}
use Rattle.step_objects.proofs.TestLaws.{aimed_nowhere}
use Rattle.step_objects.proofs.instances.aim_of.Goals as goal

pub returns-clause-aimed : goal.returns-clause-aimed
returns-clause-aimed g c =
    let past : length c.args.heap.now ≤ c.args.f.0 = omega (arith, c.len.ensures.length, c.if-f-len.false) in
    aimed_nowhere g.L.Labels.made g.L.Labels.meaning c.args.labels.now c.args.heap.now c.args.f c.bottom-label.result past c.bottom-label.ensures.made c.bottom-label.ensures.meaning

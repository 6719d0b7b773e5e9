use Rattle.std.proofs.Common.{◌≤◌, length, arith}
use Rattle.step_control.proofs.PassLaws.{branch_passed}
use Rattle.step_control.proofs.passing.pass_branch.Goals as goal

pub returns-then-len-depth-clause-goes_on : goal.returns-then-len-depth-clause-goes_on
returns-then-len-depth-clause-goes_on g c =
    let few : length c.args.frames.now.frames ≤ c.args.depth = omega (arith, c.if-len-depth.true, c.len.ensures.length) in
    branch_passed g.L.Labels.made g.L.Labels.meaning c.args.labels.now c.args.jump c.args.depth c.args.stack.now c.args.frames.now.frames few c.args.gives

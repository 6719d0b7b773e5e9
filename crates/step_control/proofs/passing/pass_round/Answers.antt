use Rattle.std.proofs.Common.{◌≤◌, length, arith}
use Rattle.step_control.proofs.PassLaws.{round_passed, label_passed, try_passed}
use Rattle.step_control.proofs.passing.pass_round.Goals as goal

pub returns-clause-goes_on : goal.returns-clause-goes_on
returns-clause-goes_on g c =
    let few : length c.args.frames.now.frames ≤ c.args.depth = omega (arith, c.if-depth-len.false, c.len.ensures.length) in
    round_passed g.L.Labels.made g.L.Labels.meaning c.args.labels.now c.args.jump c.args.depth c.args.stack.now c.args.frames.now.frames few

pub returns-clause-label : goal.returns-clause-label
returns-clause-label g c =
    let few : length c.args.frames.now.frames ≤ c.args.depth = omega (arith, c.if-depth-len.false, c.len.ensures.length) in
    label_passed g.L.Labels.made g.L.Labels.meaning c.args.labels.now c.args.jump c.args.depth c.args.stack.now c.args.frames.now.frames few

pub returns-clause-tried : goal.returns-clause-tried
returns-clause-tried g c =
    let few : length c.args.frames.now.frames ≤ c.args.depth = omega (arith, c.if-depth-len.false, c.len.ensures.length) in
    try_passed g.L.Labels.made g.L.Labels.meaning c.args.labels.now c.args.jump c.args.depth c.args.stack.now c.args.frames.now.frames few

pub returns-then-depth-len-clause-goes_on : goal.returns-then-depth-len-clause-goes_on
returns-then-depth-len-clause-goes_on g c = c.reach.ensures.round c.args.jump

pub returns-then-depth-len-clause-label : goal.returns-then-depth-len-clause-label
returns-then-depth-len-clause-label g c = c.reach.ensures.label c.args.jump

pub returns-then-depth-len-clause-tried : goal.returns-then-depth-len-clause-tried
returns-then-depth-len-clause-tried g c = c.reach.ensures.tried c.args.jump

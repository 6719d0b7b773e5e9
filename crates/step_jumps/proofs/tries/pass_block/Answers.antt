use Rattle.std.proofs.Common.{◌≤◌, ◌<◌, length, arith}
use Rattle.step_jumps.proofs.CatchLaws.{block_passed, block_reached}
use Rattle.step_jumps.proofs.StandLaws.{standing_reached}
use Rattle.step_jumps.proofs.tries.pass_block.Goals as goal

pub returns-then-len-depth-clause-passes : goal.returns-then-len-depth-clause-passes
returns-then-len-depth-clause-passes g c tables inputs set functions natives value alone =
    let few : length c.args.world.now.frames.frames ≤ c.args.depth = omega (arith, c.if-len-depth.true, c.len.ensures.length) in
    block_passed g.L.Labels.made g.L.Labels.meaning c.args.labels.now tables inputs set functions natives c.args.s c.args.depth c.args.jump value c.args.stack.now c.args.world.now few alone

pub react-requires : goal.react-requires
react-requires g c =
    let there : c.args.depth < length c.args.world.now.frames.frames = (let no = c.if-len-depth.false in omega (arith, no, c.len.ensures.length)) in
    record { standing = standing_reached g.L.Labels.made g.L.Labels.meaning c.args.labels.now c.args.stack.now c.stands_at.new.stack c.args.world.now c.args.depth c.args.jump c.requires.standing c.in_ok-stands_at.ensures.same c.in_ok-stands_at.ensures.last there }

pub returns-clause-passes : goal.returns-clause-passes
returns-clause-passes g c tables inputs set functions natives value alone =
    let there : c.args.depth < length c.args.world.now.frames.frames = (let no = c.if-len-depth.false in omega (arith, no, c.len.ensures.length)) in
    block_reached g.L.Labels.made g.L.Labels.meaning c.react.new.labels tables inputs set functions natives c.args.s c.args.depth c.args.jump value c.args.stack.now c.args.world.now there alone c.stands_at.new.stack c.react.new.stack c.react.new.world c.react.result c.in_ok-stands_at.ensures.same
    c.args.place.0 c.requires.place c.react.ensures.begins

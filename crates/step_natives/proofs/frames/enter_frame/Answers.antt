use Rattle.std.proofs.Common.{ap}
use Rattle.run_state.specs.Worlds.{state_of}
use Rattle.continuations.proofs.Reading.{read_pushed}
use Rattle.step_natives.proofs.FrameLaws.{begun}
use Rattle.step_natives.proofs.frames.enter_frame.Goals as goal

pub returns-clause-begun : goal.returns-clause-begun
returns-clause-begun g c =
    begun g.L.Labels.made g.L.Labels.meaning g.L.Labels.room g.L.Labels.firm c.args.labels.now c.push.new.labels c.push.ensures.kept c.args.kind c.args.stack.now c.args.world.now c.push.new.self c.args._count c.len-depth.result c.args.label c.requires.standing c.requires.label
    c.len-depth.ensures.length c.in_ok-push.ensures.length c.push.ensures.belongs c.len-count.ensures.catch c.in_ok-push.ensures.pushed

pub returns-clause-entered : goal.returns-clause-entered
returns-clause-entered g c reading read told turns =
    ap (λ fs. record (state_of reading c.args.world.now told turns) { frames = fs })
    (read_pushed g.L.Labels.made g.L.Labels.meaning g.L.Labels.room g.L.Labels.firm c.args.labels.now c.push.new.labels reading c.args.world.now.frames.frames c.push.new.self.frames c.args.kind c.args.label c.push.ensures.kept c.requires.standing.belongs.frames c.push.ensures.belongs c.requires.label c.in_ok-push.ensures.pushed read)

use Rattle.flow_frames.specs.declared.kind.Kind.TheVariants as kind
use Rattle.step_natives.proofs.FrameLaws.{native_runs, stands_running}
use Rattle.step_natives.proofs.natives.begin_native.Goals as goal

pub returns-clause-runs : goal.returns-clause-runs
returns-clause-runs g c =
    native_runs g.L.Labels.made g.L.Labels.meaning c.enter_frame.new.labels c.args.label c.args.count c.args.stack.now c.push_under.new.self c.args.world.now c.enter_frame.new.world c.in_ok-depth.depth
    c.in_ok-depth.ensures.depth c.in_ok-push_under.ensures.ok c.in_ok-depth.ensures.entered

pub returns-clause-standing : goal.returns-clause-standing
returns-clause-standing g c =
    stands_running g.L.Labels.made g.L.Labels.meaning c.enter_frame.new.labels kind.Native c.args.stack.now c.push_under.new.self c.enter_frame.new.world c.args.count c.in_ok-depth.depth c.args.label c.in_ok-depth.ensures.begun
    c.in_ok-push_under.ensures.ok c.in_ok-push_under.ensures.scopes c.in_ok-push_under.ensures.natives c.in_ok-push_under.ensures.operands

use Rattle.std.proofs.Common.{sym, ap, ◌∙◌, ◌≡◌, ◌-◌, length, arith}
use Rattle.flow_frames.specs.Held.{label_at}
use Rattle.continuations.proofs.EndLaws.{label_has, read_label, read_outside}
use Rattle.step_jumps.proofs.calls.leave_frame.Goals as goal

pub returns-clause-outside : goal.returns-clause-outside
returns-clause-outside g c reading = read_outside reading c.args.frames.now.frames c.pop.new.self.frames c.args.depth c.requires.frame c.pop.ensures.frames

pub returns-clause-label : goal.returns-clause-label
returns-clause-label g c reading =
    let place : length c.args.frames.now.frames - 1 ≡ c.args.depth = omega (arith, c.requires.frame) in
    read_label reading c.args.frames.now.frames c.args.depth c.pop.result (sym (ap (label_at c.args.frames.now.frames) place) ∙ c.pop.ensures.label)

pub returns-clause-made : goal.returns-clause-made
returns-clause-made g c = label_has (g.L.Labels.made c.args._labels.now) c.args.frames.now.frames (length c.args.frames.now.frames - 1) c.pop.result c.requires.belongs.labels c.pop.ensures.label

pub returns-clause-belongs : goal.returns-clause-belongs
returns-clause-belongs g c = c.belonging_lasts.ensures.outermost c.args._labels.now c.args.frames.now.frames c.pop.new.self.frames (length c.args.frames.now.frames - 1) c.pop.ensures.frames c.requires.belongs

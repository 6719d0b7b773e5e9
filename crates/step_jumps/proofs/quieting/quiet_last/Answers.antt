use Rattle.std.proofs.Common.{ap, sym, ◌-◌}
use Rattle.step_jumps.proofs.QuietLaws.{read_quieted, stays_quiet}
use Rattle.step_jumps.proofs.quieting.quiet_last.Goals as goal

pub returns-then-not-catches-clause-quieted : goal.returns-then-not-catches-clause-quieted
returns-then-not-catches-clause-quieted g c reading =
    let frames = c.args.frames.now.frames in
    read_quieted reading frames frames (c.len-last.result - 1) (ap (λ n. n - 1) c.len-last.ensures.length)
    (stays_quiet frames (c.len-last.result - 1) c.kind.result c.kind.ensures (sym c.if-not-catches.ensures) c.len-last.ensures.catch)

pub returns-clause-quieted : goal.returns-clause-quieted
returns-clause-quieted g c reading =
    read_quieted reading c.args.frames.now.frames c.quiet.new.self.frames (c.len-last.result - 1) (ap (λ n. n - 1) c.len-last.ensures.length) c.quiet.ensures.frames

pub returns-clause-belongs : goal.returns-clause-belongs
returns-clause-belongs g c =
    c.belonging_lasts.ensures.quiet c.args._labels.now c.args.frames.now.frames c.quiet.new.self.frames (c.len-last.result - 1) c.quiet.ensures.frames c.requires

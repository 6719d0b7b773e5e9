use Rattle.std.proofs.Common.{arith}
use Rattle.step_core.proofs.Asking.{left_steps}
use Rattle.step_core.proofs.telling.abandon.Goals as goal

pub pop-requires : goal.pop-requires
pop-requires g c = let size = c.requires.natives in omega (arith, size)

pub returns-clause-stepped : goal.returns-clause-stepped
returns-clause-stepped g c tables inputs set functions tells asks value alone =
    left_steps g.L.Labels.made g.L.Labels.meaning c.args.labels.now tables inputs set functions tells asks c.args.progress.now c.args.count c.args.to c.args.jump value c.pass_by-moved.new.stack c.pop.new.self c.pass_by-moved.result c.still_step.result c.still_step.ensures
    c.requires.natives c.pop.ensures.count (c.pop.ensures.rest tells asks)
    (λ front. c.pass_by-moved.ensures.passes tables inputs set functions front value alone) c.pass_by-moved.ensures.standing c.pass_by-moved.ensures.adds c.pass_by-moved.ensures.stopped

use Rattle.step_control.proofs.PassLaws.{jump_passes}
use Rattle.step_control.proofs.passing.pass.Goals as goal

pub returns-clause-goes_on : goal.returns-clause-goes_on
returns-clause-goes_on g c =
    jump_passes c.args.work c.args.jump c.args.stack.now c.pop-value.new.self c.clear.new.self c.lay.new.self c.pop-value.result
    c.requires.scope c.requires.passes c.pop-value.ensures.top c.pop-value.ensures.tasks c.clear.ensures.tasks c.clear.ensures.none c.lay.ensures.tasks c.in_ok-lay.ensures.laid

use Rattle.step_run.proofs.ToldLaws.{thrown_tells}
use Rattle.step_run.proofs.telling.thrown.Goals as goal

pub returns-in-Ok : goal.returns-in-Ok
returns-in-Ok g c = λ reading. thrown_tells reading c.args.heap.now c.args.value.now c.in-Ok.shown c.in-Ok.ensures

use Rattle.step_core.proofs.stepping.passed.Goals as goal

pub returns-in-Answered-clause-stepped : goal.returns-in-Answered-clause-stepped
returns-in-Answered-clause-stepped g c = rw c.in-Answered.is c.abandon.ensures.stepped

use Rattle.state_tests.proofs.frames.leave.Goals as goal

pub returns-clause-belongs : goal.returns-clause-belongs
returns-clause-belongs g c = c.belonging_lasts.ensures.outermost _ _ _ _ c.pop.ensures.frames c.requires.belongs

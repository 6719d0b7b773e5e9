use Rattle.state_tests.proofs.frames.silence.Goals as goal

pub returns-then-eq : goal.returns-then-eq
returns-then-eq g c = c.belonging_lasts.ensures.quiet _ _ _ _ c.quiet.ensures.frames c.requires

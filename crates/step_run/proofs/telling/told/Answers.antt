use Rattle.step_run.proofs.telling.told.Goals as goal

pub returns-in-Threw : goal.returns-in-Threw
returns-in-Threw g c = λ set tells asks. rw c.in-Threw.is (c.thrown.ensures (g.L.Labels.meaning c.args.labels.now))

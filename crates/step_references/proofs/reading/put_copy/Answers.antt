use Rattle.step_references.proofs.reading.put_copy.Goals as goal

pub returns-clause-acts : goal.returns-clause-acts
returns-clause-acts g c = rw c.in_ok-given.ensures at c.put_value.ensures.acts

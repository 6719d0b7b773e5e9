use Rattle.step_references.proofs.AtOnce.{put_acts}
use Rattle.step_references.proofs.reading.put.Goals as goal

pub returns-in-Some-clause-acts : goal.returns-in-Some-clause-acts
returns-in-Some-clause-acts g c = rw c.in-Name.is (put_acts c.in-Name.named c.in-Some.ensures.puts)

pub returns-in-None-clause-acts : goal.returns-in-None-clause-acts
returns-in-None-clause-acts g c = rw c.in-None.ensures.unchanged at c.put_copy.ensures.acts

use Rattle.step_objects.proofs.asking.ask.Goals as goal

pub returns-in-Object-clause-asked : goal.returns-in-Object-clause-asked
returns-in-Object-clause-asked g c = rw c.in-Object.is c.find_key.ensures.asked

pub returns-in-Primitive-clause-asked : goal.returns-in-Primitive-clause-asked
returns-in-Primitive-clause-asked g c = rw c.in-Primitive.is c.find_of_primitive.ensures.asked

use Rattle.step_objects.proofs.references.put_value.Goals as goal

pub returns-in-Name-clause-acts : goal.returns-in-Name-clause-acts
returns-in-Name-clause-acts g c = rw c.in-Name.is (rw c.copied.ensures at c.put_name.ensures.acts)

pub returns-in-Property-clause-acts : goal.returns-in-Property-clause-acts
returns-in-Property-clause-acts g c = rw c.in-Property.is c.put_property.ensures.acts

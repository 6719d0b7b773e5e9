use Rattle.step_objects.proofs.NeedingLaws.{object_needs}
use Rattle.step_objects.proofs.needing.object_needed.Goals as goal

pub returns-clause-acts : goal.returns-clause-acts
returns-clause-acts g c = λ tables inputs. object_needs g.L.Labels.made g.L.Labels.meaning c.needed.new.labels c.args.world.now c.args.value c.is_object-holds.result c.needed.new.world c.needed.result tables inputs c.is_object-holds.ensures c.needed.ensures.acts

use Rattle.step_objects.proofs.NeedingLaws.{base_needs}
use Rattle.step_objects.proofs.needing.base_needed.Goals as goal

pub returns-clause-acts : goal.returns-clause-acts
returns-clause-acts g c = λ tables inputs. base_needs g.L.Labels.made g.L.Labels.meaning c.needed.new.labels c.args.world.now c.args.value c.is_coercible-holds.result c.needed.new.world c.needed.result tables inputs c.is_coercible-holds.ensures c.needed.ensures.acts

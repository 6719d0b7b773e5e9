use Rattle.es_meaning.specs.Evaluation as evaluation
use Rattle.std.proofs.Common.{subst}
use Rattle.es_meaning.specs.Operations.{Value}
use Rattle.flow_meaning.specs.Planned.{asking, planned}
use Rattle.continuations.specs.Settings.{entrance}
use Rattle.step_references.specs.Moving.{BegunAt}
use Rattle.step_references.proofs.names.this.Goals as goal

pub returns-clause-goes_on : goal.returns-clause-goes_on
returns-clause-goes_on g c = subst (λ text. BegunAt g.L.Labels.made g.L.Labels.meaning c.read_name.new.labels c.args.at.0 (λ tables inputs set functions reading e. (planned tables inputs set functions).resolve Value e.env.place text (evaluation.read_value (planned tables inputs set functions) (entrance tables inputs set functions) (asking tables inputs set functions))) c.args.stack.now c.read_name.new.stack c.args.world.now c.read_name.new.world c.read_name.result) c.requires.name c.read_name.ensures.goes_on

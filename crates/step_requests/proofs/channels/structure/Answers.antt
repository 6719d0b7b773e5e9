use Rattle.std.proofs.Common.{[], ◌∷◌}
use Rattle.js_values.specs.Readings.{read_value}
use Rattle.flow_meaning.specs.Tracked.{act}
use Rattle.es_meaning.specs.Operations as operations
use Rattle.step_requests.proofs.Held.{acts_one}
use Rattle.step_requests.proofs.channels.structure.Goals as goal

pub returns-clause-acts : goal.returns-clause-acts
returns-clause-acts g c = λ inputs. acts_one g.L.Labels.made g.L.Labels.meaning g.L.Labels.room g.L.Labels.firm c.args.labels.now c.raise_structure.new.labels c.raise_structure.ensures.kept (λ reading. read_value reading) c.args.stack.now.loose c.args.world.now c.raise_structure.new.world c.raise_structure.result (λ reading u. act c.args.policy.now inputs (operations.raise_structure c.args.origins.now) (u ∷ [])) c.args.base c.in_ok-base.base c.in_ok-base.ensures.reads (c.raise_structure.ensures.acts inputs)

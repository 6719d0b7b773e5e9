use Rattle.std.proofs.Common.{[], ◌∷◌}
use Rattle.js_values.specs.Readings.{read_value}
use Rattle.flow_meaning.specs.Tracked.{act}
use Rattle.es_meaning.specs.Operations as operations
use Rattle.step_requests.proofs.Held.{acts_one}
use Rattle.step_requests.proofs.channels.existence.Goals as goal

pub returns-clause-acts : goal.returns-clause-acts
returns-clause-acts g c = λ inputs. acts_one g.L.Labels.made g.L.Labels.meaning g.L.Labels.room g.L.Labels.firm c.args.labels.now c.raise_existence.new.labels c.raise_existence.ensures.kept (λ reading. read_value reading) c.args.stack.now.loose c.args.world.now c.raise_existence.new.world c.raise_existence.result (λ reading u. act c.args.policy.now inputs (operations.raise_existence c.args.key.now c.args.origins.now) (u ∷ [])) c.args.base c.in_ok-base.base c.in_ok-base.ensures.reads (c.raise_existence.ensures.acts inputs)

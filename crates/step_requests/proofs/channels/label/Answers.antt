use Rattle.std.proofs.Common.{[], ◌∷◌}
use Rattle.js_values.specs.Readings.{read_value}
use Rattle.flow_meaning.specs.Tracked.{act}
use Rattle.es_meaning.specs.Operations as operations
use Rattle.step_requests.proofs.Held.{acts_one}
use Rattle.step_requests.proofs.channels.label.Goals as goal

pub returns-clause-acts : goal.returns-clause-acts
returns-clause-acts g c = λ inputs. acts_one g.L.Labels.made g.L.Labels.meaning g.L.Labels.room g.L.Labels.firm c.args.labels.now c.join_label.new.labels c.join_label.ensures.kept (λ reading. read_value reading) c.args.stack.now.loose c.args.world.now c.args.world.now c.join_label.result (λ reading u. act c.args.policy.now inputs (operations.join_label c.args.origins.now) (u ∷ [])) c.args.from c.in_ok-from.from c.in_ok-from.ensures.reads (c.join_label.ensures.acts inputs)

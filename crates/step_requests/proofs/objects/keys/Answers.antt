use Rattle.std.proofs.Common.{[], ◌∷◌}
use Rattle.js_values.specs.Readings.{read_value}
use Rattle.flow_meaning.specs.Tracked.{act}
use Rattle.es_meaning.specs.Operations as operations
use Rattle.step_requests.proofs.Held.{acts_one}
use Rattle.step_requests.proofs.objects.keys.Goals as goal

pub returns-clause-acts : goal.returns-clause-acts
returns-clause-acts g c = λ tables inputs. acts_one g.L.Labels.made g.L.Labels.meaning g.L.Labels.room g.L.Labels.firm c.args.labels.now c.own_keys.new.labels c.own_keys.ensures.kept (λ reading. read_value reading) c.args.stack.now.loose c.args.world.now c.own_keys.new.world c.own_keys.result (λ reading u. act tables inputs (operations.own_keys c.args.all) (u ∷ [])) c.args.base c.in_ok-base.base c.in_ok-base.ensures.reads (c.own_keys.ensures.acts tables inputs)

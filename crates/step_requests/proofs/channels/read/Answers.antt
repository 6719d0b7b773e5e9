use Rattle.std.proofs.Common.{[], ◌∷◌}
use Rattle.js_values.specs.Readings.{read_value}
use Rattle.flow_meaning.specs.Tracked.{act}
use Rattle.es_meaning.specs.Operations as operations
use Rattle.step_requests.proofs.Held.{acts_one}
use Rattle.step_requests.proofs.channels.read.Goals as goal

pub returns-clause-acts : goal.returns-clause-acts
returns-clause-acts g c = acts_one g.L.Labels.made g.L.Labels.meaning g.L.Labels.room g.L.Labels.firm c.args.labels.now c.read_line.new.labels c.read_line.ensures.kept (λ reading. read_value reading) c.args.stack.now.loose c.args.world.now c.read_line.new.world c.read_line.result (λ reading u. act c.args.policy.now c.args.inputs.now operations.read_line (u ∷ [])) c.args.name c.in_ok-name.name c.in_ok-name.ensures.reads c.read_line.ensures.acts

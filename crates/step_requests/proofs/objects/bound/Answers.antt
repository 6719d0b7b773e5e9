use Rattle.std.proofs.Common.{◌∷◌, map}
use Rattle.continuations.specs.Answering.{held_in}
use Rattle.js_values.specs.Readings.{read_value}
use Rattle.flow_meaning.specs.Tracked.{act}
use Rattle.es_meaning.specs.Operations as operations
use Rattle.step_requests.proofs.Held.{acts_all, acts_one}
use Rattle.step_requests.proofs.objects.bound.Goals as goal

pub returns-clause-acts : goal.returns-clause-acts
returns-clause-acts g c = λ tables inputs. acts_all g.L.Labels.made g.L.Labels.meaning g.L.Labels.room g.L.Labels.firm c.args.labels.now c.bind.new.labels c.bind.ensures.kept (λ reading. read_value reading) c.args.stack.now.loose c.args.world.now c.bind.new.world c.bind.result (λ reading us. act tables inputs operations.bind (held_in c.args.target (map (read_value reading) c.args.stack.now.loose) ∷ held_in c.args.this (map (read_value reading) c.args.stack.now.loose) ∷ us)) c.args.args.now c.in_ok-args.args.items (rw c.items.ensures at c.in_ok-args.ensures.reads) (acts_one g.L.Labels.made g.L.Labels.meaning g.L.Labels.room g.L.Labels.firm c.args.labels.now c.bind.new.labels c.bind.ensures.kept (λ reading. read_value reading) c.args.stack.now.loose c.args.world.now c.bind.new.world c.bind.result (λ reading u. act tables inputs operations.bind (held_in c.args.target (map (read_value reading) c.args.stack.now.loose) ∷ u ∷ map (read_value reading) c.in_ok-args.args.items)) c.args.this c.in_ok-this.this c.in_ok-this.ensures.reads (acts_one g.L.Labels.made g.L.Labels.meaning g.L.Labels.room g.L.Labels.firm c.args.labels.now c.bind.new.labels c.bind.ensures.kept (λ reading. read_value reading) c.args.stack.now.loose c.args.world.now c.bind.new.world c.bind.result (λ reading u. act tables inputs operations.bind (u ∷ read_value reading c.in_ok-this.this ∷ map (read_value reading) c.in_ok-args.args.items)) c.args.target c.in_ok-target.target c.in_ok-target.ensures.reads (rw c.deref.ensures.value at (c.bind.ensures.acts tables inputs))))

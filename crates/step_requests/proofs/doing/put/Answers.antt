use Rattle.std.proofs.Common.{map, []}
use Rattle.js_values.specs.Readings.{read_value}
use Rattle.flow_policy.specs.Policies.{no_tables}
use Rattle.run_state.specs.Accesses.{read_putting}
use Rattle.continuations.specs.Answering.{held_in}
use Rattle.step_objects.proofs.Frames.{stands_by}
use Rattle.step_requests.specs.Asked.{putting}
use Rattle.step_requests.proofs.Does.{does_put}
use Rattle.step_requests.proofs.Held.{label_later, made_later}
use Rattle.step_requests.proofs.Standing.{putting_stands}
use Rattle.step_requests.proofs.doing.put.Goals as goal

pub hand_on_putting-requires-clause-made : goal.hand_on_putting-requires-clause-made
hand_on_putting-requires-clause-made g c = made_later g.L.Labels.made g.L.Labels.meaning g.L.Labels.room g.L.Labels.firm c.args.labels.now c.putting-came.new.labels c.putting-came.ensures.kept c.args.stack.now.loose c.requires.made

pub hand_on_putting-requires-clause-value : goal.hand_on_putting-requires-clause-value
hand_on_putting-requires-clause-value g c = label_later g.L.Labels.made g.L.Labels.meaning g.L.Labels.room g.L.Labels.firm c.args.labels.now c.putting-came.new.labels c.putting-came.ensures.kept c.in_ok-value.value.label c.in_ok-value.ensures.made

pub returns-clause-does : goal.returns-clause-does
returns-clause-does g c = λ tables inputs. does_put g.L.Labels.made g.L.Labels.meaning c.putting-came.new.labels tables inputs c.args.stack.now c.hand_on_putting.new.stack c.args.world.now c.putting-came.new.world c.hand_on_putting.result g.L.Labels.room g.L.Labels.firm c.args.labels.now c.putting-came.ensures.kept c.args.base c.args.key.now c.args.from c.in_ok-value.value c.putting-came.result c.in_ok-value.ensures.reads (rw c.in_ok-given.ensures at (c.putting-came.ensures.acts tables inputs)) c.hand_on_putting.ensures.settles

pub returns-clause-leaves : goal.returns-clause-leaves
returns-clause-leaves g c = c.hand_on_putting.ensures.leaves c.args.world.now c.putting-came.new.world (stands_by g.L.Labels.made g.L.Labels.meaning c.putting-came.new.labels (λ reading. read_putting reading) (λ reading. putting no_tables [] (held_in c.args.base (map (read_value reading) c.args.stack.now.loose)) c.args.key.now (read_value reading c.in_ok-given.given)) c.args.world.now c.putting-came.new.world (λ s. putting_stands no_tables [] _ c.args.key.now _ s) c.putting-came.result (c.putting-came.ensures.acts no_tables []))

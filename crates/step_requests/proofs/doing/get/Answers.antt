use Rattle.std.proofs.Common.{map, []}
use Rattle.js_values.specs.Readings.{read_value}
use Rattle.flow_policy.specs.Policies.{no_tables}
use Rattle.run_state.specs.Accesses.{read_access}
use Rattle.continuations.specs.Answering.{held_in}
use Rattle.step_objects.proofs.Frames.{stands_by}
use Rattle.step_requests.specs.Asked.{got}
use Rattle.step_requests.proofs.Does.{does_get}
use Rattle.step_requests.proofs.Held.{made_later}
use Rattle.step_requests.proofs.Standing.{got_stands}
use Rattle.step_requests.proofs.doing.get.Goals as goal

pub hand_on_access-requires-clause-made : goal.hand_on_access-requires-clause-made
hand_on_access-requires-clause-made g c = made_later g.L.Labels.made g.L.Labels.meaning g.L.Labels.room g.L.Labels.firm c.args.labels.now c.got-came.new.labels c.got-came.ensures.kept c.args.stack.now.loose c.requires.made

pub returns-clause-does : goal.returns-clause-does
returns-clause-does g c = λ tables inputs. does_get g.L.Labels.made g.L.Labels.meaning c.got-came.new.labels tables inputs c.args.stack.now c.hand_on_access.new.stack c.args.world.now c.got-came.new.world c.hand_on_access.result c.args.base c.args.key.now c.args.to c.got-came.result (c.got-came.ensures.acts tables inputs) c.hand_on_access.ensures.settles

pub returns-clause-leaves : goal.returns-clause-leaves
returns-clause-leaves g c = c.hand_on_access.ensures.leaves c.args.world.now c.got-came.new.world (stands_by g.L.Labels.made g.L.Labels.meaning c.got-came.new.labels (λ reading. read_access reading) (λ reading. got no_tables [] (held_in c.args.base (map (read_value reading) c.args.stack.now.loose)) c.args.key.now) c.args.world.now c.got-came.new.world (λ s. got_stands no_tables [] _ c.args.key.now s) c.got-came.result (c.got-came.ensures.acts no_tables []))

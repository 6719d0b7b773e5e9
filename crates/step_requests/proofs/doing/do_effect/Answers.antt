use Rattle.std.proofs.Common.{map}
use Rattle.js_values.specs.Readings.{read_value}
use Rattle.step_objects.proofs.Frames.{stands_by}
use Rattle.step_requests.specs.Asked.{effect_on}
use Rattle.step_requests.proofs.Does.{does_effect}
use Rattle.step_requests.proofs.Held.{made_later}
use Rattle.step_requests.proofs.Standing.{effect_stands}
use Rattle.step_requests.proofs.doing.do_effect.Goals as goal

pub hand_on-requires-clause-made : goal.hand_on-requires-clause-made
hand_on-requires-clause-made g c = made_later g.L.Labels.made g.L.Labels.meaning g.L.Labels.room g.L.Labels.firm c.args.labels.now c.perform-came.new.labels c.perform-came.ensures.kept c.args.stack.now.loose c.requires.made

pub returns-clause-does : goal.returns-clause-does
returns-clause-does g c = does_effect g.L.Labels.made g.L.Labels.meaning c.perform-came.new.labels c.args.policy.now c.args.inputs.now c.args.stack.now c.hand_on.new.stack c.args.world.now c.perform-came.new.world c.hand_on.result c.args.effect c.args.to c.perform-came.result c.perform-came.ensures.acts c.hand_on.ensures.settles

pub returns-clause-leaves : goal.returns-clause-leaves
returns-clause-leaves g c = c.hand_on.ensures.leaves c.args.world.now c.perform-came.new.world (stands_by g.L.Labels.made g.L.Labels.meaning c.perform-came.new.labels (λ reading. read_value reading) (λ reading. effect_on c.args.policy.now c.args.inputs.now c.args.effect (map (read_value reading) c.args.stack.now.loose)) c.args.world.now c.perform-came.new.world (λ s. effect_stands c.args.policy.now c.args.inputs.now c.args.effect _ s) c.perform-came.result c.perform-came.ensures.acts)

use Rattle.js_values.specs.Readings.{read_value}
use Rattle.step_objects.proofs.Frames.{stands_by}
use Rattle.step_requests.specs.Asked.{thrown_on}
use Rattle.step_requests.proofs.Does.{does_throw}
use Rattle.step_requests.proofs.Held.{acts_one, made_later}
use Rattle.step_requests.proofs.Throwing.{thrown_stands}
use Rattle.step_requests.proofs.ends.throw.Goals as goal

pub hand_on_end-requires-clause-made : goal.hand_on_end-requires-clause-made
hand_on_end-requires-clause-made g c = made_later g.L.Labels.made g.L.Labels.meaning g.L.Labels.room g.L.Labels.firm c.args.labels.now c.throw_value-came.new.labels c.throw_value-came.ensures.kept c.args.stack.now.loose c.requires.made

pub returns-clause-does : goal.returns-clause-does
returns-clause-does g c = λ tables inputs. does_throw g.L.Labels.made g.L.Labels.meaning c.throw_value-came.new.labels tables inputs c.args.stack.now c.hand_on_end.new.stack c.args.world.now c.throw_value-came.new.world c.hand_on_end.result c.args.from c.throw_value-came.result (acts_one g.L.Labels.made g.L.Labels.meaning g.L.Labels.room g.L.Labels.firm c.args.labels.now c.throw_value-came.new.labels c.throw_value-came.ensures.kept (λ reading. read_value reading) c.args.stack.now.loose c.args.world.now c.throw_value-came.new.world c.throw_value-came.result (λ reading u. thrown_on u) c.args.from c.in_ok-value.value c.in_ok-value.ensures.reads c.throw_value-came.ensures.acts) c.hand_on_end.ensures.settles

pub returns-clause-leaves : goal.returns-clause-leaves
returns-clause-leaves g c = c.hand_on_end.ensures.leaves c.args.world.now c.throw_value-came.new.world (stands_by g.L.Labels.made g.L.Labels.meaning c.throw_value-came.new.labels (λ reading. read_value reading) (λ reading. thrown_on (read_value reading c.in_ok-value.value)) c.args.world.now c.throw_value-came.new.world (λ s. thrown_stands _ s) c.throw_value-came.result c.throw_value-came.ensures.acts)

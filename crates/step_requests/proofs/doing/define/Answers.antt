use Rattle.std.proofs.Common.{map}
use Rattle.js_values.specs.Readings.{read_value}
use Rattle.run_state.specs.Accesses.{read_defining}
use Rattle.step_objects.proofs.Frames.{defining_stands, stands_by}
use Rattle.step_requests.specs.Asked.{defining_of}
use Rattle.step_requests.proofs.Does.{does_define}
use Rattle.step_requests.proofs.Held.{given_later, made_later}
use Rattle.step_requests.proofs.doing.define.Goals as goal

pub hand_on_defining-requires-clause-made : goal.hand_on_defining-requires-clause-made
hand_on_defining-requires-clause-made g c = made_later g.L.Labels.made g.L.Labels.meaning g.L.Labels.room g.L.Labels.firm c.args.labels.now c.defining-came.new.labels c.defining-came.ensures.kept c.args.stack.now.loose c.requires.made

pub hand_on_defining-requires-clause-value : goal.hand_on_defining-requires-clause-value
hand_on_defining-requires-clause-value g c = given_later g.L.Labels.made g.L.Labels.meaning g.L.Labels.room g.L.Labels.firm c.args.labels.now c.defining-came.new.labels c.defining-came.ensures.kept c.in_ok-value.value c.in_ok-value.ensures.has

pub returns-clause-does : goal.returns-clause-does
returns-clause-does g c = λ tables inputs. does_define g.L.Labels.made g.L.Labels.meaning c.defining-came.new.labels tables inputs c.args.stack.now c.hand_on_defining.new.stack c.args.world.now c.defining-came.new.world c.hand_on_defining.result g.L.Labels.room g.L.Labels.firm c.args.labels.now c.defining-came.ensures.kept c.args.base c.args.key c.args.given c.in_ok-value.value c.defining-came.result c.in_ok-value.ensures c.defining-came.ensures.acts c.hand_on_defining.ensures.settles

pub returns-clause-leaves : goal.returns-clause-leaves
returns-clause-leaves g c = c.hand_on_defining.ensures.leaves c.args.world.now c.defining-came.new.world (stands_by g.L.Labels.made g.L.Labels.meaning c.defining-came.new.labels (λ reading. read_defining reading) (λ reading. defining_of c.args.base c.args.key c.args.given (map (read_value reading) c.args.stack.now.loose)) c.args.world.now c.defining-came.new.world (λ s. defining_stands c.args.key c.args.given.marks _ _ _ _ _ s) c.defining-came.result c.defining-came.ensures.acts)

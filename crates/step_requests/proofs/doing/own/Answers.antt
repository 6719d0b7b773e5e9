use Rattle.std.proofs.Common.{map, [], ◌∷◌}
use Rattle.js_values.specs.Readings.{read_value}
use Rattle.flow_policy.specs.Policies.{no_tables}
use Rattle.flow_meaning.specs.Tracked.{act}
use Rattle.es_meaning.specs.Operations as operations
use Rattle.property_requests.specs.Owning.{part_in}
use Rattle.continuations.specs.Answering.{held_in}
use Rattle.step_objects.proofs.Frames.{act_stands, stands_by}
use Rattle.step_requests.specs.Asked.{owned}
use Rattle.step_requests.proofs.Does.{does_own, owns}
use Rattle.step_requests.proofs.Held.{acts_one, made_later}
use Rattle.step_requests.proofs.doing.own.Goals as goal

pub hand_on_own-requires-clause-made : goal.hand_on_own-requires-clause-made
hand_on_own-requires-clause-made g c = made_later g.L.Labels.made g.L.Labels.meaning g.L.Labels.room g.L.Labels.firm c.args.labels.now c.own_property-came.new.labels c.own_property-came.ensures.kept c.args.stack.now.loose c.requires.made

pub returns-clause-does : goal.returns-clause-does
returns-clause-does g c = λ tables inputs. does_own g.L.Labels.made g.L.Labels.meaning c.own_property-came.new.labels tables inputs c.args.stack.now c.hand_on_own.new.stack c.args.world.now c.own_property-came.new.world c.hand_on_own.result c.args.base c.args.key.now c.args.to c.own_property-came.result (owns g.L.Labels.made g.L.Labels.meaning c.own_property-came.new.labels tables inputs (λ reading. held_in c.args.base (map (read_value reading) c.args.stack.now.loose)) c.args.key.now c.args.world.now c.own_property-came.new.world c.own_property-came.result c.own_property-came.ensures.still (λ part. acts_one g.L.Labels.made g.L.Labels.meaning g.L.Labels.room g.L.Labels.firm c.args.labels.now c.own_property-came.new.labels c.own_property-came.ensures.kept (λ reading p. read_value reading (part_in part p)) c.args.stack.now.loose c.args.world.now c.own_property-came.new.world c.own_property-came.result (λ reading u. owned tables inputs part u c.args.key.now) c.args.base c.in_ok-base.base c.in_ok-base.ensures.reads (c.own_property-came.ensures.acts tables inputs part))) c.hand_on_own.ensures.settles

pub returns-clause-leaves : goal.returns-clause-leaves
returns-clause-leaves g c = c.hand_on_own.ensures.leaves c.args.world.now c.own_property-came.new.world (stands_by g.L.Labels.made g.L.Labels.meaning c.own_property-came.new.labels (λ reading p. read_value reading (part_in operations.own_marks p)) (λ reading. act no_tables [] (operations.own_property operations.own_marks c.args.key.now) (read_value reading c.in_ok-base.base ∷ [])) c.args.world.now c.own_property-came.new.world (λ s. act_stands no_tables [] _ _ s) c.own_property-came.result (c.own_property-came.ensures.acts no_tables [] operations.own_marks))

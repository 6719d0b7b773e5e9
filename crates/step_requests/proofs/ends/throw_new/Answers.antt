use Rattle.js_values.specs.Readings.{read_value}
use Rattle.es_meaning.specs.Operations.{Value}
use Rattle.flow_meaning.specs.Scopes.{Val}
use Rattle.flow_meaning.specs.Tracked.{throw_error}
use Rattle.step_objects.proofs.Frames.{error_stands, stands_by}
use Rattle.step_requests.proofs.Does.{does_throw_new}
use Rattle.step_requests.proofs.Held.{made_later}
use Rattle.step_requests.proofs.Throwing.{error_bottom}
use Rattle.step_requests.proofs.ends.throw_new.Goals as goal

pub hand_on_end-requires-clause-made : goal.hand_on_end-requires-clause-made
hand_on_end-requires-clause-made g c = made_later g.L.Labels.made g.L.Labels.meaning g.L.Labels.room g.L.Labels.firm c.args.labels.now c.throw_error-came.new.labels c.throw_error-came.ensures.kept c.args.stack.now.loose c.requires.made

pub returns-clause-does : goal.returns-clause-does
returns-clause-does g c = λ tables inputs. does_throw_new g.L.Labels.made g.L.Labels.meaning c.throw_error-came.new.labels tables inputs c.args.stack.now c.hand_on_end.new.stack c.args.world.now c.throw_error-came.new.world c.hand_on_end.result c.args.kind c.throw_error-came.result (error_bottom g.L.Labels.made g.L.Labels.meaning g.L.Labels.room g.L.Labels.firm c.args.labels.now c.throw_error-came.new.labels c.throw_error-came.ensures.kept c.args.kind c.bottom-none.result c.bottom-none.ensures.made c.bottom-none.ensures.meaning c.args.world.now c.throw_error-came.new.world c.throw_error-came.result (c.throw_error-came.ensures.acts Value (λ reading. read_value reading))) c.hand_on_end.ensures.settles

pub returns-clause-leaves : goal.returns-clause-leaves
returns-clause-leaves g c = c.hand_on_end.ensures.leaves c.args.world.now c.throw_error-came.new.world (stands_by g.L.Labels.made g.L.Labels.meaning c.throw_error-came.new.labels (λ reading. read_value reading) (λ reading. throw_error {X = Val} c.args.kind (reading c.bottom-none.result)) c.args.world.now c.throw_error-came.new.world (λ s. error_stands Val c.args.kind _ s) c.throw_error-came.result (c.throw_error-came.ensures.acts Value (λ reading. read_value reading)))

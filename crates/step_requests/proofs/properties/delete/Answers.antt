use Rattle.js_values.specs.Readings.{read_value}
use Rattle.flow_meaning.specs.Tracked.{of_property, remove}
use Rattle.origin_labels.specs.Label.{bottom}
use Rattle.run_state.specs.Names.{property_of}
use Rattle.step_requests.proofs.Based.{based, based_leaves, based_passes, based_throws}
use Rattle.step_requests.proofs.Held.{acts_on}
use Rattle.step_requests.specs.Asked.{key_value}
use Rattle.step_requests.proofs.properties.delete.Goals as goal

pub returns-in_err-came-clause-acts : goal.returns-in_err-came-clause-acts
returns-in_err-came-clause-acts g c = λ tables inputs. based_passes g.L.Labels.made g.L.Labels.meaning g.L.Labels.room g.L.Labels.firm tables inputs c.args.stack.now.loose c.args.base c.in_ok-base.base c.args.labels.now c.base_needed.new.labels c.in_err-came.ensures.kept c.in_ok-base.ensures.reads c.args.world.now c.base_needed.new.world (λ reading. read_value reading) (λ reading b. remove (of_property b c.args.key.now bottom)) c.in_err-came.field-0.0 c.from_residual-in_err-came.result c.from_residual-in_err-came.ensures.1 (c.in_err-came.ensures.acts tables inputs)

pub returns-in_ok-key-in-Goes-clause-acts : goal.returns-in_ok-key-in-Goes-clause-acts
returns-in_ok-key-in-Goes-clause-acts g c = λ tables inputs. based g.L.Labels.made g.L.Labels.meaning g.L.Labels.room g.L.Labels.firm tables inputs c.args.stack.now.loose c.args.base c.in_ok-base.base c.args.labels.now c.base_needed.new.labels c.in_ok-came.ensures.kept c.in_ok-base.ensures.reads c.args.world.now c.base_needed.new.world (λ reading. read_value reading) (λ reading b. remove (of_property b c.args.key.now bottom)) c.remove_property.new.labels c.remove_property.ensures.kept c.remove_property.new.world c.in-Goes.base c.remove_property.result (rw c.in-Goes.is at (c.in_ok-came.ensures.acts tables inputs)) (acts_on g.L.Labels.made g.L.Labels.meaning g.L.Labels.room g.L.Labels.firm c.base_needed.new.labels c.remove_property.new.labels c.remove_property.ensures.kept (λ reading. read_value reading) c.args.stack.now.loose c.base_needed.new.world c.remove_property.new.world c.remove_property.result (λ reading u. remove (property_of (read_value reading c.in-Goes.base) u)) (key_value c.args.key.now) c.in_ok-key-in-Goes.key c.in_ok-key-in-Goes.ensures c.remove_property.ensures.acts)

pub returns-in-Throws-clause-acts : goal.returns-in-Throws-clause-acts
returns-in-Throws-clause-acts g c = λ tables inputs. based_throws g.L.Labels.made g.L.Labels.meaning g.L.Labels.room g.L.Labels.firm tables inputs c.args.stack.now.loose c.args.base c.in_ok-base.base c.args.labels.now c.base_needed.new.labels c.in_ok-came.ensures.kept c.in_ok-base.ensures.reads c.args.world.now c.base_needed.new.world (λ reading. read_value reading) (λ reading b. remove (of_property b c.args.key.now bottom)) c.in-Throws.error (rw c.in-Throws.is at (c.in_ok-came.ensures.acts tables inputs))

pub returns-in-Leaves-clause-acts : goal.returns-in-Leaves-clause-acts
returns-in-Leaves-clause-acts g c = λ tables inputs. based_leaves g.L.Labels.made g.L.Labels.meaning g.L.Labels.room g.L.Labels.firm tables inputs c.args.stack.now.loose c.args.base c.in_ok-base.base c.args.labels.now c.base_needed.new.labels c.in_ok-came.ensures.kept c.in_ok-base.ensures.reads c.args.world.now c.base_needed.new.world (λ reading. read_value reading) (λ reading b. remove (of_property b c.args.key.now bottom)) c.in-Leaves.why (rw c.in-Leaves.is at (c.in_ok-came.ensures.acts tables inputs))

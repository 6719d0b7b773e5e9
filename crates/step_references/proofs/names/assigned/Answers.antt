use Rattle.std.proofs.Common.{ap, length, ◌∙◌}
use Rattle.js_values.specs.Readings.{HasValue, read_value}
use Rattle.js_values.proofs.ReadingLaws.{IsReading-earlier}
use Rattle.es_meaning.specs.Evaluation.{assign_to}
use Rattle.flow_meaning.specs.Planned.{planned}
use Rattle.continuations.specs.Settings.{entrance}
use Rattle.continuations.specs.Pending.{owns_target}
use Rattle.continuations.proofs.EndLaws.{last_has}
use Rattle.step_references.proofs.Begun.{resumed}
use Rattle.step_references.proofs.Loose.{front_has, size_below}
use Rattle.step_references.proofs.Moved.{moved_popped}
use Rattle.step_references.proofs.names.assigned.Goals as goal

pub take_reference-reference-requires-clause-loose : goal.take_reference-reference-requires-clause-loose
take_reference-reference-requires-clause-loose g c = size_below c.pop-value.new.self.loose c.args.stack.now.loose c.pop-value.result (owns_target c.args.target) c.pop-value.ensures.top c.requires.loose

pub take_reference-reference-requires-clause-made : goal.take_reference-reference-requires-clause-made
take_reference-reference-requires-clause-made g c = front_has (HasValue (g.L.Labels.made c.args.labels.now)) c.pop-value.new.self.loose c.args.stack.now.loose c.pop-value.result c.pop-value.ensures.top c.requires.made

pub assign-requires-clause-loose : goal.assign-requires-clause-loose
assign-requires-clause-loose g c = ap length c.take_reference-reference.ensures.none

pub assign-requires-clause-value : goal.assign-requires-clause-value
assign-requires-clause-value g c = last_has (HasValue (g.L.Labels.made c.args.labels.now)) c.pop-value.new.self.loose c.args.stack.now.loose c.pop-value.result c.pop-value.ensures.top c.requires.made

pub returns-clause-goes_on : goal.returns-clause-goes_on
returns-clause-goes_on g c = resumed c.pop-value.new.self.loose c.pop-value.result c.pop-value.ensures.top (c.take_reference-reference.ensures.tasks ∙ c.pop-value.ensures.tasks) (λ tables inputs set functions reading f s is. ap (λ n. assign_to (planned tables inputs set functions) (entrance tables inputs set functions) n (read_value reading c.pop-value.result) s) (c.take_reference-reference.ensures.refers reading (IsReading-earlier g.L.Labels.made g.L.Labels.meaning g.L.Labels.room g.L.Labels.firm c.args.labels.now c.assign.new.labels reading c.assign.ensures.kept is))) c.assign.ensures.goes_on

pub returns-clause-moved : goal.returns-clause-moved
returns-clause-moved g c = moved_popped _ _ _ _ _ _ _ c.assign.result (c.take_reference-reference.ensures.tasks ∙ c.pop-value.ensures.tasks) c.assign.ensures.moved

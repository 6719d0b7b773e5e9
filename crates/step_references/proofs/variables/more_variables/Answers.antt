use Rattle.std.proofs.Common.{ap, length, ◌∙◌}
use Rattle.js_ast.specs.Views.{view_other_declarations}
use Rattle.js_values.specs.Readings.{HasValue, read_value}
use Rattle.js_values.proofs.ReadingLaws.{IsReading-earlier}
use Rattle.es_meaning.specs.Evaluation.{more_variables}
use Rattle.flow_meaning.specs.Planned.{asking, planned}
use Rattle.continuations.specs.Settings.{entrance}
use Rattle.continuations.specs.Pending.{owns_target}
use Rattle.continuations.proofs.EndLaws.{last_has}
use Rattle.step_references.proofs.Begun.{resumed_at}
use Rattle.step_references.proofs.Loose.{front_has, size_below}
use Rattle.step_references.proofs.Moved.{moved_popped}
use Rattle.step_references.proofs.variables.more_variables.Goals as goal

pub take_reference-reference-requires-clause-loose : goal.take_reference-reference-requires-clause-loose
take_reference-reference-requires-clause-loose g c = size_below c.pop-value.new.self.loose c.args.stack.now.loose c.pop-value.result (owns_target c.args.target) c.pop-value.ensures.top c.requires.loose

pub take_reference-reference-requires-clause-made : goal.take_reference-reference-requires-clause-made
take_reference-reference-requires-clause-made g c = front_has (HasValue (g.L.Labels.made c.args.labels.now)) c.pop-value.new.self.loose c.args.stack.now.loose c.pop-value.result c.pop-value.ensures.top c.requires.made

pub give_first-requires-clause-loose : goal.give_first-requires-clause-loose
give_first-requires-clause-loose g c = ap length c.take_reference-reference.ensures.none

pub give_first-requires-clause-value : goal.give_first-requires-clause-value
give_first-requires-clause-value g c = last_has (HasValue (g.L.Labels.made c.args.labels.now)) c.pop-value.new.self.loose c.args.stack.now.loose c.pop-value.result c.pop-value.ensures.top c.requires.made

pub returns-clause-goes_on : goal.returns-clause-goes_on
returns-clause-goes_on g c = resumed_at c.pop-value.new.self.loose c.pop-value.result c.pop-value.ensures.top (c.take_reference-reference.ensures.tasks ∙ c.pop-value.ensures.tasks) (λ tables inputs set functions reading f s is. ap (λ n. more_variables (planned tables inputs set functions) (entrance tables inputs set functions) (asking tables inputs set functions) n (view_other_declarations c.args.rest.now) f.env.place (read_value reading c.pop-value.result) s) (c.take_reference-reference.ensures.refers reading (IsReading-earlier g.L.Labels.made g.L.Labels.meaning g.L.Labels.room g.L.Labels.firm c.args.labels.now c.give_first.new.labels reading c.give_first.ensures.kept is))) c.give_first.ensures.goes_on

pub returns-clause-moved : goal.returns-clause-moved
returns-clause-moved g c = moved_popped _ _ _ _ _ _ _ c.give_first.result (c.take_reference-reference.ensures.tasks ∙ c.pop-value.ensures.tasks) c.give_first.ensures.moved

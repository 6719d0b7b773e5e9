use Rattle.std.proofs.Common.{refl, sym, ap, ap₂, subst, ◌∙◌, [], ◌∷◌, ◌++◌, ◌+◌, ◌≡◌, map, length, arith, Ok}
use Rattle.std.specs.List.{All}
use Rattle.flow_policy.specs.Policies.{no_tables}
use Rattle.js_values.specs.Readings.{HasValue, read_value}
use Rattle.flow_meaning.specs.Tracked.{labelled}
use Rattle.continuations.specs.declared.continuation.Control.TheVariants as control
use Rattle.continuations.specs.declared.continuation.Continuation.TheVariants as continuation
use Rattle.step_references.proofs.Begun.{begun_as, begun_above, begun_comes, begun_handed, begun_pushed, begun_on, begun_off, begun_err, on_is, resumed}
use Rattle.step_references.proofs.Moved.{has_on, has_whatever, level_on, moved_behind, moved_lying, moved_off, moved_on, moved_popped, moved_pushed, moved_within, rests_lying, stack_is, stands_still, stood}
use Rattle.step_references.proofs.Loose.{front_has, lone, none_has, only, second_has, size_below, two_lie}
use Rattle.continuations.proofs.EndLaws.{last_has}
use Rattle.step_operators.proofs.OperatorLaws.{none_built}
use Rattle.js_ast.specs.declared.operators.UnaryOperator.TheVariants as unary_operator
use Rattle.native_protocol.specs.declared.hint.Hint.TheVariants as hint
use Rattle.es_meaning.specs.Evaluation.{primitive_left}
use Rattle.flow_meaning.specs.Planned.{planned}
use Rattle.run_state.proofs.ActLaws.{Acts-computes}
use Rattle.origin_labels.proofs.StoreLaws.{IsKept-refl}
use Rattle.continuations.specs.Settings.{entrance}
use Rattle.step_objects.proofs.Frames.{unary_stands}
use Rattle.continuations.specs.Pending.{first_or_undefined}
use Rattle.continuations.proofs.BranchLaws.{none_in_front}
use Rattle.origin_labels.proofs.StoreLaws.{IsKept-refl, IsKept-trans}
use Rattle.js_values.proofs.ReadingLaws.{IsReading-earlier}
use Rattle.run_state.proofs.ActLaws.{Belongs-later}
use Rattle.step_objects.specs.References.{refers}
use Rattle.step_objects.proofs.Frames.{binary_stands}
use Rattle.continuations.specs.Pending.{owns_target}
use Rattle.continuations.specs.Shapes.{target_of}
use Rattle.step_references.proofs.Kept.{reference_later, target_below, value_above}
use Rattle.step_operators.specs.Counting.{changed_by, given_by, numbered_by}
use Rattle.step_operators.proofs.OperatorLaws.{counted_is}
use Rattle.step_operators.proofs.counting.counted_number.Goals as goal

pub take_reference-reference-requires-clause-loose : goal.take_reference-reference-requires-clause-loose
take_reference-reference-requires-clause-loose g c = size_below c.pop-value.new.self.loose c.args.stack.now.loose c.pop-value.result (owns_target c.args.target) c.pop-value.ensures.top c.requires.loose

pub take_reference-reference-requires-clause-made : goal.take_reference-reference-requires-clause-made
take_reference-reference-requires-clause-made g c = front_has (HasValue (g.L.Labels.made c.args.labels.now)) c.pop-value.new.self.loose c.args.stack.now.loose c.pop-value.result c.pop-value.ensures.top c.requires.made

pub count-requires-clause-loose : goal.count-requires-clause-loose
count-requires-clause-loose g c = ap length c.take_reference-reference.ensures.none

pub count-requires-clause-value : goal.count-requires-clause-value
count-requires-clause-value g c = last_has (HasValue (g.L.Labels.made c.args.labels.now)) c.pop-value.new.self.loose c.args.stack.now.loose c.pop-value.result c.pop-value.ensures.top c.requires.made

pub returns-clause-goes_on : goal.returns-clause-goes_on
returns-clause-goes_on g c = resumed c.pop-value.new.self.loose c.pop-value.result c.pop-value.ensures.top (c.take_reference-reference.ensures.tasks ∙ c.pop-value.ensures.tasks) (λ tables inputs set functions reading f s is. ap (λ n. numbered_by c.args.counting tables inputs set functions c.args.operator n (read_value reading c.pop-value.result) s) (c.take_reference-reference.ensures.refers reading (IsReading-earlier g.L.Labels.made g.L.Labels.meaning g.L.Labels.room g.L.Labels.firm c.args.labels.now c.count.new.labels reading c.count.ensures.kept is)) ∙ counted_is tables inputs set functions c.args.counting c.args.operator c.args.target (map (read_value reading) c.pop-value.new.self.loose) f (read_value reading c.pop-value.result) s) c.count.ensures.goes_on

pub returns-clause-moved : goal.returns-clause-moved
returns-clause-moved g c = moved_popped _ _ _ _ _ _ _ c.count.result (c.take_reference-reference.ensures.tasks ∙ c.pop-value.ensures.tasks) c.count.ensures.moved

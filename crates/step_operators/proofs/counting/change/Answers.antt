use Rattle.std.proofs.Common.{refl, sym, ap, ap₂, subst, ◌∙◌, [], ◌∷◌, ◌++◌, ◌+◌, ◌≡◌, map, length, arith, Ok}
use Rattle.std.specs.List.{All}
use Rattle.flow_policy.specs.Policies.{no_tables}
use Rattle.js_values.specs.Readings.{HasValue, read_value}
use Rattle.flow_meaning.specs.Tracked.{labelled}
use Rattle.continuations.specs.declared.continuation.Control.TheVariants as control
use Rattle.continuations.specs.declared.continuation.Continuation.TheVariants as continuation
use Rattle.step_references.proofs.Begun.{begun_as, begun_above, begun_comes, begun_handed, begun_pushed, begun_on, begun_off, begun_err, on_is, resumed}
use Rattle.step_references.proofs.Moved.{has_on, has_whatever, level_on, moved_behind, moved_lying, moved_off, moved_on, moved_popped, moved_pushed, moved_within, rests_lying, stack_is, stands_still, stood}
use Rattle.step_references.proofs.Loose.{front_has, lone, none_has, only, second_has, size_below, two_lie}
use Rattle.continuations.proofs.EndLaws.{last_has}
use Rattle.step_operators.proofs.OperatorLaws.{none_built}
use Rattle.js_ast.specs.declared.operators.UnaryOperator.TheVariants as unary_operator
use Rattle.native_protocol.specs.declared.hint.Hint.TheVariants as hint
use Rattle.es_meaning.specs.Evaluation.{primitive_left}
use Rattle.flow_meaning.specs.Planned.{planned}
use Rattle.run_state.proofs.ActLaws.{Acts-computes}
use Rattle.origin_labels.proofs.StoreLaws.{IsKept-refl}
use Rattle.continuations.specs.Settings.{entrance}
use Rattle.step_objects.proofs.Frames.{unary_stands}
use Rattle.continuations.specs.Pending.{first_or_undefined}
use Rattle.continuations.proofs.BranchLaws.{none_in_front}
use Rattle.origin_labels.proofs.StoreLaws.{IsKept-refl, IsKept-trans}
use Rattle.js_values.proofs.ReadingLaws.{IsReading-earlier}
use Rattle.run_state.proofs.ActLaws.{Belongs-later}
use Rattle.step_objects.specs.References.{refers}
use Rattle.step_objects.proofs.Frames.{binary_stands}
use Rattle.continuations.specs.Pending.{owns_target}
use Rattle.continuations.specs.Shapes.{target_of}
use Rattle.step_references.proofs.Kept.{reference_later, target_below, value_above}
use Rattle.step_operators.specs.Counting.{changed_by, given_by, numbered_by}
use Rattle.std.proofs.Common.{pos}
use Rattle.js_number.specs.declared.num.Num.TheVariants.{Int}
use Rattle.js_number.specs.declared.primitive.Primitive.TheVariants.{Num}
use Rattle.step_operators.proofs.OperatorLaws.{changed_as}
use Rattle.step_operators.proofs.counting.change.Goals as goal

pub go_on-requires-clause-loose : goal.go_on-requires-clause-loose
go_on-requires-clause-loose g c = sym c.requires.loose

pub go_on-requires-clause-made : goal.go_on-requires-clause-made
go_on-requires-clause-made g c = has_whatever (HasValue (g.L.Labels.made c.one_more-answer.new.labels)) (g.L.Labels.made c.one_more-answer.new.labels) c.one_more-answer.result c.one_more-answer.ensures.made

pub returns-in-On-clause-goes_on : goal.returns-in-On-clause-goes_on
returns-in-On-clause-goes_on g c = begun_on (λ tables inputs set functions reading f. given_by c.args.counting tables inputs set functions (refers reading c.args.reference.now) (read_value reading c.args.old)) (c.one_more-answer.ensures.acts no_tables [] none_built [] c.args.world.now) (λ tables inputs set functions reading f s is. changed_as tables inputs set functions c.args.counting c.args.operator (refers reading c.args.reference.now) (read_value reading c.args.old) s) _ _ _ c.in-On.new c.give.ensures.kept (rw c.in-On.is at c.in_ok-came.ensures.parts) refl c.give.ensures.goes_on

pub returns-in-On-clause-moved : goal.returns-in-On-clause-moved
returns-in-On-clause-moved g c = moved_on _ _ _ _ _ _ _ _ _ (c.give.result) (omega arith) (ap (λ m. m.tasks) (on_is _ c.args.stack.now c.go_on.new.stack c.one_more-answer.result c.in-On.new (rw c.in-On.is at c.in_ok-came.ensures.parts)).1) (level_on _ c.args.world.now c.args.world.now c.args.stack.now c.go_on.new.stack c.one_more-answer.result c.in-On.new (stood (c.one_more-answer.ensures.acts no_tables [] none_built [] c.args.world.now) (λ s. binary_stands no_tables [] none_built [] c.args.operator (read_value (g.L.Labels.meaning c.one_more-answer.new.labels) c.args.old) ((labelled no_tables [] none_built []).literal (Num (Int (pos 1)))) s)) (rw c.in-On.is at c.in_ok-came.ensures.parts)) c.give.ensures.moved

pub returns-clause-goes_on : goal.returns-clause-goes_on
returns-clause-goes_on g c = begun_off (λ tables inputs set functions reading f. given_by c.args.counting tables inputs set functions (refers reading c.args.reference.now) (read_value reading c.args.old)) (c.one_more-answer.ensures.acts no_tables [] none_built [] c.args.world.now) (λ tables inputs set functions reading f s is. changed_as tables inputs set functions c.args.counting c.args.operator (refers reading c.args.reference.now) (read_value reading c.args.old) s) _ _ (rw c.in-Off.is at c.in_ok-came.ensures.parts) refl

pub returns-clause-moved : goal.returns-clause-moved
returns-clause-moved g c = moved_off c.args.stack.now c.go_on.new.stack c.one_more-answer.result c.in-Off.next (omega arith) (has_whatever (HasValue (g.L.Labels.made c.one_more-answer.new.labels)) (g.L.Labels.made c.one_more-answer.new.labels) c.one_more-answer.result c.one_more-answer.ensures.made) (stood (c.one_more-answer.ensures.acts no_tables [] none_built [] c.args.world.now) (λ s. binary_stands no_tables [] none_built [] c.args.operator (read_value (g.L.Labels.meaning c.one_more-answer.new.labels) c.args.old) ((labelled no_tables [] none_built []).literal (Num (Int (pos 1)))) s)) (rw c.in-Off.is at c.in_ok-came.ensures.parts)

pub returns-in_err-came-clause-goes_on : goal.returns-in_err-came-clause-goes_on
returns-in_err-came-clause-goes_on g c = begun_err (λ tables inputs set functions reading f. given_by c.args.counting tables inputs set functions (refers reading c.args.reference.now) (read_value reading c.args.old)) (c.one_more-answer.ensures.acts no_tables [] none_built [] c.args.world.now) (λ tables inputs set functions reading f s is. changed_as tables inputs set functions c.args.counting c.args.operator (refers reading c.args.reference.now) (read_value reading c.args.old) s) _ _ _ c.in_err-came.field-0.0 c.in_err-came.ensures.parts refl c.from_residual.ensures.1

pub give-requires-clause-loose : goal.give-requires-clause-loose
give-requires-clause-loose g c = ap (λ m. length m.loose) (on_is _ c.args.stack.now c.go_on.new.stack c.one_more-answer.result c.in-On.new (rw c.in-On.is at c.in_ok-came.ensures.parts)).1 ∙ c.requires.loose

pub give-requires-clause-reference : goal.give-requires-clause-reference
give-requires-clause-reference g c = reference_later g.L.Labels.made g.L.Labels.meaning g.L.Labels.room g.L.Labels.firm c.args.labels.now c.one_more-answer.new.labels c.one_more-answer.ensures.kept c.args.reference.now c.requires.reference

pub give-requires-clause-old : goal.give-requires-clause-old
give-requires-clause-old g c = (c.one_more-answer.ensures.kept.labels c.args.old.label c.requires.old).0

pub give-requires-clause-new : goal.give-requires-clause-new
give-requires-clause-new g c = has_on (g.L.Labels.made c.one_more-answer.new.labels) (HasValue (g.L.Labels.made c.one_more-answer.new.labels)) c.args.stack.now c.go_on.new.stack c.one_more-answer.result c.in-On.new c.one_more-answer.ensures.made (rw c.in-On.is at c.in_ok-came.ensures.parts)

pub give-requires-clause-belongs : goal.give-requires-clause-belongs
give-requires-clause-belongs g c = Belongs-later g.L.Labels.made g.L.Labels.meaning g.L.Labels.room g.L.Labels.firm c.args.labels.now c.one_more-answer.new.labels c.one_more-answer.ensures.kept g.met.L.Labels.rising c.args.world.now c.requires.belongs

pub returns-clause-belongs : goal.returns-clause-belongs
returns-clause-belongs g c = Belongs-later g.L.Labels.made g.L.Labels.meaning g.L.Labels.room g.L.Labels.firm c.args.labels.now c.one_more-answer.new.labels c.one_more-answer.ensures.kept g.met.L.Labels.rising c.args.world.now c.requires.belongs

pub returns-in_err-came-clause-belongs : goal.returns-in_err-came-clause-belongs
returns-in_err-came-clause-belongs g c = Belongs-later g.L.Labels.made g.L.Labels.meaning g.L.Labels.room g.L.Labels.firm c.args.labels.now c.one_more-answer.new.labels c.one_more-answer.ensures.kept g.met.L.Labels.rising c.args.world.now c.requires.belongs

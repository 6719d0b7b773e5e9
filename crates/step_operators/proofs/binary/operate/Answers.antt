use Rattle.std.proofs.Common.{refl, sym, ap, ap₂, subst, ◌∙◌, [], ◌∷◌, ◌++◌, ◌+◌, ◌≡◌, map, length, arith, Ok}
use Rattle.std.specs.List.{All}
use Rattle.flow_policy.specs.Policies.{no_tables}
use Rattle.js_values.specs.Readings.{HasValue, read_value}
use Rattle.flow_meaning.specs.Tracked.{labelled}
use Rattle.continuations.specs.declared.continuation.Control.TheVariants as control
use Rattle.continuations.specs.declared.continuation.Continuation.TheVariants as continuation
use Rattle.step_references.proofs.Begun.{begun_as, begun_above, begun_comes, begun_handed, begun_pushed, begun_on, begun_off, begun_err, on_is, resumed}
use Rattle.step_references.proofs.Moved.{has_on, has_whatever, level_on, moved_behind, moved_lying, moved_off, moved_on, moved_popped, moved_pushed, moved_within, rests_lying, stack_is, stands_still, stood}
use Rattle.step_references.proofs.Loose.{front_has, lone, none_has, only, second_has, size_below, two_lie}
use Rattle.continuations.proofs.EndLaws.{last_has}
use Rattle.step_operators.proofs.OperatorLaws.{none_built}
use Rattle.step_objects.proofs.Frames.{operated_stands}
use Rattle.step_operators.proofs.OperatorLaws.{operated_as, read_is_label}
use Rattle.step_operators.proofs.binary.operate.Goals as goal

pub returns-clause-goes_on : goal.returns-clause-goes_on
returns-clause-goes_on g c = begun_handed (c.operated-answer.ensures.acts no_tables [] none_built []) c.hand_on.ensures.hands refl (λ tables inputs set functions reading f s is.
    operated_as tables inputs set functions c.operating.ensures c.args.operator (read_value reading c.args.left) (read_value reading c.args.right) s (read_is_label g.met.L.Labels.rising is c.args.left.label (c.operated-answer.ensures.kept.labels c.args.left.label c.requires.left).0) (read_is_label g.met.L.Labels.rising is c.args.right.label (c.operated-answer.ensures.kept.labels c.args.right.label c.requires.right).0) (sym c.converts.ensures ∙ c.if-converts.false))

pub returns-clause-moved : goal.returns-clause-moved
returns-clause-moved g c = moved_within _ _ _ _ _ _ _ c.hand_on.result (omega arith) (c.hand_on.ensures.moved c.args.world.now c.operated-answer.new.world (stood (c.operated-answer.ensures.acts no_tables [] none_built []) (λ s. operated_stands no_tables [] none_built [] c.args.operator (read_value (g.L.Labels.meaning c.operated-answer.new.labels) c.args.left) (read_value (g.L.Labels.meaning c.operated-answer.new.labels) c.args.right) s)))

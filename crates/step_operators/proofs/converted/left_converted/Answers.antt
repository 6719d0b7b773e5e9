use Rattle.std.proofs.Common.{refl, sym, ap, ap₂, subst, ◌∙◌, [], ◌∷◌, ◌++◌, ◌+◌, ◌≡◌, map, length, arith, Ok}
use Rattle.std.specs.List.{All}
use Rattle.flow_policy.specs.Policies.{no_tables}
use Rattle.js_values.specs.Readings.{HasValue, read_value}
use Rattle.flow_meaning.specs.Tracked.{labelled}
use Rattle.continuations.specs.declared.continuation.Control.TheVariants as control
use Rattle.continuations.specs.declared.continuation.Continuation.TheVariants as continuation
use Rattle.step_references.proofs.Begun.{begun_as, begun_above, begun_comes, begun_handed, begun_pushed, begun_on, begun_off, begun_err, on_is, resumed}
use Rattle.step_references.proofs.Moved.{has_on, has_whatever, level_on, moved_behind, moved_lying, moved_off, moved_on, moved_popped, moved_pushed, moved_within, rests_lying, stack_is, stands_still, stood}
use Rattle.step_references.proofs.Loose.{front_has, lone, none_has, only, second_has, size_below, two_lie}
use Rattle.continuations.proofs.EndLaws.{last_has}
use Rattle.step_operators.proofs.OperatorLaws.{none_built}
use Rattle.continuations.specs.Pending.{first_or_undefined}
use Rattle.continuations.proofs.BranchLaws.{none_in_front}
use Rattle.step_operators.proofs.OperatorLaws.{left_is}
use Rattle.step_operators.proofs.converted.left_converted.Goals as goal

pub pop-right-requires : goal.pop-right-requires
pop-right-requires g c = let size = size_below c.pop-left.new.self.loose c.args.stack.now.loose c.pop-left.result 1 c.pop-left.ensures.top c.requires.loose in omega (arith, size)

pub convert_next-requires-clause-loose : goal.convert_next-requires-clause-loose
convert_next-requires-clause-loose g c = ap length (none_in_front c.pop-right.new.self.loose c.pop-left.new.self.loose c.pop-right.result c.pop-right.ensures.top (size_below c.pop-left.new.self.loose c.args.stack.now.loose c.pop-left.result 1 c.pop-left.ensures.top c.requires.loose))

pub convert_next-requires-clause-right : goal.convert_next-requires-clause-right
convert_next-requires-clause-right g c = last_has (HasValue (g.L.Labels.made c.args.labels.now)) c.pop-right.new.self.loose c.pop-left.new.self.loose c.pop-right.result c.pop-right.ensures.top (front_has (HasValue (g.L.Labels.made c.args.labels.now)) c.pop-left.new.self.loose c.args.stack.now.loose c.pop-left.result c.pop-left.ensures.top c.requires.made)

pub convert_next-requires-clause-left : goal.convert_next-requires-clause-left
convert_next-requires-clause-left g c = last_has (HasValue (g.L.Labels.made c.args.labels.now)) c.pop-left.new.self.loose c.args.stack.now.loose c.pop-left.result c.pop-left.ensures.top c.requires.made

pub returns-clause-goes_on : goal.returns-clause-goes_on
returns-clause-goes_on g c = resumed c.pop-left.new.self.loose c.pop-left.result c.pop-left.ensures.top (c.pop-right.ensures.tasks ∙ c.pop-left.ensures.tasks) (λ tables inputs set functions reading f s is. left_is tables inputs set functions f (read_value reading c.pop-left.result) s c.args.operator (ap (λ vs. first_or_undefined (map (read_value reading) vs)) (sym (lone c.pop-right.new.self.loose c.pop-left.new.self.loose c.pop-right.result c.pop-right.ensures.top (size_below c.pop-left.new.self.loose c.args.stack.now.loose c.pop-left.result 1 c.pop-left.ensures.top c.requires.loose))))) c.convert_next.ensures.goes_on

pub returns-clause-moved : goal.returns-clause-moved
returns-clause-moved g c = moved_popped _ _ _ _ _ _ _ c.convert_next.result (c.pop-right.ensures.tasks ∙ c.pop-left.ensures.tasks) c.convert_next.ensures.moved

use Rattle.std.proofs.Common.{refl, sym, ap, ap₂, subst, ◌∙◌, [], ◌∷◌, ◌++◌, ◌+◌, ◌≡◌, map, length, arith, Ok}
use Rattle.std.specs.List.{All}
use Rattle.flow_policy.specs.Policies.{no_tables}
use Rattle.js_values.specs.Readings.{HasValue, read_value}
use Rattle.flow_meaning.specs.Tracked.{labelled}
use Rattle.continuations.specs.declared.continuation.Control.TheVariants as control
use Rattle.continuations.specs.declared.continuation.Continuation.TheVariants as continuation
use Rattle.step_references.proofs.Begun.{begun_as, begun_above, begun_comes, begun_handed, begun_pushed, begun_on, begun_off, begun_err, on_is, resumed}
use Rattle.step_references.proofs.Moved.{has_on, has_whatever, level_on, moved_behind, moved_lying, moved_off, moved_on, moved_popped, moved_pushed, moved_within, rests_lying, stack_is, stands_still, stood}
use Rattle.step_references.proofs.Loose.{front_has, lone, none_has, only, second_has, size_below, two_lie}
use Rattle.continuations.proofs.EndLaws.{last_has}
use Rattle.step_operators.proofs.OperatorLaws.{none_built}
use Rattle.continuations.specs.Pending.{first_or_undefined}
use Rattle.continuations.proofs.BranchLaws.{none_in_front}
use Rattle.step_operators.proofs.OperatorLaws.{binary_is}
use Rattle.step_operators.proofs.binary.binary_done.Goals as goal

pub pop-left-requires : goal.pop-left-requires
pop-left-requires g c = let size = size_below c.pop-right.new.self.loose c.args.stack.now.loose c.pop-right.result 1 c.pop-right.ensures.top c.requires.loose in omega (arith, size)

pub operate-requires-clause-loose : goal.operate-requires-clause-loose
operate-requires-clause-loose g c = ap length (none_in_front c.pop-left.new.self.loose c.pop-right.new.self.loose c.pop-left.result c.pop-left.ensures.top (size_below c.pop-right.new.self.loose c.args.stack.now.loose c.pop-right.result 1 c.pop-right.ensures.top c.requires.loose))

pub operate-requires-clause-left : goal.operate-requires-clause-left
operate-requires-clause-left g c = last_has (HasValue (g.L.Labels.made c.args.labels.now)) c.pop-left.new.self.loose c.pop-right.new.self.loose c.pop-left.result c.pop-left.ensures.top (front_has (HasValue (g.L.Labels.made c.args.labels.now)) c.pop-right.new.self.loose c.args.stack.now.loose c.pop-right.result c.pop-right.ensures.top c.requires.made)

pub operate-requires-clause-right : goal.operate-requires-clause-right
operate-requires-clause-right g c = last_has (HasValue (g.L.Labels.made c.args.labels.now)) c.pop-right.new.self.loose c.args.stack.now.loose c.pop-right.result c.pop-right.ensures.top c.requires.made

pub returns-clause-goes_on : goal.returns-clause-goes_on
returns-clause-goes_on g c = resumed c.pop-right.new.self.loose c.pop-right.result c.pop-right.ensures.top (c.pop-left.ensures.tasks ∙ c.pop-right.ensures.tasks) (λ tables inputs set functions reading f s is. binary_is tables inputs set functions f (read_value reading c.pop-right.result) s c.args.operator (ap (λ vs. first_or_undefined (map (read_value reading) vs)) (sym (lone c.pop-left.new.self.loose c.pop-right.new.self.loose c.pop-left.result c.pop-left.ensures.top (size_below c.pop-right.new.self.loose c.args.stack.now.loose c.pop-right.result 1 c.pop-right.ensures.top c.requires.loose))))) c.operate.ensures.goes_on

pub returns-clause-moved : goal.returns-clause-moved
returns-clause-moved g c = moved_popped _ _ _ _ _ _ _ c.operate.result (c.pop-left.ensures.tasks ∙ c.pop-right.ensures.tasks) c.operate.ensures.moved

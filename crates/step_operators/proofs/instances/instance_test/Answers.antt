use Rattle.std.proofs.Common.{refl, sym, ap, ap₂, subst, ◌∙◌, [], ◌∷◌, ◌++◌, ◌+◌, ◌≡◌, map, length, arith, Ok}
use Rattle.std.specs.List.{All}
use Rattle.flow_policy.specs.Policies.{no_tables}
use Rattle.js_values.specs.Readings.{HasValue, read_value}
use Rattle.flow_meaning.specs.Tracked.{labelled}
use Rattle.continuations.specs.declared.continuation.Control.TheVariants as control
use Rattle.continuations.specs.declared.continuation.Continuation.TheVariants as continuation
use Rattle.step_references.proofs.Begun.{begun_as, begun_above, begun_comes, begun_handed, begun_pushed, begun_on, begun_off, begun_err, on_is, resumed}
use Rattle.step_references.proofs.Moved.{has_on, has_whatever, level_on, moved_behind, moved_lying, moved_off, moved_on, moved_popped, moved_pushed, moved_within, rests_lying, stack_is, stands_still, stood}
use Rattle.step_references.proofs.Loose.{front_has, lone, none_has, only, second_has, size_below, two_lie}
use Rattle.continuations.proofs.EndLaws.{last_has}
use Rattle.step_operators.proofs.OperatorLaws.{none_built}
use Rattle.continuations.specs.Pending.{first_or_undefined}
use Rattle.continuations.proofs.BranchLaws.{none_in_front}
use Rattle.step_objects.specs.Instances.{HasTest, read_test, tests_on}
use Rattle.step_objects.proofs.Frames.{is_instance_stands, tested_stands}
use Rattle.continuations.specs.Settings.{entrance}
use Rattle.step_operators.proofs.OperatorLaws.{test_is}
use Rattle.step_operators.proofs.instances.instance_test.Goals as goal

pub pop-object-requires : goal.pop-object-requires
pop-object-requires g c = let size = size_below c.pop-proto.new.self.loose c.args.stack.now.loose c.pop-proto.result 1 c.pop-proto.ensures.top c.requires.loose in omega (arith, size)

pub look_up-requires-clause-loose : goal.look_up-requires-clause-loose
look_up-requires-clause-loose g c = ap length (none_in_front c.pop-object.new.self.loose c.pop-proto.new.self.loose c.pop-object.result c.pop-object.ensures.top (size_below c.pop-proto.new.self.loose c.args.stack.now.loose c.pop-proto.result 1 c.pop-proto.ensures.top c.requires.loose))

pub look_up-requires-clause-object : goal.look_up-requires-clause-object
look_up-requires-clause-object g c = last_has (HasValue (g.L.Labels.made c.args.labels.now)) c.pop-object.new.self.loose c.pop-proto.new.self.loose c.pop-object.result c.pop-object.ensures.top (front_has (HasValue (g.L.Labels.made c.args.labels.now)) c.pop-proto.new.self.loose c.args.stack.now.loose c.pop-proto.result c.pop-proto.ensures.top c.requires.made)

pub look_up-requires-clause-proto : goal.look_up-requires-clause-proto
look_up-requires-clause-proto g c = last_has (HasValue (g.L.Labels.made c.args.labels.now)) c.pop-proto.new.self.loose c.args.stack.now.loose c.pop-proto.result c.pop-proto.ensures.top c.requires.made

pub returns-clause-goes_on : goal.returns-clause-goes_on
returns-clause-goes_on g c = resumed c.pop-proto.new.self.loose c.pop-proto.result c.pop-proto.ensures.top (c.pop-object.ensures.tasks ∙ c.pop-proto.ensures.tasks) (λ tables inputs set functions reading f s is. test_is tables inputs set functions f (read_value reading c.pop-proto.result) s (ap (λ vs. first_or_undefined (map (read_value reading) vs)) (sym (lone c.pop-object.new.self.loose c.pop-proto.new.self.loose c.pop-object.result c.pop-object.ensures.top (size_below c.pop-proto.new.self.loose c.args.stack.now.loose c.pop-proto.result 1 c.pop-proto.ensures.top c.requires.loose))))) c.look_up.ensures.goes_on

pub returns-clause-moved : goal.returns-clause-moved
returns-clause-moved g c = moved_popped _ _ _ _ _ _ _ c.look_up.result (c.pop-object.ensures.tasks ∙ c.pop-proto.ensures.tasks) c.look_up.ensures.moved

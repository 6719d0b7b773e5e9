use Rattle.std.proofs.Common.{refl, sym, ap, ap₂, subst, ◌∙◌, [], ◌∷◌, ◌++◌, ◌+◌, ◌≡◌, map, length, arith, Ok}
use Rattle.std.specs.List.{All}
use Rattle.flow_policy.specs.Policies.{no_tables}
use Rattle.js_values.specs.Readings.{HasValue, read_value}
use Rattle.flow_meaning.specs.Tracked.{labelled}
use Rattle.continuations.specs.declared.continuation.Control.TheVariants as control
use Rattle.continuations.specs.declared.continuation.Continuation.TheVariants as continuation
use Rattle.step_references.proofs.Begun.{begun_as, begun_above, begun_comes, begun_handed, begun_pushed, begun_on, begun_off, begun_err, on_is, resumed}
use Rattle.step_references.proofs.Moved.{has_on, has_whatever, level_on, moved_behind, moved_lying, moved_off, moved_on, moved_popped, moved_pushed, moved_within, rests_lying, stack_is, stands_still, stood}
use Rattle.step_references.proofs.Loose.{front_has, lone, none_has, only, second_has, size_below, two_lie}
use Rattle.continuations.proofs.EndLaws.{last_has}
use Rattle.step_operators.proofs.OperatorLaws.{none_built}
use Rattle.continuations.specs.Pending.{first_or_undefined}
use Rattle.continuations.proofs.BranchLaws.{none_in_front}
use Rattle.step_objects.specs.Instances.{HasTest, read_test, tests_on}
use Rattle.step_objects.proofs.Frames.{is_instance_stands, tested_stands}
use Rattle.continuations.specs.Settings.{entrance}
use Rattle.js_values.specs.declared.value.Value.TheVariants.{Object}
use Rattle.step_references.proofs.Calls.{alone}
use Rattle.step_operators.proofs.OperatorLaws.{answers_alone, reads_on}
use Rattle.step_operators.proofs.instances.read_prototype.Goals as goal

pub push-requires : goal.push-requires
push-requires g c = sym (ap length (alone _ c.requires.loose c.in_ok-lay-in-Reads.ensures.laid))

pub enter_access-requires-clause-loose : goal.enter_access-requires-clause-loose
enter_access-requires-clause-loose g c = ap (λ k. length k.loose) c.in_ok-push-in-Reads.ensures.ok

pub enter_access-requires-clause-made : goal.enter_access-requires-clause-made
enter_access-requires-clause-made g c = (rw c.in-Reads.is at c.requires.made).1

pub returns-in_ok-lay-in-Answered-clause-goes_on : goal.returns-in_ok-lay-in-Answered-clause-goes_on
returns-in_ok-lay-in-Answered-clause-goes_on g c = rw c.in-Answered.is (answers_alone _ c.in-Answered.value c.requires.loose c.lay.ensures.tasks c.in_ok-lay-in-Answered.ensures.laid)

pub returns-in_ok-next-in-Reads-clause-goes_on : goal.returns-in_ok-next-in-Reads-clause-goes_on
returns-in_ok-next-in-Reads-clause-goes_on g c = rw c.in-Reads.is (reads_on c.args.stack.now c.push.new.self c.enter_access.new.stack c.in_ok-next-in-Reads.next c.in-Reads.object c.in-Reads.label c.in-Reads.prototype (ap (λ k. k.tasks) c.in_ok-push-in-Reads.ensures.ok ∙ ap₂ (λ ts vs. ts ++ (continuation.InstanceTest, vs) ∷ []) c.lay-in-Reads.ensures.tasks (alone _ c.requires.loose c.in_ok-lay-in-Reads.ensures.laid)) c.in_ok-next-in-Reads.ensures.goes_on)

pub returns-in_ok-next-in-Reads-clause-moved : goal.returns-in_ok-next-in-Reads-clause-moved
returns-in_ok-next-in-Reads-clause-moved g c = λ world. moved_behind _ _ _ _ _ _ _ _ (Ok c.in_ok-next-in-Reads.next) continuation.InstanceTest ((record { value = Object c.in-Reads.object; label = c.in-Reads.label }) ∷ []) (omega arith) refl refl (ap (λ k. k.tasks) c.in_ok-push-in-Reads.ensures.ok ∙ ap₂ (λ ts vs. ts ++ (continuation.InstanceTest, vs) ∷ []) c.lay-in-Reads.ensures.tasks (alone _ c.requires.loose c.in_ok-lay-in-Reads.ensures.laid)) (only (HasValue (g.L.Labels.made c.args.labels.now)) (record { value = Object c.in-Reads.object; label = c.in-Reads.label }) (rw c.in-Reads.is at c.requires.made).0) (c.in_ok-next-in-Reads.ensures.moved world)

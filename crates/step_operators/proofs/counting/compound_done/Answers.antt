use Rattle.std.proofs.Common.{refl, sym, ap, ap₂, subst, ◌∙◌, [], ◌∷◌, ◌++◌, ◌+◌, ◌≡◌, map, length, arith, Ok}
use Rattle.std.specs.List.{All}
use Rattle.flow_policy.specs.Policies.{no_tables}
use Rattle.js_values.specs.Readings.{HasValue, read_value}
use Rattle.flow_meaning.specs.Tracked.{labelled}
use Rattle.continuations.specs.declared.continuation.Control.TheVariants as control
use Rattle.continuations.specs.declared.continuation.Continuation.TheVariants as continuation
use Rattle.step_references.proofs.Begun.{begun_as, begun_above, begun_comes, begun_handed, begun_pushed, begun_on, begun_off, begun_err, on_is, resumed}
use Rattle.step_references.proofs.Moved.{has_on, has_whatever, level_on, moved_behind, moved_lying, moved_off, moved_on, moved_popped, moved_pushed, moved_within, rests_lying, stack_is, stands_still, stood}
use Rattle.step_references.proofs.Loose.{front_has, lone, none_has, only, second_has, size_below, two_lie}
use Rattle.continuations.proofs.EndLaws.{last_has}
use Rattle.step_operators.proofs.OperatorLaws.{none_built}
use Rattle.js_ast.specs.declared.operators.UnaryOperator.TheVariants as unary_operator
use Rattle.native_protocol.specs.declared.hint.Hint.TheVariants as hint
use Rattle.es_meaning.specs.Evaluation.{primitive_left}
use Rattle.flow_meaning.specs.Planned.{planned}
use Rattle.run_state.proofs.ActLaws.{Acts-computes}
use Rattle.origin_labels.proofs.StoreLaws.{IsKept-refl}
use Rattle.continuations.specs.Settings.{entrance}
use Rattle.step_objects.proofs.Frames.{unary_stands}
use Rattle.continuations.specs.Pending.{first_or_undefined}
use Rattle.continuations.proofs.BranchLaws.{none_in_front}
use Rattle.origin_labels.proofs.StoreLaws.{IsKept-refl, IsKept-trans}
use Rattle.js_values.proofs.ReadingLaws.{IsReading-earlier}
use Rattle.run_state.proofs.ActLaws.{Belongs-later}
use Rattle.step_objects.specs.References.{refers}
use Rattle.step_objects.proofs.Frames.{binary_stands}
use Rattle.continuations.specs.Pending.{owns_target}
use Rattle.continuations.specs.Shapes.{target_of}
use Rattle.step_references.proofs.Kept.{reference_later, target_below, value_above}
use Rattle.step_operators.specs.Counting.{changed_by, given_by, numbered_by}
use Rattle.step_references.proofs.Loose.{made_later}
use Rattle.step_operators.proofs.OperatorLaws.{compound_is, resumed_above}
use Rattle.step_operators.proofs.counting.compound_done.Goals as goal

pub pop-old-requires : goal.pop-old-requires
pop-old-requires g c =
    let start = c.requires.loose in
    let whole : length c.args.stack.now.loose ≡ owns_target c.args.target + 1 + 1 = omega (arith, start) in
    let size = (size_below c.pop-operand.new.self.loose c.args.stack.now.loose c.pop-operand.result (owns_target c.args.target + 1) c.pop-operand.ensures.top whole) in
    omega (arith, size)

pub push-requires : goal.push-requires
push-requires g c =
    let start = c.requires.loose in
    let whole : length c.args.stack.now.loose ≡ owns_target c.args.target + 1 + 1 = omega (arith, start) in
    sym (size_below c.pop-old.new.self.loose c.pop-operand.new.self.loose c.pop-old.result (owns_target c.args.target) c.pop-old.ensures.top (size_below c.pop-operand.new.self.loose c.args.stack.now.loose c.pop-operand.result (owns_target c.args.target + 1) c.pop-operand.ensures.top whole))

pub operate-requires-clause-loose : goal.operate-requires-clause-loose
operate-requires-clause-loose g c = ap (λ k. length k.loose) c.in_ok-push.ensures.ok

pub operate-requires-clause-left : goal.operate-requires-clause-left
operate-requires-clause-left g c = last_has (HasValue (g.L.Labels.made c.args.labels.now)) c.pop-old.new.self.loose c.pop-operand.new.self.loose c.pop-old.result c.pop-old.ensures.top (front_has (HasValue (g.L.Labels.made c.args.labels.now)) c.pop-operand.new.self.loose c.args.stack.now.loose c.pop-operand.result c.pop-operand.ensures.top c.requires.made)

pub operate-requires-clause-right : goal.operate-requires-clause-right
operate-requires-clause-right g c = last_has (HasValue (g.L.Labels.made c.args.labels.now)) c.pop-operand.new.self.loose c.args.stack.now.loose c.pop-operand.result c.pop-operand.ensures.top c.requires.made

pub returns-clause-goes_on : goal.returns-clause-goes_on
returns-clause-goes_on g c =
    let start = c.requires.loose in
    let whole : length c.args.stack.now.loose ≡ owns_target c.args.target + 1 + 1 = omega (arith, start) in
    resumed_above c.pop-operand.new.self.loose c.pop-operand.result c.pop-operand.ensures.top (continuation.AssignTo c.args.target) c.pop-old.new.self.loose c.operate.ensures.goes_on (ap (λ k. k.tasks) c.in_ok-push.ensures.ok ∙ ap (λ ts. ts ++ ((continuation.AssignTo c.args.target), c.pop-old.new.self.loose) ∷ []) (c.pop-old.ensures.tasks ∙ c.pop-operand.ensures.tasks)) (λ tables inputs set functions reading f s is. compound_is tables inputs set functions c.args.operator (read_value reading c.pop-operand.result) s (sym (target_below reading c.pop-old.new.self.loose c.pop-operand.new.self.loose c.pop-old.result c.pop-old.ensures.top c.args.target (size_below c.pop-old.new.self.loose c.pop-operand.new.self.loose c.pop-old.result (owns_target c.args.target) c.pop-old.ensures.top (size_below c.pop-operand.new.self.loose c.args.stack.now.loose c.pop-operand.result (owns_target c.args.target + 1) c.pop-operand.ensures.top whole)))) (sym (value_above reading c.pop-old.new.self.loose c.pop-operand.new.self.loose c.pop-old.result c.pop-old.ensures.top (owns_target c.args.target) (size_below c.pop-old.new.self.loose c.pop-operand.new.self.loose c.pop-old.result (owns_target c.args.target) c.pop-old.ensures.top (size_below c.pop-operand.new.self.loose c.args.stack.now.loose c.pop-operand.result (owns_target c.args.target + 1) c.pop-operand.ensures.top whole)))))

pub returns-clause-moved : goal.returns-clause-moved
returns-clause-moved g c = moved_behind _ _ _ _ _ _ _ _ c.operate.result (continuation.AssignTo c.args.target) c.pop-old.new.self.loose (omega arith) refl refl (ap (λ k. k.tasks) c.in_ok-push.ensures.ok ∙ ap (λ ts. ts ++ ((continuation.AssignTo c.args.target), c.pop-old.new.self.loose) ∷ []) (c.pop-old.ensures.tasks ∙ c.pop-operand.ensures.tasks)) (front_has (HasValue (g.L.Labels.made c.operate.new.labels)) c.pop-old.new.self.loose c.pop-operand.new.self.loose c.pop-old.result c.pop-old.ensures.top (made_later g.L.Labels.made g.L.Labels.meaning g.L.Labels.room g.L.Labels.firm c.args.labels.now c.operate.new.labels c.operate.ensures.kept c.pop-operand.new.self.loose (front_has (HasValue (g.L.Labels.made c.args.labels.now)) c.pop-operand.new.self.loose c.args.stack.now.loose c.pop-operand.result c.pop-operand.ensures.top c.requires.made))) c.operate.ensures.moved

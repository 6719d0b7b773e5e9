use Rattle.std.proofs.Common.{refl, sym, ap, subst, arith}
use Rattle.std.specs.List.{All}
use Rattle.js_values.specs.Readings.{HasValue}
use Rattle.step_objects.specs.References.{refers}
use Rattle.step_objects.proofs.Frames.{asked_stands}
use Rattle.continuations.specs.declared.continuation.Continuation.TheVariants as continuation
use Rattle.step_references.proofs.Begun.{begun_behind}
use Rattle.step_references.proofs.Moved.{moved_behind, stood}
use Rattle.js_ast.specs.declared.operators.UnaryOperator.TheVariants as unary_operator
use Rattle.std.proofs.lemmas.List.{nil_from_length}
use Rattle.step_references.proofs.Loose.{none_has}
use Rattle.step_references.proofs.UseLaws.{used_asked}
use Rattle.step_references.proofs.counting.begin_asking.Goals as goal

pub returns-clause-goes_on : goal.returns-clause-goes_on
returns-clause-goes_on g c = begun_behind (continuation.Unary unary_operator.Typeof) c.args.stack.now.loose c.typeof_value-answer.ensures.acts c.hand_on_access.ensures.hands (ap (λ k. k.tasks) c.in_ok-push.ensures.ok) (λ tables inputs set functions reading f s is. used_asked tables inputs set functions (refers reading c.args.reference.now) f.env.place s)

pub returns-clause-moved : goal.returns-clause-moved
returns-clause-moved g c =
    let made = g.L.Labels.made c.typeof_value-answer.new.labels in
    moved_behind _ _ _ _ _ _ _ _ c.hand_on_access.result (continuation.Unary unary_operator.Typeof) c.args.stack.now.loose (omega arith) refl refl (ap (λ k. k.tasks) c.in_ok-push.ensures.ok) (subst (All (HasValue made)) (sym (nil_from_length c.args.stack.now.loose c.requires.loose)) (none_has (HasValue made)))
    (c.hand_on_access.ensures.moved c.args.world.now c.typeof_value-answer.new.world (stood c.typeof_value-answer.ensures.acts (λ s. asked_stands (refers (g.L.Labels.meaning c.typeof_value-answer.new.labels) c.args.reference.now) s)))

use Rattle.std.proofs.Common.{refl, sym, ap, subst, ◌∙◌, [], ◌∷◌, ◌++◌, map, length, arith, append-nil}
use Rattle.std.specs.List.{All}
use Rattle.js_ast.specs.Views.{view_expr}
use Rattle.js_values.specs.Readings.{HasValue, read_value}
use Rattle.step_objects.specs.References.{refers}
use Rattle.step_objects.proofs.Frames.{accessed_stands}
use Rattle.continuations.specs.declared.continuation.Continuation.TheVariants as continuation
use Rattle.continuations.specs.Shapes.{target_of}
use Rattle.step_references.specs.Keeping.{laid_for}
use Rattle.step_references.proofs.Begun.{begun_behind}
use Rattle.step_references.proofs.Kept.{laid_alike, laid_first, laid_has, laid_size, reference_later}
use Rattle.step_references.proofs.Moved.{moved_behind, stood}
use Rattle.step_references.proofs.UseLaws.{used_updated}
use Rattle.step_references.proofs.counting.begin_update.Goals as goal

pub push-requires : goal.push-requires
push-requires g c = let size = laid_size c.args.reference c.in_ok-target.target c.lay_reference.new.stack.loose [] c.in_ok-target.ensures.target ((laid_first c.args.stack.now.loose c.lay_reference.new.stack.loose (laid_for c.args.reference) c.requires.loose c.in_ok-target.ensures.laid) ∙ sym (append-nil (laid_for c.args.reference))) in omega (arith, size)

pub hand_on_access-requires-clause-loose : goal.hand_on_access-requires-clause-loose
hand_on_access-requires-clause-loose g c = ap (λ k. length k.loose) c.in_ok-push.ensures.ok

pub returns-clause-goes_on : goal.returns-clause-goes_on
returns-clause-goes_on g c = begun_behind (continuation.CompoundRight c.args.operator c.args.operand c.in_ok-target.target) c.lay_reference.new.stack.loose c.get_value-answer.ensures.acts c.hand_on_access.ensures.hands (ap (λ k. k.tasks) c.in_ok-push.ensures.ok ∙ ap (λ ts. ts ++ (continuation.CompoundRight c.args.operator c.args.operand c.in_ok-target.target, c.lay_reference.new.stack.loose) ∷ []) c.lay_reference.ensures.tasks) (λ tables inputs set functions reading f s is. used_updated tables inputs set functions (target_of c.in_ok-target.target (map (read_value reading) c.lay_reference.new.stack.loose)) (refers reading c.args.reference) (laid_alike reading c.args.reference c.in_ok-target.target c.lay_reference.new.stack.loose [] c.in_ok-target.ensures.target ((laid_first c.args.stack.now.loose c.lay_reference.new.stack.loose (laid_for c.args.reference) c.requires.loose c.in_ok-target.ensures.laid) ∙ sym (append-nil (laid_for c.args.reference)))) c.args.operator (view_expr c.args.operand.now) f.env.place s)

pub returns-clause-moved : goal.returns-clause-moved
returns-clause-moved g c =
    let made = g.L.Labels.made c.get_value-answer.new.labels in
    moved_behind _ _ _ _ _ _ _ _ c.hand_on_access.result (continuation.CompoundRight c.args.operator c.args.operand c.in_ok-target.target) c.lay_reference.new.stack.loose (omega arith) refl refl (ap (λ k. k.tasks) c.in_ok-push.ensures.ok ∙ ap (λ ts. ts ++ (continuation.CompoundRight c.args.operator c.args.operand c.in_ok-target.target, c.lay_reference.new.stack.loose) ∷ []) c.lay_reference.ensures.tasks) (subst (All (HasValue made)) (sym (laid_first c.args.stack.now.loose c.lay_reference.new.stack.loose (laid_for c.args.reference) c.requires.loose c.in_ok-target.ensures.laid)) (laid_has made c.args.reference (reference_later g.L.Labels.made g.L.Labels.meaning g.L.Labels.room g.L.Labels.firm c.args.labels.now c.get_value-answer.new.labels c.get_value-answer.ensures.kept c.args.reference c.requires.reference)))
    (c.hand_on_access.ensures.moved c.args.world.now c.get_value-answer.new.world (stood c.get_value-answer.ensures.acts (λ s. accessed_stands (refers (g.L.Labels.meaning c.get_value-answer.new.labels) c.args.reference) s)))

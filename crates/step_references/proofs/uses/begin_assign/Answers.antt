use Rattle.std.proofs.Common.{refl, sym, ap, subst, ◌∙◌, [], ◌∷◌, ◌++◌, map, arith, append-nil}
use Rattle.std.specs.List.{All}
use Rattle.js_ast.specs.Views.{view_expr}
use Rattle.js_values.specs.Readings.{HasValue, read_value}
use Rattle.step_objects.specs.References.{refers}
use Rattle.continuations.specs.declared.continuation.Continuation.TheVariants as continuation
use Rattle.continuations.specs.Shapes.{target_of}
use Rattle.step_references.specs.Keeping.{laid_for}
use Rattle.step_references.proofs.Kept.{laid_alike, laid_first, laid_has, laid_size}
use Rattle.continuations.specs.declared.continuation.Control.TheVariants as control
use Rattle.step_references.proofs.Begun.{begun_pushed}
use Rattle.step_references.proofs.Moved.{moved_pushed}
use Rattle.step_references.proofs.Loose.{none_has}
use Rattle.step_references.proofs.UseLaws.{used_assigned}
use Rattle.step_references.proofs.uses.begin_assign.Goals as goal

pub push-requires : goal.push-requires
push-requires g c = let size = laid_size c.args.reference c.in_ok-target.target c.lay_reference.new.stack.loose [] c.in_ok-target.ensures.target ((laid_first c.args.stack.now.loose c.lay_reference.new.stack.loose (laid_for c.args.reference) c.requires.loose c.in_ok-target.ensures.laid) ∙ sym (append-nil (laid_for c.args.reference))) in omega (arith, size)

pub returns-clause-goes_on : goal.returns-clause-goes_on
returns-clause-goes_on g c = begun_pushed (continuation.AssignTo c.in_ok-target.target) c.lay_reference.new.stack.loose [] (c.in_ok-push.ensures.ok ∙ ap (λ ts. record { tasks = ts ++ (continuation.AssignTo c.in_ok-target.target, c.lay_reference.new.stack.loose) ∷ []; loose = [] }) c.lay_reference.ensures.tasks) (λ tables inputs set functions reading f s is. used_assigned tables inputs set functions (target_of c.in_ok-target.target (map (read_value reading) c.lay_reference.new.stack.loose)) (refers reading c.args.reference) (laid_alike reading c.args.reference c.in_ok-target.target c.lay_reference.new.stack.loose [] c.in_ok-target.ensures.target ((laid_first c.args.stack.now.loose c.lay_reference.new.stack.loose (laid_for c.args.reference) c.requires.loose c.in_ok-target.ensures.laid) ∙ sym (append-nil (laid_for c.args.reference)))) (view_expr c.args.value.now) f.env.place s)

pub returns-clause-moved : goal.returns-clause-moved
returns-clause-moved g c = moved_pushed (control.Expr c.args.value) (continuation.AssignTo c.in_ok-target.target) c.lay_reference.new.stack.loose [] (c.in_ok-push.ensures.ok ∙ ap (λ ts. record { tasks = ts ++ (continuation.AssignTo c.in_ok-target.target, c.lay_reference.new.stack.loose) ∷ []; loose = [] }) c.lay_reference.ensures.tasks) refl refl (subst (All (HasValue (g.L.Labels.made c.args.labels.now))) (sym (laid_first c.args.stack.now.loose c.lay_reference.new.stack.loose (laid_for c.args.reference) c.requires.loose c.in_ok-target.ensures.laid)) (laid_has (g.L.Labels.made c.args.labels.now) c.args.reference c.requires.reference)) (none_has (HasValue (g.L.Labels.made c.args.labels.now))) refl (omega arith)

use Rattle.std.proofs.Common.{refl, sym, ap, subst, ◌∙◌, [], ◌∷◌, ◌++◌, map, length, arith}
use Rattle.std.specs.List.{All}
use Rattle.js_ast.specs.Views.{view_exprs}
use Rattle.js_values.specs.Readings.{HasValue, read_value}
use Rattle.step_objects.specs.References.{refers}
use Rattle.step_objects.proofs.Frames.{accessed_stands}
use Rattle.continuations.specs.declared.continuation.Continuation.TheVariants as continuation
use Rattle.step_references.proofs.Begun.{begun_behind}
use Rattle.step_references.proofs.Kept.{reference_later}
use Rattle.step_references.proofs.Moved.{moved_behind, stood}
use Rattle.continuations.specs.Pending.{first_or_undefined}
use Rattle.step_references.proofs.Calls.{alone}
use Rattle.step_references.proofs.Loose.{only}
use Rattle.step_references.proofs.UseLaws.{used_called}
use Rattle.step_references.proofs.counting.begin_call.Goals as goal

pub this_of-requires : goal.this_of-requires
this_of-requires g c = record { reference = (reference_later g.L.Labels.made g.L.Labels.meaning g.L.Labels.room g.L.Labels.firm c.args.labels.now c.get_value-answer.new.labels c.get_value-answer.ensures.kept c.args.reference c.requires.reference) }

pub push-requires : goal.push-requires
push-requires g c = sym (ap length (alone _ c.requires.loose c.in_ok-lay.ensures.laid))

pub returns-clause-goes_on : goal.returns-clause-goes_on
returns-clause-goes_on g c = begun_behind (continuation.CalledBy c.args.list) c.lay.new.self.loose c.get_value-answer.ensures.acts c.hand_on_access.ensures.hands (ap (λ k. k.tasks) c.in_ok-push.ensures.ok ∙ ap (λ ts. ts ++ (continuation.CalledBy c.args.list, c.lay.new.self.loose) ∷ []) c.lay.ensures.tasks) (λ tables inputs set functions reading f s is. used_called tables inputs set functions (refers reading c.args.reference) (view_exprs c.args.list.now) (first_or_undefined (map (read_value reading) c.lay.new.self.loose)) f s (ap (λ vs. first_or_undefined (map (read_value reading) vs)) (alone _ c.requires.loose c.in_ok-lay.ensures.laid) ∙ c.this_of.ensures.base reading is))

pub returns-clause-moved : goal.returns-clause-moved
returns-clause-moved g c =
    let made = g.L.Labels.made c.get_value-answer.new.labels in
    moved_behind _ _ _ _ _ _ _ _ c.hand_on_access.result (continuation.CalledBy c.args.list) c.lay.new.self.loose (omega arith) refl refl (ap (λ k. k.tasks) c.in_ok-push.ensures.ok ∙ ap (λ ts. ts ++ (continuation.CalledBy c.args.list, c.lay.new.self.loose) ∷ []) c.lay.ensures.tasks) (subst (All (HasValue made)) (sym (alone _ c.requires.loose c.in_ok-lay.ensures.laid)) (only (HasValue made) c.this_of.result c.this_of.ensures.made))
    (c.hand_on_access.ensures.moved c.args.world.now c.get_value-answer.new.world (stood c.get_value-answer.ensures.acts (λ s. accessed_stands (refers (g.L.Labels.meaning c.get_value-answer.new.labels) c.args.reference) s)))

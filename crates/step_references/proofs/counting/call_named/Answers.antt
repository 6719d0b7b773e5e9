use Rattle.std.proofs.Common.{refl, sym, ap, subst, ◌∙◌, [], ◌∷◌, ◌++◌, map, length, arith}
use Rattle.std.specs.List.{All}
use Rattle.origin_labels.specs.Label.{Label}
use Rattle.js_ast.specs.Views.{view_exprs}
use Rattle.js_values.specs.Readings.{HasValue, read_heap, read_records, read_value}
use Rattle.es_meaning.specs.Operations.{Value, called}
use Rattle.es_meaning.specs.Evaluation.{used}
use Rattle.flow_meaning.specs.Planned.{asking, planned}
use Rattle.flow_meaning.specs.Tracked.{Reference, resolved}
use Rattle.step_objects.proofs.Frames.{accessed_stands}
use Rattle.continuations.specs.declared.continuation.Continuation.TheVariants as continuation
use Rattle.continuations.specs.Pending.{first_or_undefined}
use Rattle.continuations.specs.Settings.{entrance}
use Rattle.step_references.proofs.AtOnce.{named_acts}
use Rattle.step_references.proofs.Begun.{begun_at_reference, begun_behind}
use Rattle.step_references.proofs.Calls.{alone}
use Rattle.step_references.proofs.Loose.{only}
use Rattle.step_references.proofs.Moved.{moved_behind, stood}
use Rattle.step_references.proofs.UseLaws.{used_called}
use Rattle.step_references.proofs.counting.call_named.Goals as goal

pub push-requires : goal.push-requires
push-requires g c = sym (ap length (alone _ c.requires.loose c.in_ok-lay.ensures.laid))

pub returns-clause-goes_on : goal.returns-clause-goes_on
returns-clause-goes_on g c =
    let w = c.args._world.now in
    let n : (g.row.L-Label.Denot → Label) → Reference = λ reading. resolved (read_records reading w.records) (read_heap reading w.heap) c.args._at.0 c.args._name.now in
    begun_at_reference Value (λ tables inputs set functions reading i. used (planned tables inputs set functions) (entrance tables inputs set functions) (asking tables inputs set functions) (called (view_exprs c.args.list.now)) i) c.args._name.now c.args._at.0 n (λ reading is. refl)
    (begun_behind (continuation.CalledBy c.args.list) c.lay.new.self.loose (named_acts c.requires.named) c.hand_on_access.ensures.hands (ap (λ k. k.tasks) c.in_ok-push.ensures.ok ∙ ap (λ ts. ts ++ (continuation.CalledBy c.args.list, c.lay.new.self.loose) ∷ []) c.lay.ensures.tasks)
    (λ tables inputs set functions reading f s is. used_called tables inputs set functions (n reading) (view_exprs c.args.list.now) (first_or_undefined (map (read_value reading) c.lay.new.self.loose)) f s
    (ap (λ vs. first_or_undefined (map (read_value reading) vs)) (alone _ c.requires.loose c.in_ok-lay.ensures.laid) ∙ c.no_this.ensures.undefined reading is)))

pub returns-clause-moved : goal.returns-clause-moved
returns-clause-moved g c =
    let made = g.L.Labels.made c.args.labels.now in
    let w = c.args._world.now in
    let reading = g.L.Labels.meaning c.args.labels.now in
    moved_behind _ _ _ _ _ _ _ _ c.hand_on_access.result (continuation.CalledBy c.args.list) c.lay.new.self.loose (omega arith) refl refl (ap (λ k. k.tasks) c.in_ok-push.ensures.ok ∙ ap (λ ts. ts ++ (continuation.CalledBy c.args.list, c.lay.new.self.loose) ∷ []) c.lay.ensures.tasks) (subst (All (HasValue made)) (sym (alone _ c.requires.loose c.in_ok-lay.ensures.laid)) (only (HasValue made) c.no_this.result c.no_this.ensures.made))
    (c.hand_on_access.ensures.moved w w (stood (named_acts c.requires.named) (λ s. accessed_stands (resolved (read_records reading w.records) (read_heap reading w.heap) c.args._at.0 c.args._name.now) s)))

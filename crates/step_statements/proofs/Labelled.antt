-- A labelled statement in its frame.
use Rattle.std.proofs.Common.{sym, ap, ap₂, ◌∙◌, ◌≡◌, ℕ, false, List, [], ◌∷◌, ◌++◌, map, length, Some}
use Rattle.std.specs.Borrow.{Bor}
use Rattle.std.proofs.lemmas.List.{length-map}
use Rattle.origin_labels.specs.Label.{Label, bottom}
use Rattle.flow_frames.specs.declared.kind.Kind.TheVariants as kind
use Rattle.flow_frames.specs.Changes.{pushed}
use Rattle.flow_frames.specs.Held.{Held, seen_frame}
use Rattle.js_ast.specs.declared.trees.Stmt.{Stmt}
use Rattle.js_ast.specs.Views.{view_stmt}
use Rattle.js_values.specs.Readings.{IsReading}
use Rattle.flow_meaning.specs.Planned.{and_plan, planned, asking}
use Rattle.continuations.specs.declared.continuation.Continuation.TheVariants as continuation
use Rattle.continuations.specs.declared.continuation.Control.TheVariants as control
use Rattle.continuations.specs.Kept.{Kept}
use Rattle.continuations.specs.Pending.{after, behind, setting_above, setting_inside, next_plan}
use Rattle.continuations.specs.Resuming.{BeginsIn, with_frames}
use Rattle.step_statements.proofs.Pushed.{pushed_plan}

module _ {S T : Type 0} (made : S → T → Type 0) (meaning : S → T → Label) (store : S) where
  pub label_begins : (text : Bor (List ℕ)) (body : Bor Stmt) (old new : Kept T) (frames_old frames_new : List (Held T)) (depth : ℕ)
      → old.loose ≡ [] → new ≡ record { tasks = old.tasks ++ (continuation.EndLabel depth text, old.loose) ∷ []; loose = [] } → depth ≡ length frames_old
      → ((reading : T → Label) → IsReading made meaning store reading → map (seen_frame reading) frames_new ≡ map (seen_frame reading) frames_old ++ pushed kind.Loop bottom ∷ [])
      → BeginsIn made meaning store (λ tables inputs set functions e. (planned tables inputs set functions).round false (Some text.now ∷ []) e.env ((asking tables inputs set functions).stmt (view_stmt body.now))) old new frames_old frames_new (control.Stmt body)
  label_begins text body old new frames_old frames_new depth none is deep entered tables inputs set functions reading e s read loose =
      let f = setting_above old.tasks e in
      let w = λ (d : ℕ). continuation.EndLabel d text in
      pushed_plan tables inputs set functions reading (w depth) (control.Stmt body) old new e (with_frames reading frames_new s) is
      ∙ ap₂ (λ d t. behind tables inputs set functions reading old.tasks e (and_plan (next_plan tables inputs set functions (control.Stmt body) [] (setting_inside (w d) f) t) (after tables inputs set functions (w d) [] f))) (deep ∙ sym (length-map frames_old (seen_frame reading))) (ap (λ fs. record s { frames = fs }) (entered reading read))

-- What further work adds to the load.
use Rattle.std.proofs.Common.{ap, ◌∙◌, ◌≡◌, ◌+◌, List, [], ◌∷◌, ◌++◌, arith}
use Rattle.continuations.specs.declared.continuation.Continuation.{Continuation}
use Rattle.continuations.specs.Pending.{Task}
use Rattle.continuations.specs.Kept.{Kept}
use Rattle.continuations.specs.Loads.{weight, load}

module _ {T : Type 0} where
  pub load_more : (tasks : List (Task T)) (w : Task T) → load (tasks ++ w ∷ []) ≡ load tasks + weight w.0
  load_more [] w = omega arith
  load_more (v ∷ tasks) w = omega (arith, load_more tasks w)

  pub pushed_load : (old new : Kept T) (w : Continuation) → new ≡ record { tasks = old.tasks ++ (w, old.loose) ∷ []; loose = [] } → load new.tasks ≡ load old.tasks + weight w
  pushed_load old new w is = ap (λ k. load k.tasks) is ∙ load_more old.tasks (w, old.loose)

  pub load_under : (old new : Kept T) (w : Continuation) → new ≡ record { tasks = old.tasks ++ (w, []) ∷ []; loose = old.loose } → load new.tasks ≡ load old.tasks + weight w
  load_under old new w is = ap (λ k. load k.tasks) is ∙ load_more old.tasks (w, [])

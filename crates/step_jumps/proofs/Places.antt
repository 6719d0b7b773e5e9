-- The environment above pending work, whatever built-ins wait in it.
use Rattle.std.proofs.Common.{refl, ap, ◌≡◌, ℕ, Bool, List, [], ◌∷◌, Option}
use Rattle.native_protocol.specs.Steps.{Steps}
use Rattle.es_meaning.specs.Environments.{Env, find_around}
use Rattle.continuations.specs.Going.{here}
use Rattle.continuations.specs.Pending.{Task, env_above, setting_inside, setting_above}
use Rattle.continuations.specs.Settings.{Setting, setting_of}

env_of : {T : Type 0} → (tasks : List (Task T)) (e : Setting) → (setting_above tasks e).env ≡ env_above tasks e.env
unfolding setting_above env_above
env_of [] e = refl
env_of (w ∷ tasks) e = env_of tasks (setting_inside w.0 e)

-- that of a machine
pub env_is : {T : Type 0} → (tasks : List (Task T)) (natives : List Steps) → (setting_above tasks (setting_of natives here)).env ≡ env_above tasks here
env_is tasks natives = env_of tasks (setting_of natives here)

pub call_is : {T : Type 0} → (tasks : List (Task T)) (natives : List Steps) → (setting_above tasks (setting_of natives here)).env.call ≡ (env_above tasks here).call
call_is tasks natives = ap (λ (e : Env ℕ). e.call) (env_is tasks natives)

pub around_is : {T : Type 0} → (tasks : List (Task T)) (natives : List Steps) (turn : Bool) (label : Option (List ℕ)) → find_around turn label (setting_above tasks (setting_of natives here)).env.around ≡ find_around turn label (env_above tasks here).around
around_is tasks natives turn label = ap (λ (e : Env ℕ). find_around turn label e.around) (env_is tasks natives)

pub place_is : {T : Type 0} → (tasks : List (Task T)) (natives : List Steps) → (setting_above tasks (setting_of natives here)).env.place ≡ (env_above tasks here).place
place_is tasks natives = ap (λ (e : Env ℕ). e.place) (env_is tasks natives)

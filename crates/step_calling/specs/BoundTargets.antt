-- What a bound function comes to, in the labels of a store.
use Rattle.std.specs.Prelude.{◌≡◌, ℕ, Bool, true, false, List, ◌++◌, map, Option, Some, None, slice_get}
use Rattle.std.specs.List.{All}
use Rattle.origin_labels.specs.Label.{Label, union}
use Rattle.js_values.specs.declared.inner.Inner.{Inner}
use Rattle.js_values.specs.declared.inner.Inner.TheVariants.{Plain, Script, Native, Bound}
use Rattle.js_values.specs.Objects.{Object}
use Rattle.js_values.specs.Readings.{IsReading, HasValue, read_heap, read_value}
use Rattle.prototype_walk.specs.Answers.{Means}
use Rattle.es_meaning.specs.Functions.{bound_behind}
use Rattle.flow_meaning.specs.Requested as requested
use Rattle.flow_meaning.specs.Requested.{aim_of, own_aim}
use Rattle.step_calling.specs.declared.bound_target.BoundTarget.{BoundTarget}

-- what a bound function itself calls
abbrev pub bound_in : {T : Type 0} → Inner T → Option (BoundTarget T)
bound_in (Bound target label this args) = Some (record { function = target; label = label; this = this; args = args })
bound_in Plain = None
bound_in (Script function env) = None
bound_in (Native which) = None

-- whether it is one
abbrev pub holds_target : {T : Type 0} → Inner T → Bool
holds_target (Bound target label this args) = true
holds_target Plain = false
holds_target (Script function env) = false
holds_target (Native which) = false

-- an object whose inner part is bound, or isn't
pub record StandsBound {T : Type 0} (heap : List (Object T)) (i : ℕ) (b : Option (BoundTarget T)) : Type 0 where
  pub object : Object T
  pub here : slice_get heap i ≡ Some object
  pub is : bound_in object.inner ≡ b

pub record HasBoundTarget {T : Type 0} (made : T → Type 0) (a : BoundTarget T) : Type 0 where
  pub label : made a.label
  pub this : HasValue made a.this
  pub args : All (HasValue made) a.args

-- an aim in a reading of the labels, and with what its function comes to
abbrev pub read_bound_target : {T : Type 0} → (T → Label) → BoundTarget T → requested.Aim
read_bound_target reading a = record { target = record { function = a.function.0; this = Some (read_value reading a.this); args = map (read_value reading) a.args }; label = reading a.label }

abbrev pub beyond : {T : Type 0} → (T → Label) → BoundTarget T → requested.Aim → requested.Aim
beyond reading a rest = record { target = bound_behind (read_value reading a.this) (map (read_value reading) a.args) rest.target; label = union (reading a.label) rest.label }

-- what an object comes to that isn't bound: itself
abbrev pub ComesToItself : {T : Type 0} → List (Object T) → ℕ → Type 0
ComesToItself heap o = (reading : _ → Label) → aim_of (read_heap reading heap) o ≡ own_aim o

module _ {S T : Type 0} (made : S → T → Type 0) (meaning : S → T → Label) (store : S) where
  -- an aim with that of its function
  pub record IsBehind (a next : BoundTarget T) (joined : BoundTarget T) : Type 0 where
    pub function : joined.function ≡ next.function
    pub label : Means made meaning store joined.label (λ reading. union (reading a.label) (reading next.label))
    pub this : joined.this ≡ next.this
    pub args : joined.args ≡ next.args ++ a.args

  -- what an object comes to
  pub record IsBoundTarget (heap : List (Object T)) (o : ℕ) (a : BoundTarget T) : Type 0 where
    pub has : HasBoundTarget (made store) a
    pub is : (reading : T → Label) → IsReading made meaning store reading → aim_of (read_heap reading heap) o ≡ read_bound_target reading a

  abbrev pub ComesTo : List (Object T) → ℕ → Option (BoundTarget T) → Type 0
  ComesTo heap o None = ComesToItself heap o
  ComesTo heap o (Some a) = IsBoundTarget heap o a

-- What it means that a call reaches a function through a chain of bound ones.
use Rattle.std.specs.Prelude.{◌≡◌, ◌≤◌, ℕ, List, ◌∷◌, drop, length}
use Rattle.std.specs.List.{All}
use Rattle.origin_labels.specs.Label.{Label}
use Rattle.js_ast.specs.Functions.{FunctionCode}
use Rattle.js_values.specs.declared.ids.ObjId.{ObjId}
use Rattle.js_values.specs.declared.value.Labelled.{Labelled}
use Rattle.js_values.specs.declared.value.Value.TheVariants as value
use Rattle.js_values.specs.Objects.{Object}
use Rattle.js_values.specs.Readings.{HasValue, IsReading, read_heap}
use Rattle.es_meaning.specs.BuiltIns.{BuiltIns}
use Rattle.flow_meaning.specs.Planned.{Enters, call_by, call_value, construct_by, construct_value}
use Rattle.flow_meaning.specs.Scopes.{State}
use Rattle.flow_meaning.specs.Tracked.{callee_at}
use Rattle.continuations.specs.Kept.{Kept}
use Rattle.continuations.specs.Shapes.{nth}
use Rattle.step_calling.specs.declared.reaching.Reached.{Reached}
use Rattle.step_calling.specs.Calling.{lying}
use Rattle.step_natives.specs.Framed.{Leads}

-- a function with a label, in front of arguments
abbrev pub called_with : {T : Type 0} → ObjId → T → List (Labelled T) → List (Labelled T)
called_with o label args = record { value = value.Object o; label = label } ∷ args

module _ {S T : Type 0} (made : S → T → Type 0) (meaning : S → T → Label) (store : S) where
  -- what lies loose is laid anew, with labels of the store: so many values
  pub record IsLaid (least : ℕ) (old new : Kept T) (r : Reached T) : Type 0 where
    pub tasks : new.tasks ≡ old.tasks
    pub count : r.count ≡ length new.loose
    pub enough : least ≤ r.count
    pub label : made store r.label
    pub values : All (HasValue (made store)) old.loose → All (HasValue (made store)) new.loose

  -- the call of a function comes to that of the one that is reached
  pub record ReachesCall (heap : List (Object T)) (f : ObjId) (label : T) (old new : Kept T) (r : Reached T) : Type 0 where
    pub laid : IsLaid 2 old new r
    pub leads : Leads (drop 1 new.loose) (record { value = value.Object r.function; label = r.label })
    pub calls : (functions : List FunctionCode) (E : Enters) (s : State) (reading : T → Label) → IsReading made meaning store reading → s.heap ≡ read_heap reading heap
        → call_value functions (reading label) (value.Object f) (nth 0 (lying reading old)) (drop 2 (lying reading old)) E s
        ≡ call_by functions (callee_at functions s.heap r.function.0) (reading r.label) r.function.0 (nth 0 (lying reading new)) (drop 2 (lying reading new)) E s

  pub record ReachesConstruction (heap : List (Object T)) (f : ObjId) (label : T) (old new : Kept T) (r : Reached T) : Type 0 where
    pub laid : IsLaid 1 old new r
    pub leads : Leads new.loose (record { value = value.Object r.function; label = r.label })
    pub constructs : (set : BuiltIns) (functions : List FunctionCode) (E : Enters) (s : State) (reading : T → Label) → IsReading made meaning store reading → s.heap ≡ read_heap reading heap
        → construct_value set functions (reading label) (value.Object f) (drop 1 (lying reading old)) E s
        ≡ construct_by set functions (callee_at functions s.heap r.function.0) (reading r.label) r.function.0 (drop 1 (lying reading new)) E s

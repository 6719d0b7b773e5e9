-- What it means that a name was given a number in one step.
use Rattle.std.specs.Prelude.{◌≡◌, ◌<◌, ◌&&◌, ℕ, suc, ℤ, pos, Bool, true, false, List, map, Option, Some, None, option_map, is_some, slice_get, if◌then◌else◌}
use Rattle.origin_labels.specs.Label.{Label, union, within}
use Rattle.flow_frames.specs.Frames.{context}
use Rattle.flow_frames.specs.Held.{seen_frame}
use Rattle.flow_policy.specs.Policies.{Tables}
use Rattle.flow_policy.specs.Inputs.{Given}
use Rattle.js_ast.specs.Functions.{FunctionCode}
use Rattle.es_meaning.specs.BuiltIns.{BuiltIns}
use Rattle.js_ast.specs.Trees as trees
use Rattle.js_ast.specs.Trees.{Expr, Statement}
use Rattle.js_ast.specs.declared.operators.BinaryOperator.{BinaryOperator}
use Rattle.js_values.specs.declared.value.Labelled.{Labelled}
use Rattle.js_values.specs.declared.value.Value.{Value}
use Rattle.js_values.specs.Records.{Binding, bound_in, lookup}
use Rattle.js_values.specs.Readings.{HasValue, IsReading, read_heap, read_records, read_value}
use Rattle.es_meaning.specs.Environments.{Env}
use Rattle.es_meaning.specs.Evaluation.{operator_of}
use Rattle.es_meaning.specs.Outcomes.{Goes}
use Rattle.es_meaning.specs.Plain.{undefined, Place, on_global}
use Rattle.flow_meaning.specs.Erased.{unlabelled}
use Rattle.flow_meaning.specs.Scopes.{LabelledLine}
use Rattle.flow_meaning.specs.Planned.{a_stmt, an_expr, meaning}
use Rattle.js_values.specs.declared.inner.Class.{Class}
use Rattle.js_values.specs.declared.inner.Class.TheVariants as class
use Rattle.js_values.specs.declared.property.Body.{Body}
use Rattle.js_values.specs.declared.property.Body.TheVariants.{Data, Accessor}
use Rattle.js_values.specs.declared.property.Slot.{Slot}
use Rattle.js_values.specs.Objects.{Object}
use Rattle.object_heap.specs.Formed.{own_in}
use Rattle.flow_meaning.specs.Tracked.{is_put, put_named, put_value, resolved}
use Rattle.run_state.specs.declared.world.World.{World}
use Rattle.run_state.specs.Worlds.{Belongs, Grows, state_of}
use Rattle.continuations.specs.Shapes.{step_of}
use Rattle.step_numbers.specs.Evaluated.{Left, and_left, combined_of, global_in, left_with, name_number, number_at, without_memory}

-- in the record with this number an expression comes to a value, with so many turns before it and so many behind it, and leaves another world: in each
-- reading that agrees with the store, whatever was printed
pub record Gives {S T : Type 0} (made : S → T → Type 0) (meaning_of : S → T → Label) (store : S) (e : Expr) (at : ℕ) (old new : World T) (turns : ℕ) (v : Labelled T) (left : ℕ) : Type 0 where
  pub comes : (tables : Tables) (inputs : Given) (set : BuiltIns) (functions : List FunctionCode) (reading : T → Label) (told : List LabelledLine) → IsReading made meaning_of store reading
      → meaning tables inputs set functions (an_expr e at) (state_of reading old told turns) ≡ Goes (read_value reading v) (state_of reading new told left)
  pub labelled : HasValue (made store) v
  pub fewer : left < turns

-- a statement comes to its end
pub record Finishes {S T : Type 0} (made : S → T → Type 0) (meaning_of : S → T → Label) (store : S) (s : Statement) (at : ℕ) (old new : World T) (turns : ℕ) (left : ℕ) : Type 0 where
  pub comes : (tables : Tables) (inputs : Given) (set : BuiltIns) (functions : List FunctionCode) (e : Env ℕ) (reading : T → Label) (told : List LabelledLine) → e.place ≡ at → IsReading made meaning_of store reading
      → meaning tables inputs set functions (a_stmt s e) (state_of reading old told turns) ≡ Goes (unlabelled undefined) (state_of reading new told left)
  pub fewer : left < turns

-- in each reading that agrees with the store, whatever was printed and however many turns are left, the name at a place is given the value, whatever the
-- walk to it was, and so is the name that is looked for from this record on
pub record PutsAt {S T : Type 0} (made : S → T → Type 0) (meaning_of : S → T → Label) (store : S) (place : Place) (name : List ℕ) (v : Labelled T) (old new : World T) : Type 0 where
  pub goes : (reading : T → Label) (told : List LabelledLine) (turns : ℕ) (walk : Label) → IsReading made meaning_of store reading
      → put_named place walk name (read_value reading v) (state_of reading old told turns) ≡ Goes is_put (state_of reading new told turns)

pub record Puts {S T : Type 0} (made : S → T → Type 0) (meaning_of : S → T → Label) (store : S) (at : ℕ) (name : List ℕ) (v : Labelled T) (old new : World T) : Type 0 where
  pub goes : (reading : T → Label) (told : List LabelledLine) (turns : ℕ) → IsReading made meaning_of store reading
      → put_value (resolved (read_records reading old.records) (read_heap reading old.heap) at name) (read_value reading v) (state_of reading old told turns) ≡ Goes is_put (state_of reading new told turns)

-- ---- the label of the existence of the global object's own property with a name, if its value can be written over; elements of arrays have rules of their own

abbrev pub is_array : Class → Bool
is_array class.Array = true
is_array _ = false

abbrev pub array_in : {T : Type 0} → Option (Object T) → Bool
array_in (Some p) = is_array p.class
array_in None = false

abbrev pub if_data : {T : Type 0} → Body → T → Option T
if_data (Data v) existence = Some existence
if_data (Accessor get set) existence = None

abbrev pub slot_written : {T : Type 0} → Slot T → Option T
slot_written s = if s.marks.writable then if_data s.body s.existence else None

abbrev pub slot_there : {T : Type 0} → Option (Slot T) → Option T
slot_there (Some s) = slot_written s
slot_there None = None

abbrev pub written_in : {T : Type 0} → List ℕ → Option (Object T) → Option T
written_in name p = if array_in p then None else slot_there (own_in name p)

-- nothing but the values of names changed
pub record Rebinds {S T : Type 0} (made : S → T → Type 0) (meaning_of : S → T → Label) (store : S) (old new : World T) : Type 0 where
  pub belongs : Belongs made meaning_of store new
  pub frames : new.frames ≡ old.frames
  pub grows : Grows old new

-- ---- what it is that is assigned at once, where the labels are read so

-- the name that an expression is
abbrev pub name_in : Expr → Option (List ℕ)
name_in (trees.name place text) = Some text
name_in _ = None

module _ {T : Type 0} (reading : T → Label) where
  -- a binding can be changed, and its label includes the context (rule W1)
  abbrev pub changes_binding : Label → Option (Binding (Labelled T)) → Bool
  changes_binding around (Some b) = b.mutable && within around (reading b.value.label)
  changes_binding around None = false

  -- the same of a property, with the label of its existence on both sides
  abbrev pub covers : Label → Option (Slot T) → Bool
  covers around (Some s) = within (union around (reading s.existence)) (union (reading s.label) (reading s.existence))
  covers around None = false

  abbrev pub changes_global : Label → List ℕ → Option (Object T) → Bool
  changes_global around text p = is_some (written_in text p) && covers around (own_in text p)

  -- what decides that the run is where it is
  abbrev pub context_of : World T → Label
  context_of w = context (map (seen_frame reading) w.frames.frames)

  -- the name can be given a value: in the record that binds it, or else as the global object's own property
  abbrev pub changes_at : World T → Option ℕ → List ℕ → Bool
  changes_at w (Some i) text = changes_binding (context_of w) (bound_in text (slice_get w.records i))
  changes_at w None text = changes_global (context_of w) text (global_in w.heap)

  abbrev pub changes : World T → ℕ → List ℕ → Bool
  changes w at text = changes_at w (lookup text w.records at) text

  -- what is given at once, behind a right side that was evaluated: a value that is no text, to a name of the global object
  abbrev pub puts_at_once : World T → Place → List ℕ → Value → Bool
  puts_at_once w on_global text v = is_some (without_memory v) && changes_global (context_of w) text (global_in w.heap)
  puts_at_once w _ text v = false

  -- what is assigned to must be a name, and one that can be given a value
  abbrev pub if_changes : World T → ℕ → Option (List ℕ) → (List ℕ → Left ℤ) → Left ℤ
  if_changes w at (Some text) gives = if changes w at text then gives text else None
  if_changes w at None gives = None

module _ {T : Type 0} (w : World T) (at : ℕ) where
  abbrev pub number_of_name : List ℕ → ℕ → Left ℤ
  number_of_name text turns = left_with (name_number w.records w.heap at text) turns

  abbrev pub number_of : Expr → ℕ → Left ℤ
  number_of e turns = number_at w.records w.heap at 8 e turns

  -- the number that a name is given: what an expression comes to, or what an operator makes of the name's number and of that
  abbrev pub given_by : Option BinaryOperator → Expr → ℕ → List ℕ → Left ℤ
  given_by None e turns text = number_of e turns
  given_by (Some o) e turns text = and_left (number_of_name text turns) (λ m t. and_left (number_of e t) (λ n u. left_with (combined_of o m n) u))

  -- the name's number, if it can be changed by one
  abbrev pub counted_by : BinaryOperator → ℕ → List ℕ → Left ℤ
  counted_by o turns text = and_left (number_of_name text turns) (λ m t. left_with (option_map (λ more. m) (combined_of o m (pos 1))) t)

module _ {T : Type 0} (reading : T → Label) (w : World T) (at : ℕ) where
  abbrev pub assigned_step : Expr → ℕ → Left ℤ
  assigned_step (trees.assign place target o e) turns = if_changes reading w at (name_in target) (given_by w at (operator_of o) e turns)
  assigned_step (trees.postfix place target o) turns = if_changes reading w at (name_in target) (counted_by w at (step_of o) turns)
  assigned_step _ turns = None

  -- to enter the expression costs a turn, and so does its target
  abbrev pub assigned_at : Expr → ℕ → Left ℤ
  assigned_at e (suc (suc turns)) = assigned_step e turns
  assigned_at e _ = None

  -- a statement that is such an expression
  abbrev pub finished_at : Statement → ℕ → Option ℕ
  finished_at (trees.expression place e semi) (suc turns) = option_map (λ x. x.1) (assigned_at e turns)
  finished_at _ _ = None

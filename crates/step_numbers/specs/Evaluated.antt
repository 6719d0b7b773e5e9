-- What it means that an expression was evaluated in one step.
use Rattle.std.specs.Prelude.{◌≡◌, ◌<◌, ℕ, zero, suc, ℤ, ◌+ℤ◌, ◌-ℤ◌, ◌*ℤ◌, int_lt, Bool, true, false, not, List, Option, Some, None, Result, Ok, Err, option_map, slice_get, if◌then◌else◌}
use Rattle.std.specs.Ordering.{int_eq}
use Rattle.origin_labels.specs.Label.{Label}
use Rattle.flow_policy.specs.Policies.{Tables}
use Rattle.flow_policy.specs.Inputs.{Given}
use Rattle.js_ast.specs.Functions.{FunctionCode}
use Rattle.es_meaning.specs.BuiltIns.{BuiltIns}
use Rattle.js_ast.specs.declared.operators.BinaryOperator.{BinaryOperator}
use Rattle.js_ast.specs.declared.operators.BinaryOperator.TheVariants as binary_operator
use Rattle.js_ast.specs.Trees.{Expr, name, number as number_expr, paren, binary}
use Rattle.js_number.specs.declared.int.LeftNumbers.{LeftNumbers}
use Rattle.js_number.specs.declared.primitive.Primitive.{Primitive}
use Rattle.js_number.specs.declared.num.Num.{Num as Number}
use Rattle.js_number.specs.declared.num.Num.TheVariants.{Nan, Int}
use Rattle.js_number.specs.declared.primitive.Primitive.TheVariants.{Num}
use Rattle.js_number.specs.declared.primitive.Primitive.TheVariants as prims
use Rattle.js_number.specs.Number.{number, some_number}
use Rattle.js_number.specs.Arithmetic.{remainder}
use Rattle.js_values.specs.declared.value.Labelled.{Labelled}
use Rattle.js_values.specs.declared.value.Value.{Value}
use Rattle.js_values.specs.declared.value.Value.TheVariants as value
use Rattle.js_values.specs.Records.{Record, bound_in, lookup}
use Rattle.js_values.specs.declared.property.Body.{Body}
use Rattle.js_values.specs.declared.property.Body.TheVariants.{Data, Accessor}
use Rattle.js_values.specs.declared.property.Slot.{Slot}
use Rattle.js_values.specs.Objects.{Object}
use Rattle.object_heap.specs.Formed.{own_in}
use Rattle.js_values.specs.Readings.{HasValue, IsReading, read_value}
use Rattle.es_meaning.specs.Outcomes.{Goes}
use Rattle.es_meaning.specs.Start.{global_object}
use Rattle.flow_meaning.specs.Scopes.{LabelledLine}
use Rattle.flow_meaning.specs.Planned.{an_expr, meaning}
use Rattle.run_state.specs.declared.world.World.{World}
use Rattle.run_state.specs.Worlds.{state_of}

-- the operators that compare two numbers
abbrev pub compares : BinaryOperator → Bool
compares binary_operator.Less = true
compares binary_operator.Greater = true
compares binary_operator.LessEqual = true
compares binary_operator.GreaterEqual = true
compares binary_operator.Equal = true
compares binary_operator.NotEqual = true
compares binary_operator.StrictEqual = true
compares binary_operator.StrictNotEqual = true
compares _ = false

-- the arithmetic that gives a number of two
abbrev pub combines : BinaryOperator → Bool
combines binary_operator.Add = true
combines binary_operator.Subtract = true
combines binary_operator.Multiply = true
combines binary_operator.Remainder = true
combines _ = false

-- ---- what it is that an expression is evaluated at once

-- what arithmetic gives of two numbers, where that is a number of the profile
abbrev pub in_numbers : Result Number LeftNumbers → Option ℤ
in_numbers (Ok (Int n)) = Some n
in_numbers (Ok Nan) = None
in_numbers (Err e) = None

abbrev pub combined_of : BinaryOperator → ℤ → ℤ → Option ℤ
combined_of binary_operator.Add m n = in_numbers (number (m +ℤ n))
combined_of binary_operator.Subtract m n = in_numbers (number (m -ℤ n))
combined_of binary_operator.Multiply m n = in_numbers (number (m *ℤ n))
combined_of binary_operator.Remainder m n = in_numbers (some_number (remainder m n))
combined_of _ m n = None

-- what a comparison says of two numbers
abbrev pub compared_of : BinaryOperator → ℤ → ℤ → Option Bool
compared_of binary_operator.Less m n = Some (int_lt m n)
compared_of binary_operator.Greater m n = Some (int_lt n m)
compared_of binary_operator.LessEqual m n = Some (not (int_lt n m))
compared_of binary_operator.GreaterEqual m n = Some (not (int_lt m n))
compared_of binary_operator.Equal m n = Some (int_eq m n)
compared_of binary_operator.NotEqual m n = Some (not (int_eq m n))
compared_of binary_operator.StrictEqual m n = Some (int_eq m n)
compared_of binary_operator.StrictNotEqual m n = Some (not (int_eq m n))
compared_of _ m n = None

-- what may be evaluated at once, by what it is
abbrev pub is_tried : Expr → Bool
is_tried (name place text) = true
is_tried (number_expr place n) = true
is_tried (paren place e) = true
is_tried (binary place l o r) = true
is_tried _ = false

-- a result, and the turns that are left
abbrev pub Left : Type 0 → Type 0
Left X = Option (X × ℕ)

abbrev pub and_left : {X Y : Type 0} → Left X → (X → ℕ → Left Y) → Left Y
and_left (Some x) next = next x.0 x.1
and_left None next = None

abbrev pub left_with : {X : Type 0} → Option X → ℕ → Left X
left_with x turns = option_map (λ y. (y, turns)) x

-- an integer as a primitive value
abbrev pub integer : ℤ → Primitive
integer n = Num (Int n)

-- the integer that a name has
abbrev pub number_in : Value → Option ℤ
number_in (value.Primitive (Num (Int n))) = Some n
number_in _ = None

-- what a value is, if it is there, and what a property of the global object holds
abbrev pub number_of_value : {T : Type 0} → Option (Labelled T) → Option ℤ
number_of_value (Some v) = number_in v.value
number_of_value None = None

abbrev pub number_of_body : Body → Option ℤ
number_of_body (Data v) = number_in v
number_of_body (Accessor get set) = None

abbrev pub number_held : {T : Type 0} → Option (Slot T) → Option ℤ
number_held (Some s) = number_of_body s.body
number_held None = None

-- the global object
abbrev pub global_in : {T : Type 0} → List (Object T) → Option (Object T)
global_in heap = slice_get heap global_object.0

-- the number that a name has: in the record that binds it, or else as the global object's own property
abbrev pub number_at_place : {T : Type 0} → Option ℕ → List (Record (Labelled T)) → List (Object T) → List ℕ → Option ℤ
number_at_place (Some i) records heap text = number_of_value (option_map (λ b. b.value) (bound_in text (slice_get records i)))
number_at_place None records heap text = number_held (own_in text (global_in heap))

abbrev pub name_number : {T : Type 0} → List (Record (Labelled T)) → List (Object T) → ℕ → List ℕ → Option ℤ
name_number records heap at text = number_at_place (lookup text records at) records heap text

-- ---- any value that a name has

-- a copy of a text may want memory, and of no other value
abbrev pub without_memory : Value → Option Value
without_memory (value.Primitive (prims.Str text)) = None
without_memory v = Some v

abbrev pub value_of : {T : Type 0} → Option (Labelled T) → Option Value
value_of (Some v) = without_memory v.value
value_of None = None

abbrev pub value_of_body : Body → Option Value
value_of_body (Data v) = without_memory v
value_of_body (Accessor get set) = None

abbrev pub value_held : {T : Type 0} → Option (Slot T) → Option Value
value_held (Some s) = value_of_body s.body
value_held None = None

abbrev pub value_at_place : {T : Type 0} → Option ℕ → List (Record (Labelled T)) → List (Object T) → List ℕ → Option Value
value_at_place (Some i) records heap text = value_of (option_map (λ b. b.value) (bound_in text (slice_get records i)))
value_at_place None records heap text = value_held (own_in text (global_in heap))

-- the value that a name has, if it is no text: in the record that binds it, or else as the global object's own property
abbrev pub name_value : {T : Type 0} → List (Record (Labelled T)) → List (Object T) → ℕ → List ℕ → Option Value
name_value records heap at text = value_at_place (lookup text records at) records heap text

-- two numbers, and then what is made of them
abbrev pub of_both : {X : Type 0} → (Expr → ℕ → Left ℤ) → Expr → Expr → (ℤ → ℤ → Option X) → ℕ → Left X
of_both parts l r make turns = and_left (parts l turns) (λ m t. and_left (parts r t) (λ n u. left_with (make m n) u))

module _ {T : Type 0} (records : List (Record (Labelled T))) (heap : List (Object T)) (at : ℕ) where
  -- a name, a number, parentheses, or arithmetic; to enter it costs a turn
  abbrev pub number_step : (Expr → ℕ → Left ℤ) → Expr → ℕ → Left ℤ
  number_step parts (name place text) turns = left_with (name_number records heap at text) turns
  number_step parts (number_expr place n) turns = Some (n, turns)
  number_step parts (paren place e) turns = parts e turns
  number_step parts (binary place l o r) turns = if combines o then of_both parts l r (combined_of o) turns else None
  number_step parts _ turns = None

  -- so many levels at most
  unfoldable pub number_at : ℕ → Expr → ℕ → Left ℤ
  number_at zero e turns = None
  number_at (suc d) e zero = None
  number_at (suc d) e (suc turns) = number_step (number_at d) e turns

  -- or a comparison of two such
  abbrev pub truth_at : ℕ → BinaryOperator → Expr → Expr → ℕ → Left Bool
  truth_at d o l r zero = None
  truth_at d o l r (suc turns) = of_both (number_at d) l r (compared_of o) turns

  abbrev pub as_value : {X : Type 0} → (X → Primitive) → Left X → Left Value
  as_value make x = option_map (λ y. (value.Primitive (make y.0), y.1)) x

  -- or a name; to enter it costs a turn
  abbrev pub named_at : List ℕ → ℕ → Left Value
  named_at text zero = None
  named_at text (suc turns) = left_with (name_value records heap at text) turns

  abbrev pub value_at : ℕ → Expr → ℕ → Left Value
  value_at d (name place text) turns = named_at text turns
  value_at d (binary place l o r) turns = if compares o then as_value prims.Bool (truth_at d o l r turns) else as_value integer (number_at d (binary place l o r) turns)
  value_at d e turns = as_value integer (number_at d e turns)

-- ---- what it comes to

-- in the record with this number an expression comes to a value, with so many turns before it and so many behind it, and the run goes on in the same
-- state: in each reading that agrees with the store, whatever was printed
pub record Evaluates {S T : Type 0} (made : S → T → Type 0) (meaning_of : S → T → Label) (store : S) (e : Expr) (at : ℕ) (w : World T) (turns : ℕ) (v : Labelled T) (left : ℕ) : Type 0 where
  pub comes : (tables : Tables) (inputs : Given) (set : BuiltIns) (functions : List FunctionCode) (reading : T → Label) (told : List LabelledLine) → IsReading made meaning_of store reading
      → meaning tables inputs set functions (an_expr e at) (state_of reading w told turns) ≡ Goes (read_value reading v) (state_of reading w told left)
  pub labelled : HasValue (made store) v
  pub fewer : left < turns

-- a number with a label
abbrev pub labelled_number : {T : Type 0} → ℤ → T → Labelled T
labelled_number n label = record { value = value.Primitive (Num (Int n)); label = label }

-- An operator that has no operand converted takes both as they are: the labels are joined to the same, and a number as a number is itself.
use Rattle.std.proofs.Common.{◌≡◌, refl, sym, ap, ◌∙◌, ℤ, Bool, true, false, ◌&&◌, List, Option, Some, None, Result, Ok, Err}
use Rattle.std.specs.List.{slice_get}
use Rattle.std.specs.Option.{option_map}
use Rattle.std.proofs.lemmas.Bool.{true≢false, or_parts}
use Rattle.std.proofs.lemmas.Option.{slice_get-map}
use Rattle.origin_labels.specs.Label.{Label, IsLabel, union}
use Rattle.origin_labels.proofs.LabelLaws.{IsLabel-union, union-assoc, union-comm, union-same}
use Rattle.flow_policy.specs.Policies.{Tables}
use Rattle.flow_policy.specs.Inputs as inputs
use Rattle.js_ast.specs.Functions.{FunctionCode}
use Rattle.js_ast.specs.declared.operators.UnaryOperator.{UnaryOperator}
use Rattle.js_ast.specs.declared.operators.BinaryOperator.{BinaryOperator}
use Rattle.js_ast.specs.declared.operators.BinaryOperator.TheVariants as binary_operator
use Rattle.js_number.specs.declared.int.LeftNumbers.{LeftNumbers}
use Rattle.js_number.specs.declared.primitive.Primitive.{Primitive}
use Rattle.js_number.specs.declared.primitive.Primitive.TheVariants.{Num}
use Rattle.js_number.specs.Conversions.{number_of}
use Rattle.js_number.specs.declared.num.Num.{Num as Number}
use Rattle.js_number.specs.declared.num.Num.TheVariants.{Int}
use Rattle.js_number.specs.Number.{integer_of}
use Rattle.js_number.specs.Arithmetic.{subtracted, multiplied, divided, remainder_of}
use Rattle.js_number.specs.Bits.{shifted_left, shifted_right, shifted_with_zeros, and_of, xor_of, or_of}
use Rattle.js_values.specs.declared.value.Value.{Value}
use Rattle.js_values.specs.declared.value.Value.TheVariants as value
use Rattle.js_values.specs.Objects.{Object}
use Rattle.js_values.specs.Readings.{read_heap, read_object}
use Rattle.native_protocol.specs.declared.hint.Hint.{Hint}
use Rattle.native_protocol.specs.declared.hint.Hint.TheVariants as hint
use Rattle.native_protocol.specs.declared.request.Seen.TheVariants as seen_as
use Rattle.es_meaning.specs.BuiltIns.{BuiltIns}
use Rattle.es_meaning.specs.Operations as operations
use Rattle.es_meaning.specs.Operators.{as_number, both, of_numbers, unary_of, binary_of, binary_of_primitives, converts_beside, is_object, leaves_numbers}
use Rattle.es_meaning.specs.Evaluation as es
use Rattle.es_meaning.specs.Evaluation.{binary_by, binary_done, binary_values, compared_left, conversion_of, number_left, primitive_left, takes_number, unary_by, unary_done, unary_value}
use Rattle.es_meaning.specs.Plain.{seen_of}
use Rattle.flow_meaning.specs.Scopes.{State, Val, joined}
use Rattle.flow_meaning.specs.Tracked.{given, labelled, seen}
use Rattle.flow_meaning.specs.Planned.{gave, Enters, Then, and_plan, as_plan, convert_by, planned, with_result}
use Rattle.step_values.specs.Converted.{converts_by, takes_key, value_seen, OperandAsItIs, OperandsAsTheyAre}

-- ---- what can be asked of a value doesn't depend on the reading of labels

class_read : {T : Type 0} (reading : T → Label) (p : Option (Object T)) → seen_of (λ q. seen_as.Object q.class) (option_map (read_object reading) p) ≡ seen_of (λ q. seen_as.Object q.class) p
class_read reading None = refl
class_read reading (Some p) = refl

pub seen_read : {T : Type 0} (reading : T → Label) (heap : List (Object T)) (v : Value) → seen (read_heap reading heap) v ≡ value_seen heap v
unfolding seen
seen_read reading heap (value.Primitive v) = refl
seen_read reading heap (value.Object i) = ap (seen_of (λ q. seen_as.Object q.class)) (slice_get-map (read_object reading) heap i.0) ∙ class_read reading (slice_get heap i.0)

-- ---- labels that are joined twice

-- beside the other operand of `==`
other_once : (a b : Label) → IsLabel a → IsLabel b → union b (union a b) ≡ union a b
other_once a b is_a is_b =
    ap (union b) (union-comm a b is_a is_b)
    ∙ sym (union-assoc b b a is_a) ∙ ap (λ l. union l a) (union-same b is_b)
    ∙ union-comm b a is_b is_a

-- ---- a number as a number

abbrev act_on_bits : (ℤ → ℤ → ℤ) → (Number → Number → Result Number LeftNumbers)
act_on_bits f = λ m n. Ok (Int (f (integer_of m) (integer_of n)))

-- what the operators do with two numbers
abbrev number_act : BinaryOperator → (Number → Number → Result Number LeftNumbers)
number_act binary_operator.Multiply = multiplied
number_act binary_operator.Divide = divided
number_act binary_operator.Remainder = remainder_of
number_act binary_operator.Subtract = subtracted
number_act binary_operator.ShiftLeft = act_on_bits shifted_left
number_act binary_operator.ShiftRight = act_on_bits shifted_right
number_act binary_operator.ShiftRightZero = act_on_bits shifted_with_zeros
number_act binary_operator.BitAnd = act_on_bits and_of
number_act binary_operator.BitXor = act_on_bits xor_of
number_act binary_operator.BitOr = act_on_bits or_of
number_act _ = λ m n. Err (record {})

by_numbers : (o : BinaryOperator) (v u : Primitive) → conversion_of o ≡ es.numbers → binary_of_primitives o v u ≡ of_numbers (number_act o) v u
by_numbers binary_operator.Multiply v u k = refl
by_numbers binary_operator.Divide v u k = refl
by_numbers binary_operator.Remainder v u k = refl
by_numbers binary_operator.Subtract v u k = refl
by_numbers binary_operator.ShiftLeft v u k = refl
by_numbers binary_operator.ShiftRight v u k = refl
by_numbers binary_operator.ShiftRightZero v u k = refl
by_numbers binary_operator.BitAnd v u k = refl
by_numbers binary_operator.BitXor v u k = refl
by_numbers binary_operator.BitOr v u k = refl
by_numbers _ v u k = absurd cc k

-- behind the left operand as a number
module _ (o : BinaryOperator) (v u : Primitive) (numbers : conversion_of o ≡ es.numbers) where
  left_again : (n : Number) → number_of v ≡ Ok n → binary_of_primitives o (Num n) u ≡ binary_of_primitives o v u
  left_again n is = by_numbers o (Num n) u numbers ∙ ap (λ m. both (number_act o) m (number_of u)) (sym is) ∙ sym (by_numbers o v u numbers)

  left_leaves : (e : LeftNumbers) → number_of v ≡ Err e → binary_of_primitives o v u ≡ Err leaves_numbers
  left_leaves e is = by_numbers o v u numbers ∙ ap (λ m. both (number_act o) m (number_of u)) is

-- ---- the plans

module _ (tables : Tables) (inputs : inputs.Given) (set : BuiltIns) (functions : List FunctionCode) (E : Enters) where
  abbrev P : operations.Ops
  P = planned tables inputs set functions

  abbrev T : operations.Ops
  T = labelled tables inputs set functions

  -- what isn't converted is given as it is
  unconverted_then : (test : Bool) (h : Hint) (label : Label) (v given : Val) (next : Then) (s : State) → test ≡ false → and_plan (convert_by test E h label v given s) next ≡ next (gave given) s
  unfolding convert_by
  unconverted_then true h label v given next s is = absurd (true≢false is)
  unconverted_then false h label v given next s is = refl

  -- ---- an operator in front of a value

  unary_by_as : (number : Bool) (o : UnaryOperator) (v : Val) (s : State) → (number && is_object v.value) ≡ false → unary_by P E number o v s ≡ as_plan operations.Value (T.unary o v s)
  unfolding unary_done
  unary_by_as true o v s test = unconverted_then (is_object v.value) hint.Number v.label v v (with_result operations.Value (unary_done P o)) s test
  unary_by_as false o v s test = refl

  -- ---- an operator between two values

  -- behind the left operand as a number
  behind_number : (o : BinaryOperator) (p q : Primitive) (a b : Label) (s : State) (r : Result Number LeftNumbers) → number_of p ≡ r → conversion_of o ≡ es.numbers
      → and_plan (as_plan operations.Value (given a (as_number r) s)) (with_result operations.Value (primitive_left P E hint.Number o (record { value = value.Primitive q; label = b })))
      ≡ as_plan operations.Value (given (union a b) (binary_of o (value.Primitive p) (value.Primitive q)) s)
  unfolding given primitive_left binary_done binary_of
  behind_number o p q a b s (Ok n) is k =
      unconverted_then false hint.Number b (record { value = value.Primitive q; label = b }) (record { value = value.Primitive q; label = b }) (with_result operations.Value (binary_done P o (record { value = value.Primitive (Num n); label = a }))) s refl
      ∙ ap (λ g. as_plan operations.Value (given (union a b) g s)) (left_again o p q k n is)
  behind_number o p q a b s (Err e) is k = sym (ap (λ g. as_plan operations.Value (given (union a b) g s)) (left_leaves o p q k e is))

  numbers_as : (o : BinaryOperator) (v w : Value) (a b : Label) (s : State) → conversion_of o ≡ es.numbers → is_object v ≡ false → is_object w ≡ false
      → number_left P E o (record { value = w; label = b }) (record { value = v; label = a }) s ≡ as_plan operations.Value (given (union a b) (binary_of o v w) s)
  unfolding number_left seen unary_of
  numbers_as o (value.Object i) w a b s k left right = absurd (true≢false left)
  numbers_as o (value.Primitive p) (value.Object i) a b s k left right = absurd (true≢false right)
  numbers_as o (value.Primitive p) (value.Primitive q) a b s k left right = behind_number o p q a b s (number_of p) refl k

  binary_by_as : (k : es.Conversion) (o : BinaryOperator) (v u : Val) (s : State) → conversion_of o ≡ k → IsLabel v.label → IsLabel u.label → takes_key k ≡ false → converts_by k v.value u.value ≡ false
      → binary_by P E k o v u s ≡ as_plan operations.Value (T.binary o v u s)
  unfolding compared_left primitive_left binary_done
  binary_by_as es.unconverted o v u s is left right keyed test = refl
  binary_by_as es.compared o v u s is left right keyed test =
      let tests = or_parts (converts_beside v.value u.value) (converts_beside u.value v.value) test in
      let both_labels = union v.label u.label in
      let first = joined u.label v in
      unconverted_then (converts_beside v.value u.value) hint.Default both_labels v first (with_result operations.Value (compared_left P E o u)) s tests.0
      ∙ unconverted_then (converts_beside u.value v.value) hint.Default (union u.label first.label) u (joined first.label u) (with_result operations.Value (binary_done P o first)) s tests.1
      ∙ ap (λ l. as_plan operations.Value (given l (binary_of o v.value u.value) s))
      (ap (union both_labels) (other_once v.label u.label left right) ∙ union-same both_labels (IsLabel-union v.label u.label right))
  binary_by_as (es.primitives h) o v u s is left right keyed test =
      let tests = or_parts (is_object v.value) (is_object u.value) test in
      unconverted_then (is_object v.value) h v.label v v (with_result operations.Value (primitive_left P E h o u)) s tests.0
      ∙ unconverted_then (is_object u.value) h u.label u u (with_result operations.Value (binary_done P o v)) s tests.1
  binary_by_as es.numbers o v u s is left right keyed test =
      let tests = or_parts (is_object v.value) (is_object u.value) test in
      unconverted_then (is_object v.value) hint.Number v.label v v (with_result operations.Value (number_left P E o u)) s tests.0
      ∙ numbers_as o v.value u.value v.label u.label s is tests.0 tests.1
  binary_by_as es.keyed o v u s is left right keyed test = absurd (true≢false keyed)

pub operand_as_it_is : OperandAsItIs
unfolding unary_value
operand_as_it_is tables inputs set functions E o v s label test = unary_by_as tables inputs set functions E (takes_number o) o v s test

pub operands_as_they_are : OperandsAsTheyAre
unfolding binary_values
operands_as_they_are tables inputs set functions E o v u s left right keyed test = binary_by_as tables inputs set functions E (conversion_of o) o v u s refl left right keyed test

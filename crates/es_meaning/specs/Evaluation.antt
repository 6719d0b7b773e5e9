-- The evaluator, node by node (ECMA-262 11 and 12). What is done with the value of a part stands under a name of its own.
use Rattle.std.specs.Prelude.{ℕ, zero, suc, ◌-◌, Bool, true, false, List, [], ◌∷◌, ◌++◌, length, map, pos, Option, Some, None, codes}
use Rattle.std.specs.Option.{is_some}
use Rattle.js_number.specs.declared.num.Num.TheVariants.{Int}
use Rattle.js_number.specs.declared.primitive.Primitive.TheVariants.{Undefined, Null, Num, Str}
use Rattle.js_number.specs.declared.primitive.Primitive.TheVariants as prims
use Rattle.js_ast.specs.declared.operators.UnaryOperator.{UnaryOperator}
use Rattle.js_ast.specs.declared.operators.UnaryOperator.TheVariants as unary_operator
use Rattle.js_ast.specs.declared.operators.PostfixOperator.TheVariants as postfix_operator
use Rattle.js_ast.specs.declared.operators.BinaryOperator.{BinaryOperator}
use Rattle.js_ast.specs.declared.operators.BinaryOperator.TheVariants as binary_operator
use Rattle.js_ast.specs.declared.operators.AssignOperator.{AssignOperator}
use Rattle.js_ast.specs.declared.operators.AssignOperator.TheVariants as assign_operator
use Rattle.js_ast.specs.Keys.{key_text}
use Rattle.js_ast.specs.Trees.{Ident, Expr, name, number, string, this, null, boolean, paren, array, object, function, member, index, new_with, new_bare, call, postfix, unary, binary, conditional, assign, comma, Exprs, no_exprs, more_exprs, MaybeExpr, absent, present, Items, no_items, hole, item, Property, value, getter, setter, Properties, no_properties, more_properties, Target, target_expr, target_var, Declarations, one_declaration, more_declarations, First, first_expr, first_var, Clauses, no_clauses, case, default, Block, block_of, Statement, block, var, empty, expression, if_then, if_else, do_while, while, for, for_in, continue, break, return, throw, switch, labelled, try_catch, try_finally, try_both, debugger, function_declaration, Statements, no_statements, more_statements}
use Rattle.es_meaning.specs.Environments.{Env, Leaving, thrown, returned, left_by}
use Rattle.es_meaning.specs.Directives.{Upgrade, upgrade_of}
use Rattle.native_protocol.specs.declared.hint.Hint.{Hint}
use Rattle.native_protocol.specs.declared.hint.Hint.TheVariants as hint
use Rattle.native_protocol.specs.declared.registers.Reg.{Reg}
use Rattle.native_protocol.specs.declared.request.Answer.TheVariants as answer
use Rattle.native_protocol.specs.declared.request.ErrorKind.TheVariants as error
use Rattle.native_protocol.specs.declared.request.Request.{Request}
use Rattle.native_protocol.specs.declared.request.Request.TheVariants.{Look, Make, Copy, Same, Get, Has, Put, Delete, Own, Define, Keys, Proto, Extensible, Prevent, New, Call, Construct, Bind, ReadLine, PrintLine, Label, RaiseStructure, RaiseExistence, Return, Throw, ThrowNew, Leave}
use Rattle.native_protocol.specs.declared.request.Seen.{Seen}
use Rattle.native_protocol.specs.Steps.{Steps, conversion}
use Rattle.js_values.specs.declared.inner.Class.{Class}
use Rattle.es_meaning.specs.BuiltIns.{BuiltIns, steps_behind, begins_in}
use Rattle.es_meaning.specs.Operations.{Ty, One, Value, Res, Part, as_value, as_getter, as_setter, own_marks, own_value, own_getter, own_setter, Shape, Act, object_of, array_of, base_needed, object_needed, has_key, throws_error, own_property, own_keys, prototype_of_object, is_extensible, prevent_extensions, new_object, bind, read_line, print_line, join_label, raise_structure, raise_existence, Entering, Ops, Use, assigned, updated_by, prefixed, postfixed, asked, valued, deleted, given_text, called, Calling, calls, constructs, Round, Visit, Rec}

-- whether it is a name, also in parentheses
unfoldable pub is_name : Expr → Bool
is_name (name at text) = true
is_name (paren at e) = is_name e
is_name _ = false

-- whether it is a reference (ECMA-262 8.7), also in parentheses
unfoldable pub is_reference : Expr → Bool
is_reference (name at text) = true
is_reference (member at e text) = true
is_reference (index at e n) = true
is_reference (paren at e) = is_reference e
is_reference _ = false

-- the parts of an object literal with their keys, in their order (ECMA-262 11.1.5)
abbrev pub part_of : Property → Part × List ℕ
part_of (value at key e) = (as_value, key_text key)
part_of (getter at key f) = (as_getter, key_text key)
part_of (setter at key f) = (as_setter, key_text key)

abbrev pub parts_of : Properties → List (Part × List ℕ)
parts_of no_properties = []
parts_of (more_properties p ps) = part_of p ∷ parts_of ps

-- the numbers of the items of an array literal that are no holes, from one on; and how many items there are (ECMA-262 11.1.4)
abbrev pub places_of : ℕ → Items → List ℕ
places_of n no_items = []
places_of n (hole items) = places_of (suc n) items
places_of n (item e items) = n ∷ places_of (suc n) items

abbrev pub count_of : Items → ℕ
count_of no_items = 0
count_of (hole items) = suc (count_of items)
count_of (item e items) = suc (count_of items)

-- variables in their order
abbrev pub variable_list : Declarations → List (Ident × MaybeExpr)
variable_list (one_declaration ident init) = (ident, init) ∷ []
variable_list (more_declarations ident init ds) = (ident, init) ∷ variable_list ds

-- the labels by which a loop or a switch behind labels is left: none, or one of them (ECMA-262 12.12)
abbrev pub labels_of : List (List ℕ) → List (Option (List ℕ))
labels_of labels = None ∷ map Some labels

-- what a loop evaluates of a turn
abbrev pub round_of : List (List ℕ) → Statement → MaybeExpr → MaybeExpr → Round
round_of labels s update test = record { labels = labels_of labels; body = s; update = update; test = test }

-- a loop or a switch, also behind labels: it carries the labels
abbrev pub carries_labels : Statement → Bool
carries_labels (do_while at s e semi) = true
carries_labels (while at e s) = true
carries_labels (for at first test update s) = true
carries_labels (for_in at target e s) = true
carries_labels (switch at e cs) = true
carries_labels (labelled at text s) = carries_labels s
carries_labels _ = false

-- the text of a label, or none
abbrev pub text_of_label : Option Ident → Option (List ℕ)
text_of_label None = None
text_of_label (Some ident) = Some ident.text

-- what stands at a place of a list, or something else beyond it; and the list with something there, with the other before it where it is longer
unfoldable pub element_or : {V : Type 0} → V → ℕ → List V → V
element_or other n [] = other
element_or other zero (v ∷ vs) = v
element_or other (suc n) (v ∷ vs) = element_or other n vs

unfoldable pub with_element : {V : Type 0} → V → ℕ → V → List V → List V
with_element other zero v [] = v ∷ []
with_element other zero v (u ∷ vs) = v ∷ vs
with_element other (suc n) v [] = other ∷ with_element other n v []
with_element other (suc n) v (u ∷ vs) = u ∷ with_element other n v vs

-- how an operator between two values converts them: not at all, as `==` does, both to primitive values first, the left one to a number before
-- the right one to a primitive value, or the left one to a key where the right one is an object (ECMA-262 11.5 to 11.10)
pub data Conversion : Type 0 where
  unconverted compared numbers keyed : Conversion
  primitives : Hint → Conversion

abbrev pub conversion_of : BinaryOperator → Conversion
conversion_of binary_operator.StrictEqual = unconverted
conversion_of binary_operator.StrictNotEqual = unconverted
conversion_of binary_operator.Equal = compared
conversion_of binary_operator.NotEqual = compared
conversion_of binary_operator.Add = primitives hint.Default
conversion_of binary_operator.Less = primitives hint.Number
conversion_of binary_operator.Greater = primitives hint.Number
conversion_of binary_operator.LessEqual = primitives hint.Number
conversion_of binary_operator.GreaterEqual = primitives hint.Number
conversion_of binary_operator.Multiply = numbers
conversion_of binary_operator.Divide = numbers
conversion_of binary_operator.Remainder = numbers
conversion_of binary_operator.Subtract = numbers
conversion_of binary_operator.ShiftLeft = numbers
conversion_of binary_operator.ShiftRight = numbers
conversion_of binary_operator.ShiftRightZero = numbers
conversion_of binary_operator.BitAnd = numbers
conversion_of binary_operator.BitXor = numbers
conversion_of binary_operator.BitOr = numbers
conversion_of binary_operator.And = unconverted
conversion_of binary_operator.Or = unconverted
conversion_of binary_operator.In = keyed
conversion_of binary_operator.Instanceof = unconverted

-- whether an operator in front of a value takes it as a number (ECMA-262 11.4)
abbrev pub takes_number : UnaryOperator → Bool
takes_number unary_operator.Plus = true
takes_number unary_operator.Minus = true
takes_number unary_operator.BitNot = true
takes_number unary_operator.Delete = false
takes_number unary_operator.Void = false
takes_number unary_operator.Typeof = false
takes_number unary_operator.Increment = false
takes_number unary_operator.Decrement = false
takes_number unary_operator.Not = false

-- the operator of a compound assignment
abbrev pub operator_of : AssignOperator → Option BinaryOperator
operator_of assign_operator.Assign = None
operator_of assign_operator.Multiply = Some binary_operator.Multiply
operator_of assign_operator.Divide = Some binary_operator.Divide
operator_of assign_operator.Remainder = Some binary_operator.Remainder
operator_of assign_operator.Add = Some binary_operator.Add
operator_of assign_operator.Subtract = Some binary_operator.Subtract
operator_of assign_operator.ShiftLeft = Some binary_operator.ShiftLeft
operator_of assign_operator.ShiftRight = Some binary_operator.ShiftRight
operator_of assign_operator.ShiftRightZero = Some binary_operator.ShiftRightZero
operator_of assign_operator.BitAnd = Some binary_operator.BitAnd
operator_of assign_operator.BitXor = Some binary_operator.BitXor
operator_of assign_operator.BitOr = Some binary_operator.BitOr

-- what an assignment does with its target
abbrev pub assigned_by : Option BinaryOperator → Expr → Use
assigned_by None e = assigned e
assigned_by (Some o) e = updated_by o e

module _ (O : Ops) where
  -- ---- values

  unfoldable pub discard : Res O.V Value → O.M One
  discard v = O.ret One tt

  unfoldable pub give : O.V → Res O.V One → O.M Value
  give v u = O.ret Value v

  -- ---- operators that are applied to operands as they are

  unfoldable pub unary_done : UnaryOperator → O.V → O.M Value
  unary_done o v = O.unary o v

  unfoldable pub binary_done : BinaryOperator → O.V → O.V → O.M Value
  binary_done o v u = O.binary o v u

  -- whether an object has a key
  unfoldable pub has_left : O.V → O.V → O.M Value
  has_left u v = O.act has_key (v ∷ u ∷ [])

  module _ (R : Rec O) where
    -- ---- functions: statements in their order (ECMA-262 12.1)

    unfoldable pub statements : Statements → Env O.H → O.M One
    statements no_statements e = O.ret One tt
    statements (more_statements s ss) e = O.bind One One (R.stmt s e) (λ u. statements ss e)

    unfoldable pub more_statements_behind : Statements → Env O.H → Res O.V One → O.M One
    more_statements_behind ss e u = statements ss e

    -- what is called is entered: a body by its statements, and a built-in and the conversion of an object by their steps
    abbrev pub entering : BuiltIns → Entering O.V O.H O.M
    entering set = record {
      body = statements;
      built_in = λ which construct vs. R.native (begins_in set which (length vs - 2) construct) vs;
      conversion = λ h v. R.native (conversion h) (v ∷ []);
    }

  module _ (E : Entering O.V O.H O.M) where
    -- ---- operators (ECMA-262 11.4 to 11.11): the operands are converted in their order, and then the operator is applied

    -- the right operand of which the left one is converted
    unfoldable pub compared_left : BinaryOperator → O.V → O.V → O.M Value
    compared_left o u v = O.bind Value Value (O.comparable u v E) (binary_done o v)

    unfoldable pub primitive_left : Hint → BinaryOperator → O.V → O.V → O.M Value
    primitive_left h o u v = O.bind Value Value (O.primitive h u E) (binary_done o v)

    unfoldable pub number_left : BinaryOperator → O.V → O.V → O.M Value
    number_left o u v = O.bind Value Value (O.unary unary_operator.Plus v) (primitive_left hint.Number o u)

    unfoldable pub has_right : O.V → O.V → O.M Value
    has_right v u = O.bind Value Value (O.primitive hint.String v E) (has_left u)

    abbrev pub binary_by : Conversion → BinaryOperator → O.V → O.V → O.M Value
    binary_by unconverted o v u = O.binary o v u
    binary_by compared o v u = O.bind Value Value (O.comparable v u E) (compared_left o u)
    binary_by (primitives h) o v u = O.bind Value Value (O.primitive h v E) (primitive_left h o u)
    binary_by numbers o v u = O.bind Value Value (O.primitive hint.Number v E) (number_left o u)
    binary_by keyed o v u = O.bind Value Value (O.act object_needed (u ∷ [])) (has_right v)

    unfoldable pub binary_values : BinaryOperator → O.V → O.V → O.M Value
    binary_values o v u = binary_by (conversion_of o) o v u

    abbrev pub unary_by : Bool → UnaryOperator → O.V → O.M Value
    unary_by true o v = O.bind Value Value (O.primitive hint.Number v E) (unary_done o)
    unary_by false o v = O.unary o v

    unfoldable pub unary_value : UnaryOperator → O.V → O.M Value
    unary_value o v = unary_by (takes_number o) o v

    -- ---- assignment (ECMA-262 11.13, 8.7.2)

    -- the value is given to the reference, and is the result
    unfoldable pub assign_to : O.N → O.V → O.M Value
    assign_to n v = O.bind One Value (O.put_value n v E) (give v)

    -- the value is given to the reference, and the result is another
    unfoldable pub assign_giving : O.N → O.V → O.V → O.M Value
    assign_giving n result v = O.bind One Value (O.put_value n v E) (give result)

    -- `++` and `--` (ECMA-262 11.3, 11.4.4, 11.4.5): the old value as a number, and one more or less
    unfoldable pub postfix_by : BinaryOperator → O.N → O.V → O.M Value
    postfix_by o n old = O.bind Value Value (O.binary o old (O.literal (Num (Int (pos 1))))) (assign_giving n old)

    unfoldable pub prefix_by : BinaryOperator → O.N → O.V → O.M Value
    prefix_by o n old = O.bind Value Value (O.binary o old (O.literal (Num (Int (pos 1))))) (assign_to n)

    unfoldable pub postfix_number : BinaryOperator → O.N → O.V → O.M Value
    postfix_number o n v = O.bind Value Value (O.unary unary_operator.Plus v) (postfix_by o n)

    unfoldable pub prefix_number : BinaryOperator → O.N → O.V → O.M Value
    prefix_number o n v = O.bind Value Value (O.unary unary_operator.Plus v) (prefix_by o n)

    unfoldable pub postfix_value : BinaryOperator → O.N → O.V → O.M Value
    postfix_value o n v = O.bind Value Value (O.primitive hint.Number v E) (postfix_number o n)

    unfoldable pub prefix_value : BinaryOperator → O.N → O.V → O.M Value
    prefix_value o n v = O.bind Value Value (O.primitive hint.Number v E) (prefix_number o n)

    module _ (R : Rec O) where
      -- ---- operators between expressions

      unfoldable pub binary_right : BinaryOperator → Expr → ℕ → O.V → O.M Value
      binary_right o r i v = O.bind Value Value (R.expr r i) (binary_values o v)

      -- `&&` and `||` (ECMA-262 11.11): the right side where the left one doesn't decide
      unfoldable pub and_right : Expr → ℕ → O.V → O.M Value
      and_right r i v = O.fork Value v (R.expr r i) (O.ret Value v)

      unfoldable pub or_right : Expr → ℕ → O.V → O.M Value
      or_right r i v = O.fork Value v (O.ret Value v) (R.expr r i)

      -- `?:` (ECMA-262 11.12)
      unfoldable pub choose_expr : Expr → Expr → ℕ → O.V → O.M Value
      choose_expr a b i v = O.fork Value v (R.expr a i) (R.expr b i)

      -- `,` (ECMA-262 11.14)
      unfoldable pub comma_right : Expr → ℕ → O.V → O.M Value
      comma_right r i v = R.expr r i

      -- a call with its arguments (ECMA-262 11.2.2, 11.2.3)
      unfoldable pub call_with : Calling O.V → List O.V → O.M Value
      call_with (calls f base) vs = O.call f base vs E
      call_with (constructs f) vs = O.construct f vs E

      -- the arguments (ECMA-262 11.2.4), from the left, and then the call
      unfoldable pub arguments : Calling O.V → List O.V → Exprs → ℕ → O.M Value
      arguments f vs no_exprs i = call_with f vs
      arguments f vs (more_exprs e es) i = O.bind Value Value (R.expr e i) (λ v. arguments f (vs ++ v ∷ []) es i)

      unfoldable pub more_arguments : Calling O.V → List O.V → Exprs → ℕ → O.V → O.M Value
      more_arguments f vs es i v = arguments f (vs ++ v ∷ []) es i

      -- what is called is a reference, or another value, which has no `this`; or it constructs
      unfoldable pub call_reference : O.N → Exprs → ℕ → O.V → O.M Value
      call_reference n es i f = arguments (calls f (O.this_of n)) [] es i

      unfoldable pub call_value : Exprs → ℕ → O.V → O.M Value
      call_value es i f = arguments (calls f (O.literal Undefined)) [] es i

      unfoldable pub construct_value : Exprs → ℕ → O.V → O.M Value
      construct_value es i f = arguments (constructs f) [] es i

      -- ---- references

      -- a compound assignment: the old value, the operand, and then the reference has what the operator gives
      unfoldable pub compound_done : BinaryOperator → O.N → O.V → O.V → O.M Value
      compound_done o n old v = O.bind Value Value (binary_values o old v) (assign_to n)

      unfoldable pub compound_right : BinaryOperator → Expr → ℕ → O.N → O.V → O.M Value
      compound_right o r i n old = O.bind Value Value (R.expr r i) (compound_done o n old)

      -- the value of a reference (ECMA-262 8.7.1)
      unfoldable pub read_value : O.N → O.M Value
      read_value n = O.get_value n E

      -- what is done with a reference
      unfoldable pub used : Use → ℕ → O.N → O.M Value
      used (assigned r) i n = O.bind Value Value (R.expr r i) (assign_to n)
      used (updated_by o r) i n = O.bind Value Value (O.get_value n E) (compound_right o r i n)
      used (prefixed o) i n = O.bind Value Value (O.get_value n E) (prefix_value o n)
      used (postfixed o) i n = O.bind Value Value (O.get_value n E) (postfix_value o n)
      used asked i n = O.bind Value Value (O.typeof_value n E) (unary_done unary_operator.Typeof)
      used valued i n = read_value n
      used deleted i n = O.remove n
      used (given_text text) i n = assign_to n (O.literal (Str text))
      used (called es) i n = O.bind Value Value (O.get_value n E) (call_reference n es i)

      -- a property (ECMA-262 11.2.1): its base, whether that can have properties, the conversion of its key, and then it is a reference
      unfoldable pub with_key : Use → ℕ → O.V → O.V → O.M Value
      with_key use_as i b k = used use_as i (O.property b k)

      unfoldable pub with_base : Use → ℕ → O.V → O.V → O.M Value
      with_base use_as i k b = O.bind Value Value (O.primitive hint.String k E) (with_key use_as i b)

      unfoldable pub index_key : Use → ℕ → O.V → O.V → O.M Value
      index_key use_as i b k = O.bind Value Value (O.act base_needed (b ∷ [])) (with_base use_as i k)

      unfoldable pub index_base : Use → Expr → ℕ → O.V → O.M Value
      index_base use_as n i b = O.bind Value Value (R.expr n i) (index_key use_as i b)

      unfoldable pub member_base : Use → List ℕ → ℕ → O.V → O.M Value
      member_base use_as text i b = index_key use_as i b (O.literal (Str text))

      -- a name, a property, or one of them in parentheses
      unfoldable pub use_step : Use → Expr → ℕ → O.M Value
      use_step use_as (name at text) i = O.resolve Value i text (used use_as i)
      use_step use_as (member at e text) i = O.bind Value Value (R.expr e i) (member_base use_as text i)
      use_step use_as (index at e n) i = O.bind Value Value (R.expr e i) (index_base use_as n i)
      use_step use_as (paren at e) i = R.use_of use_as e i
      -- what is no reference can't be used as one (ECMA-262 8.7.2, step 1)
      use_step use_as _ i = O.act (throws_error error.ReferenceError) []

      -- ---- calls (ECMA-262 11.2.3): the callee is a reference, or else an expression

      abbrev pub callee_step : Bool → Expr → Exprs → ℕ → O.M Value
      callee_step true e es i = R.use_of (called es) e i
      callee_step false e es i = O.bind Value Value (R.expr e i) (call_value es i)

      -- ---- arrays (ECMA-262 11.1.4): the values of their items in their order, and then the array

      unfoldable pub items_of : Act → List O.V → Items → ℕ → O.M Value
      items_of act vs no_items i = O.act act vs
      items_of act vs (hole items) i = items_of act vs items i
      items_of act vs (item e items) i = O.bind Value Value (R.expr e i) (λ v. items_of act (vs ++ v ∷ []) items i)

      unfoldable pub more_items : Act → List O.V → Items → ℕ → O.V → O.M Value
      more_items act vs items i v = items_of act (vs ++ v ∷ []) items i

      -- ---- objects (ECMA-262 11.1.5): the values of their properties, and their getters and setters, in their order, and then the object

      unfoldable pub properties : Act → List O.V → Properties → ℕ → O.M Value
      properties act vs no_properties i = O.act act vs
      properties act vs (more_properties (value at key e) ps) i = O.bind Value Value (R.expr e i) (λ v. properties act (vs ++ v ∷ []) ps i)
      properties act vs (more_properties (getter at key f) ps) i = O.bind Value Value (O.function f i) (λ v. properties act (vs ++ v ∷ []) ps i)
      properties act vs (more_properties (setter at key f) ps) i = O.bind Value Value (O.function f i) (λ v. properties act (vs ++ v ∷ []) ps i)

      unfoldable pub more_values : Act → List O.V → Properties → ℕ → O.V → O.M Value
      more_values act vs ps i v = properties act (vs ++ v ∷ []) ps i

      -- ---- expressions

      -- `instanceof` (ECMA-262 11.8.6)
      unfoldable pub instance_done : O.V → O.V → O.M Value
      instance_done v f = O.instance v f E

      unfoldable pub instance_right : Expr → ℕ → O.V → O.M Value
      instance_right r i v = O.bind Value Value (R.expr r i) (instance_done v)

      abbrev pub typeof_step : Bool → Expr → ℕ → O.M Value
      typeof_step false e i = O.bind Value Value (R.expr e i) (unary_value unary_operator.Typeof)
      typeof_step true e i = R.use_of asked e i

      -- `delete` of what is no reference only evaluates it (ECMA-262 11.4.1)
      abbrev pub delete_step : Bool → Expr → ℕ → O.M Value
      delete_step false e i = O.bind Value Value (R.expr e i) (unary_value unary_operator.Delete)
      delete_step true e i = R.use_of deleted e i

      unfoldable pub unary_step : UnaryOperator → Expr → ℕ → O.M Value
      unary_step unary_operator.Delete e i = delete_step (is_reference e) e i
      unary_step unary_operator.Typeof e i = typeof_step (is_name e) e i
      unary_step unary_operator.Increment e i = R.use_of (prefixed binary_operator.Add) e i
      unary_step unary_operator.Decrement e i = R.use_of (prefixed binary_operator.Subtract) e i
      unary_step o e i = O.bind Value Value (R.expr e i) (unary_value o)

      unfoldable pub binary_step : Expr → BinaryOperator → Expr → ℕ → O.M Value
      binary_step l binary_operator.And r i = O.bind Value Value (R.expr l i) (and_right r i)
      binary_step l binary_operator.Or r i = O.bind Value Value (R.expr l i) (or_right r i)
      binary_step l binary_operator.Instanceof r i = O.bind Value Value (R.expr l i) (instance_right r i)
      binary_step l o r i = O.bind Value Value (R.expr l i) (binary_right o r i)

      unfoldable pub expr_step : Expr → ℕ → O.M Value
      expr_step (name at text) i = O.resolve Value i text read_value
      expr_step (number at n) i = O.ret Value (O.literal (Num (Int n)))
      expr_step (string at text v) i = O.ret Value (O.literal (Str v))
      expr_step (this at) i = O.resolve Value i (codes "this") read_value
      expr_step (null at) i = O.ret Value (O.literal Null)
      expr_step (boolean at b) i = O.ret Value (O.literal (prims.Bool b))
      expr_step (paren at e) i = R.expr e i
      expr_step (array at items final) i = items_of (array_of (places_of 0 items) (count_of items)) [] items i
      expr_step (object at ps final) i = properties (object_of (parts_of ps)) [] ps i
      expr_step (member at e text) i = O.bind Value Value (R.expr e i) (member_base valued text i)
      expr_step (index at e n) i = O.bind Value Value (R.expr e i) (index_base valued n i)
      expr_step (function at f) i = O.function f i
      expr_step (new_with at e es) i = O.bind Value Value (R.expr e i) (construct_value es i)
      expr_step (new_bare at e) i = O.bind Value Value (R.expr e i) (construct_value no_exprs i)
      expr_step (call at e es) i = callee_step (is_reference e) e es i
      expr_step (postfix at e postfix_operator.Increment) i = R.use_of (postfixed binary_operator.Add) e i
      expr_step (postfix at e postfix_operator.Decrement) i = R.use_of (postfixed binary_operator.Subtract) e i
      expr_step (unary at o e) i = unary_step o e i
      expr_step (binary at l o r) i = binary_step l o r i
      expr_step (conditional at c a b) i = O.bind Value Value (R.expr c i) (choose_expr a b i)
      expr_step (assign at l o r) i = R.use_of (assigned_by (operator_of o) r) l i
      expr_step (comma at l r) i = O.bind Value Value (R.expr l i) (comma_right r i)

      -- ---- variables (ECMA-262 12.2): those with an initialiser are assigned, in their order

      unfoldable pub variables : List (Ident × MaybeExpr) → ℕ → O.M One
      variables [] i = O.ret One tt
      variables ((ident, absent) ∷ ds) i = variables ds i
      variables ((ident, present e) ∷ ds) i = O.resolve One i ident.text (λ n. O.bind Value One (R.expr e i) (λ v. O.bind One One (O.put_value n v E) (λ u. variables ds i)))

      -- the value of an initialiser, and the variables behind it
      unfoldable pub more_variables : O.N → List (Ident × MaybeExpr) → ℕ → O.V → O.M One
      more_variables n ds i v = O.bind One One (O.put_value n v E) (λ u. variables ds i)

      abbrev pub declarations : Declarations → ℕ → O.M One
      declarations ds i = variables (variable_list ds) i

      -- ---- loops (ECMA-262 12.6)

      -- a further turn where the condition holds
      unfoldable pub turn_test : Round → Env O.H → O.V → O.M One
      turn_test round e v = O.again v (R.turn round e) (O.ret One tt)

      abbrev pub tested_by : MaybeExpr → Round → Env O.H → O.M One
      tested_by absent round e = R.turn round e
      tested_by (present c) round e = O.bind Value One (R.expr c e.place) (turn_test round e)

      -- the condition, and then a further turn or the end
      unfoldable pub tested : Round → Env O.H → O.M One
      tested round e = tested_by round.test round e

      unfoldable pub updated : Round → Env O.H → Res O.V Value → O.M One
      updated round e v = tested round e

      abbrev pub turned_by : MaybeExpr → Round → Env O.H → O.M One
      turned_by absent round e = tested round e
      turned_by (present c) round e = O.bind Value One (R.expr c e.place) (updated round e)

      -- behind the body of a turn
      unfoldable pub turned_round : Round → Env O.H → Res O.V One → O.M One
      turned_round round e u = turned_by round.update round e

      unfoldable pub turn_step : Round → Env O.H → O.M One
      turn_step round e = O.bind One One (O.round true round.labels e (R.stmt round.body)) (turned_round round e)

      unfoldable pub loop : Round → Env O.H → O.M One
      loop round e = O.round false round.labels e (tested round)

      unfoldable pub looped : Round → Env O.H → Res O.V One → O.M One
      looped round e u = loop round e

      unfoldable pub looped_value : Round → Env O.H → O.V → O.M One
      looped_value round e v = loop round e

      unfoldable pub first_step : First → Round → Env O.H → O.M One
      first_step (first_expr absent) round e = loop round e
      first_step (first_expr (present c)) round e = O.bind Value One (R.expr c e.place) (looped_value round e)
      first_step (first_var ds) round e = O.bind One One (declarations ds e.place) (looped round e)

      -- ---- `for in` (ECMA-262 12.6.4): a turn for each key that is still there, in which the target is given the key, and then the body is done

      unfoldable pub still_there : Visit O.V → Env O.H → O.M One → O.V → O.M One
      still_there visit e rest v = O.again v (R.visit visit e) rest

      unfoldable pub visits : List (Option (List ℕ)) → Target → Statement → O.V → List (List ℕ) → Env O.H → O.M One
      visits labels target s o [] e = O.ret One tt
      visits labels target s o (key ∷ others) e =
          O.bind Value One (O.act has_key (O.literal (Str key) ∷ o ∷ [])) (still_there (record { labels = labels; target = target; body = s; object = o; key = key; others = others }) e (visits labels target s o others e))

      unfoldable pub visited : Visit O.V → Env O.H → Res O.V One → O.M One
      visited visit e u = visits visit.labels visit.target visit.body visit.object visit.others e

      unfoldable pub visit_body : Statement → Env O.H → O.V → O.M One
      visit_body s e v = R.stmt s e

      -- the target is given a text
      unfoldable pub target_step : Target → List ℕ → ℕ → O.M Value
      target_step (target_expr e) text i = R.use_of (given_text text) e i
      target_step (target_var ident) text i = O.resolve Value i ident.text (used (given_text text) i)

      unfoldable pub visit_turn : Visit O.V → Env O.H → O.M One
      visit_turn visit e = O.bind Value One (target_step visit.target visit.key e.place) (visit_body visit.body e)

      unfoldable pub visit_step : Visit O.V → Env O.H → O.M One
      visit_step visit e = O.bind One One (O.round true visit.labels e (visit_turn visit)) (visited visit e)

      unfoldable pub with_keys : List (Option (List ℕ)) → Target → Statement → O.V → Env O.H → O.M One
      with_keys labels target s o e = O.keys o (λ keys. visits labels target s o keys e)

      unfoldable pub enumerated : List (Option (List ℕ)) → Target → Statement → Env O.H → O.V → O.M One
      enumerated labels target s e o = O.round false labels e (with_keys labels target s o)

      -- ---- `switch` (ECMA-262 12.11): its value and each case that is tested raise its frame. From the first case that is equal on, or else from the
      -- default clause on, the statements of all clauses are evaluated

      unfoldable pub falls : Clauses → Env O.H → O.M One
      falls no_clauses e = O.ret One tt
      falls (case c ss cs) e = O.bind One One (statements R ss e) (λ u. falls cs e)
      falls (default ss cs) e = O.bind One One (statements R ss e) (λ u. falls cs e)

      unfoldable pub falls_on : Clauses → Env O.H → Res O.V One → O.M One
      falls_on cs e u = falls cs e

      abbrev pub from_default : Clauses → Env O.H → O.M One
      from_default no_clauses e = O.ret One tt
      from_default (case c ss cs) e = from_default cs e
      from_default (default ss cs) e = falls (default ss cs) e

      -- a case, by whether it is equal
      unfoldable pub case_chosen : Statements → Clauses → Env O.H → O.M One → O.V → O.M One
      case_chosen ss cs e others v = O.again v (O.bind One One (statements R ss e) (falls_on cs e)) others

      unfoldable pub case_compared : O.V → Statements → Clauses → Env O.H → O.M One → O.V → O.M One
      case_compared v ss cs e others u = O.bind Value One (O.binary binary_operator.StrictEqual v u) (case_chosen ss cs e others)

      -- the clauses that are left, of all
      unfoldable pub cases : O.V → Clauses → Clauses → Env O.H → O.M One
      cases v all no_clauses e = from_default all e
      cases v all (case c ss cs) e = O.bind Value One (R.expr c e.place) (case_compared v ss cs e (cases v all cs e))
      cases v all (default ss cs) e = cases v all cs e

      unfoldable pub in_switch : O.V → Clauses → Env O.H → O.M One
      in_switch v cs e = O.again v (cases v cs cs e) (cases v cs cs e)

      unfoldable pub switched : List (List ℕ) → Clauses → Env O.H → O.V → O.M One
      switched labels cs e v = O.round false (labels_of labels) e (in_switch v cs)

      -- ---- jumps (ECMA-262 12.7 to 12.9, 12.13), `try` (12.14) and upgrade directives

      unfoldable pub jump_with : Leaving → Env O.H → O.V → O.M One
      jump_with leaving e v = O.jump leaving e v

      abbrev pub return_step : MaybeExpr → Env O.H → O.M One
      return_step absent e = O.jump returned e (O.literal Undefined)
      return_step (present c) e = O.bind Value One (R.expr c e.place) (jump_with returned e)

      abbrev pub upgraded : Option Upgrade → Env O.H → O.M One
      upgraded None e = O.ret One tt
      upgraded (Some upgrade) e = O.raise upgrade.leaving e upgrade.names

      unfoldable pub behind_expression : Option Upgrade → Env O.H → O.V → O.M One
      behind_expression upgrade e v = upgraded upgrade e

      -- ---- statements

      unfoldable pub choose_stmt : Statement → Env O.H → O.V → O.M One
      choose_stmt s e v = O.fork One v (R.stmt s e) (O.ret One tt)

      unfoldable pub choose_stmts : Statement → Statement → Env O.H → O.V → O.M One
      choose_stmts s t e v = O.fork One v (R.stmt s e) (R.stmt t e)

      abbrev pub block_step : Block → Env O.H → O.M One
      block_step (block_of at ss) e = statements R ss e

      -- what is caught has a name in the handler. A block of a `try` is entered as a block statement
      unfoldable pub handled : Ident → Block → Env O.H → O.V → O.M One
      handled ident handler e v = O.declare ident.text v e (R.stmt (block handler))

      unfoldable pub unhandled : O.V → O.M One
      unhandled v = O.ret One tt

      -- a labelled statement (ECMA-262 12.12): a loop and a switch carry the label, and what is neither is left by it
      abbrev pub label_step : Bool → List (List ℕ) → List ℕ → Statement → Env O.H → O.M One
      label_step true labels text s e = R.named (text ∷ labels) s e
      label_step false labels text s e = O.round false (Some text ∷ []) e (R.stmt s)

      -- a loop, a switch or a labelled statement behind labels
      unfoldable pub named_step : List (List ℕ) → Statement → Env O.H → O.M One
      named_step labels (do_while at s c semi) e = O.round false (labels_of labels) e (R.turn (round_of labels s absent (present c)))
      named_step labels (while at c s) e = loop (round_of labels s absent (present c)) e
      named_step labels (for at first test update s) e = first_step first (round_of labels s update test) e
      named_step labels (for_in at target c s) e = O.bind Value One (R.expr c e.place) (enumerated (labels_of labels) target s e)
      named_step labels (switch at c cs) e = O.bind Value One (R.expr c e.place) (switched labels cs e)
      named_step labels (labelled at text s) e = label_step (carries_labels s) labels text s e
      named_step labels _ e = O.ret One tt

      unfoldable pub stmt_step : Statement → Env O.H → O.M One
      stmt_step (block b) e = block_step b e
      stmt_step (var at ds semi) e = declarations ds e.place
      stmt_step (empty at) e = O.ret One tt
      stmt_step (expression at c semi) e = O.bind Value One (R.expr c e.place) (behind_expression (upgrade_of c) e)
      stmt_step (if_then at c s) e = O.bind Value One (R.expr c e.place) (choose_stmt s e)
      stmt_step (if_else at c s t) e = O.bind Value One (R.expr c e.place) (choose_stmts s t e)
      stmt_step (continue at label semi) e = O.jump (left_by true (text_of_label label)) e (O.literal Undefined)
      stmt_step (break at label semi) e = O.jump (left_by false (text_of_label label)) e (O.literal Undefined)
      stmt_step (return at c semi) e = return_step c e
      stmt_step (throw at c semi) e = O.bind Value One (R.expr c e.place) (jump_with thrown e)
      stmt_step (try_catch at b ident handler) e = O.attempt true false (R.stmt (block b) e) (handled ident handler e) (O.ret One tt)
      stmt_step (try_finally at b last) e = O.attempt false true (R.stmt (block b) e) unhandled (R.stmt (block last) e)
      stmt_step (try_both at b ident handler last) e = O.attempt true true (R.stmt (block b) e) (handled ident handler e) (R.stmt (block last) e)
      stmt_step (debugger at semi) e = O.ret One tt
      stmt_step (function_declaration at f) e = O.ret One tt
      stmt_step s e = named_step [] s e

      -- ---- built-ins: the values in the registers that a request names, undefined where nothing was written; a register that is written; and what is done
      -- behind a request

      abbrev pub in_register : List O.V → Reg → O.V
      in_register vs r = element_or (O.literal Undefined) r.0 vs

      abbrev pub in_registers : List O.V → List Reg → List O.V
      in_registers vs rs = map (in_register vs) rs

      abbrev pub in_register_if : List O.V → Option Reg → O.V
      in_register_if vs None = O.literal Undefined
      in_register_if vs (Some r) = in_register vs r

      abbrev pub with_register : Reg → O.V → List O.V → List O.V
      with_register to v vs = with_element (O.literal Undefined) to.0 v vs

      unfoldable pub answered : Steps → List O.V → O.V → O.M Value
      answered steps vs v = R.native (steps_behind steps answer.Done) vs

      unfoldable pub answered_in : Steps → List O.V → Reg → O.V → O.M Value
      answered_in steps vs to v = R.native (steps_behind steps answer.Done) (with_register to v vs)

      unfoldable pub answered_by : Steps → List O.V → Seen → O.M Value
      answered_by steps vs seen = R.native (steps_behind steps (answer.Seen seen)) vs

      -- a property of what a register holds: its base must be able to have properties
      unfoldable pub got_from : Steps → List O.V → List ℕ → Reg → O.V → O.M Value
      got_from steps vs key to b = O.bind Value Value (O.get_value (O.property b (O.literal (Str key))) E) (answered_in steps vs to)

      unfoldable pub had_by : Steps → List O.V → List ℕ → Reg → O.V → O.M Value
      had_by steps vs key to b = O.bind Value Value (O.act has_key (O.literal (Str key) ∷ b ∷ [])) (answered_in steps vs to)

      unfoldable pub put_behind : Steps → List O.V → Res O.V One → O.M Value
      put_behind steps vs u = R.native (steps_behind steps answer.Done) vs

      unfoldable pub put_in : Steps → List O.V → List ℕ → O.V → O.V → O.M Value
      put_in steps vs key v b = O.bind One Value (O.put_value (O.property b (O.literal (Str key))) v E) (put_behind steps vs)

      unfoldable pub deleted_from : Steps → List O.V → List ℕ → Reg → O.V → O.M Value
      deleted_from steps vs key to b = O.bind Value Value (O.remove (O.property b (O.literal (Str key)))) (answered_in steps vs to)

      abbrev pub with_base_needed : O.V → (O.V → O.M Value) → O.M Value
      with_base_needed b next = O.bind Value Value (O.act base_needed (b ∷ [])) next

      -- the four things that are known of an own property, in one request
      unfoldable pub own_setter_read : Steps → List O.V → Reg → O.V → O.M Value
      own_setter_read steps vs to v = R.native (steps_behind steps answer.Done) (with_register to v vs)

      unfoldable pub own_getter_read : Steps → List O.V → O.V → List ℕ → Reg → Reg → O.V → O.M Value
      own_getter_read steps vs base key g s v = O.bind Value Value (O.act (own_property own_setter key) (base ∷ [])) (own_setter_read steps (with_register g v vs) s)

      unfoldable pub own_value_read : Steps → List O.V → O.V → List ℕ → Reg → Reg → Reg → O.V → O.M Value
      own_value_read steps vs base key d g s v =
          O.bind Value Value (O.act (own_property own_getter key) (base ∷ [])) (own_getter_read steps (with_register d v vs) base key g s)

      unfoldable pub own_marks_read : Steps → List O.V → O.V → List ℕ → Reg → Reg → Reg → Reg → O.V → O.M Value
      own_marks_read steps vs base key marks d g s v =
          O.bind Value Value (O.act (own_property own_value key) (base ∷ [])) (own_value_read steps (with_register marks v vs) base key d g s)

      abbrev pub shape_of : Option Reg → Option Reg → Option Reg → Shape
      shape_of v g s = record { has_value = is_some v; has_getter = is_some g; has_setter = is_some s }

      abbrev pub made_by : Option Reg → Class → List O.V → O.M Value
      made_by None class vs = O.act (new_object class false) []
      made_by (Some r) class vs = O.act (new_object class true) (in_register vs r ∷ [])

      -- a request, with the steps from it on
      unfoldable pub request_step : Request → Steps → List O.V → O.M Value
      request_step (Look r) steps vs = O.look (in_register vs r) (answered_by steps vs)
      request_step (Make p to) steps vs = answered_in steps vs to (O.literal p)
      request_step (Copy from to) steps vs = answered_in steps vs to (in_register vs from)
      request_step (Same a b to) steps vs = O.bind Value Value (O.binary binary_operator.StrictEqual (in_register vs a) (in_register vs b)) (answered_in steps vs to)
      request_step (Get base key to) steps vs = with_base_needed (in_register vs base) (got_from steps vs key to)
      request_step (Has base key to) steps vs = with_base_needed (in_register vs base) (had_by steps vs key to)
      request_step (Put base key from) steps vs = with_base_needed (in_register vs base) (put_in steps vs key (in_register vs from))
      request_step (Delete base key to) steps vs = with_base_needed (in_register vs base) (deleted_from steps vs key to)
      request_step (Own base key marks v g s) steps vs =
          O.bind Value Value (O.act (own_property own_marks key) (in_register vs base ∷ [])) (own_marks_read steps vs (in_register vs base) key marks v g s)
      request_step (Define base key marks v g s) steps vs =
          O.bind Value Value (O.define key marks (shape_of v g s) (in_register vs base) (in_register_if vs v) (in_register_if vs g) (in_register_if vs s) E) (answered steps vs)
      request_step (Keys base all to) steps vs = O.bind Value Value (O.act (own_keys all) (in_register vs base ∷ [])) (answered_in steps vs to)
      request_step (Proto base to) steps vs = O.bind Value Value (O.act prototype_of_object (in_register vs base ∷ [])) (answered_in steps vs to)
      request_step (Extensible base to) steps vs = O.bind Value Value (O.act is_extensible (in_register vs base ∷ [])) (answered_in steps vs to)
      request_step (Prevent base) steps vs = O.bind Value Value (O.act prevent_extensions (in_register vs base ∷ [])) (answered steps vs)
      request_step (New class proto to) steps vs = O.bind Value Value (made_by proto class vs) (answered_in steps vs to)
      request_step (Call callee own args to) steps vs = O.bind Value Value (O.call (in_register vs callee) (in_register vs own) (in_registers vs args) E) (answered_in steps vs to)
      request_step (Construct callee args to) steps vs = O.bind Value Value (O.construct (in_register vs callee) (in_registers vs args) E) (answered_in steps vs to)
      request_step (Bind target own args to) steps vs = O.bind Value Value (O.act bind (in_register vs target ∷ in_register vs own ∷ in_registers vs args)) (answered_in steps vs to)
      request_step (ReadLine channel to) steps vs = O.bind Value Value (O.act read_line (in_register vs channel ∷ [])) (answered_in steps vs to)
      request_step (PrintLine channel from) steps vs = O.bind Value Value (O.act print_line (in_register vs channel ∷ in_register vs from ∷ [])) (answered steps vs)
      request_step (Label from origins to) steps vs = O.bind Value Value (O.act (join_label origins) (in_register vs from ∷ [])) (answered_in steps vs to)
      request_step (RaiseStructure base origins) steps vs = O.bind Value Value (O.act (raise_structure origins) (in_register vs base ∷ [])) (answered steps vs)
      request_step (RaiseExistence base key origins) steps vs = O.bind Value Value (O.act (raise_existence key origins) (in_register vs base ∷ [])) (answered steps vs)
      request_step (Return from) steps vs = O.ret Value (in_register vs from)
      request_step (Throw from) steps vs = O.throw (in_register vs from)
      request_step (ThrowNew kind) steps vs = O.act (throws_error kind) []
      request_step (Leave text) steps vs = O.leave Value text

      unfoldable pub native_step : Steps → List O.V → O.M Value
      native_step steps vs = request_step (steps []) steps vs

      -- ---- parts

      abbrev pub parts : Rec O
      parts = record { expr = expr_step; use_of = use_step; stmt = stmt_step; named = named_step; turn = turn_step; visit = visit_step; native = native_step }

-- the parts of nodes, by those of the parts in them
abbrev pub step : (O : Ops) → BuiltIns → Rec O → Rec O
step O set R = parts O (entering O R set) R

-- Operations with a count of turns: to enter a part costs one.
pub record Timed : Type 1 where
  pub ops : Ops
  pub tick : ops.M One
  pub ended : (t : Ty) → ops.M t

abbrev pub behind : (O : Ops) (t : Ty) → O.M One → O.M t → O.M t
behind O t first others = O.bind One t first (λ u. others)

abbrev pub ticking : (T : Timed) → Rec T.ops → Rec T.ops
ticking T R = record {
  expr = λ e i. behind T.ops Value T.tick (R.expr e i);
  use_of = λ use_as e i. behind T.ops Value T.tick (R.use_of use_as e i);
  stmt = λ s e. behind T.ops One T.tick (R.stmt s e);
  named = λ labels s e. behind T.ops One T.tick (R.named labels s e);
  turn = λ round e. behind T.ops One T.tick (R.turn round e);
  visit = λ visit e. behind T.ops One T.tick (R.visit visit e);
  native = λ steps vs. behind T.ops Value T.tick (R.native steps vs);
}

-- n bounds how deep the parts go: nodes in nodes, turns behind turns, and requests behind requests
unfoldable pub eval : (T : Timed) → BuiltIns → ℕ → Rec T.ops
eval T set zero = record { expr = λ e i. T.ended Value; use_of = λ use_as e i. T.ended Value; stmt = λ s e. T.ended One; named = λ labels s e. T.ended One; turn = λ round e. T.ended One; visit = λ visit e. T.ended One; native = λ steps vs. T.ended Value }
eval T set (suc n) = ticking T (step T.ops set (eval T set n))

-- the statements of a program, if it may declare its functions, and else an exception
unfoldable pub begun : (O : Ops) → Rec O → Bool → Statements → Env O.H → O.M One
begun O R true ss e = statements O R ss e
begun O R false ss e = O.bind Value One (O.act (throws_error error.TypeError) []) (discard O)

unfoldable pub program_step : (T : Timed) → BuiltIns → ℕ → Bool → Statements → Env T.ops.H → T.ops.M One
program_step T set n may_declare ss e = begun T.ops (eval T set n) may_declare ss e

-- What an evaluation is made of. The evaluator of a script is written once, over any values and computations: read with those that have no
-- labels it is the unlabelled meaning, and read with labelled ones the labelled meaning.
use Rattle.std.specs.Prelude.{ℕ, Bool, List, Option}
use Rattle.js_number.specs.declared.primitive.Primitive.{Primitive}
use Rattle.js_ast.specs.declared.operators.UnaryOperator.{UnaryOperator}
use Rattle.js_ast.specs.declared.operators.BinaryOperator.{BinaryOperator}
use Rattle.js_values.specs.declared.inner.Class.{Class}
use Rattle.native_protocol.specs.declared.hint.Hint.{Hint}
use Rattle.native_protocol.specs.declared.request.Seen.{Seen}
use Rattle.native_protocol.specs.declared.request.ErrorKind.{ErrorKind}
use Rattle.native_protocol.specs.declared.request.GivenMarks.{GivenMarks}
use Rattle.native_protocol.specs.Steps.{Steps}
use Rattle.js_ast.specs.Trees.{Expr, Exprs, Function, Statement, Statements, MaybeExpr, Target}
use Rattle.es_meaning.specs.Environments.{Env, Leaving}

-- what a computation gives: nothing, or a value
pub data Ty : Type 0 where
  One Value : Ty

abbrev pub Res : Type 0 → Ty → Type 0
Res V One = Unit {0}
Res V Value = V

-- what a part of an object literal gives the object under its key: a value, a getter or a setter (ECMA-262 11.1.5)
pub data Part : Type 0 where
  as_value as_getter as_setter : Part

-- which of the four things that are known of an own property is asked for: its marks as a number, its value, its getter or its setter
pub data OwnPart : Type 0 where
  own_marks own_value own_getter own_setter : OwnPart

-- which values a definition is given besides the attributes
pub record Shape : Type 0 where
  pub has_value : Bool
  pub has_getter : Bool
  pub has_setter : Bool

-- acts on values that enter no function
pub data Act : Type 0 where
  -- an object with properties of these keys is made of their values (ECMA-262 11.1.5)
  object_of : List (Part × List ℕ) → Act
  -- an array with elements at these numbers, which have these values, and with a `length` (ECMA-262 11.1.4)
  array_of : List ℕ → ℕ → Act
  -- the value, if it can have properties (ECMA-262 9.10), or an exception
  base_needed : Act
  -- the value, if it is an object, or an exception (ECMA-262 11.8.7)
  object_needed : Act
  -- whether the second, an object, or a prototype of it has the first as a key (ECMA-262 8.12.6)
  has_key : Act
  -- an exception of a kind (ECMA-262 15.11)
  throws_error : ErrorKind → Act
  -- ---- what built-ins ask for besides
  -- a part of the own property of a key (ECMA-262 8.12.1)
  own_property : OwnPart → List ℕ → Act
  -- the own keys of an object as an array: all, or the enumerable ones
  own_keys : Bool → Act
  -- the prototype of an object, whether it may get further properties, and that it may not any more
  prototype_of_object is_extensible prevent_extensions : Act
  -- a new object of a class: with the prototype that chapter 15 gives the class, or with one that a value gives
  new_object : Class → Bool → Act
  -- a bound function (ECMA-262 15.3.4.5): its target, its `this` and its first arguments
  bind : Act
  -- the next line of the input channel that a value names, and a value printed on the output channel that another names
  read_line print_line : Act
  -- origins are joined to a value's label, to the structure label of an object, and to the existence label of one of its properties
  join_label raise_structure : List ℕ → Act
  raise_existence : List ℕ → List ℕ → Act

-- how what is called is entered: the body of a function of the script in its environment; a built-in by its number, by whether it constructs, and by what
-- stands in its registers; and the conversion of an object to a primitive value
pub record Entering (V H : Type 0) (M : Ty → Type 0) : Type 0 where
  pub body : Statements → Env H → M One
  pub built_in : ℕ → Bool → List V → M Value
  pub conversion : Hint → V → M Value

pub record Ops : Type 1 where
  -- values, references, what is known of a frame that a jump can reach, and computations
  pub V : Type 0
  pub N : Type 0
  pub H : Type 0
  pub M : Ty → Type 0
  pub ret : (t : Ty) → Res V t → M t
  pub bind : (t u : Ty) → M t → (Res V t → M u) → M u
  -- ---- values
  -- a value that stands in the script
  pub literal : Primitive → V
  -- ---- acts
  -- operators on values that are converted
  pub unary : UnaryOperator → V → M Value
  pub binary : BinaryOperator → V → V → M Value
  pub act : Act → List V → M Value
  -- what is seen of a value decides what is done
  pub look : V → (Seen → M Value) → M Value
  -- a function of the script is made, in a record of variables (ECMA-262 13.2)
  pub function : Function → ℕ → M Value
  -- a jump takes a value along, and an upgrade directive joins the origins of these names to what such a jump depends on
  pub jump : Leaving → Env H → V → M One
  pub raise : Leaving → Env H → List (List ℕ) → M One
  -- the engine throws a value, or leaves the language by a name
  pub throw : V → M Value
  pub leave : (t : Ty) → List ℕ → M t
  -- ---- references (ECMA-262 8.7)
  -- the reference that a name is at this moment, from a record on outwards (ECMA-262 10.3.1), is handed on
  pub resolve : (t : Ty) → ℕ → List ℕ → (N → M t) → M t
  -- a property of a value, whose key is a primitive value
  pub property : V → V → N
  -- its value (ECMA-262 8.7.1), and its value for `typeof`, which is undefined where a name has no binding. What a getter is decides how it is entered
  pub get_value : N → Entering V H M → M Value
  pub typeof_value : N → Entering V H M → M Value
  -- it is given a value (ECMA-262 8.7.2), by a setter where there is one
  -- what the value for the `length` of an array is converted by is entered too (15.4.5.1)
  pub put_value : N → V → Entering V H M → M One
  -- it is deleted (ECMA-262 11.4.1)
  pub remove : N → M Value
  -- what a call of it has as `this` (ECMA-262 11.2.3): the base of a property, and undefined for a name
  pub this_of : N → V
  -- an own property of a value is defined (ECMA-262 8.12.9, 15.4.5.1) by attributes, and by a value, a getter and a setter, of those that are given
  pub define : List ℕ → GivenMarks → Shape → V → V → V → V → Entering V H M → M Value
  -- whether a value is an instance of a function (ECMA-262 11.8.6), whose `prototype` may have a getter
  pub instance : V → V → Entering V H M → M Value
  -- ---- scopes: those that a jump can reach hand the environment in which it can
  -- one of two computations, as a value chooses
  pub fork : (t : Ty) → V → M t → M t → M t
  -- a loop, a switch, a labelled statement, or a turn of a loop, with the labels by which it is left
  pub round : Bool → List (Option (List ℕ)) → Env H → (Env H → M One) → M One
  -- a further turn of a loop or its end, or the clauses of a `switch` from a case on or the next case, as a value chooses
  pub again : V → M One → M One → M One
  -- the keys that `for in` takes of a value (ECMA-262 12.6.4) are handed on, in the loop's frame
  pub keys : V → (List (List ℕ) → M One) → M One
  -- a name has a value in a record of its own (ECMA-262 12.14)
  pub declare : List ℕ → V → Env H → (Env H → M One) → M One
  -- a value is called with a `this` and arguments (ECMA-262 13.2.1), or makes an object with arguments (13.2.2)
  pub call : V → V → List V → Entering V H M → M Value
  pub construct : V → List V → Entering V H M → M Value
  -- a value converted to a primitive one (ECMA-262 9.1), and an operand of `==` converted to what it is compared as beside the other one (11.9.3)
  pub primitive : Hint → V → Entering V H M → M Value
  pub comparable : V → V → Entering V H M → M Value
  -- a block, what is done with what it throws, if anything, and what is done last, if anything (ECMA-262 12.14)
  pub attempt : Bool → Bool → M One → (V → M One) → M One → M One

-- what is done with a reference
pub data Use : Type 0 where
  -- it is given the value of an expression
  assigned : Expr → Use
  -- it is given what an operator makes of its value and that of an expression
  updated_by : BinaryOperator → Expr → Use
  -- its value as a number is changed by one: the new value or the old one is given
  prefixed : BinaryOperator → Use
  postfixed : BinaryOperator → Use
  -- it is asked for its type
  asked : Use
  -- it is asked for its value
  valued : Use
  -- it is deleted
  deleted : Use
  -- it is given a text
  given_text : List ℕ → Use
  -- its value is called with arguments
  called : Exprs → Use

-- what is done with arguments: a value is called with a `this`, or it makes an object
pub data Calling (V : Type 0) : Type 0 where
  calls : V → V → Calling V
  constructs : V → Calling V

-- what a turn of a loop evaluates: its body, and behind it what its header changes, and its condition
pub record Round : Type 0 where
  pub labels : List (Option (List ℕ))
  pub body : Statement
  pub update : MaybeExpr
  pub test : MaybeExpr

-- what a turn of a `for in` evaluates: its target, which is given the key, and its body. The other keys are left
pub record Visit (V : Type 0) : Type 0 where
  pub labels : List (Option (List ℕ))
  pub target : Target
  pub body : Statement
  pub object : V
  pub key : List ℕ
  pub others : List (List ℕ)

-- the meaning of the parts of a node. To enter a part costs a turn
pub record Rec (O : Ops) : Type 0 where
  -- the value of an expression
  pub expr : Expr → ℕ → O.M Value
  -- a reference or its parentheses, and what is done with it
  pub use_of : Use → Expr → ℕ → O.M Value
  pub stmt : Statement → Env O.H → O.M One
  -- a loop, a switch or a labelled statement behind labels (ECMA-262 12.12)
  pub named : List (List ℕ) → Statement → Env O.H → O.M One
  -- a turn of a loop, and those behind it
  pub turn : Round → Env O.H → O.M One
  pub visit : Visit O.V → Env O.H → O.M One
  -- a request of a built-in that goes on by these steps, with what stands in its registers, and those behind it
  pub native : Steps → List O.V → O.M Value

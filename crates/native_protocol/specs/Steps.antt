-- How the steps of a built-in are written (ECMA-262 chapter 15): what it asks for next, as a function of all answers that it was given so far.
use Rattle.std.specs.Prelude.{ℕ, ◌+◌, max, Bool, true, false, if◌then◌else◌, List, [], ◌∷◌, codes, ℤ, Result, Ok, Err}
use Rattle.js_number.specs.declared.primitive.Primitive.{Primitive}
use Rattle.js_number.specs.declared.primitive.Primitive.TheVariants.{Undefined, Str}
use Rattle.js_number.specs.declared.int.LeftNumbers.{LeftNumbers}
use Rattle.js_number.specs.declared.num.Num.{Num}
use Rattle.js_number.specs.Number.{integer_of}
use Rattle.js_number.specs.Conversions.{text_of, number_of}
use Rattle.js_values.specs.declared.inner.Class.TheVariants as class
use Rattle.native_protocol.specs.declared.hint.Hint.{Hint}
use Rattle.native_protocol.specs.declared.hint.Hint.TheVariants as hint
use Rattle.native_protocol.specs.declared.registers.Reg.{Reg}
use Rattle.native_protocol.specs.declared.request.Answer.{Answer}
use Rattle.native_protocol.specs.declared.request.Answer.TheVariants as answer
use Rattle.native_protocol.specs.declared.request.ErrorKind.TheVariants as error
use Rattle.native_protocol.specs.declared.request.Request.{Request}
use Rattle.native_protocol.specs.declared.request.Request.TheVariants.{Look, Make, Get, Call, Return, ThrowNew, Leave}
use Rattle.native_protocol.specs.declared.request.Seen.{Seen}
use Rattle.native_protocol.specs.declared.request.Seen.TheVariants.{Prim, Object}

-- what is asked for next after these answers, the first of them first; the answer that the built-in begins with isn't among them
abbrev pub Steps : Type 0
Steps = List Answer → Request

-- ---- a step and what follows it

-- what a look saw; any other answer tells undefined
abbrev pub seen_in : Answer → Seen
seen_in (answer.Seen s) = s
seen_in answer.Begin = Prim Undefined
seen_in answer.Done = Prim Undefined

-- the request is asked, and then the rest
abbrev pub ask : Request → Steps → Steps
ask request next [] = request
ask request next (a ∷ answers) = next answers

-- the register is looked at, and what it holds decides the rest
abbrev pub look : Reg → (Seen → Steps) → Steps
look r next [] = Look r
look r next (a ∷ answers) = next (seen_in a) answers

-- nothing follows the request
abbrev pub ends : Request → Steps
ends request answers = request

abbrev pub throws_type_error : Steps
throws_type_error = ends (ThrowNew error.TypeError)

-- the run is left, by the name of what isn't offered
abbrev pub leaves : List ℕ → Steps
leaves name = ends (Leave name)

-- what a look may tell
abbrev pub is_object : Seen → Bool
is_object (Object c) = true
is_object (Prim p) = false

abbrev pub is_text : Seen → Bool
is_text (Prim (Str text)) = true
is_text (Prim p) = false
is_text (Object c) = false

-- what can be called is an object of class Function
abbrev pub is_function : Seen → Bool
is_function (Object class.Function) = true
is_function (Object other) = false
is_function (Prim p) = false

-- ---- registers

abbrev pub reg : ℕ → Reg
reg n = record { 0 = n }

-- the first register behind the arguments, given ones or not: no argument stands in it or behind it
abbrev pub first_free : ℕ → ℕ
first_free argc = 2 + max argc 4

-- ---- [[DefaultValue]] (ECMA-262 8.12.8): no object here is a Date, so that no hint is as the hint Number

-- the names of the two methods, in the hint's order
abbrev pub first_name : Hint → List ℕ
first_name hint.Default = codes "valueOf"
first_name hint.Number = codes "valueOf"
first_name hint.String = codes "toString"

abbrev pub second_name : Hint → List ℕ
second_name hint.Default = codes "toString"
second_name hint.Number = codes "toString"
second_name hint.String = codes "valueOf"

abbrev pub if_primitive : Seen → (Primitive → Steps) → Steps → Steps
if_primitive (Prim p) then_do else_do = then_do p
if_primitive (Object c) then_do else_do = else_do

-- steps 1 and 2, or 3 and 4: the method of that name is got; where it can be called, it is called; and where this gives a primitive value, that is it
abbrev pub value_seen : Reg → (Primitive → Steps) → Steps → Steps
value_seen value next otherwise = look value (λ v. if_primitive v next otherwise)

abbrev pub method_called : Reg → Reg → Reg → (Primitive → Steps) → Steps → Steps
method_called object method value next otherwise = ask (Call method object [] value) (value_seen value next otherwise)

abbrev pub method_seen : Reg → Reg → Reg → (Primitive → Steps) → Steps → Steps
method_seen object method value next otherwise = look method (λ m. if is_function m then method_called object method value next otherwise else otherwise)

abbrev pub by_method : List ℕ → Reg → Reg → Reg → (Primitive → Steps) → Steps → Steps
by_method name object method value next otherwise = ask (Get object name method) (method_seen object method value next otherwise)

-- the value of the object in the one register, by methods that are put into the second, with what they give in the third
abbrev pub default_value : Hint → Reg → Reg → Reg → (Primitive → Steps) → Steps
default_value h object method value next =
    by_method (first_name h) object method value next (by_method (second_name h) object method value next throws_type_error)

-- the conversion of an object to a primitive value as a built-in of its own, with the object in register 0
abbrev pub conversion : Hint → Steps
conversion h = default_value h (reg 0) (reg 2) (reg 3) (λ p. ends (Return (reg 3)))

-- ---- what is in a register, converted: two more registers are for what the conversion needs

-- ToPrimitive (ECMA-262 9.1): the primitive value, and the register that holds it
abbrev pub primitive_in : Hint → Seen → Reg → Reg → Reg → (Primitive → Reg → Steps) → Steps
primitive_in h (Prim p) r method value next = next p r
primitive_in h (Object c) r method value next = default_value h r method value (λ p. next p value)

abbrev pub primitive_of_register : Hint → Reg → Reg → Reg → (Primitive → Reg → Steps) → Steps
primitive_of_register h r method value next = look r (λ s. primitive_in h s r method value next)

-- ToString (ECMA-262 9.8): the text, and the register that holds it
abbrev pub text_in : Primitive → Reg → Reg → (List ℕ → Reg → Steps) → Steps
text_in (Str text) r value next = next text r
text_in p r value next = ask (Make (Str (text_of p)) value) (next (text_of p) value)

abbrev pub text_of_register : Reg → Reg → Reg → (List ℕ → Reg → Steps) → Steps
text_of_register r method value next = primitive_of_register hint.String r method value (λ p at. text_in p at value next)

-- ToNumber (ECMA-262 9.3): the text of a number that isn't in the profile leaves
abbrev pub number_or_leave : Result Num LeftNumbers → (Num → Steps) → Steps
number_or_leave (Ok n) next = next n
number_or_leave (Err left) next = leaves (codes "number")

abbrev pub number_of_register : Reg → Reg → Reg → (Num → Steps) → Steps
number_of_register r method value next = primitive_of_register hint.Number r method value (λ p at. number_or_leave (number_of p) next)

-- ToInteger (ECMA-262 9.4), with which ToInt32 and ToUint32 (9.5, 9.6) begin: NaN counts as 0
abbrev pub integer_of_register : Reg → Reg → Reg → (ℤ → Steps) → Steps
integer_of_register r method value next = number_of_register r method value (λ n. next (integer_of n))

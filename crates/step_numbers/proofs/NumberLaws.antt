-- What operators give of two integers.
use Rattle.std.proofs.Common.{refl, ◌≡◌, ℤ, not, int_lt, false, Result, Ok, Err}
use Rattle.js_ast.specs.declared.operators.BinaryOperator.{BinaryOperator}
use Rattle.js_number.specs.declared.int.LeftNumbers.{LeftNumbers}
use Rattle.js_number.specs.declared.num.Num.{Num as Number}
use Rattle.js_number.specs.declared.num.Num.TheVariants.{Int}
use Rattle.js_number.specs.declared.primitive.Primitive.TheVariants as prims
use Rattle.js_number.specs.Arithmetic.{added}
use Rattle.js_number.specs.Compare.{is_less}
use Rattle.js_number.specs.Sum as sums
use Rattle.js_number.specs.Sum.{sum_of}
use Rattle.js_values.specs.declared.value.Value.TheVariants as value
use Rattle.es_meaning.specs.Evaluation as es
use Rattle.es_meaning.specs.Operators as es_operators
use Rattle.native_protocol.specs.declared.request.Seen.TheVariants as seen
use Rattle.js_ast.specs.declared.operators.UnaryOperator.TheVariants as unary_operator
use Rattle.es_meaning.specs.Evaluation.{conversion_of}
use Rattle.es_meaning.specs.Operators.{as_less, as_not_less, as_number, as_sum, binary_of_primitives, of_numbers}
use Rattle.step_numbers.specs.Evaluated.{integer}
use Rattle.step_values.specs.Converted.{converts, converts_by}

-- as values they are compared and combined as primitive values are
pub converts_numbers : (o : BinaryOperator) (a b : ℤ) → es_operators.binary_of o (value.Primitive (integer a)) (value.Primitive (integer b)) ≡ binary_of_primitives o (integer a) (integer b)
unfolding es_operators.binary_of
converts_numbers o a b = refl

none_by : (c : es.Conversion) (a b : ℤ) → converts_by c (value.Primitive (integer a)) (value.Primitive (integer b)) ≡ false
none_by es.unconverted a b = refl
none_by es.compared a b = refl
none_by (es.primitives h) a b = refl
none_by es.numbers a b = refl
none_by es.keyed a b = refl

-- no operator has numbers converted
pub none_converts : (o : BinaryOperator) (a b : ℤ) → converts o (value.Primitive (integer a)) (value.Primitive (integer b)) ≡ false
none_converts o a b = none_by (conversion_of o) a b

pub of_both : (f : Number → Number → Result Number LeftNumbers) (a b : ℤ) → of_numbers f (integer a) (integer b) ≡ as_number (f (Int a) (Int b))
of_both f a b = refl

sum_given : (r : Result Number LeftNumbers) → as_sum (sums.as_sum r) ≡ as_number r
sum_given (Ok n) = refl
sum_given (Err e) = refl

pub sum_of_both : (a b : ℤ) → as_sum (sum_of (integer a) (integer b)) ≡ as_number (added (Int a) (Int b))
sum_of_both a b = sum_given (added (Int a) (Int b))

pub less_given : (a b : ℤ) → as_less (is_less (integer a) (integer b)) ≡ Ok (prims.Bool (int_lt a b))
less_given a b = refl

pub turned_given : (a b : ℤ) → as_not_less (is_less (integer a) (integer b)) ≡ Ok (prims.Bool (not (int_lt a b)))
turned_given a b = refl

-- a number as a number is itself
pub plus_number : (z : ℤ) → es_operators.unary_of unary_operator.Plus (seen.Prim (integer z)) ≡ Ok (integer z)
unfolding es_operators.unary_of
plus_number z = refl

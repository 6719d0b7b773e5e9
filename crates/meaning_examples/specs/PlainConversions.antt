-- Small scripts in which objects are converted to primitive values, and what they give, worked out by hand and asked of another engine (ECMA-262 8.12.8, 9.1, 11).
use Rattle.std.specs.Prelude.{[], codes, ◌∷◌}
use Rattle.js_ast.specs.Trees.{comma, no_properties, null, paren, postfix, this, unary}
use Rattle.js_ast.specs.declared.operators.BinaryOperator.TheVariants as binary_operator
use Rattle.js_ast.specs.declared.operators.PostfixOperator.TheVariants as postfix_operator
use Rattle.js_ast.specs.declared.operators.UnaryOperator.TheVariants as unary_operator
use Rattle.es_meaning.specs.Outcomes.{done, halted, out_of_turns}
use Rattle.meaning_examples.specs.Building.{adds, at, bare_function, constructs, does, dot, e, f, f_is, gets, has_value, is_in, literal, makes, method, minus, named, num, o, op, plus, prints, prints_on, prototype_of, puts, returns, s, text, throws, tries, var_is, with_comma}
use Rattle.meaning_examples.specs.PlainRuns.{Gives, Leaves, Prints, PrintsAll, Throws, prints_and, type_error_thrown}

pub record SumRows : Type 0 where
  -- print("pub", {valueOf: function () { return 3; }} + 1);
  pub sum : Prints (prints (codes "pub") (plus (literal (method 1 (codes "valueOf") (returns (num 3) ∷ []) no_properties)) (num 1)) ∷ []) (codes "4")
  -- print("pub", {valueOf: function () { return {}; }, toString: function () { return "t"; }} + 1);
  pub by_the_second_method : Prints (prints (codes "pub") (plus (literal (method 1 (codes "valueOf") (returns (literal no_properties) ∷ []) (method 2 (codes "toString") (returns (text (codes "t")) ∷ []) no_properties))) (num 1)) ∷ []) (codes "t1")
  -- ({valueOf: 1, toString: 2}) + 1;
  pub by_no_method : Throws (does (plus (paren 0 (literal (has_value (codes "valueOf") (num 1) (has_value (codes "toString") (num 2) no_properties)))) (num 1)) ∷ []) type_error_thrown
  -- print("pub", {a: 4, valueOf: function () { return this.a; }} * 2);
  pub with_the_object_as_this : Prints (prints (codes "pub") (op (literal (has_value (codes "a") (num 4) (method 1 (codes "valueOf") (returns (dot (this 0) (codes "a")) ∷ []) no_properties))) binary_operator.Multiply (num 2)) ∷ []) (codes "8")
  -- function f() {} f.prototype.valueOf = function () { return 8; }; print("pub", new f() + 1);
  pub by_an_inherited_method : Prints (f_is [] []
      ∷ does (puts (dot (prototype_of f) (codes "valueOf")) (makes (bare_function 2 [] (returns (num 8) ∷ []))))
      ∷ prints (codes "pub") (plus (constructs f []) (num 1)) ∷ []) (codes "9")
  -- print("pub", {get valueOf() { return function () { return 6; }; }} + 1);
  pub by_a_getter : Prints (prints (codes "pub") (plus (literal (gets 1 (codes "valueOf") (returns (makes (bare_function 2 [] (returns (num 6) ∷ []))) ∷ []) no_properties)) (num 1)) ∷ []) (codes "7")
  -- var a = {valueOf: function () { print("pub", "l"); return 7; }}; var b = {valueOf: function () { print("pub", "r"); return 2; }}; print("pub", a - b); print("pub", a > b); both operands are converted, the left one first, also of `>`
  pub operands_in_order : PrintsAll (var_is (codes "a") (literal (method 1 (codes "valueOf") (prints (codes "pub") (text (codes "l")) ∷ returns (num 7) ∷ []) no_properties))
      ∷ var_is (codes "b") (literal (method 2 (codes "valueOf") (prints (codes "pub") (text (codes "r")) ∷ returns (num 2) ∷ []) no_properties))
      ∷ prints (codes "pub") (op (named (codes "a")) binary_operator.Subtract (named (codes "b")))
      ∷ prints (codes "pub") (op (named (codes "a")) binary_operator.Greater (named (codes "b"))) ∷ []) (codes "l" ∷ codes "r" ∷ codes "5" ∷ codes "l" ∷ codes "r" ∷ codes "true" ∷ [])
  -- "1.5" - {valueOf: function () { print("pub", "r"); return 2; }}; the left operand is a number before the right one is converted
  pub left_number_first : Leaves (does (op (text (codes "1.5")) binary_operator.Subtract (literal (method 1 (codes "valueOf") (prints (codes "pub") (text (codes "r")) ∷ returns (num 2) ∷ []) no_properties))) ∷ []) (codes "number")

pub record OperatorRows : Type 0 where
  -- var o = {valueOf: function () { return 3; }}; print("pub", (o == 3) + "," + (3 != o) + "," + (o == o) + "," + (o === 3) + "," + (o == null));
  pub compared : Prints (var_is (codes "o") (literal (method 1 (codes "valueOf") (returns (num 3) ∷ []) no_properties))
      ∷ prints (codes "pub") (with_comma (with_comma (with_comma (with_comma (paren 0 (op o binary_operator.Equal (num 3))) (paren 0 (op (num 3) binary_operator.NotEqual o))) (paren 0 (op o binary_operator.Equal o))) (paren 0 (op o binary_operator.StrictEqual (num 3)))) (paren 0 (op o binary_operator.Equal (null 0)))) ∷ []) (codes "true,false,true,false,false")
  -- var o = {valueOf: function () { return "3"; }}; print("pub", -o + "," + +o + "," + ~o + "," + !o);
  pub negated : Prints (var_is (codes "o") (literal (method 1 (codes "valueOf") (returns (text (codes "3")) ∷ []) no_properties))
      ∷ prints (codes "pub") (with_comma (with_comma (with_comma (minus o) (unary 0 unary_operator.Plus o)) (unary 0 unary_operator.BitNot o)) (unary 0 unary_operator.Not o)) ∷ []) (codes "-3,3,-4,false")
  -- var o = {valueOf: function () { return "3"; }}; print("pub", o++ + "," + o);
  pub counted_up : Prints (var_is (codes "o") (literal (method 1 (codes "valueOf") (returns (text (codes "3")) ∷ []) no_properties))
      ∷ prints (codes "pub") (with_comma (postfix 0 o postfix_operator.Increment) o) ∷ []) (codes "3,4")
  -- var s = "x"; s += {toString: function () { return "y"; }}; print("pub", s);
  pub added_to : Prints (var_is (codes "s") (text (codes "x"))
      ∷ does (adds (codes "s") (literal (method 1 (codes "toString") (returns (text (codes "y")) ∷ []) no_properties))) ∷ prints (codes "pub") s ∷ []) (codes "xy")
  -- +{valueOf: function () { return 3; }}; four parts, the requests for the method, a look at it, its call, a look at what it gave and the end, and in the call two parts
  pub converted_in_eleven : Gives (does (unary 0 unary_operator.Plus (literal (method 1 (codes "valueOf") (returns (num 3) ∷ []) no_properties))) ∷ []) 11 (prints_and [] done)
  pub converted_in_ten : Gives (does (unary 0 unary_operator.Plus (literal (method 1 (codes "valueOf") (returns (num 3) ∷ []) no_properties))) ∷ []) 10 (prints_and [] (halted out_of_turns))

pub record KeyRows : Type 0 where
  -- var o = {a: 1}; print("pub", o[{toString: function () { return "a"; }}]);
  pub key : Prints (var_is (codes "o") (literal (has_value (codes "a") (num 1) no_properties))
      ∷ prints (codes "pub") (at o (literal (method 1 (codes "toString") (returns (text (codes "a")) ∷ []) no_properties))) ∷ []) (codes "1")
  -- print("pub", {toString: function () { return "t"; }, valueOf: function () { return "v"; }});
  pub printed : Prints (prints (codes "pub") (literal (method 1 (codes "toString") (returns (text (codes "t")) ∷ []) (method 2 (codes "valueOf") (returns (text (codes "v")) ∷ []) no_properties))) ∷ []) (codes "t")
  -- print("pub", {toString: function () { print("pub", "in"); return "out"; }});
  pub printed_inside : PrintsAll (prints (codes "pub") (literal (method 1 (codes "toString") (prints (codes "pub") (text (codes "in")) ∷ returns (text (codes "out")) ∷ []) no_properties)) ∷ []) (codes "in" ∷ codes "out" ∷ [])
  -- try { print("pub", {toString: function () { throw 5; }}); } catch (e) { print("pub", e); }
  pub thrown_by_method : Prints (tries (prints (codes "pub") (literal (method 1 (codes "toString") (throws (num 5) ∷ []) no_properties)) ∷ []) (prints (codes "pub") e ∷ []) ∷ []) (codes "5")
  -- var o = {a: 1}; print("pub", ({toString: function () { return "a"; }}) in o);
  pub asked_for : Prints (var_is (codes "o") (literal (has_value (codes "a") (num 1) no_properties))
      ∷ prints (codes "pub") (is_in (paren 0 (literal (method 1 (codes "toString") (returns (text (codes "a")) ∷ []) no_properties))) o) ∷ []) (codes "true")
  -- ({toString: function () { print("pub", 1); return "a"; }}) in 5; the right operand must be an object before the left one is a key
  pub asked_of_no_object : Throws (does (is_in (paren 0 (literal (method 1 (codes "toString") (prints (codes "pub") (num 1) ∷ returns (text (codes "a")) ∷ []) no_properties))) (num 5)) ∷ []) type_error_thrown
  -- null[{toString: function () { print("pub", 1); return "a"; }}]; and so must a base be able to have properties
  pub key_of_no_object : Throws (does (at (null 0) (literal (method 1 (codes "toString") (prints (codes "pub") (num 1) ∷ returns (text (codes "a")) ∷ []) no_properties))) ∷ []) type_error_thrown
  -- var o = {}; o[{toString: function () { print("pub", "k"); return "a"; }}] = (print("pub", "v"), 1); print("pub", o.a); the key is a text before the value is evaluated
  pub key_before_value : PrintsAll (var_is (codes "o") (literal no_properties)
      ∷ does (puts (at o (literal (method 1 (codes "toString") (prints (codes "pub") (text (codes "k")) ∷ returns (text (codes "a")) ∷ []) no_properties))) (paren 0 (comma 0 (prints_on (codes "pub") (text (codes "v"))) (num 1))))
      ∷ prints (codes "pub") (dot o (codes "a")) ∷ []) (codes "k" ∷ codes "v" ∷ codes "1" ∷ [])

-- Small scripts in which objects are converted to primitive values under the flow rules, and what they print or by which rule they are stopped, worked out by hand.
use Rattle.std.specs.Prelude.{[], codes, ◌∷◌}
use Rattle.flow_frames.specs.declared.faults.Rule.TheVariants.{W1, W12, W9}
use Rattle.js_ast.specs.Trees.{no_properties, paren}
use Rattle.js_ast.specs.declared.operators.BinaryOperator.TheVariants as binary_operator
use Rattle.meaning_examples.specs.Building.{at, bare_function, does, has_value, hidden, literal, makes, method, named, num, o, op, plus, prints, returns, sets, text, var_is}
use Rattle.meaning_examples.specs.LabelledRuns.{Prints, Stops, Throws, origin_a}
use Rattle.meaning_examples.specs.PlainRuns.{type_error_thrown}

pub record FrameRows : Type 0 where
  -- var x = 0; lbl({valueOf: function () { x = 1; return 3; }}, "A") + 1; the conversion is done in a frame with the label of the object
  pub object_stops : Stops (var_is (codes "x") (num 0)
      ∷ does (plus (hidden (literal (method 1 (codes "valueOf") (does (sets (codes "x") (num 1)) ∷ returns (num 3) ∷ []) no_properties))) (num 1)) ∷ []) W1
  -- print("pub", lbl({valueOf: function () { return 3; }}, "A") + 1);
  pub object_result_stops : Stops (prints (codes "pub") (plus (hidden (literal (method 1 (codes "valueOf") (returns (num 3) ∷ []) no_properties))) (num 1)) ∷ []) W12
  -- var x = 0; ({valueOf: function () { x = 1; return 3; }}) == lbl(3, "A"); and of the other operand of `==`, which decides whether there is one
  pub compared_stops : Stops (var_is (codes "x") (num 0)
      ∷ does (op (paren 0 (literal (method 1 (codes "valueOf") (does (sets (codes "x") (num 1)) ∷ returns (num 3) ∷ []) no_properties))) binary_operator.Equal (hidden (num 3))) ∷ []) W1
  -- var x = 0; lbl(3, "A") == {valueOf: function () { x = 1; return 3; }};
  pub compared_too_stops : Stops (var_is (codes "x") (num 0)
      ∷ does (op (hidden (num 3)) binary_operator.Equal (literal (method 1 (codes "valueOf") (does (sets (codes "x") (num 1)) ∷ returns (num 3) ∷ []) no_properties))) ∷ []) W1
  -- var x = 0; ({valueOf: function () { x = 1; return 3; }}) + lbl(1, "A"); print("pub", x);
  pub other_operand : Prints (codes "1") (var_is (codes "x") (num 0)
      ∷ does (plus (paren 0 (literal (method 1 (codes "valueOf") (does (sets (codes "x") (num 1)) ∷ returns (num 3) ∷ []) no_properties))) (hidden (num 1)))
      ∷ prints (codes "pub") (named (codes "x")) ∷ []) (codes "pub") (codes "1") []
  -- lbl({valueOf: function () { return 3; }}, "A") + 1; print("pub", 1);
  pub behind_conversion : Prints (codes "1") (does (plus (hidden (literal (method 1 (codes "valueOf") (returns (num 3) ∷ []) no_properties))) (num 1))
      ∷ prints (codes "pub") (num 1) ∷ []) (codes "pub") (codes "1") []
  -- var x = 0; var o = {a: 1}; o[lbl({toString: function () { x = 1; return "a"; }}, "A")];
  pub key_stops : Stops (var_is (codes "x") (num 0) ∷ var_is (codes "o") (literal (has_value (codes "a") (num 1) no_properties))
      ∷ does (at o (hidden (literal (method 1 (codes "toString") (does (sets (codes "x") (num 1)) ∷ returns (text (codes "a")) ∷ []) no_properties)))) ∷ []) W1

pub record MethodRows : Type 0 where
  -- var x = 0; ({valueOf: lbl(1, "A"), toString: function () { x = 1; return "t"; }}) + 1; a look at a hidden method makes what is done then hidden
  pub second_method_stops : Stops (var_is (codes "x") (num 0)
      ∷ does (plus (paren 0 (literal (has_value (codes "valueOf") (hidden (num 1)) (method 1 (codes "toString") (does (sets (codes "x") (num 1)) ∷ returns (text (codes "t")) ∷ []) no_properties)))) (num 1)) ∷ []) W1
  -- print("pub", {valueOf: lbl(function () { return 3; }, "A")} + 1);
  pub method_stops : Stops (prints (codes "pub") (plus (literal (has_value (codes "valueOf") (hidden (makes (bare_function 1 [] (returns (num 3) ∷ [])))) no_properties)) (num 1)) ∷ []) W12
  -- print("pub", {valueOf: function () { return lbl(3, "A"); }} + 1);
  pub given_stops : Stops (prints (codes "pub") (plus (literal (method 1 (codes "valueOf") (returns (hidden (num 3)) ∷ []) no_properties)) (num 1)) ∷ []) W12
  -- var o = {a: 1}; print("pub", o[{toString: function () { return lbl("a", "A"); }}]);
  pub key_given_stops : Stops (var_is (codes "o") (literal (has_value (codes "a") (num 1) no_properties))
      ∷ prints (codes "pub") (at o (literal (method 1 (codes "toString") (returns (hidden (text (codes "a"))) ∷ []) no_properties))) ∷ []) W12
  -- print("pub", {toString: function () { return lbl("t", "A"); }});
  pub text_given_stops : Stops (prints (codes "pub") (literal (method 1 (codes "toString") (returns (hidden (text (codes "t"))) ∷ []) no_properties)) ∷ []) W12
  -- print("all", {toString: function () { return lbl("t", "A"); }});
  pub text_given : Prints (codes "1") (prints (codes "all") (literal (method 1 (codes "toString") (returns (hidden (text (codes "t"))) ∷ []) no_properties)) ∷ []) (codes "all") (codes "t") origin_a
  -- lbl({valueOf: 1, toString: 1}, "A") + 1;
  pub no_method_stops : Stops (does (plus (hidden (literal (has_value (codes "valueOf") (num 1) (has_value (codes "toString") (num 1) no_properties)))) (num 1)) ∷ []) W9
  -- ({valueOf: lbl(1, "A"), toString: 1}) + 1;
  pub no_hidden_method_stops : Stops (does (plus (paren 0 (literal (has_value (codes "valueOf") (hidden (num 1)) (has_value (codes "toString") (num 1) no_properties)))) (num 1)) ∷ []) W9
  -- ({valueOf: 1, toString: 1}) + lbl(1, "A");
  pub no_method : Throws (does (plus (paren 0 (literal (has_value (codes "valueOf") (num 1) (has_value (codes "toString") (num 1) no_properties)))) (hidden (num 1))) ∷ []) type_error_thrown

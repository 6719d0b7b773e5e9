-- Small scripts with functions under the flow rules, and what they print or by which rule they are stopped, worked out by hand.
use Rattle.std.specs.Prelude.{[], codes, ◌∷◌}
use Rattle.flow_frames.specs.declared.faults.Rule.TheVariants.{W1, W10, W12, W3, W4, W9}
use Rattle.js_ast.specs.Trees.{conditional, no_properties, paren, this}
use Rattle.js_ast.specs.declared.operators.BinaryOperator.TheVariants as binary_operator
use Rattle.meaning_examples.specs.Building.{calls, constructs, deletes, directive, does, dot, f, f_is, g, g_is, has_value, hidden, is_one, literal, named, num, op, prints, prototype_of, puts, raises_existence, raises_structure, returns, sets, type_of, var_is, where_one}
use Rattle.meaning_examples.specs.LabelledRuns.{Prints, Stops, origin_a}

pub record CallRows : Type 0 where
  -- var x = 0; function f() { x = 1; } function g() { x = 2; } (read("pin") == "1" ? f : g)(); the callee's label is in the context
  pub callee_stops : Stops (var_is (codes "x") (num 0) ∷ f_is [] (does (sets (codes "x") (num 1)) ∷ []) ∷ g_is (does (sets (codes "x") (num 2)) ∷ []) ∷ does (calls (paren 0 (conditional 0 is_one f g)) []) ∷ []) W1
  -- and in the result
  pub result_stops : Stops (f_is [] (returns (num 1) ∷ []) ∷ prints (codes "pub") (calls (hidden f) []) ∷ []) W12
  -- what found it too: var o = {f: f}; upge(o, "f", "A"); o.f();
  pub found_stops : Stops (var_is (codes "x") (num 0) ∷ f_is [] (does (sets (codes "x") (num 1)) ∷ []) ∷ var_is (codes "o") (literal (has_value (codes "f") f no_properties)) ∷ does (raises_existence (named (codes "o")) (codes "f")) ∷ does (calls (dot (named (codes "o")) (codes "f")) []) ∷ []) W1
  -- an argument's label is the parameter's, and no part of the context
  pub argument_stops : Stops (f_is (codes "a" ∷ []) (prints (codes "pub") (named (codes "a")) ∷ []) ∷ does (calls f (hidden (num 1) ∷ [])) ∷ []) W12
  pub argument_is_outside : Prints (codes "1") (f_is (codes "a" ∷ []) (prints (codes "pub") (num 1) ∷ []) ∷ does (calls f (hidden (num 1) ∷ [])) ∷ []) (codes "pub") (codes "1") []

pub record HiddenCallRows : Type 0 where
  -- function f(a) { a = 2; var o = {p: 1}; delete o.p; return a; } what a hidden call makes is free in it
  pub hidden_call_is_free : Prints (codes "1") (f_is (codes "a" ∷ []) (does (sets (codes "a") (num 2)) ∷ var_is (codes "o") (literal (has_value (codes "p") (num 1) no_properties)) ∷ does (deletes (dot (named (codes "o")) (codes "p"))) ∷ returns (named (codes "a")) ∷ [])
      ∷ var_is (codes "x") (hidden (num 0)) ∷ where_one (does (sets (codes "x") (calls f (num 1 ∷ [])))) ∷ prints (codes "all") (named (codes "x")) ∷ []) (codes "all") (codes "2") origin_a
  -- function f(o) { delete o.p; } on an object from outside
  pub hidden_call_stops : Stops (f_is (codes "o" ∷ []) (does (deletes (dot (named (codes "o")) (codes "p"))) ∷ []) ∷ var_is (codes "q") (literal (has_value (codes "p") (num 1) no_properties)) ∷ where_one (does (calls f (named (codes "q") ∷ []))) ∷ []) W4

pub record ReturnRows : Type 0 where
  -- function f() { if (read("pin") == "1") return 1; return 2; } needs "flow ret A"
  pub return_stops : Stops (f_is [] (where_one (returns (num 1)) ∷ returns (num 2) ∷ []) ∷ prints (codes "all") (calls f []) ∷ []) W9
  pub return_prints : Prints (codes "1") (f_is [] (directive (codes "flow ret A") ∷ where_one (returns (num 1)) ∷ returns (num 2) ∷ []) ∷ prints (codes "all") (calls f []) ∷ []) (codes "all") (codes "1") origin_a
  pub directive_stops : Stops (f_is [] (where_one (directive (codes "flow ret A")) ∷ []) ∷ does (calls f []) ∷ []) W10
  -- the directive ends with its call: f(); print("pub", 1);
  pub directive_ends : Prints (codes "1") (f_is [] (directive (codes "flow ret A") ∷ []) ∷ does (calls f []) ∷ prints (codes "pub") (num 1) ∷ []) (codes "pub") (codes "1") []
  -- lbl(5, "A")(); the label of what can't be called is the cause
  pub cause_stops : Stops (does (calls (hidden (num 5)) []) ∷ []) W9

pub record ConstructionRows : Type 0 where
  -- function f() {} f.prototype = lbl({}, "A"); var o = new f(); o.x = 1; the link has the label of the prototype
  pub link_stops : Stops (f_is [] [] ∷ does (puts (prototype_of f) (hidden (literal no_properties))) ∷ var_is (codes "o") (constructs f []) ∷ does (puts (dot (named (codes "o")) (codes "x")) (num 1)) ∷ []) W3
  -- what is made by a hidden constructor is free in it, and the reference has the callee's label
  pub hidden_constructor : Prints (codes "1") (f_is [] (does (puts (dot (this 0) (codes "p")) (num 1)) ∷ []) ∷ prints (codes "all") (dot (constructs (paren 0 (hidden f)) []) (codes "p")) ∷ []) (codes "all") (codes "1") origin_a
  -- typeof new f() where f returns a hidden primitive
  pub fresh_stops : Stops (f_is [] (returns (hidden (num 1)) ∷ []) ∷ prints (codes "pub") (type_of (constructs f [])) ∷ []) W12

pub record InstanceRows : Type 0 where
  -- lbl({}, "A") instanceof f, also where f.prototype is no object; and upgs(new f(), "A") plays no part
  pub instance_stops : Stops (f_is [] [] ∷ prints (codes "pub") (op (hidden (literal no_properties)) binary_operator.Instanceof f) ∷ []) W12
  pub instance_cause_stops : Stops (f_is [] [] ∷ does (puts (prototype_of f) (num 3)) ∷ does (op (hidden (literal no_properties)) binary_operator.Instanceof f) ∷ []) W9
  pub structure_plays_no_part : Prints (codes "1") (f_is [] [] ∷ var_is (codes "o") (constructs f []) ∷ raises_structure (named (codes "o")) ∷ prints (codes "pub") (op (named (codes "o")) binary_operator.Instanceof f) ∷ []) (codes "pub") (codes "true") []

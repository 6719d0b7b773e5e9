-- Small scripts with functions, and what they give, worked out by hand or asked of another engine.
use Rattle.std.specs.Prelude.{[], codes, ◌++◌, ◌∷◌}
use Rattle.js_ast.specs.Trees.{comma, for_in, no_properties, paren, target_var, this}
use Rattle.js_ast.specs.declared.operators.BinaryOperator.TheVariants as binary_operator
use Rattle.es_meaning.specs.Outcomes.{done, halted, out_of_turns, threw}
use Rattle.meaning_examples.specs.Building.{adds, at, bare_function, calls, constructs, declares, deletes, does, dot, f, f_is, has_value, ident, literal, makes, named, named_function, num, op, prints, prints_on, prototype_of, puts, returns, sets, shows, text, type_of, var_is, with_comma}
use Rattle.meaning_examples.specs.PlainRuns.{Gives, Prints, line, prints_and, type_error_thrown}

pub record DeclarationRows : Type 0 where
  -- function f(a, b) { return a + "," + b; } f(1, 2, 3) + "," + f(1)
  pub arguments_given : Prints (f_is (codes "a" ∷ codes "b" ∷ []) (returns (with_comma (named (codes "a")) (named (codes "b"))) ∷ []) ∷ shows (with_comma (calls f (num 1 ∷ num 2 ∷ num 3 ∷ [])) (calls f (num 1 ∷ [])))) (codes "1,2,1,undefined")
  -- function f() { return 1; } function f() { return 2; } and a call in front of both
  pub later_counts : Prints (shows (calls f []) ++ (f_is [] (returns (num 1) ∷ []) ∷ declares (named_function 2 (codes "f") [] (returns (num 2) ∷ [])) ∷ [])) (codes "2")
  -- function f(a) { return typeof a; function a() {} }
  pub function_replaces_parameter : Prints (f_is (codes "a" ∷ []) (returns (type_of (named (codes "a"))) ∷ declares (named_function 2 (codes "a") [] []) ∷ []) ∷ shows (calls f (num 1 ∷ []))) (codes "function")
  -- function f(a) { var a; return a; }
  pub variable_keeps_argument : Prints (f_is (codes "a" ∷ []) (returns (named (codes "a")) ∷ var_is (codes "a") (num 2) ∷ []) ∷ shows (calls f (num 1 ∷ []))) (codes "1")
  -- function f() { var n = 0; return function () { n += 1; return n; }; } var a = f(), b = f(); a() + "," + a() + "," + b()
  pub closures : Prints (f_is [] (var_is (codes "n") (num 0) ∷ returns (makes (bare_function 2 [] (does (adds (codes "n") (num 1)) ∷ returns (named (codes "n")) ∷ []))) ∷ []) ∷ var_is (codes "a") (calls f []) ∷ var_is (codes "b") (calls f [])
      ∷ shows (with_comma (with_comma (calls (named (codes "a")) []) (calls (named (codes "a")) [])) (calls (named (codes "b")) []))) (codes "1,2,1")
  -- (function f() { f = 1; })(); its own name can't be assigned
  pub own_name : Gives (does (calls (paren 0 (makes (named_function 1 (codes "f") [] (does (sets (codes "f") (num 1)) ∷ [])))) []) ∷ []) 200 (prints_and [] (threw type_error_thrown))

pub record CallRows : Type 0 where
  -- function f(x) { arguments[0] = 5; return x + "," + arguments[0] + "," + arguments.length; } f(1, 2)
  pub arguments_unmapped : Prints (f_is (codes "x" ∷ []) (does (puts (at (named (codes "arguments")) (num 0)) (num 5)) ∷ returns (with_comma (with_comma (named (codes "x")) (at (named (codes "arguments")) (num 0))) (dot (named (codes "arguments")) (codes "length"))) ∷ []) ∷ shows (calls f (num 1 ∷ num 2 ∷ [])))
      (codes "1,5,2")
  -- var s = ""; function f() { for (var k in arguments) s += k; } f(7, 8)
  pub arguments_keys : Prints (var_is (codes "s") (text []) ∷ f_is [] (for_in 0 (target_var (ident (codes "k"))) (named (codes "arguments")) (does (adds (codes "s") (named (codes "k")))) ∷ []) ∷ does (calls f (num 7 ∷ num 8 ∷ [])) ∷ shows (named (codes "s"))) (codes "10")
  -- function f() { return this; } var o = {f: f}; (o.f() === o) + "," + f()
  pub this_given : Prints (f_is [] (returns (this 0) ∷ []) ∷ var_is (codes "o") (literal (has_value (codes "f") f no_properties)) ∷ shows (with_comma (paren 0 (op (calls (dot (named (codes "o")) (codes "f")) []) binary_operator.StrictEqual (named (codes "o")))) (calls f []))) (codes "true,undefined")
  -- (print("pub", "c"), 5)(print("pub", 1)); the callee, its arguments, and then the test
  pub tested_last : Gives (does (calls (paren 0 (comma 0 (prints_on (codes "pub") (text (codes "c"))) (num 5))) (prints_on (codes "pub") (num 1) ∷ [])) ∷ []) 200
      (prints_and (line (codes "pub") (codes "c") ∷ line (codes "pub") (codes "1") ∷ []) (threw type_error_thrown))

pub record ConstructionRows : Type 0 where
  -- function f() { this.p = 1; } f.prototype.q = 2; new f().p + "," + new f().q
  pub constructed : Prints (f_is [] (does (puts (dot (this 0) (codes "p")) (num 1)) ∷ []) ∷ does (puts (dot (prototype_of f) (codes "q")) (num 2)) ∷ shows (with_comma (dot (constructs f []) (codes "p")) (dot (constructs f []) (codes "q")))) (codes "1,2")
  -- function f() { return {p: 7}; } new f().p; and function f() { this.p = 1; return 7; }
  pub object_returned : Prints (f_is [] (returns (literal (has_value (codes "p") (num 7) no_properties)) ∷ []) ∷ shows (dot (constructs f []) (codes "p"))) (codes "7")
  pub primitive_returned : Prints (f_is [] (does (puts (dot (this 0) (codes "p")) (num 1)) ∷ returns (num 7) ∷ []) ∷ shows (dot (constructs f []) (codes "p"))) (codes "1")

pub record InstanceRows : Type 0 where
  -- (new f() instanceof f) + "," + (5 instanceof f) + "," + (f.prototype.constructor === f) + "," + f.length
  pub instances : Prints (f_is (codes "a" ∷ []) [] ∷ shows (with_comma (with_comma (with_comma (paren 0 (op (constructs f []) binary_operator.Instanceof f)) (paren 0 (op (num 5) binary_operator.Instanceof f)))
      (paren 0 (op (dot (prototype_of f) (codes "constructor")) binary_operator.StrictEqual f))) (dot f (codes "length")))) (codes "true,false,true,1")
  -- ({}) instanceof {}; f.prototype = 3; ({}) instanceof f;
  pub instance_of_no_function : Gives (does (op (literal no_properties) binary_operator.Instanceof (literal no_properties)) ∷ []) 200 (prints_and [] (threw type_error_thrown))
  pub instance_of_no_prototype : Gives (f_is [] [] ∷ does (puts (prototype_of f) (num 3)) ∷ does (op (literal no_properties) binary_operator.Instanceof f) ∷ []) 200 (prints_and [] (threw type_error_thrown))

pub record RefusalRows : Type 0 where
  -- delete f.prototype
  pub prototype_stays : Gives (f_is [] [] ∷ does (deletes (prototype_of f)) ∷ []) 200 (prints_and [] (threw type_error_thrown))
  -- a declared function is a property of `this` that stays, and one named as a property that can't be changed is refused at once
  pub declared_global : Gives (f_is [] [] ∷ does (deletes (dot (this 0) (codes "f"))) ∷ []) 200 (prints_and [] (threw type_error_thrown))
  pub refused_at_once : Gives (prints (codes "pub") (num 1) ∷ declares (named_function 1 (codes "undefined") [] []) ∷ []) 200 (prints_and [] (threw type_error_thrown))
  -- function f() {} f(); the declaration, the statement, the call and its callee
  pub called_in_four : Gives (f_is [] [] ∷ does (calls f []) ∷ []) 4 (prints_and [] done)
  pub called_in_three : Gives (f_is [] [] ∷ does (calls f []) ∷ []) 3 (prints_and [] (halted out_of_turns))

-- Small scripts that use the five functions of channels as values, and what they give, worked out by hand and asked of another engine.
use Rattle.std.specs.Prelude.{[], codes, ◌∷◌}
use Rattle.js_ast.specs.Trees.{for_in, no_properties, paren, target_var, this}
use Rattle.js_ast.specs.declared.operators.BinaryOperator.TheVariants as binary_operator
use Rattle.meaning_examples.specs.Building.{adds, bare_function, calls, constructs, declares, deletes, does, dot, f, f_is, has_value, hidden, ident, is_in, literal, makes, method, named, named_function, num, o, op, plus, prints, prints_on, puts, reads, returns, s, sets, text, throws, type_of, var_bare, var_is, with_comma}
use Rattle.meaning_examples.specs.PlainRuns.{Leaves, Prints, PrintsAll, Throws, type_error_thrown}

pub record NameRows : Type 0 where
  -- var p = print; p("pub", 1);
  pub in_a_variable : Prints (var_is (codes "p") (named (codes "print")) ∷ does (calls (named (codes "p")) (text (codes "pub") ∷ num 1 ∷ [])) ∷ []) (codes "1")
  -- var o = {p: print}; o.p("pub", 1);
  pub in_a_property : Prints (var_is (codes "o") (literal (has_value (codes "p") (named (codes "print")) no_properties))
      ∷ does (calls (dot o (codes "p")) (text (codes "pub") ∷ num 1 ∷ [])) ∷ []) (codes "1")
  -- print("pub", read.length + "," + print.length + "," + lbl.length + "," + upgs.length + "," + upge.length);
  pub lengths : Prints (prints (codes "pub") (with_comma (with_comma (with_comma (with_comma (dot (named (codes "read")) (codes "length")) (dot (named (codes "print")) (codes "length"))) (dot (named (codes "lbl")) (codes "length"))) (dot (named (codes "upgs")) (codes "length"))) (dot (named (codes "upge")) (codes "length"))) ∷ []) (codes "1,2,1,1,2")
  -- print("pub", print("pub", 1));
  pub given_undefined : PrintsAll (prints (codes "pub") (prints_on (codes "pub") (num 1)) ∷ []) (codes "1" ∷ codes "undefined" ∷ [])
  -- var p = print; print = 5; p("pub", print);
  pub replaced : Prints (var_is (codes "p") (named (codes "print")) ∷ does (sets (codes "print") (num 5))
      ∷ does (calls (named (codes "p")) (text (codes "pub") ∷ named (codes "print") ∷ [])) ∷ []) (codes "5")
  -- var p = print; p("pub", delete this.print); p("pub", typeof print);
  pub deleted : PrintsAll (var_is (codes "p") (named (codes "print"))
      ∷ does (calls (named (codes "p")) (text (codes "pub") ∷ deletes (dot (this 0) (codes "print")) ∷ []))
      ∷ does (calls (named (codes "p")) (text (codes "pub") ∷ type_of (named (codes "print")) ∷ [])) ∷ []) (codes "true" ∷ codes "undefined" ∷ [])
  -- function read(c) { return c + "!"; } print("pub", read("pin"));
  pub declared_over : Prints (declares (named_function 1 (codes "read") (codes "c" ∷ []) (returns (plus (named (codes "c")) (text (codes "!"))) ∷ []))
      ∷ prints (codes "pub") (reads (codes "pin")) ∷ []) (codes "pin!")
  -- var lbl; print("pub", typeof lbl);
  pub variable_keeps_it : Prints (var_bare (codes "lbl") ∷ prints (codes "pub") (type_of (named (codes "lbl"))) ∷ []) (codes "function")

pub record UseRows : Type 0 where
  -- function f(print) { return print("pub"); } print("pub", f(function (x) { return x + 1; }));
  pub as_a_parameter : Prints (f_is (codes "print" ∷ []) (returns (calls (named (codes "print")) (text (codes "pub") ∷ [])) ∷ [])
      ∷ prints (codes "pub") (calls f (makes (bare_function 2 (codes "x" ∷ []) (returns (plus (named (codes "x")) (num 1)) ∷ [])) ∷ [])) ∷ []) (codes "pub1")
  -- var s = "none"; for (var k in print) s += k; print("pub", s);
  pub no_keys : Prints (var_is (codes "s") (text (codes "none"))
      ∷ for_in 0 (target_var (ident (codes "k"))) (named (codes "print")) (does (adds (codes "s") (named (codes "k")))) ∷ prints (codes "pub") s ∷ []) (codes "none")
  -- new print("pub", 1);
  pub constructs_nothing : Throws (does (constructs (named (codes "print")) (text (codes "pub") ∷ num 1 ∷ [])) ∷ []) type_error_thrown
  -- print("pub", 5 instanceof print);
  pub instance_of_it : Prints (prints (codes "pub") (op (num 5) binary_operator.Instanceof (named (codes "print"))) ∷ []) (codes "false")
  -- ({}) instanceof print; it has no `prototype`
  pub object_instance_of_it : Throws (does (op (paren 0 (literal no_properties)) binary_operator.Instanceof (named (codes "print"))) ∷ []) type_error_thrown
  -- throw print;
  pub thrown : Throws (throws (named (codes "print")) ∷ []) (codes "object Function")

pub record ArgumentRows : Type 0 where
  -- print("pub");
  pub one_argument : Prints (does (calls (named (codes "print")) (text (codes "pub") ∷ [])) ∷ []) (codes "undefined")
  -- print();
  pub no_argument : Leaves (does (calls (named (codes "print")) []) ∷ []) (codes "channel")
  -- print({toString: function () { return "pub"; }}, 1);
  pub channel_is_no_text : Leaves (does (calls (named (codes "print")) (literal (method 1 (codes "toString") (returns (text (codes "pub")) ∷ []) no_properties) ∷ num 1 ∷ [])) ∷ []) (codes "channel")
  -- read("zzz");
  pub no_input_channel : Leaves (does (reads (codes "zzz")) ∷ []) (codes "channel")
  -- read(1);
  pub input_channel_is_no_text : Leaves (does (calls (named (codes "read")) (num 1 ∷ [])) ∷ []) (codes "channel")
  -- print("pub", lbl(5) + "," + lbl() + "," + lbl(6, "A", "B"));
  pub labelled : Prints (prints (codes "pub") (with_comma (with_comma (calls (named (codes "lbl")) (num 5 ∷ [])) (calls (named (codes "lbl")) [])) (calls (named (codes "lbl")) (num 6 ∷ text (codes "A") ∷ text (codes "B") ∷ []))) ∷ []) (codes "5,undefined,6")
  -- var o = {}; print("pub", lbl(o, "A") === o);
  pub same_object : Prints (var_is (codes "o") (literal no_properties) ∷ prints (codes "pub") (op (hidden o) binary_operator.StrictEqual o) ∷ []) (codes "true")
  -- lbl(1, "A", "Z");
  pub second_origin : Leaves (does (calls (named (codes "lbl")) (num 1 ∷ text (codes "A") ∷ text (codes "Z") ∷ [])) ∷ []) (codes "origin")
  -- lbl(1, {toString: function () { return "A"; }});
  pub origin_is_no_text : Leaves (does (calls (named (codes "lbl")) (num 1 ∷ literal (method 1 (codes "toString") (returns (text (codes "A")) ∷ []) no_properties) ∷ [])) ∷ []) (codes "origin")

pub record RaiseRows : Type 0 where
  -- upge(1, "p", "A");
  pub raises_no_property : Throws (does (calls (named (codes "upge")) (num 1 ∷ text (codes "p") ∷ text (codes "A") ∷ [])) ∷ []) type_error_thrown
  -- upge({}, "p", "Z");
  pub raises_no_origin : Leaves (does (calls (named (codes "upge")) (literal no_properties ∷ text (codes "p") ∷ text (codes "Z") ∷ [])) ∷ []) (codes "origin")
  -- var o = {p: 1}; upge(o, {toString: function () { print("pub", "k"); return "p"; }}, "A"); print("pub", o.p);
  pub key_converted : PrintsAll (var_is (codes "o") (literal (has_value (codes "p") (num 1) no_properties))
      ∷ does (calls (named (codes "upge")) (o ∷ literal (method 1 (codes "toString") (prints (codes "pub") (text (codes "k")) ∷ returns (text (codes "p")) ∷ []) no_properties) ∷ text (codes "A") ∷ []))
      ∷ prints (codes "pub") (dot o (codes "p")) ∷ []) (codes "k" ∷ codes "1" ∷ [])

pub record LeftRows : Type 0 where
  -- the accessors of functions and of `arguments` leave by their names (13.2.3)
  -- function f() {} f.caller;
  pub caller : Leaves (f_is [] [] ∷ does (dot f (codes "caller")) ∷ []) (codes "caller")
  -- function f() {} f.arguments;
  pub arguments : Leaves (f_is [] [] ∷ does (dot f (codes "arguments")) ∷ []) (codes "arguments")
  -- function f() {} f.caller = 1;
  pub caller_put : Leaves (f_is [] [] ∷ does (puts (dot f (codes "caller")) (num 1)) ∷ []) (codes "caller")
  -- print.caller;
  pub caller_of_built_in : Leaves (does (dot (named (codes "print")) (codes "caller")) ∷ []) (codes "caller")
  -- function f() { return arguments.callee; } f();
  pub callee : Leaves (f_is [] (returns (dot (named (codes "arguments")) (codes "callee")) ∷ []) ∷ does (calls f []) ∷ []) (codes "callee")
  -- function f() { return arguments.caller; } f();
  pub caller_of_arguments : Leaves (f_is [] (returns (dot (named (codes "arguments")) (codes "caller")) ∷ []) ∷ does (calls f []) ∷ []) (codes "caller")
  -- function f() {} print("pub", ("caller" in f) + "," + ("arguments" in f));
  pub are_there : Prints (f_is [] []
      ∷ prints (codes "pub") (with_comma (paren 0 (is_in (text (codes "caller")) f)) (paren 0 (is_in (text (codes "arguments")) f))) ∷ []) (codes "true,true")
  -- function f() {} delete f.caller;
  pub stay : Throws (f_is [] [] ∷ does (deletes (dot f (codes "caller"))) ∷ []) type_error_thrown

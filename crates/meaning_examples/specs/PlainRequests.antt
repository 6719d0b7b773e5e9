-- Small scripts that ask for one request at a time, and what they give, worked out by hand and asked of another engine (ECMA-262 8.12, 15.2.3, 15.3.4.5).
use Rattle.std.specs.Prelude.{List, [], codes, ℕ, ◌∷◌}
use Rattle.js_ast.specs.Trees.{Statement, for_in, no_properties, null, paren, target_var, this}
use Rattle.js_ast.specs.declared.operators.BinaryOperator.TheVariants as binary_operator
use Rattle.es_meaning.specs.Outcomes.{done, halted, left, threw}
use Rattle.es_meaning.specs.Plain.{Run}
use Rattle.meaning_examples.specs.Building.{adds, bare_function, calls, constructs, does, dot, e, f, f_is, gets, has_value, ident, literal, makes, named, num, o, op, plus, prints, prototype_of, puts, returns, s, sets, sets_by, text, throws, tries, type_of, var_is, with_comma}
use Rattle.meaning_examples.specs.PlainRuns.{GivesBy, line, prints_and, tables, type_error_thrown}
use Rattle.meaning_examples.specs.Probes.{probe_set}

-- with the built-ins that ask for one request
abbrev pub Gives : List Statement → ℕ → Run → Type 0
Gives script turns run = GivesBy (probe_set tables) script turns run

abbrev pub Prints : List Statement → List ℕ → Type 0
Prints script t = Gives script 200 (prints_and (line (codes "pub") t ∷ []) done)

abbrev pub Throws : List Statement → List ℕ → Type 0
Throws script t = Gives script 200 (prints_and [] (threw t))

abbrev pub Leaves : List Statement → List ℕ → Type 0
Leaves script left_by = Gives script 200 (prints_and [] (halted (left left_by)))

pub record OwnRows : Type 0 where
  -- print("pub", marks({a: 1}, "a") + "," + marks({get a() { return 1; }}, "a") + "," + marks({}, "a"));
  pub marks : Prints (prints (codes "pub") (with_comma (with_comma (calls (named (codes "marks")) (literal (has_value (codes "a") (num 1) no_properties) ∷ text (codes "a") ∷ [])) (calls (named (codes "marks")) (literal (gets 1 (codes "a") (returns (num 1) ∷ []) no_properties) ∷ text (codes "a") ∷ []))) (calls (named (codes "marks")) (literal no_properties ∷ text (codes "a") ∷ []))) ∷ []) (codes "7,14,undefined")
  -- function f() {} print("pub", marks(f, "prototype") + "," + marks(f, "length") + "," + marks(print, "length"));
  pub marks_of_functions : Prints (f_is [] []
      ∷ prints (codes "pub") (with_comma (with_comma (calls (named (codes "marks")) (f ∷ text (codes "prototype") ∷ [])) (calls (named (codes "marks")) (f ∷ text (codes "length") ∷ []))) (calls (named (codes "marks")) (named (codes "print") ∷ text (codes "length") ∷ []))) ∷ []) (codes "1,0,0")
  -- print("pub", value({a: 5}, "a") + "," + value({get a() { return 1; }}, "a") + "," + getter({get a() { return 1; }}, "a")());
  pub halves : Prints (prints (codes "pub") (with_comma (with_comma (calls (named (codes "value")) (literal (has_value (codes "a") (num 5) no_properties) ∷ text (codes "a") ∷ [])) (calls (named (codes "value")) (literal (gets 1 (codes "a") (returns (num 1) ∷ []) no_properties) ∷ text (codes "a") ∷ []))) (calls (calls (named (codes "getter")) (literal (gets 2 (codes "a") (returns (num 1) ∷ []) no_properties) ∷ text (codes "a") ∷ [])) [])) ∷ []) (codes "5,undefined,1")
  -- function f() {} f.prototype.a = 1; print("pub", marks(new f(), "a") + "," + has(new f(), "a"));
  pub not_inherited : Prints (f_is [] [] ∷ does (puts (dot (prototype_of f) (codes "a")) (num 1))
      ∷ prints (codes "pub") (with_comma (calls (named (codes "marks")) (constructs f [] ∷ text (codes "a") ∷ [])) (calls (named (codes "has")) (constructs f [] ∷ text (codes "a") ∷ []))) ∷ []) (codes "undefined,true")
  -- marks(5, "a");
  pub own_of_a_number : Throws (does (calls (named (codes "marks")) (num 5 ∷ text (codes "a") ∷ [])) ∷ []) type_error_thrown

pub record DefinitionRows : Type 0 where
  -- var o = {}; fix(o, "a", 3); print("pub", o.a + "," + marks(o, "a"));
  pub added : Prints (var_is (codes "o") (literal no_properties) ∷ does (calls (named (codes "fix")) (o ∷ text (codes "a") ∷ num 3 ∷ []))
      ∷ prints (codes "pub") (with_comma (dot o (codes "a")) (calls (named (codes "marks")) (o ∷ text (codes "a") ∷ []))) ∷ []) (codes "3,0")
  -- var o = {}; fix(o, "a", 3); fix(o, "a", 3); print("pub", o.a);
  pub given_again : Prints (var_is (codes "o") (literal no_properties) ∷ does (calls (named (codes "fix")) (o ∷ text (codes "a") ∷ num 3 ∷ []))
      ∷ does (calls (named (codes "fix")) (o ∷ text (codes "a") ∷ num 3 ∷ [])) ∷ prints (codes "pub") (dot o (codes "a")) ∷ []) (codes "3")
  -- var o = {}; fix(o, "a", 3); fix(o, "a", 4);
  pub refused : Throws (var_is (codes "o") (literal no_properties) ∷ does (calls (named (codes "fix")) (o ∷ text (codes "a") ∷ num 3 ∷ []))
      ∷ does (calls (named (codes "fix")) (o ∷ text (codes "a") ∷ num 4 ∷ [])) ∷ []) type_error_thrown
  -- var o = {}; fix(o, "a", 3); o.a = 4;
  pub not_put : Throws (var_is (codes "o") (literal no_properties) ∷ does (calls (named (codes "fix")) (o ∷ text (codes "a") ∷ num 3 ∷ []))
      ∷ does (puts (dot o (codes "a")) (num 4)) ∷ []) type_error_thrown
  -- var o = {}; fix(o, "a", 3); remove(o, "a");
  pub not_removed : Throws (var_is (codes "o") (literal no_properties) ∷ does (calls (named (codes "fix")) (o ∷ text (codes "a") ∷ num 3 ∷ []))
      ∷ does (calls (named (codes "remove")) (o ∷ text (codes "a") ∷ [])) ∷ []) type_error_thrown
  -- var o = {a: 1}; fix(o, "a", 3); print("pub", o.a + "," + marks(o, "a"));
  pub changed : Prints (var_is (codes "o") (literal (has_value (codes "a") (num 1) no_properties))
      ∷ does (calls (named (codes "fix")) (o ∷ text (codes "a") ∷ num 3 ∷ []))
      ∷ prints (codes "pub") (with_comma (dot o (codes "a")) (calls (named (codes "marks")) (o ∷ text (codes "a") ∷ []))) ∷ []) (codes "3,7")
  -- var o = {a: 1, b: 2}; hide(o, "a"); var s = ""; for (var k in o) s += k; print("pub", s + marks(o, "a"));
  pub hidden : Prints (var_is (codes "o") (literal (has_value (codes "a") (num 1) (has_value (codes "b") (num 2) no_properties)))
      ∷ does (calls (named (codes "hide")) (o ∷ text (codes "a") ∷ [])) ∷ var_is (codes "s") (text [])
      ∷ for_in 0 (target_var (ident (codes "k"))) o (does (adds (codes "s") (named (codes "k"))))
      ∷ prints (codes "pub") (plus s (calls (named (codes "marks")) (o ∷ text (codes "a") ∷ []))) ∷ []) (codes "b5")
  -- var o = {}; hide(o, "a"); print("pub", has(o, "a") + "," + o.a + "," + marks(o, "a"));
  pub hidden_and_added : Prints (var_is (codes "o") (literal no_properties) ∷ does (calls (named (codes "hide")) (o ∷ text (codes "a") ∷ []))
      ∷ prints (codes "pub") (with_comma (with_comma (calls (named (codes "has")) (o ∷ text (codes "a") ∷ [])) (dot o (codes "a"))) (calls (named (codes "marks")) (o ∷ text (codes "a") ∷ []))) ∷ []) (codes "true,undefined,0")
  -- var o = {a: 1}; freeze(o, "a"); print("pub", marks(o, "a")); o.a = 2;
  pub frozen : Gives (var_is (codes "o") (literal (has_value (codes "a") (num 1) no_properties))
      ∷ does (calls (named (codes "freeze")) (o ∷ text (codes "a") ∷ [])) ∷ prints (codes "pub") (calls (named (codes "marks")) (o ∷ text (codes "a") ∷ []))
      ∷ does (puts (dot o (codes "a")) (num 2)) ∷ []) 200 (prints_and (line (codes "pub") (codes "2") ∷ []) (threw type_error_thrown))

pub record AccessorRows : Type 0 where
  -- var o = {}; access(o, "a", function () { return 7; }, undefined); print("pub", o.a + "," + marks(o, "a"));
  pub accessor_added : Prints (var_is (codes "o") (literal no_properties)
      ∷ does (calls (named (codes "access")) (o ∷ text (codes "a") ∷ makes (bare_function 1 [] (returns (num 7) ∷ [])) ∷ named (codes "undefined") ∷ []))
      ∷ prints (codes "pub") (with_comma (dot o (codes "a")) (calls (named (codes "marks")) (o ∷ text (codes "a") ∷ []))) ∷ []) (codes "7,8")
  -- var o = {a: 1}; access(o, "a", function () { return 7; }, undefined); print("pub", o.a + "," + marks(o, "a"));
  pub made_an_accessor : Prints (var_is (codes "o") (literal (has_value (codes "a") (num 1) no_properties))
      ∷ does (calls (named (codes "access")) (o ∷ text (codes "a") ∷ makes (bare_function 1 [] (returns (num 7) ∷ [])) ∷ named (codes "undefined") ∷ []))
      ∷ prints (codes "pub") (with_comma (dot o (codes "a")) (calls (named (codes "marks")) (o ∷ text (codes "a") ∷ []))) ∷ []) (codes "7,14")
  -- var o = {get a() { return 1; }}; fix(o, "a", 3); print("pub", o.a + "," + marks(o, "a"));
  pub made_data : Prints (var_is (codes "o") (literal (gets 1 (codes "a") (returns (num 1) ∷ []) no_properties))
      ∷ does (calls (named (codes "fix")) (o ∷ text (codes "a") ∷ num 3 ∷ []))
      ∷ prints (codes "pub") (with_comma (dot o (codes "a")) (calls (named (codes "marks")) (o ∷ text (codes "a") ∷ []))) ∷ []) (codes "3,6")
  -- var o = {get a() { return 1; }, set a(v) { this.b = v; }}; get_by(o, "a", function () { return 2; }); o.a = 5; print("pub", o.a + "," + o.b);
  pub one_half : Prints (var_is (codes "o") (literal (gets 1 (codes "a") (returns (num 1) ∷ []) (sets_by 2 (codes "a") (codes "v") (does (puts (dot (this 0) (codes "b")) (named (codes "v"))) ∷ []) no_properties)))
      ∷ does (calls (named (codes "get_by")) (o ∷ text (codes "a") ∷ makes (bare_function 3 [] (returns (num 2) ∷ [])) ∷ []))
      ∷ does (puts (dot o (codes "a")) (num 5)) ∷ prints (codes "pub") (with_comma (dot o (codes "a")) (dot o (codes "b"))) ∷ []) (codes "2,5")
  -- access({}, "a", 5, undefined);
  pub getter_is_no_function : Throws (does (calls (named (codes "access")) (literal no_properties ∷ text (codes "a") ∷ num 5 ∷ named (codes "undefined") ∷ [])) ∷ []) type_error_thrown
  -- confuse({}, "a", undefined);
  pub value_beside_getter : Throws (does (calls (named (codes "confuse")) (literal no_properties ∷ text (codes "a") ∷ named (codes "undefined") ∷ [])) ∷ []) type_error_thrown
  -- var o = {a: 1}; prevent(o); o.a = 2; print("pub", o.a + "," + extensible(o)); o.b = 1;
  pub prevented_put : Gives (var_is (codes "o") (literal (has_value (codes "a") (num 1) no_properties))
      ∷ does (calls (named (codes "prevent")) (o ∷ [])) ∷ does (puts (dot o (codes "a")) (num 2))
      ∷ prints (codes "pub") (with_comma (dot o (codes "a")) (calls (named (codes "extensible")) (o ∷ []))) ∷ does (puts (dot o (codes "b")) (num 1)) ∷ []) 200 (prints_and (line (codes "pub") (codes "2,false") ∷ []) (threw type_error_thrown))
  -- var o = {}; prevent(o); fix(o, "b", 1);
  pub prevented_definition : Throws (var_is (codes "o") (literal no_properties) ∷ does (calls (named (codes "prevent")) (o ∷ []))
      ∷ does (calls (named (codes "fix")) (o ∷ text (codes "b") ∷ num 1 ∷ [])) ∷ []) type_error_thrown

pub record MakingRows : Type 0 where
  -- var p = {}; print("pub", (proto(create(p)) === p) + "," + proto(create(null)) + "," + (proto(create(5)) === proto({})) + "," + (proto(make()) === proto({})));
  pub prototypes : Prints (var_is (codes "p") (literal no_properties)
      ∷ prints (codes "pub") (with_comma (with_comma (with_comma (paren 0 (op (calls (named (codes "proto")) (calls (named (codes "create")) (named (codes "p") ∷ []) ∷ [])) binary_operator.StrictEqual (named (codes "p")))) (calls (named (codes "proto")) (calls (named (codes "create")) (null 0 ∷ []) ∷ []))) (paren 0 (op (calls (named (codes "proto")) (calls (named (codes "create")) (num 5 ∷ []) ∷ [])) binary_operator.StrictEqual (calls (named (codes "proto")) (literal no_properties ∷ []))))) (paren 0 (op (calls (named (codes "proto")) (calls (named (codes "make")) [] ∷ [])) binary_operator.StrictEqual (calls (named (codes "proto")) (literal no_properties ∷ []))))) ∷ []) (codes "true,null,true,true")
  -- var f = make_function(); print("pub", typeof f + "," + f());
  pub function_made : Prints (var_is (codes "f") (calls (named (codes "make_function")) [])
      ∷ prints (codes "pub") (with_comma (type_of f) (calls f [])) ∷ []) (codes "function,undefined")
  -- new (make_function())();
  pub function_constructs_nothing : Throws (does (constructs (paren 0 (calls (named (codes "make_function")) [])) []) ∷ []) type_error_thrown
  -- throw make_error();
  pub error_made : Throws (throws (calls (named (codes "make_error")) []) ∷ []) (codes "object Error Error")
  -- var b = bind(function (x, y) { return this + "," + x + "," + y; }, 1, 2); print("pub", b(3) + "," + b.length);
  pub bound : Prints (var_is (codes "b") (calls (named (codes "bind")) (makes (bare_function 1 (codes "x" ∷ codes "y" ∷ []) (returns (with_comma (with_comma (this 0) (named (codes "x"))) (named (codes "y"))) ∷ [])) ∷ num 1 ∷ num 2 ∷ []))
      ∷ prints (codes "pub") (with_comma (calls (named (codes "b")) (num 3 ∷ [])) (dot (named (codes "b")) (codes "length"))) ∷ []) (codes "1,2,3,1")
  -- var b = bind(bind(function (x, y) { return this + "," + x + "," + y; }, 1, 2), 7, 8); print("pub", b());
  pub bound_twice : Prints (var_is (codes "b") (calls (named (codes "bind")) (calls (named (codes "bind")) (makes (bare_function 1 (codes "x" ∷ codes "y" ∷ []) (returns (with_comma (with_comma (this 0) (named (codes "x"))) (named (codes "y"))) ∷ [])) ∷ num 1 ∷ num 2 ∷ []) ∷ num 7 ∷ num 8 ∷ []))
      ∷ prints (codes "pub") (calls (named (codes "b")) []) ∷ []) (codes "1,2,8")
  -- function f(x, y) { this.n = x + y; } var b = bind(f, 0, 2); print("pub", new b(3).n + "," + (new b(1) instanceof f) + "," + (new f(1, 2) instanceof b));
  pub bound_constructs : Prints (f_is (codes "x" ∷ codes "y" ∷ []) (does (puts (dot (this 0) (codes "n")) (plus (named (codes "x")) (named (codes "y")))) ∷ [])
      ∷ var_is (codes "b") (calls (named (codes "bind")) (f ∷ num 0 ∷ num 2 ∷ []))
      ∷ prints (codes "pub") (with_comma (with_comma (dot (constructs (named (codes "b")) (num 3 ∷ [])) (codes "n")) (paren 0 (op (constructs (named (codes "b")) (num 1 ∷ [])) binary_operator.Instanceof f))) (paren 0 (op (constructs f (num 1 ∷ num 2 ∷ [])) binary_operator.Instanceof (named (codes "b"))))) ∷ []) (codes "5,true,true")
  -- print("pub", marks(bind(print, 1, 2), "prototype") + "," + has(bind(print, 1, 2), "caller"));
  pub bound_has : Prints (prints (codes "pub") (with_comma (calls (named (codes "marks")) (calls (named (codes "bind")) (named (codes "print") ∷ num 1 ∷ num 2 ∷ []) ∷ text (codes "prototype") ∷ [])) (calls (named (codes "has")) (calls (named (codes "bind")) (named (codes "print") ∷ num 1 ∷ num 2 ∷ []) ∷ text (codes "caller") ∷ []))) ∷ []) (codes "undefined,true")
  -- bind({}, 1, 2);
  pub bound_to_none : Throws (does (calls (named (codes "bind")) (literal no_properties ∷ num 1 ∷ num 2 ∷ [])) ∷ []) type_error_thrown

pub record EnteringRows : Type 0 where
  -- print("pub", apply(function (a) { return this + a; }, 2, 3));
  pub applied : Prints (prints (codes "pub") (calls (named (codes "apply")) (makes (bare_function 1 (codes "a" ∷ []) (returns (plus (this 0) (named (codes "a"))) ∷ [])) ∷ num 2 ∷ num 3 ∷ [])) ∷ []) (codes "5")
  -- apply({}, 1, 2);
  pub applied_none : Throws (does (calls (named (codes "apply")) (literal no_properties ∷ num 1 ∷ num 2 ∷ [])) ∷ []) type_error_thrown
  -- function f(a) { this.n = a; } print("pub", build(f, 3).n);
  pub built : Prints (f_is (codes "a" ∷ []) (does (puts (dot (this 0) (codes "n")) (named (codes "a"))) ∷ [])
      ∷ prints (codes "pub") (dot (calls (named (codes "build")) (f ∷ num 3 ∷ [])) (codes "n")) ∷ []) (codes "3")
  -- build(print, 3);
  pub built_none : Throws (does (calls (named (codes "build")) (named (codes "print") ∷ num 3 ∷ [])) ∷ []) type_error_thrown
  -- print("pub", new Box(4).n + "," + Box(5));
  pub box : Prints (prints (codes "pub") (with_comma (dot (constructs (named (codes "Box")) (num 4 ∷ [])) (codes "n")) (calls (named (codes "Box")) (num 5 ∷ []))) ∷ []) (codes "4,5")
  -- try { raise(5); } catch (e) { print("pub", e); }
  pub raised : Prints (tries (does (calls (named (codes "raise")) (num 5 ∷ [])) ∷ []) (prints (codes "pub") e ∷ []) ∷ []) (codes "5")
  -- print("pub", same(1, 1) + "," + same(1, "1"));
  pub same_values : Prints (prints (codes "pub") (with_comma (calls (named (codes "same")) (num 1 ∷ num 1 ∷ [])) (calls (named (codes "same")) (num 1 ∷ text (codes "1") ∷ []))) ∷ []) (codes "true,false")
  -- bind(print, 1, 2).caller;
  pub bound_caller : Leaves (does (dot (calls (named (codes "bind")) (named (codes "print") ∷ num 1 ∷ num 2 ∷ [])) (codes "caller")) ∷ []) (codes "caller")

pub record PropertyRows : Type 0 where
  -- var o = {set a(v) { this.b = v; }}; put(o, "a", 2); print("pub", o.b);
  pub put_by_setter : Prints (var_is (codes "o") (literal (sets_by 1 (codes "a") (codes "v") (does (puts (dot (this 0) (codes "b")) (named (codes "v"))) ∷ []) no_properties))
      ∷ does (calls (named (codes "put")) (o ∷ text (codes "a") ∷ num 2 ∷ [])) ∷ prints (codes "pub") (dot o (codes "b")) ∷ []) (codes "2")
  -- put({get a() { return 1; }}, "a", 2);
  pub put_refused : Throws (does (calls (named (codes "put")) (literal (gets 1 (codes "a") (returns (num 1) ∷ []) no_properties) ∷ text (codes "a") ∷ num 2 ∷ [])) ∷ []) type_error_thrown
  -- put(null, "a", 2);
  pub put_on_null : Throws (does (calls (named (codes "put")) (null 0 ∷ text (codes "a") ∷ num 2 ∷ [])) ∷ []) type_error_thrown
  -- has(null, "a");
  pub asked_of_null : Throws (does (calls (named (codes "has")) (null 0 ∷ text (codes "a") ∷ [])) ∷ []) type_error_thrown
  -- var o = {a: 1}; print("pub", remove(o, "a") + "," + remove(o, "a") + "," + has(o, "a"));
  pub removed : Prints (var_is (codes "o") (literal (has_value (codes "a") (num 1) no_properties))
      ∷ prints (codes "pub") (with_comma (with_comma (calls (named (codes "remove")) (o ∷ text (codes "a") ∷ [])) (calls (named (codes "remove")) (o ∷ text (codes "a") ∷ []))) (calls (named (codes "has")) (o ∷ text (codes "a") ∷ []))) ∷ []) (codes "true,true,false")

pub record GlobalRows : Type 0 where
  -- var w = this; access(this, "a", function () { return this === w; }, undefined); print("pub", a); a getter of the global object has it as `this`
  pub global_getter : Prints (var_is (codes "w") (this 0)
      ∷ does (calls (named (codes "access")) (this 0 ∷ text (codes "a") ∷ makes (bare_function 1 [] (returns (op (this 0) binary_operator.StrictEqual (named (codes "w"))) ∷ [])) ∷ named (codes "undefined") ∷ []))
      ∷ prints (codes "pub") (named (codes "a")) ∷ []) (codes "true")
  -- var s = ""; access(this, "a", undefined, function (v) { s += v; }); a = 5; a = 6; print("pub", s);
  pub global_setter : Prints (var_is (codes "s") (text [])
      ∷ does (calls (named (codes "access")) (this 0 ∷ text (codes "a") ∷ named (codes "undefined") ∷ makes (bare_function 1 (codes "v" ∷ []) (does (adds (codes "s") (named (codes "v"))) ∷ [])) ∷ []))
      ∷ does (sets (codes "a") (num 5)) ∷ does (sets (codes "a") (num 6)) ∷ prints (codes "pub") s ∷ []) (codes "56")
  -- access(this, "a", function () { return 1; }, undefined); a = 2;
  pub no_global_setter : Throws (does (calls (named (codes "access")) (this 0 ∷ text (codes "a") ∷ makes (bare_function 1 [] (returns (num 1) ∷ [])) ∷ named (codes "undefined") ∷ []))
      ∷ does (sets (codes "a") (num 2)) ∷ []) type_error_thrown
  -- access(this, "a", function () { return 1; }, undefined); print("pub", typeof a);
  pub global_type : Prints (does (calls (named (codes "access")) (this 0 ∷ text (codes "a") ∷ makes (bare_function 1 [] (returns (num 1) ∷ [])) ∷ named (codes "undefined") ∷ []))
      ∷ prints (codes "pub") (type_of (named (codes "a"))) ∷ []) (codes "number")
  -- access(this, "a", function () { return function () { return this; }; }, undefined); print("pub", a()); a name that is called has no `this`
  pub global_called : Prints (does (calls (named (codes "access")) (this 0 ∷ text (codes "a") ∷ makes (bare_function 1 [] (returns (makes (bare_function 2 [] (returns (this 0) ∷ []))) ∷ [])) ∷ named (codes "undefined") ∷ []))
      ∷ prints (codes "pub") (calls (named (codes "a")) []) ∷ []) (codes "undefined")
  -- var p = {}; var h = make_function(); access(h, "prototype", function () { return p; }, undefined); print("pub", create(p) instanceof h);
  pub instance_by_getter : Prints (var_is (codes "p") (literal no_properties) ∷ var_is (codes "h") (calls (named (codes "make_function")) [])
      ∷ does (calls (named (codes "access")) (named (codes "h") ∷ text (codes "prototype") ∷ makes (bare_function 1 [] (returns (named (codes "p")) ∷ [])) ∷ named (codes "undefined") ∷ []))
      ∷ prints (codes "pub") (op (calls (named (codes "create")) (named (codes "p") ∷ [])) binary_operator.Instanceof (named (codes "h"))) ∷ []) (codes "true")

pub record HolderRows : Type 0 where
  -- print("pub", typeof Object + "," + (Object.prototype === proto({})) + "," + (Object.prototype.constructor === Object));
  pub object : Prints (prints (codes "pub") (with_comma (with_comma (type_of (named (codes "Object"))) (paren 0 (op (prototype_of (named (codes "Object"))) binary_operator.StrictEqual (calls (named (codes "proto")) (literal no_properties ∷ []))))) (paren 0 (op (dot (prototype_of (named (codes "Object"))) (codes "constructor")) binary_operator.StrictEqual (named (codes "Object"))))) ∷ []) (codes "function,true,true")
  -- print("pub", {} + "!");
  pub object_prototype : Prints (prints (codes "pub") (plus (literal no_properties) (text (codes "!"))) ∷ []) (codes "[o]!")
  -- print("pub", typeof Math + "," + Math.one());
  pub math : Prints (prints (codes "pub") (with_comma (type_of (named (codes "Math"))) (calls (dot (named (codes "Math")) (codes "one")) [])) ∷ []) (codes "object,1")
  -- print("pub", marks(Object, "prototype") + "," + marks(this, "Math") + "," + marks(Math, "one"));
  pub marks_of_holders : Prints (prints (codes "pub") (with_comma (with_comma (calls (named (codes "marks")) (named (codes "Object") ∷ text (codes "prototype") ∷ [])) (calls (named (codes "marks")) (this 0 ∷ text (codes "Math") ∷ []))) (calls (named (codes "marks")) (named (codes "Math") ∷ text (codes "one") ∷ []))) ∷ []) (codes "0,5,5")
  -- eval("1");
  pub left_function : Leaves (does (calls (named (codes "eval")) (text (codes "1") ∷ [])) ∷ []) (codes "eval")
  -- new eval("1");
  pub left_construction : Leaves (does (constructs (named (codes "eval")) (text (codes "1") ∷ [])) ∷ []) (codes "eval")
  -- NaN;
  pub left_accessor : Leaves (does (named (codes "NaN")) ∷ []) (codes "NaN")
  -- NaN = 1;
  pub left_put : Leaves (does (sets (codes "NaN") (num 1)) ∷ []) (codes "NaN")

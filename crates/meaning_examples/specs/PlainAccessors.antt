-- Small scripts with getters and setters, and what they give, worked out by hand and asked of another engine (ECMA-262 8.12.3, 8.12.5, 11.1.5).
use Rattle.std.specs.Prelude.{[], codes, ◌∷◌}
use Rattle.js_ast.specs.Trees.{assign, empty, for_in, no_properties, paren, postfix, target_expr, target_var, this}
use Rattle.js_ast.specs.declared.operators.AssignOperator.TheVariants as assign_operator
use Rattle.js_ast.specs.declared.operators.BinaryOperator.TheVariants as binary_operator
use Rattle.js_ast.specs.declared.operators.PostfixOperator.TheVariants as postfix_operator
use Rattle.es_meaning.specs.Outcomes.{threw}
use Rattle.meaning_examples.specs.Building.{adds, bare_function, calls, constructs, deletes, does, dot, e, f, f_is, gets, has_value, ident, is_in, literal, makes, named, num, o, op, plus, prints, prototype_of, puts, returns, s, sets_by, text, throws, tries, type_of, var_is, with_comma}
use Rattle.meaning_examples.specs.PlainRuns.{Gives, Prints, Throws, line, prints_and, type_error_thrown}

pub record GetterRows : Type 0 where
  -- var o = {get a() { return 7; }}; print("pub", o.a);
  pub read_by_getter : Prints (var_is (codes "o") (literal (gets 1 (codes "a") (returns (num 7) ∷ []) no_properties)) ∷ prints (codes "pub") (dot o (codes "a")) ∷ []) (codes "7")
  -- var o = {b: 1, get a() { return this.b; }, set a(v) { this.b = v + 1; }}; o.a = 4; print("pub", o.a + "," + o.b);
  pub both_halves : Prints (var_is (codes "o") (literal (has_value (codes "b") (num 1) (gets 1 (codes "a") (returns (dot (this 0) (codes "b")) ∷ []) (sets_by 2 (codes "a") (codes "v") (does (puts (dot (this 0) (codes "b")) (plus (named (codes "v")) (num 1))) ∷ []) no_properties))))
      ∷ does (puts (dot o (codes "a")) (num 4)) ∷ prints (codes "pub") (with_comma (dot o (codes "a")) (dot o (codes "b"))) ∷ []) (codes "5,5")
  -- var o = {b: 1, get a() { return this.b; }, set a(v) { this.b = v; }}; o.a += 2; print("pub", o.a++ + "," + o.b);
  pub changed_by_both : Prints (var_is (codes "o") (literal (has_value (codes "b") (num 1) (gets 1 (codes "a") (returns (dot (this 0) (codes "b")) ∷ []) (sets_by 2 (codes "a") (codes "v") (does (puts (dot (this 0) (codes "b")) (named (codes "v"))) ∷ []) no_properties))))
      ∷ does (assign 0 (dot o (codes "a")) assign_operator.Add (num 2))
      ∷ prints (codes "pub") (with_comma (postfix 0 (dot o (codes "a")) postfix_operator.Increment) (dot o (codes "b"))) ∷ []) (codes "3,4")
  -- var o = {get a() { return 1; }}; print("pub", typeof o.a + "," + ("a" in o));
  pub asked_for_its_type : Prints (var_is (codes "o") (literal (gets 1 (codes "a") (returns (num 1) ∷ []) no_properties))
      ∷ prints (codes "pub") (with_comma (type_of (dot o (codes "a"))) (paren 0 (is_in (text (codes "a")) o))) ∷ []) (codes "number,true")
  -- var o = {get f() { return function () { return this === o; }; }}; print("pub", o.f()); what a getter gives is called with the same `this`
  pub got_and_called : Prints (var_is (codes "o") (literal (gets 1 (codes "f") (returns (makes (bare_function 2 [] (returns (op (this 0) binary_operator.StrictEqual o) ∷ []))) ∷ []) no_properties))
      ∷ prints (codes "pub") (calls (dot o (codes "f")) []) ∷ []) (codes "true")
  -- var o = {get a() { throw 5; }}; try { o.a; } catch (e) { print("pub", e); }
  pub thrown_by_getter : Prints (var_is (codes "o") (literal (gets 1 (codes "a") (throws (num 5) ∷ []) no_properties))
      ∷ tries (does (dot o (codes "a")) ∷ []) (prints (codes "pub") e ∷ []) ∷ []) (codes "5")
  -- function f() { this.b = 9; } f.prototype = {get a() { return this.b; }}; print("pub", new f().a); the base is `this`, and not the prototype that has the getter
  pub inherited_getter : Prints (f_is [] (does (puts (dot (this 0) (codes "b")) (num 9)) ∷ [])
      ∷ does (puts (prototype_of f) (literal (gets 2 (codes "a") (returns (dot (this 0) (codes "b")) ∷ []) no_properties)))
      ∷ prints (codes "pub") (dot (constructs f []) (codes "a")) ∷ []) (codes "9")

pub record SetterRows : Type 0 where
  -- var o = {set a(v) { return 9; }}; print("pub", (o.a = 5) + "," + o.a); an assignment gives the value, and without a getter there is none
  pub value_assigned : Prints (var_is (codes "o") (literal (sets_by 1 (codes "a") (codes "v") (returns (num 9) ∷ []) no_properties))
      ∷ prints (codes "pub") (with_comma (paren 0 (puts (dot o (codes "a")) (num 5))) (dot o (codes "a"))) ∷ []) (codes "5,undefined")
  -- var o = {get a() { return 7; }}; print("pub", o.a); o.a = 1;
  pub no_setter : Gives (var_is (codes "o") (literal (gets 1 (codes "a") (returns (num 7) ∷ []) no_properties))
      ∷ prints (codes "pub") (dot o (codes "a")) ∷ does (puts (dot o (codes "a")) (num 1)) ∷ []) 200 (prints_and (line (codes "pub") (codes "7") ∷ []) (threw type_error_thrown))
  -- function f() {} f.prototype = {get a() { return 7; }}; var o = new f(); o.a = 1;
  pub no_setter_inherited : Throws (f_is [] [] ∷ does (puts (prototype_of f) (literal (gets 2 (codes "a") (returns (num 7) ∷ []) no_properties)))
      ∷ var_is (codes "o") (constructs f []) ∷ does (puts (dot o (codes "a")) (num 1)) ∷ []) type_error_thrown
  -- function f() {} f.prototype = {set a(v) { this.b = v; }}; var o = new f(); o.a = 3; var s = ""; for (var k in o) s += k; print("pub", s + o.b); a setter of a prototype is called, and no property is added
  pub inherited_setter : Prints (f_is [] []
      ∷ does (puts (prototype_of f) (literal (sets_by 2 (codes "a") (codes "v") (does (puts (dot (this 0) (codes "b")) (named (codes "v"))) ∷ []) no_properties)))
      ∷ var_is (codes "o") (constructs f []) ∷ does (puts (dot o (codes "a")) (num 3)) ∷ var_is (codes "s") (text [])
      ∷ for_in 0 (target_var (ident (codes "k"))) o (does (adds (codes "s") (named (codes "k")))) ∷ prints (codes "pub") (plus s (dot o (codes "b"))) ∷ []) (codes "ba3")
  -- var s = ""; var o = {set a(v) { s += v; }}; for (o.a in {x: 1, y: 2}) ; print("pub", s);
  pub key_put_by_setter : Prints (var_is (codes "s") (text [])
      ∷ var_is (codes "o") (literal (sets_by 1 (codes "a") (codes "v") (does (adds (codes "s") (named (codes "v"))) ∷ []) no_properties))
      ∷ for_in 0 (target_expr (dot o (codes "a"))) (literal (has_value (codes "x") (num 1) (has_value (codes "y") (num 2) no_properties))) (empty 0)
      ∷ prints (codes "pub") s ∷ []) (codes "xy")
  -- var o = {get a() { return 1; }}; delete o.a; o.a = 2; print("pub", o.a);
  pub accessor_deleted : Prints (var_is (codes "o") (literal (gets 1 (codes "a") (returns (num 1) ∷ []) no_properties))
      ∷ does (deletes (dot o (codes "a"))) ∷ does (puts (dot o (codes "a")) (num 2)) ∷ prints (codes "pub") (dot o (codes "a")) ∷ []) (codes "2")

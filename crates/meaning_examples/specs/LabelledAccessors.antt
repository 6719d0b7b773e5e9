-- Small scripts with getters and setters under the flow rules, and what they print or by which rule they are stopped, worked out by hand.
use Rattle.std.specs.Prelude.{[], codes, ◌∷◌}
use Rattle.flow_frames.specs.declared.faults.Rule.TheVariants.{W1, W12, W9}
use Rattle.js_ast.specs.Trees.{no_properties, this}
use Rattle.meaning_examples.specs.Building.{at, calls, constructs, does, dot, f, f_is, gets, has_value, hidden, literal, named, num, o, prints, prototype_of, puts, returns, sets, sets_by, text, var_is}
use Rattle.meaning_examples.specs.LabelledRuns.{Prints, Stops, Throws, origin_a}
use Rattle.meaning_examples.specs.PlainRuns.{type_error_thrown}

pub record GetterRows : Type 0 where
  -- var x = 0; var o = {get a() { x = 1; return 1; }}; lbl(o, "A").a; a getter is called in the context of the base, the key and the walk
  pub base_stops : Stops (var_is (codes "x") (num 0)
      ∷ var_is (codes "o") (literal (gets 1 (codes "a") (does (sets (codes "x") (num 1)) ∷ returns (num 1) ∷ []) no_properties)) ∷ does (dot (hidden o) (codes "a")) ∷ []) W1
  -- var x = 0; var o = {get a() { x = 1; return 1; }}; o[lbl("a", "A")];
  pub key_stops : Stops (var_is (codes "x") (num 0)
      ∷ var_is (codes "o") (literal (gets 1 (codes "a") (does (sets (codes "x") (num 1)) ∷ returns (num 1) ∷ []) no_properties))
      ∷ does (at o (hidden (text (codes "a")))) ∷ []) W1
  -- var x = 0; var o = {get a() { x = 1; return 1; }}; upge(o, "a", "A"); o.a;
  pub existence_stops : Stops (var_is (codes "x") (num 0)
      ∷ var_is (codes "o") (literal (gets 1 (codes "a") (does (sets (codes "x") (num 1)) ∷ returns (num 1) ∷ []) no_properties))
      ∷ does (calls (named (codes "upge")) (o ∷ text (codes "a") ∷ text (codes "A") ∷ [])) ∷ does (dot o (codes "a")) ∷ []) W1
  -- var x = 0; function f() {} f.prototype = lbl({get a() { x = 1; return 1; }}, "A"); new f().a;
  pub link_stops : Stops (var_is (codes "x") (num 0) ∷ f_is [] []
      ∷ does (puts (prototype_of f) (hidden (literal (gets 2 (codes "a") (does (sets (codes "x") (num 1)) ∷ returns (num 1) ∷ []) no_properties))))
      ∷ does (dot (constructs f []) (codes "a")) ∷ []) W1
  -- var o = {get a() { return 1; }}; print("pub", lbl(o, "A").a);
  pub result_stops : Stops (var_is (codes "o") (literal (gets 1 (codes "a") (returns (num 1) ∷ []) no_properties)) ∷ prints (codes "pub") (dot (hidden o) (codes "a")) ∷ []) W12
  -- var o = {get a() { return lbl(1, "A"); }}; print("pub", o.a);
  pub returned_stops : Stops (var_is (codes "o") (literal (gets 1 (codes "a") (returns (hidden (num 1)) ∷ []) no_properties)) ∷ prints (codes "pub") (dot o (codes "a")) ∷ []) W12
  -- var o = {b: 1, get a() { return this.b; }}; print("all", lbl(o, "A").a);
  pub base_is_this : Prints (codes "1") (var_is (codes "o") (literal (has_value (codes "b") (num 1) (gets 1 (codes "a") (returns (dot (this 0) (codes "b")) ∷ []) no_properties)))
      ∷ prints (codes "all") (dot (hidden o) (codes "a")) ∷ []) (codes "all") (codes "1") origin_a
  -- var o = {get a() { return 1; }}; lbl(o, "A").a; print("pub", 1);
  pub behind_getter : Prints (codes "1") (var_is (codes "o") (literal (gets 1 (codes "a") (returns (num 1) ∷ []) no_properties))
      ∷ does (dot (hidden o) (codes "a")) ∷ prints (codes "pub") (num 1) ∷ []) (codes "pub") (codes "1") []

pub record SetterRows : Type 0 where
  -- var x = 0; var o = {set a(v) { x = v; }}; lbl(o, "A").a = 1;
  pub base_stops : Stops (var_is (codes "x") (num 0)
      ∷ var_is (codes "o") (literal (sets_by 1 (codes "a") (codes "v") (does (sets (codes "x") (named (codes "v"))) ∷ []) no_properties))
      ∷ does (puts (dot (hidden o) (codes "a")) (num 1)) ∷ []) W1
  -- var o = {set a(v) { print("pub", v); }}; o.a = lbl(1, "A");
  pub value_stops : Stops (var_is (codes "o") (literal (sets_by 1 (codes "a") (codes "v") (prints (codes "pub") (named (codes "v")) ∷ []) no_properties))
      ∷ does (puts (dot o (codes "a")) (hidden (num 1))) ∷ []) W12
  -- var o = {set a(v) { print("pub", 1); }}; o.a = lbl(1, "A");
  pub value_is_outside : Prints (codes "1") (var_is (codes "o") (literal (sets_by 1 (codes "a") (codes "v") (prints (codes "pub") (num 1) ∷ []) no_properties))
      ∷ does (puts (dot o (codes "a")) (hidden (num 1))) ∷ []) (codes "pub") (codes "1") []
  -- var o = {get a() { return 1; }}; lbl(o, "A").a = 1; that there is no setter is told to whom base and key are
  pub no_setter_stops : Stops (var_is (codes "o") (literal (gets 1 (codes "a") (returns (num 1) ∷ []) no_properties)) ∷ does (puts (dot (hidden o) (codes "a")) (num 1)) ∷ []) W9
  -- var o = {get a() { return 1; }}; o[lbl("a", "A")] = 1;
  pub no_setter_of_key_stops : Stops (var_is (codes "o") (literal (gets 1 (codes "a") (returns (num 1) ∷ []) no_properties))
      ∷ does (puts (at o (hidden (text (codes "a")))) (num 1)) ∷ []) W9
  -- var o = {get a() { return 1; }}; o.a = lbl(1, "A");
  pub no_setter : Throws (var_is (codes "o") (literal (gets 1 (codes "a") (returns (num 1) ∷ []) no_properties))
      ∷ does (puts (dot o (codes "a")) (hidden (num 1))) ∷ []) type_error_thrown

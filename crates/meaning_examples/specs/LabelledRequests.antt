-- Small scripts that ask for one request at a time under the flow rules, and what they print or by which rule they are stopped, worked out by hand.
use Rattle.std.specs.Prelude.{List, [], codes, ℕ, ◌∷◌}
use Rattle.origin_labels.specs.Label.{Label}
use Rattle.flow_frames.specs.declared.faults.Rule.{Rule}
use Rattle.flow_frames.specs.declared.faults.Rule.TheVariants.{W1, W12, W2, W3, W4, W6, W7, W9}
use Rattle.js_ast.specs.Trees.{Statement, no_properties, null, this}
use Rattle.js_ast.specs.declared.operators.BinaryOperator.TheVariants as binary_operator
use Rattle.es_meaning.specs.Outcomes.{done, halted, threw}
use Rattle.flow_meaning.specs.Scopes.{stopped}
use Rattle.flow_meaning.specs.Tracked.{Run}
use Rattle.meaning_examples.specs.Building.{bare_function, calls, does, dot, has_value, hidden, labels, literal, makes, named, num, o, op, prints, puts, returns, sets, text, type_of, var_is, where_one}
use Rattle.meaning_examples.specs.LabelledRuns.{GivesBy, both_origins, labelled_line, origin_a, prints_and}
use Rattle.meaning_examples.specs.PlainRuns.{tables, type_error_thrown}
use Rattle.meaning_examples.specs.Probes.{probe_set}

-- with the built-ins that ask for one request
abbrev pub GivesIn : List ℕ → List Statement → ℕ → Run → Type 0
GivesIn pin_line script turns run = GivesBy (probe_set tables) pin_line script turns run

abbrev pub Gives : List Statement → Run → Type 0
Gives script run = GivesIn (codes "1") script 200 run

abbrev pub Prints : List ℕ → List Statement → List ℕ → List ℕ → Label → Type 0
Prints pin_line script c t label = GivesIn pin_line script 200 (prints_and (labelled_line c t label ∷ []) done)

abbrev pub Stops : List Statement → Rule → Type 0
Stops script rule = Gives script (prints_and [] (halted (stopped rule origin_a [])))

abbrev pub Throws : List Statement → List ℕ → Type 0
Throws script t = Gives script (prints_and [] (threw t))

abbrev pub Ends : List Statement → Type 0
Ends script = Gives script (prints_and [] done)

pub record OwnRows : Type 0 where
  -- var o = {a: 1}; upge(o, "a", "A"); print("pub", marks(o, "a"));
  pub existence_stops : Stops (var_is (codes "o") (literal (has_value (codes "a") (num 1) no_properties))
      ∷ does (calls (named (codes "upge")) (o ∷ text (codes "a") ∷ text (codes "A") ∷ []))
      ∷ prints (codes "pub") (calls (named (codes "marks")) (o ∷ text (codes "a") ∷ [])) ∷ []) W12
  -- var o = {a: lbl(1, "A")}; print("pub", marks(o, "a")); its attributes do not depend on the value
  pub marks : Prints (codes "1") (var_is (codes "o") (literal (has_value (codes "a") (hidden (num 1)) no_properties))
      ∷ prints (codes "pub") (calls (named (codes "marks")) (o ∷ text (codes "a") ∷ [])) ∷ []) (codes "pub") (codes "7") []
  -- var o = {a: lbl(1, "A")}; print("pub", value(o, "a"));
  pub value_stops : Stops (var_is (codes "o") (literal (has_value (codes "a") (hidden (num 1)) no_properties))
      ∷ prints (codes "pub") (calls (named (codes "value")) (o ∷ text (codes "a") ∷ [])) ∷ []) W12
  -- var o = {}; upgs(o, "A"); print("pub", marks(o, "a")); that there is none depends on the structure
  pub absent_stops : Stops (var_is (codes "o") (literal no_properties) ∷ does (calls (named (codes "upgs")) (o ∷ text (codes "A") ∷ []))
      ∷ prints (codes "pub") (calls (named (codes "marks")) (o ∷ text (codes "a") ∷ [])) ∷ []) W12
  -- var o = {}; upgs(o, "A"); print("pub", value(o, "a"));
  pub absent_value_stops : Stops (var_is (codes "o") (literal no_properties) ∷ does (calls (named (codes "upgs")) (o ∷ text (codes "A") ∷ []))
      ∷ prints (codes "pub") (calls (named (codes "value")) (o ∷ text (codes "a") ∷ [])) ∷ []) W12
  -- print("pub", marks(lbl({a: 1}, "A"), "a"));
  pub base_stops : Stops (prints (codes "pub") (calls (named (codes "marks")) (hidden (literal (has_value (codes "a") (num 1) no_properties)) ∷ text (codes "a") ∷ [])) ∷ []) W12
  -- var o = {}; upgs(o, "A"); print("pub", extensible(o));
  pub extensible_stops : Stops (var_is (codes "o") (literal no_properties) ∷ does (calls (named (codes "upgs")) (o ∷ text (codes "A") ∷ []))
      ∷ prints (codes "pub") (calls (named (codes "extensible")) (o ∷ [])) ∷ []) W12

pub record DefinitionRows : Type 0 where
  -- var o = {a: 1}; if (read("pin") == "1") hide(o, "a");
  pub definition_stops : Stops (var_is (codes "o") (literal (has_value (codes "a") (num 1) no_properties))
      ∷ where_one (does (calls (named (codes "hide")) (o ∷ text (codes "a") ∷ []))) ∷ []) W6
  -- fix({a: 1}, "a", lbl(2, "A"));
  pub descriptor_stops : Stops (does (calls (named (codes "fix")) (literal (has_value (codes "a") (num 1) no_properties) ∷ text (codes "a") ∷ hidden (num 2) ∷ [])) ∷ []) W6
  -- var o = {}; if (read("pin") == "1") fix(o, "a", 2);
  pub addition_stops : Stops (var_is (codes "o") (literal no_properties) ∷ where_one (does (calls (named (codes "fix")) (o ∷ text (codes "a") ∷ num 2 ∷ []))) ∷ []) W3
  -- fix({}, "a", lbl(2, "A"));
  pub added_descriptor_stops : Stops (does (calls (named (codes "fix")) (literal no_properties ∷ text (codes "a") ∷ hidden (num 2) ∷ [])) ∷ []) W3
  -- var o = {a: 1}; upge(o, "a", "A"); if (read("pin") == "1") fix(o, "a", 2); print("all", o.a);
  pub raised_prints : Prints (codes "1") (var_is (codes "o") (literal (has_value (codes "a") (num 1) no_properties))
      ∷ does (calls (named (codes "upge")) (o ∷ text (codes "a") ∷ text (codes "A") ∷ []))
      ∷ where_one (does (calls (named (codes "fix")) (o ∷ text (codes "a") ∷ num 2 ∷ []))) ∷ prints (codes "all") (dot o (codes "a")) ∷ []) (codes "all") (codes "2") origin_a
  -- var o = {a: 1}; upge(o, "a", "A"); fix(o, "a", lbl(2, "B"));
  pub other_origin_stops : GivesIn (codes "1") (var_is (codes "o") (literal (has_value (codes "a") (num 1) no_properties))
      ∷ does (calls (named (codes "upge")) (o ∷ text (codes "a") ∷ text (codes "A") ∷ []))
      ∷ does (calls (named (codes "fix")) (o ∷ text (codes "a") ∷ labels (num 2) (codes "B") ∷ [])) ∷ []) 200 (prints_and [] (halted (stopped W6 both_origins origin_a)))
  -- var o = {a: lbl(1, "A")}; freeze(o, "a"); fix(o, "a", 2); whether it is refused depends on the value that is there
  pub refused_stops : Stops (var_is (codes "o") (literal (has_value (codes "a") (hidden (num 1)) no_properties))
      ∷ does (calls (named (codes "freeze")) (o ∷ text (codes "a") ∷ [])) ∷ does (calls (named (codes "fix")) (o ∷ text (codes "a") ∷ num 2 ∷ [])) ∷ []) W9
  -- var o = {a: 1}; freeze(o, "a"); fix(o, "a", 2);
  pub refused : Throws (var_is (codes "o") (literal (has_value (codes "a") (num 1) no_properties))
      ∷ does (calls (named (codes "freeze")) (o ∷ text (codes "a") ∷ [])) ∷ does (calls (named (codes "fix")) (o ∷ text (codes "a") ∷ num 2 ∷ [])) ∷ []) type_error_thrown
  -- var o = {a: lbl(1, "A")}; freeze(o, "a"); fix(o, "a", 1);
  pub allowed : Ends (var_is (codes "o") (literal (has_value (codes "a") (hidden (num 1)) no_properties))
      ∷ does (calls (named (codes "freeze")) (o ∷ text (codes "a") ∷ [])) ∷ does (calls (named (codes "fix")) (o ∷ text (codes "a") ∷ num 1 ∷ [])) ∷ [])

pub record EffectRows : Type 0 where
  -- var o = {}; if (read("pin") == "1") prevent(o);
  pub prevention_stops : Stops (var_is (codes "o") (literal no_properties) ∷ where_one (does (calls (named (codes "prevent")) (o ∷ []))) ∷ []) W7
  -- prevent(lbl({}, "A"));
  pub hidden_prevention_stops : Stops (does (calls (named (codes "prevent")) (hidden (literal no_properties) ∷ [])) ∷ []) W7
  -- var o = {a: 1}; put(lbl(o, "A"), "a", 2);
  pub put_stops : Stops (var_is (codes "o") (literal (has_value (codes "a") (num 1) no_properties))
      ∷ does (calls (named (codes "put")) (hidden o ∷ text (codes "a") ∷ num 2 ∷ [])) ∷ []) W2
  -- var o = {a: 1}; put(o, lbl("a", "A"), 2);
  pub put_by_key_stops : Stops (var_is (codes "o") (literal (has_value (codes "a") (num 1) no_properties))
      ∷ does (calls (named (codes "put")) (o ∷ hidden (text (codes "a")) ∷ num 2 ∷ [])) ∷ []) W2
  -- var o = {a: 1}; put(o, "a", lbl(2, "A")); print("all", o.a);
  pub put_prints : Prints (codes "1") (var_is (codes "o") (literal (has_value (codes "a") (num 1) no_properties))
      ∷ does (calls (named (codes "put")) (o ∷ text (codes "a") ∷ hidden (num 2) ∷ [])) ∷ prints (codes "all") (dot o (codes "a")) ∷ []) (codes "all") (codes "2") origin_a
  -- put(lbl(null, "A"), "a", 2);
  pub base_is_the_cause : Stops (does (calls (named (codes "put")) (hidden (null 0) ∷ text (codes "a") ∷ num 2 ∷ [])) ∷ []) W9
  -- remove(lbl({a: 1}, "A"), "a");
  pub removal_stops : Stops (does (calls (named (codes "remove")) (hidden (literal (has_value (codes "a") (num 1) no_properties)) ∷ text (codes "a") ∷ [])) ∷ []) W4
  -- print("pub", has(lbl({a: 1}, "A"), "a"));
  pub asked_stops : Stops (prints (codes "pub") (calls (named (codes "has")) (hidden (literal (has_value (codes "a") (num 1) no_properties)) ∷ text (codes "a") ∷ [])) ∷ []) W12

pub record MakingRows : Type 0 where
  -- print("pub", proto(create(lbl(null, "A"))));
  pub link_stops : Stops (prints (codes "pub") (calls (named (codes "proto")) (calls (named (codes "create")) (hidden (null 0) ∷ []) ∷ [])) ∷ []) W12
  -- print("pub", proto(create(lbl(5, "A"))) === proto({})); and so does the choice of the prototype of all objects
  pub chosen_link_stops : Stops (prints (codes "pub") (op (calls (named (codes "proto")) (calls (named (codes "create")) (hidden (num 5) ∷ []) ∷ [])) binary_operator.StrictEqual (calls (named (codes "proto")) (literal no_properties ∷ []))) ∷ []) W12
  -- print("pub", proto(create(null)));
  pub link : Prints (codes "1") (prints (codes "pub") (calls (named (codes "proto")) (calls (named (codes "create")) (null 0 ∷ []) ∷ [])) ∷ []) (codes "pub") (codes "null") []
  -- var x = 0; bind(lbl(function () { x = 1; }, "A"), 1, 2)(); a bound function is called in the context of its target
  pub target_stops : Stops (var_is (codes "x") (num 0)
      ∷ does (calls (calls (named (codes "bind")) (hidden (makes (bare_function 1 [] (does (sets (codes "x") (num 1)) ∷ []))) ∷ num 1 ∷ num 2 ∷ [])) []) ∷ []) W1
  -- print("pub", typeof bind(lbl(function () {}, "A"), 1, 2));
  pub bound : Prints (codes "1") (prints (codes "pub") (type_of (calls (named (codes "bind")) (hidden (makes (bare_function 1 [] [])) ∷ num 1 ∷ num 2 ∷ []))) ∷ []) (codes "pub") (codes "function") []
  -- print("pub", bind(lbl(function () {}, "A"), 1, 2).length);
  pub bound_length_stops : Stops (prints (codes "pub") (dot (calls (named (codes "bind")) (hidden (makes (bare_function 1 [] [])) ∷ num 1 ∷ num 2 ∷ [])) (codes "length")) ∷ []) W12
  -- bind(function (v) { print("pub", v); }, 1, lbl(2, "A"))();
  pub bound_argument_stops : Stops (does (calls (calls (named (codes "bind")) (makes (bare_function 1 (codes "v" ∷ []) (prints (codes "pub") (named (codes "v")) ∷ [])) ∷ num 1 ∷ hidden (num 2) ∷ [])) []) ∷ []) W12
  -- bind(lbl(5, "A"), 1, 2);
  pub bound_to_none_stops : Stops (does (calls (named (codes "bind")) (hidden (num 5) ∷ num 1 ∷ num 2 ∷ [])) ∷ []) W9
  -- print("pub", {} instanceof bind(lbl(function () {}, "A"), 1, 2));
  pub bound_instance_stops : Stops (prints (codes "pub") (op (literal no_properties) binary_operator.Instanceof (calls (named (codes "bind")) (hidden (makes (bare_function 1 [] [])) ∷ num 1 ∷ num 2 ∷ []))) ∷ []) W12

pub record EnteringRows : Type 0 where
  -- var x = 0; apply(lbl(function () { x = 1; }, "A"), 1, 2);
  pub applied_stops : Stops (var_is (codes "x") (num 0)
      ∷ does (calls (named (codes "apply")) (hidden (makes (bare_function 1 [] (does (sets (codes "x") (num 1)) ∷ []))) ∷ num 1 ∷ num 2 ∷ [])) ∷ []) W1
  -- var x = 0; build(lbl(function () { x = 1; }, "A"), 1);
  pub built_stops : Stops (var_is (codes "x") (num 0)
      ∷ does (calls (named (codes "build")) (hidden (makes (bare_function 1 [] (does (sets (codes "x") (num 1)) ∷ []))) ∷ num 1 ∷ [])) ∷ []) W1
  -- print("pub", same(lbl(1, "A"), 1));
  pub same_stops : Stops (prints (codes "pub") (calls (named (codes "same")) (hidden (num 1) ∷ num 1 ∷ [])) ∷ []) W12
  -- raise(lbl(5, "A"));
  pub hidden_value_is_raised : Throws (does (calls (named (codes "raise")) (hidden (num 5) ∷ [])) ∷ []) (codes "number 5")
  -- if (read("pin") == "1") raise(5);
  pub raised_stops : Stops (where_one (does (calls (named (codes "raise")) (num 5 ∷ []))) ∷ []) W9
  -- apply(function () { print("pub", this); }, lbl(1, "A"), 2);
  pub this_stops : Stops (does (calls (named (codes "apply")) (makes (bare_function 1 [] (prints (codes "pub") (this 0) ∷ [])) ∷ hidden (num 1) ∷ num 2 ∷ [])) ∷ []) W12
  -- bind(function () { print("pub", this); }, lbl(1, "A"), 2)();
  pub bound_this_stops : Stops (does (calls (calls (named (codes "bind")) (makes (bare_function 1 [] (prints (codes "pub") (this 0) ∷ [])) ∷ hidden (num 1) ∷ num 2 ∷ [])) []) ∷ []) W12

pub record FurtherRows : Type 0 where
  -- var x = 0; var p = {}; var h = make_function(); access(h, "prototype", function () { x = 1; return p; }, undefined); lbl({}, "A") instanceof h; a getter of `prototype` is called in the context of the left operand
  pub instance_getter_stops : Stops (var_is (codes "x") (num 0) ∷ var_is (codes "p") (literal no_properties)
      ∷ var_is (codes "h") (calls (named (codes "make_function")) [])
      ∷ does (calls (named (codes "access")) (named (codes "h") ∷ text (codes "prototype") ∷ makes (bare_function 1 [] (does (sets (codes "x") (num 1)) ∷ returns (named (codes "p")) ∷ [])) ∷ named (codes "undefined") ∷ []))
      ∷ does (op (hidden (literal no_properties)) binary_operator.Instanceof (named (codes "h"))) ∷ []) W1
  -- var x = 0; var p = {}; var h = make_function(); access(h, "prototype", function () { x = 1; return p; }, undefined); print("pub", {} instanceof h);
  pub instance_getter : Prints (codes "1") (var_is (codes "x") (num 0) ∷ var_is (codes "p") (literal no_properties)
      ∷ var_is (codes "h") (calls (named (codes "make_function")) [])
      ∷ does (calls (named (codes "access")) (named (codes "h") ∷ text (codes "prototype") ∷ makes (bare_function 1 [] (does (sets (codes "x") (num 1)) ∷ returns (named (codes "p")) ∷ [])) ∷ named (codes "undefined") ∷ []))
      ∷ prints (codes "pub") (op (literal no_properties) binary_operator.Instanceof (named (codes "h"))) ∷ []) (codes "pub") (codes "false") []
  -- var x = 0; access(this, "a", function () { x = 1; return 1; }, undefined); upge(this, "a", "A"); a;
  pub global_getter_stops : Stops (var_is (codes "x") (num 0)
      ∷ does (calls (named (codes "access")) (this 0 ∷ text (codes "a") ∷ makes (bare_function 1 [] (does (sets (codes "x") (num 1)) ∷ returns (num 1) ∷ [])) ∷ named (codes "undefined") ∷ []))
      ∷ does (calls (named (codes "upge")) (this 0 ∷ text (codes "a") ∷ text (codes "A") ∷ [])) ∷ does (named (codes "a")) ∷ []) W1
  -- var o = {}; fix(o, "a", 1); remove(lbl(o, "A"), "a");
  pub refused_removal_stops : Stops (var_is (codes "o") (literal no_properties)
      ∷ does (calls (named (codes "fix")) (o ∷ text (codes "a") ∷ num 1 ∷ [])) ∷ does (calls (named (codes "remove")) (hidden o ∷ text (codes "a") ∷ [])) ∷ []) W9
  -- var o = {}; fix(o, "a", 1); fix(lbl(o, "A"), "a", 2);
  pub refused_base_stops : Stops (var_is (codes "o") (literal no_properties) ∷ does (calls (named (codes "fix")) (o ∷ text (codes "a") ∷ num 1 ∷ []))
      ∷ does (calls (named (codes "fix")) (hidden o ∷ text (codes "a") ∷ num 2 ∷ [])) ∷ []) W9
  -- var o = {}; upgs(o, "A"); if (read("pin") == "1") prevent(o); o.b = 1; whether it may get a property depends on its structure
  pub prevented_stops : Stops (var_is (codes "o") (literal no_properties) ∷ does (calls (named (codes "upgs")) (o ∷ text (codes "A") ∷ []))
      ∷ where_one (does (calls (named (codes "prevent")) (o ∷ []))) ∷ does (puts (dot o (codes "b")) (num 1)) ∷ []) W9
  pub prevented_ends : GivesIn (codes "2") (var_is (codes "o") (literal no_properties)
      ∷ does (calls (named (codes "upgs")) (o ∷ text (codes "A") ∷ [])) ∷ where_one (does (calls (named (codes "prevent")) (o ∷ [])))
      ∷ does (puts (dot o (codes "b")) (num 1)) ∷ []) 200 (prints_and [] done)
  -- var o = {a: 1}; upge(o, "a", "A"); if (read("pin") == "1") freeze(o, "a"); o.a = 2; and whether a property may be changed on its existence
  pub frozen_stops : Stops (var_is (codes "o") (literal (has_value (codes "a") (num 1) no_properties))
      ∷ does (calls (named (codes "upge")) (o ∷ text (codes "a") ∷ text (codes "A") ∷ []))
      ∷ where_one (does (calls (named (codes "freeze")) (o ∷ text (codes "a") ∷ []))) ∷ does (puts (dot o (codes "a")) (num 2)) ∷ []) W9
  pub frozen_ends : GivesIn (codes "2") (var_is (codes "o") (literal (has_value (codes "a") (num 1) no_properties))
      ∷ does (calls (named (codes "upge")) (o ∷ text (codes "a") ∷ text (codes "A") ∷ []))
      ∷ where_one (does (calls (named (codes "freeze")) (o ∷ text (codes "a") ∷ []))) ∷ does (puts (dot o (codes "a")) (num 2)) ∷ []) 200 (prints_and [] done)

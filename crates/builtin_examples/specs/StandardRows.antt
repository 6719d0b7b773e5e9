-- Small scripts that call the standard's built-ins, or a name that isn't offered.
use Rattle.std.specs.Prelude.{List, [], codes, ℕ, ◌∷◌}
use Rattle.flow_frames.specs.declared.faults.Rule.TheVariants.{W12, W3, W9}
use Rattle.js_ast.specs.declared.operators.BinaryOperator.TheVariants.{StrictEqual}
use Rattle.js_ast.specs.Trees.{Expr, Properties, Statement, no_properties, null}
use Rattle.meaning_examples.specs.Building.{calls, constructs, does, dot, gets, has_value, hidden, is_in, literal, minus, named, num, o, op, plus, prints, prototype_of, puts, raises_structure, text, type_of, var_is, where_one}
use Rattle.builtin_examples.specs.SetRuns.{Leaves, Says, Stops, ThrowsTypeError, of_math, of_object, said}

abbrev pub empty : Expr
empty = literal no_properties

-- var o = e;
abbrev pub o_is : Expr → Statement
o_is e = var_is (codes "o") e

abbrev pub o_is_empty : Statement
o_is_empty = o_is empty

abbrev pub shows : Expr → Statement
shows e = prints (codes "pub") e

abbrev pub same : Expr → Expr → Expr
same l r = op l StrictEqual r

-- {get name() { print("pub", t); }, ..}, each getter at a place of its own
abbrev pub tells : ℕ → List ℕ → List ℕ → Properties → Properties
tells place name t ps = gets place name (shows (text t) ∷ []) ps

pub record ObjectRows : Type 0 where
  -- print("pub", Object.getPrototypeOf({}) === Object.prototype);
  pub prototype : Says (shows (same (of_object (codes "getPrototypeOf") (empty ∷ [])) (prototype_of (named (codes "Object")))) ∷ []) (said (codes "true") ∷ [])
  -- print("pub", {}.constructor === Object);
  pub constructor : Says (shows (same (dot empty (codes "constructor")) (named (codes "Object"))) ∷ []) (said (codes "true") ∷ [])
  -- print("pub", {}); print("pub", Math);
  pub classes : Says (shows empty ∷ shows (named (codes "Math")) ∷ []) (said (codes "[object Object]") ∷ said (codes "[object Math]") ∷ [])
  -- Object(1);
  pub wrapped : Leaves (does (calls (named (codes "Object")) (num 1 ∷ [])) ∷ []) [] (codes "wrapper")
  -- Object.create(null) + "";
  pub no_methods : ThrowsTypeError (does (plus (of_object (codes "create") (null 0 ∷ [])) (text [])) ∷ []) []
  -- Object.defineProperty({}, "p", {get set() {print("pub", "s");}, get value() {print("pub", "v");}, get enumerable() {print("pub", "e");}}); in the standard's order,
  -- and what gives undefined as a value beside a setter is refused
  pub fields_in_order : ThrowsTypeError
      (does (of_object (codes "defineProperty") (empty ∷ text (codes "p") ∷ literal (tells 1 (codes "set") (codes "s") (tells 2 (codes "value") (codes "v") (tells 3 (codes "enumerable") (codes "e") no_properties))) ∷ [])) ∷ [])
      (said (codes "e") ∷ said (codes "v") ∷ said (codes "s") ∷ [])
  -- var o = {}; Object.defineProperty(o, "p", {value: 1}); print("pub", o.propertyIsEnumerable("p")); o.p = 2;
  pub without_marks : ThrowsTypeError
      (o_is_empty ∷ does (of_object (codes "defineProperty") (o ∷ text (codes "p") ∷ literal (has_value (codes "value") (num 1) no_properties) ∷ []))
      ∷ shows (calls (dot o (codes "propertyIsEnumerable")) (text (codes "p") ∷ [])) ∷ does (puts (dot o (codes "p")) (num 2)) ∷ [])
      (said (codes "false") ∷ [])
  -- print("pub", Object.getOwnPropertyDescriptor({p: 7}, "p").value);
  pub described : Says (shows (dot (of_object (codes "getOwnPropertyDescriptor") (literal (has_value (codes "p") (num 7) no_properties) ∷ text (codes "p") ∷ [])) (codes "value")) ∷ []) (said (codes "7") ∷ [])
  -- var o = {}; Object.preventExtensions(o); o.p = 1;
  pub closed : ThrowsTypeError (o_is_empty ∷ does (of_object (codes "preventExtensions") (o ∷ [])) ∷ does (puts (dot o (codes "p")) (num 1)) ∷ []) []
  -- print("pub", Object.keys({p: 7}).length);
  pub listed : Says (shows (dot (of_object (codes "keys") (literal (has_value (codes "p") (num 7) no_properties) ∷ [])) (codes "length")) ∷ []) (said (codes "1") ∷ [])

pub record NumberRows : Type 0 where
  -- print("pub", Math.max(1, 9, 3)); print("pub", Math.abs(-5)); Math.max();
  pub maths : Leaves (shows (of_math (codes "max") (num 1 ∷ num 9 ∷ num 3 ∷ [])) ∷ shows (of_math (codes "abs") (minus (num 5) ∷ [])) ∷ does (of_math (codes "max") []) ∷ [])
      (said (codes "9") ∷ said (codes "5") ∷ []) (codes "number")
  -- print("pub", Number("5")); print("pub", Boolean("")); new Number(1);
  pub converted : Leaves (shows (calls (named (codes "Number")) (text (codes "5") ∷ [])) ∷ shows (calls (named (codes "Boolean")) (text [] ∷ [])) ∷ does (constructs (named (codes "Number")) (num 1 ∷ [])) ∷ [])
      (said (codes "5") ∷ said (codes "false") ∷ []) (codes "wrapper")

pub record LeftRows : Type 0 where
  -- Date;
  pub date : Leaves (does (named (codes "Date")) ∷ []) [] (codes "Date")
  -- print("pub", typeof Math.floor); print("pub", "PI" in Math); Math.PI = 3;
  pub constant : Leaves (shows (type_of (dot (named (codes "Math")) (codes "floor"))) ∷ shows (is_in (text (codes "PI")) (named (codes "Math"))) ∷ does (puts (dot (named (codes "Math")) (codes "PI")) (num 3)) ∷ [])
      (said (codes "function") ∷ said (codes "true") ∷ []) (codes "Math.PI")
  -- parseFloat(1); new parseFloat(1);
  pub function_left : Leaves (does (calls (named (codes "parseFloat")) (num 1 ∷ [])) ∷ []) [] (codes "parseFloat")
  pub constructor_left : Leaves (does (constructs (named (codes "parseFloat")) (num 1 ∷ [])) ∷ []) [] (codes "parseFloat")
  -- {}.toLocaleString();
  pub method_left : Leaves (does (calls (dot empty (codes "toLocaleString")) []) ∷ []) [] (codes "Object.prototype.toLocaleString")

pub record LabelRows : Type 0 where
  -- print("pub", Boolean(lbl(1, "A")));
  pub look_stops : Stops (shows (calls (named (codes "Boolean")) (hidden (num 1) ∷ [])) ∷ []) W12
  -- Boolean(lbl(1, "A")); print("pub", 1);
  pub behind_look : Says (does (calls (named (codes "Boolean")) (hidden (num 1) ∷ [])) ∷ shows (num 1) ∷ []) (said (codes "1") ∷ [])
  -- Object.getPrototypeOf(lbl(1, "A"));
  pub refused_stops : Stops (does (of_object (codes "getPrototypeOf") (hidden (num 1) ∷ [])) ∷ []) W9
  -- if (read("pin") == "1") Object.getPrototypeOf(1);
  pub throw_stops : Stops (where_one (does (of_object (codes "getPrototypeOf") (num 1 ∷ []))) ∷ []) W9
  -- var o = {}; upgs(o, "A"); print("pub", Object.getOwnPropertyDescriptor(o, "p"));
  pub absent_stops : Stops (o_is_empty ∷ raises_structure o ∷ shows (of_object (codes "getOwnPropertyDescriptor") (o ∷ text (codes "p") ∷ [])) ∷ []) W12
  -- var o = {}; Object.defineProperty(o, "p", {enumerable: lbl(1, "A")}); the look at a mark raises the frame
  pub mark_stops : Stops (o_is_empty ∷ does (of_object (codes "defineProperty") (o ∷ text (codes "p") ∷ literal (has_value (codes "enumerable") (hidden (num 1)) no_properties) ∷ [])) ∷ []) W3

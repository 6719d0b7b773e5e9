-- Small scripts with arrays, properties of primitive values and NaN, and what they give, worked out by hand.
use Rattle.std.specs.Prelude.{ℕ, List, [], codes, false, ◌∷◌}
use Rattle.js_ast.specs.Trees.{Expr, Items, Statement, array, for_in, hole, item, no_items, no_properties, paren, postfix, target_var}
use Rattle.js_ast.specs.declared.operators.BinaryOperator.TheVariants as binary_operator
use Rattle.js_ast.specs.declared.operators.PostfixOperator.TheVariants as postfix_operator
use Rattle.meaning_examples.specs.Building.{adds, at, calls, deletes, does, has_value, dot, ident, is_in, method, literal, minus, named, num, o, op, plus, puts, returns, s, shows, text, tries, var_is, with_comma}
use Rattle.meaning_examples.specs.PlainRequests.{Prints as PrintsBy, Throws as ThrowsBy}
use Rattle.meaning_examples.specs.PlainRuns.{Prints, Throws, Leaves, type_error_thrown}

-- [items]
abbrev pub list_of : Items → Expr
list_of items = array 0 items false

-- var o = [7, 8, 9];
abbrev pub three_items : Statement
three_items = var_is (codes "o") (list_of (item (num 7) (item (num 8) (item (num 9) no_items))))

abbrev pub length_of : Expr → Expr
length_of e = dot e (codes "length")

-- -"x"
abbrev pub not_a_number : Expr
not_a_number = minus (text (codes "x"))

abbrev pub range_error_thrown : List ℕ
range_error_thrown = codes "object Error RangeError"

pub record ArrayRows : Type 0 where
  -- o.length + "," + o[1] + "," + o["2"]
  pub elements : Prints (three_items ∷ shows (with_comma (with_comma (length_of o) (at o (num 1))) (at o (text (codes "2"))))) (codes "3,8,9")
  -- [1, , 3].length and [1, , 3] has no element 1
  pub holes : Prints (var_is (codes "o") (list_of (item (num 1) (hole (item (num 3) no_items)))) ∷ shows (with_comma (length_of o) (paren 0 (is_in (num 1) o)))) (codes "3,false")
  pub last_hole : Prints (shows (length_of (list_of (item (num 1) (hole no_items))))) (codes "2")
  -- o[5] = 1; o.length
  pub stretched : Prints (three_items ∷ does (puts (at o (num 5)) (num 1)) ∷ shows (length_of o)) (codes "6")
  -- o.length = 1; o.length + "," + o[0] + "," + o[1]
  pub shortened : Prints (three_items ∷ does (puts (length_of o) (num 1)) ∷ shows (with_comma (with_comma (length_of o) (at o (num 0))) (at o (num 1)))) (codes "1,7,undefined")
  -- o.length = "5"; o.length
  pub lengthened : Prints (three_items ∷ does (puts (length_of o) (text (codes "5"))) ∷ shows (length_of o)) (codes "5")
  pub no_length : Throws (three_items ∷ does (puts (length_of o) (minus (num 1))) ∷ []) range_error_thrown
  pub nan_length : Throws (three_items ∷ does (puts (length_of o) not_a_number) ∷ []) range_error_thrown
  pub length_of_a_fraction : Leaves (three_items ∷ does (puts (length_of o) (text (codes "1.5"))) ∷ []) (codes "number")
  -- o.length = {valueOf: function () { s++; return 1; }} converts twice
  pub converted_twice : Prints (three_items ∷ var_is (codes "s") (num 0) ∷ does (puts (length_of o) (literal (method 1 (codes "valueOf") (does (postfix 0 s postfix_operator.Increment) ∷ returns (num 1) ∷ []) no_properties))) ∷ shows (with_comma s (length_of o))) (codes "2,1")
  -- its `length` isn't enumerable and can't be deleted
  pub keys : Prints (three_items ∷ var_is (codes "s") (text []) ∷ for_in 0 (target_var (ident (codes "k"))) o (does (adds (codes "s") (named (codes "k")))) ∷ shows s) (codes "012")
  pub length_stays : Throws (three_items ∷ does (deletes (length_of o)) ∷ []) type_error_thrown

-- f(o, key), and f(o, key, e)
abbrev pub done_to : List ℕ → List ℕ → Statement
done_to f key = does (calls (named f) (o ∷ text key ∷ []))

abbrev pub fixed : List ℕ → Expr → Statement
fixed key e = does (calls (named (codes "fix")) (o ∷ text key ∷ e ∷ []))

pub record DefinedArrayRows : Type 0 where
  -- freeze(o, "1"); try { o.length = 0; } catch (e) { the element stays, and `length` is above it }
  pub element_stays : PrintsBy (three_items ∷ done_to (codes "freeze") (codes "1") ∷ tries (does (puts (length_of o) (num 0)) ∷ []) (shows (with_comma (with_comma (length_of o) (at o (num 1))) (at o (num 2)))) ∷ [])
      (codes "2,8,undefined")
  -- fix(o, "length", 1) and fix(o, "5", 1)
  pub length_defined : PrintsBy (three_items ∷ fixed (codes "length") (num 1) ∷ shows (with_comma (length_of o) (at o (num 1)))) (codes "1,undefined")
  pub element_defined : PrintsBy (three_items ∷ fixed (codes "5") (num 1) ∷ shows (length_of o)) (codes "6")
  -- freeze(o, "length"): elements below it can be written, none is added, and only its own value can be given to it
  pub below_frozen : PrintsBy (three_items ∷ done_to (codes "freeze") (codes "length") ∷ does (puts (at o (num 1)) (num 5)) ∷ fixed (codes "length") (num 3) ∷ shows (at o (num 1))) (codes "5")
  pub past_frozen : ThrowsBy (three_items ∷ done_to (codes "freeze") (codes "length") ∷ does (puts (at o (num 3)) (num 1)) ∷ []) type_error_thrown
  pub put_on_frozen : ThrowsBy (three_items ∷ done_to (codes "freeze") (codes "length") ∷ does (puts (length_of o) (num 3)) ∷ []) type_error_thrown
  pub defined_frozen : ThrowsBy (three_items ∷ done_to (codes "freeze") (codes "length") ∷ fixed (codes "length") (num 2) ∷ []) type_error_thrown
  -- keys({a: 1})[0] + "," + names([7, 8, 9]).length + "," + make_array().length
  pub keys : PrintsBy (three_items ∷ shows (with_comma (with_comma (at (calls (named (codes "keys")) (literal (has_value (codes "a") (num 1) no_properties) ∷ [])) (num 0)) (length_of (calls (named (codes "names")) (o ∷ [])))) (length_of (calls (named (codes "make_array")) []))))
      (codes "a,4,0")

-- var o = names(e);
abbrev pub names_are : Expr → Statement
names_are e = var_is (codes "o") (calls (named (codes "names")) (e ∷ []))

pub record NameRows : Type 0 where
  -- of a constructor, and of the prototype of what it makes
  pub of_constructor : PrintsBy (names_are (named (codes "Object")) ∷ shows (with_comma (with_comma (with_comma (at o (num 0)) (at o (num 1))) (at o (num 2))) (at o (num 3)))) (codes "length,prototype,caller,arguments")
  pub of_prototype : PrintsBy (names_are (dot (named (codes "Object")) (codes "prototype")) ∷ shows (with_comma (at o (num 0)) (at o (num 1)))) (codes "constructor,toString")

pub record PrimitiveRows : Type 0 where
  -- "abc".length + "," + "abc"[1] + "," + "abc"[3]
  pub of_text : Prints (shows (with_comma (with_comma (length_of (text (codes "abc"))) (at (text (codes "abc")) (num 1))) (at (text (codes "abc")) (num 3)))) (codes "3,b,undefined")
  pub of_number : Prints (shows (dot (paren 0 (num 1)) (codes "x"))) (codes "undefined")
  pub put_refused : Throws (does (puts (dot (text (codes "abc")) (codes "x")) (num 1)) ∷ []) type_error_thrown
  pub own_put_refused : Throws (does (puts (at (text (codes "abc")) (num 0)) (num 1)) ∷ []) type_error_thrown
  pub deleted : Prints (shows (deletes (dot (text (codes "abc")) (codes "x")))) (codes "true")
  pub unit_stays : Throws (does (deletes (at (text (codes "abc")) (num 0))) ∷ []) type_error_thrown

pub record NanRows : Type 0 where
  -- undefined + 1
  pub sum : Prints (shows (plus (named (codes "undefined")) (num 1))) (codes "NaN")
  -- 0 / 0 + "," + 5 % 0
  pub quotients : Prints (shows (with_comma (op (num 0) binary_operator.Divide (num 0)) (op (num 5) binary_operator.Remainder (num 0)))) (codes "NaN,NaN")
  pub infinite : Leaves (does (op (num 1) binary_operator.Divide (num 0)) ∷ []) (codes "number")
  -- -"x" < 1, -"x" <= 1, 1 >= -"x"
  pub order : Prints (shows (with_comma (with_comma (paren 0 (op not_a_number binary_operator.Less (num 1))) (paren 0 (op not_a_number binary_operator.LessEqual (num 1)))) (paren 0 (op (num 1) binary_operator.GreaterEqual not_a_number)))) (codes "false,false,false")
  -- o === o and o == o of NaN
  pub equality : Prints (var_is (codes "o") not_a_number ∷ shows (with_comma (paren 0 (op o binary_operator.StrictEqual o)) (paren 0 (op o binary_operator.NotEqual o)))) (codes "false,true")
  -- "b" | 3
  pub bits : Prints (shows (paren 0 (op (text (codes "b")) binary_operator.BitOr (num 3)))) (codes "3")
  -- " 0x1F " * 1 + "," + "1e2" * 1 + "," + "1x" * 1
  pub texts : Prints (shows (with_comma (with_comma (op (text (codes " 0x1F ")) binary_operator.Multiply (num 1)) (op (text (codes "1e2")) binary_operator.Multiply (num 1))) (op (text (codes "1x")) binary_operator.Multiply (num 1)))) (codes "31,100,NaN")
  pub fraction : Leaves (does (op (text (codes "1.5")) binary_operator.Multiply (num 2)) ∷ []) (codes "number")
  pub infinity : Leaves (does (op (text (codes "-Infinity")) binary_operator.Multiply (num 2)) ∷ []) (codes "number")
  pub no_infinity : Prints (shows (op (text (codes "infinity")) binary_operator.Multiply (num 2))) (codes "NaN")

-- How many turns calls of built-ins take: those of the script's parts, which are the statement, the call, what is called and the arguments, and one for each request.
use Rattle.std.specs.Prelude.{[], codes, ◌∷◌, true}
use Rattle.js_ast.specs.Trees.{Expr, Properties, boolean, no_properties, null}
use Rattle.meaning_examples.specs.Building.{bare_function, calls, dot, gets, has_value, literal, makes, method, named, num, plus, prints_on, prototype_of, returns, text}
use Rattle.builtin_examples.specs.SetRuns.{Takes, TakesOneMore, of_math, of_object, said}

abbrev pub empty : Expr
empty = literal no_properties

-- Object.defineProperty({}, "p", {..})
abbrev pub defines : Properties → Expr
defines ps = of_object (codes "defineProperty") (empty ∷ text (codes "p") ∷ literal ps ∷ [])

pub record TurnRows : Type 0 where
  -- read("pin")
  pub read : Takes (calls (named (codes "read")) (text (codes "pin") ∷ [])) 6
  -- print("pub", "hi")
  pub print_text : TakesOneMore (said (codes "hi") ∷ []) (prints_on (codes "pub") (text (codes "hi"))) 8
  -- print("pub", 7)
  pub print_number : TakesOneMore (said (codes "7") ∷ []) (prints_on (codes "pub") (num 7)) 9
  -- print("pub", {})
  pub print_object : TakesOneMore (said (codes "[object Object]") ∷ []) (prints_on (codes "pub") empty) 15
  -- lbl(1, "A", "B")
  pub lbl : Takes (calls (named (codes "lbl")) (num 1 ∷ text (codes "A") ∷ text (codes "B") ∷ [])) 9
  -- upgs({}, "A")
  pub upgs : Takes (calls (named (codes "upgs")) (empty ∷ text (codes "A") ∷ [])) 8
  -- upge({}, "p", "A")
  pub upge : Takes (calls (named (codes "upge")) (empty ∷ text (codes "p") ∷ text (codes "A") ∷ [])) 10
  -- Object()
  pub object_new : Takes (calls (named (codes "Object")) []) 5
  -- Object({})
  pub object_same : Takes (calls (named (codes "Object")) (empty ∷ [])) 5
  -- Object.getPrototypeOf({})
  pub prototype_told : Takes (of_object (codes "getPrototypeOf") (empty ∷ [])) 7
  -- Object.getOwnPropertyDescriptor({}, "p"), of {p: 1} and of {get p() {}}
  pub no_descriptor : Takes (of_object (codes "getOwnPropertyDescriptor") (empty ∷ text (codes "p") ∷ [])) 10
  pub data_descriptor : Takes (of_object (codes "getOwnPropertyDescriptor") (literal (has_value (codes "p") (num 1) no_properties) ∷ text (codes "p") ∷ [])) 19
  pub accessor_descriptor : Takes (of_object (codes "getOwnPropertyDescriptor") (literal (gets 1 (codes "p") [] no_properties) ∷ text (codes "p") ∷ [])) 17
  -- Object.create(null), Object.create(null, undefined)
  pub created : Takes (of_object (codes "create") (null 0 ∷ [])) 7
  pub created_undefined : Takes (of_object (codes "create") (null 0 ∷ named (codes "undefined") ∷ [])) 9
  -- Object.defineProperty({}, "p", {}), with {value: 1}, {writable: true} and {get: function () {}}
  pub defined : Takes (defines no_properties) 23
  pub defined_value : Takes (defines (has_value (codes "value") (num 1) no_properties)) 25
  pub defined_mark : Takes (defines (has_value (codes "writable") (boolean 0 true) no_properties)) 26
  pub defined_getter : Takes (defines (has_value (codes "get") (makes (bare_function 1 [] [])) no_properties)) 26
  -- Object.preventExtensions({}), Object.isExtensible({})
  pub prevented : Takes (of_object (codes "preventExtensions") (empty ∷ [])) 7
  pub extensible : Takes (of_object (codes "isExtensible") (empty ∷ [])) 7
  -- {}.toString(), {}.valueOf()
  pub to_string : Takes (calls (dot empty (codes "toString")) []) 6
  pub value_of : Takes (calls (dot empty (codes "valueOf")) []) 5
  -- {}.hasOwnProperty("p"), {}.propertyIsEnumerable("p")
  pub has_own : Takes (calls (dot empty (codes "hasOwnProperty")) (text (codes "p") ∷ [])) 10
  pub is_enumerable : Takes (calls (dot empty (codes "propertyIsEnumerable")) (text (codes "p") ∷ [])) 10
  -- {}.isPrototypeOf(1), Object.prototype.isPrototypeOf({}), {}.isPrototypeOf({})
  pub no_object : Takes (calls (dot empty (codes "isPrototypeOf")) (num 1 ∷ [])) 7
  pub is_first : Takes (calls (dot (prototype_of (named (codes "Object"))) (codes "isPrototypeOf")) (empty ∷ [])) 13
  pub is_none : Takes (calls (dot empty (codes "isPrototypeOf")) (empty ∷ [])) 14
  -- Boolean(1)
  pub boolean_of : Takes (calls (named (codes "Boolean")) (num 1 ∷ [])) 6
  -- Number(), Number("5")
  pub number_none : Takes (calls (named (codes "Number")) []) 4
  pub number_of : Takes (calls (named (codes "Number")) (text (codes "5") ∷ [])) 6
  -- Math.abs(1), Math.max(1, 2)
  pub abs : Takes (of_math (codes "abs") (num 1 ∷ [])) 7
  pub max : Takes (of_math (codes "max") (num 1 ∷ num 2 ∷ [])) 9
  -- {} + 1, {valueOf: function () { return 1; }} + 1
  pub converted : Takes (plus empty (num 1)) 17
  pub converted_by_value : Takes (plus (literal (method 1 (codes "valueOf") (returns (num 1) ∷ []) no_properties)) (num 1)) 11

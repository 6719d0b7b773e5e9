-- Small scripts, and what they print, worked out by hand or asked of another engine.
use Rattle.std.specs.Prelude.{List, [], codes, pos, true, ◌++◌, ◌∷◌, ◌≡◌}
use Rattle.js_number.specs.declared.num.Num.TheVariants.{Int}
use Rattle.js_number.specs.declared.primitive.Primitive.TheVariants.{Num, Str}
use Rattle.js_values.specs.declared.value.Value.TheVariants as value
use Rattle.js_ast.specs.Trees.{Statement, block, block_of, boolean, comma, conditional, do_while, first_var, for, more_declarations, no_statements, one_declaration, paren, postfix, present, unary, var, while, written}
use Rattle.js_ast.specs.declared.operators.BinaryOperator.TheVariants as binary_operator
use Rattle.js_ast.specs.declared.operators.PostfixOperator.TheVariants as postfix_operator
use Rattle.js_ast.specs.declared.operators.UnaryOperator.TheVariants as unary_operator
use Rattle.native_protocol.specs.declared.request.ErrorKind.TheVariants as kinds
use Rattle.es_meaning.specs.Outcomes.{done, halted, left, out_of_turns, threw}
use Rattle.es_meaning.specs.Plain.{undefined}
use Rattle.es_meaning.specs.Start.{error_prototype, global_object, shown, start_heap}
use Rattle.meaning_examples.specs.Building.{adds, does, ident, labels, minus, named, num, op, plus, prints, prints_on, reads, sets, text, var_is, with_comma}
use Rattle.meaning_examples.specs.PlainRuns.{Gives, Prints, line, prints_and}

-- print("pub", "hi");
abbrev pub hello : List Statement
hello = prints (codes "pub") (text (codes "hi")) ∷ []

-- var a=1,b=2; a; ++b; print("pub", a+","+b);
abbrev pub steps : List Statement
steps = var 0 (more_declarations (ident (codes "a")) (present (num 1)) (one_declaration (ident (codes "b")) (present (num 2)))) written
    ∷ does (named (codes "a")) ∷ does (unary 0 unary_operator.Increment (named (codes "b"))) ∷ prints (codes "pub") (plus (plus (named (codes "a")) (text (codes ","))) (named (codes "b"))) ∷ []

-- print("pub", 9007199254740990 + 1); print("pub", 9007199254740991 + 1);
abbrev pub greatest : List Statement
greatest = prints (codes "pub") (plus (num 9007199254740990) (num 1)) ∷ prints (codes "pub") (plus (num 9007199254740991) (num 1)) ∷ []

-- (-7 % 3) + "," + (1 << 31) + "," + (-1 >>> 0) + "," + "5" * "4" + "," + ("5" + 4)
abbrev pub operators : List Statement
operators = prints (codes "pub") (with_comma (with_comma (with_comma (with_comma (paren 0 (op (minus (num 7)) binary_operator.Remainder (num 3))) (paren 0 (op (num 1) binary_operator.ShiftLeft (num 31))))
    (paren 0 (op (minus (num 1)) binary_operator.ShiftRightZero (num 0)))) (op (text (codes "5")) binary_operator.Multiply (text (codes "4")))) (paren 0 (plus (text (codes "5")) (num 4)))) ∷ []

-- print("pub", 7 / 2);
abbrev pub fraction : List Statement
fraction = prints (codes "pub") (op (num 7) binary_operator.Divide (num 2)) ∷ []

-- while (true) {}
abbrev pub endless : List Statement
endless = while 0 (boolean 0 true) (block (block_of 0 no_statements)) ∷ []

-- var i = 0; while (i < 1) i = 1;
abbrev pub one_turn : List Statement
one_turn = var_is (codes "i") (num 0) ∷ while 0 (op (named (codes "i")) binary_operator.Less (num 1)) (does (sets (codes "i") (num 1))) ∷ []

-- var s = 0; for (var i = 0; i < 4; i++) s += i; print("pub", s);
abbrev pub sum : List Statement
sum = var_is (codes "s") (num 0)
    ∷ for 0 (first_var (one_declaration (ident (codes "i")) (present (num 0)))) (present (op (named (codes "i")) binary_operator.Less (num 4))) (present (postfix 0 (named (codes "i")) postfix_operator.Increment)) (does (adds (codes "s") (named (codes "i"))))
    ∷ prints (codes "pub") (named (codes "s")) ∷ []

-- var s = "a"; do s += "a"; while (s != "aaa"); print("pub", s);
abbrev pub tail_test : List Statement
tail_test = var_is (codes "s") (text (codes "a")) ∷ do_while 0 (does (adds (codes "s") (text (codes "a")))) (op (named (codes "s")) binary_operator.NotEqual (text (codes "aaa"))) written ∷ prints (codes "pub") (named (codes "s")) ∷ []

-- print("pub", (0 || "b") && typeof nothing);
abbrev pub chosen : List Statement
chosen = prints (codes "pub") (op (paren 0 (op (num 0) binary_operator.Or (text (codes "b")))) binary_operator.And (unary 0 unary_operator.Typeof (named (codes "nothing")))) ∷ []

-- var i = 5; print("pub", (i--, i) ? i++ + i : 0);
abbrev pub old_and_new : List Statement
old_and_new = var_is (codes "i") (num 5) ∷ prints (codes "pub") (conditional 0 (paren 0 (comma 0 (postfix 0 (named (codes "i")) postfix_operator.Decrement) (named (codes "i")))) (plus (postfix 0 (named (codes "i")) postfix_operator.Increment) (named (codes "i"))) (num 0)) ∷ []

-- print("all", read("pin")); print("all", read("pin"));
abbrev pub past_the_end : List Statement
past_the_end = prints (codes "all") (reads (codes "pin")) ∷ prints (codes "all") (reads (codes "pin")) ∷ []

-- how many turns they take
pub record TurnRows : Type 0 where
  -- five parts are evaluated: the statement, the call, its callee and two arguments. Then come four requests: a look at each argument, the print and the end
  pub hello_in_nine : Gives hello 9 (prints_and (line (codes "pub") (codes "hi") ∷ []) done)
  pub hello_in_eight : Gives hello 8 (prints_and (line (codes "pub") (codes "hi") ∷ []) (halted out_of_turns))
  -- the statement and its condition, and then the turn, the block and the condition, again and again
  pub endless_ends : Gives endless 41 (prints_and [] (halted out_of_turns))
  -- 2 parts of the variable, the loop, 3 of its condition, a turn, 4 of its body, and again 3 of the condition
  pub one_turn_in_fourteen : Gives one_turn 14 (prints_and [] done)
  pub one_turn_in_thirteen : Gives one_turn 13 (prints_and [] (halted out_of_turns))

-- what they print
pub record PrintedRows : Type 0 where
  pub steps_print : Prints steps (codes "1,3")
  pub greatest_leaves : Gives greatest 200 (prints_and (line (codes "pub") (codes "9007199254740991") ∷ []) (halted (left (codes "number"))))
  pub operators_print : Prints operators (codes "-1,-2147483648,4294967295,20,54")
  pub fraction_leaves : Gives fraction 200 (prints_and [] (halted (left (codes "number"))))
  pub sum_prints : Prints sum (codes "6")
  pub tail_test_prints : Prints tail_test (codes "aaa")
  pub chosen_prints : Prints chosen (codes "undefined")
  pub old_and_new_prints : Prints old_and_new (codes "9")
  pub past_the_end_prints : Gives past_the_end 200 (prints_and (line (codes "all") (codes "1") ∷ line (codes "all") (codes "undefined") ∷ []) done)

-- and how they end otherwise
pub record ThrownRows : Type 0 where
  pub no_channel : Gives (prints (codes "zzz") (num 1) ∷ []) 200 (prints_and [] (halted (left (codes "channel"))))
  pub no_origin : Gives (does (labels (num 1) (codes "Z")) ∷ []) 200 (prints_and [] (halted (left (codes "origin"))))
  -- undefined = 1; and nothing = 1;
  pub immutable : Gives (does (sets (codes "undefined") (num 1)) ∷ []) 200 (prints_and [] (threw (codes "object Error TypeError")))
  pub unbound : Gives (does (sets (codes "nothing") (num 1)) ∷ []) 200 (prints_and [] (threw (codes "object Error ReferenceError")))
  -- nothing = (print("pub", 1), 2); the name is resolved first, and the exception comes behind the right side
  pub unbound_behind_its_value : Gives (does (sets (codes "nothing") (paren 0 (comma 0 (prints_on (codes "pub") (num 1)) (num 2)))) ∷ []) 200
      (prints_and (line (codes "pub") (codes "1") ∷ []) (threw (codes "object Error ReferenceError")))
  -- nothing += print("pub", 1); the value is asked before the right side
  pub unbound_before_its_change : Gives (does (adds (codes "nothing") (prints_on (codes "pub") (num 1))) ∷ []) 200 (prints_and [] (threw (codes "object Error ReferenceError")))
  -- "1.5" - print("pub", 1); the left operand is a number after the right one is evaluated
  pub fraction_behind_its_operand : Gives (does (op (text (codes "1.5")) binary_operator.Subtract (prints_on (codes "pub") (num 1))) ∷ []) 200
      (prints_and (line (codes "pub") (codes "1") ∷ []) (halted (left (codes "number"))))

-- what is shown of a value
pub record ShownRows : Type 0 where
  -- what is shown of a value: its type, and a text with its escapes, also where it is empty
  pub shown_text : shown start_heap (value.Primitive (Str (120 ∷ 92 ∷ []))) ≡ codes "string x" ++ (92 ∷ 92 ∷ [])
  pub shown_empty : shown start_heap (value.Primitive (Str [])) ≡ codes "string "
  pub shown_number : shown start_heap (value.Primitive (Num (Int (pos 12)))) ≡ codes "number 12"
  pub shown_undefined : shown start_heap undefined ≡ codes "undefined"
  -- of an object its class, and its name where that is a text
  pub shown_global : shown start_heap (value.Object global_object) ≡ codes "object Object"
  pub shown_prototype : shown start_heap (value.Object (error_prototype kinds.RangeError)) ≡ codes "object Error RangeError"

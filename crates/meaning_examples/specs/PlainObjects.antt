-- Small scripts with objects, and what they give, worked out by hand or asked of another engine.
use Rattle.std.specs.Prelude.{List, [], codes, pos, ◌∷◌}
use Rattle.js_ast.specs.Trees.{Expr, Statement, assign, comma, empty, for_in, more_properties, no_properties, null, number_key, paren, postfix, target_expr, target_var, this, value}
use Rattle.js_ast.specs.declared.operators.AssignOperator.TheVariants as assign_operator
use Rattle.js_ast.specs.declared.operators.PostfixOperator.TheVariants as postfix_operator
use Rattle.es_meaning.specs.Outcomes.{done, halted, left, threw}
use Rattle.meaning_examples.specs.Building.{adds, at, calls, deletes, does, dot, e, has_value, ident, is_in, literal, named, num, o, plus, prints_on, puts, sets, shows, text, var_is, with_comma}
use Rattle.meaning_examples.specs.PlainRuns.{Gives, Prints, line, prints_and, type_error_thrown}

-- var o = {a: 1, 2: 3};
abbrev pub two_properties : Statement
two_properties = var_is (codes "o") (literal (has_value (codes "a") (num 1) (more_properties (value 0 (number_key (pos 2)) (num 3)) no_properties)))

-- var s = ""; for (var k in e) body
abbrev pub joined_keys : Expr → List Statement → List Statement
joined_keys e behind = var_is (codes "s") (text []) ∷ for_in 0 (target_var (ident (codes "k"))) e (does (adds (codes "s") (named (codes "k")))) ∷ behind

pub record MemberRows : Type 0 where
  -- o.b = 4; o["2"] + o.b + o.a
  pub members : Prints (two_properties ∷ does (puts (dot o (codes "b")) (num 4)) ∷ shows (plus (plus (at o (text (codes "2"))) (dot o (codes "b"))) (dot o (codes "a")))) (codes "8")
  -- o.a += 5; o.a++ + o.a
  pub changes : Prints (two_properties ∷ does (assign 0 (dot o (codes "a")) assign_operator.Add (num 5)) ∷ shows (plus (postfix 0 (dot o (codes "a")) postfix_operator.Increment) (dot o (codes "a")))) (codes "13")
  -- ("a" in o) + "," + delete o.a + "," + ("a" in o) + "," + delete o.a + "," + o.a
  pub deleted : Prints (two_properties ∷ shows (with_comma (with_comma (with_comma (with_comma (paren 0 (is_in (text (codes "a")) o)) (deletes (dot o (codes "a")))) (paren 0 (is_in (text (codes "a")) o))) (deletes (dot o (codes "a")))) (dot o (codes "a"))))
      (codes "true,true,false,true,undefined")
  -- delete (o.a), and of what is no reference
  pub deleted_in_parentheses : Prints (two_properties ∷ shows (with_comma (deletes (paren 0 (dot o (codes "a")))) (deletes (num 1)))) (codes "true,true")

pub record EnumerationRows : Type 0 where
  -- keys in order of insertion, and one that is deleted before its turn
  pub keys : Prints (two_properties ∷ joined_keys o (shows (named (codes "s")))) (codes "a2")
  pub skipped : Prints (two_properties ∷ var_is (codes "s") (text []) ∷ for_in 0 (target_var (ident (codes "k"))) o (does (comma 0 (adds (codes "s") (named (codes "k"))) (deletes (at o (num 2))))) ∷ shows (named (codes "s"))) (codes "a")
  pub one_key : Gives (for_in 0 (target_var (ident (codes "k"))) (literal (has_value (codes "a") (num 1) no_properties)) (empty 0) ∷ []) 200 (prints_and [] done)
  -- for (o.x in {a: 1}) ;
  pub into_a_member : Prints (two_properties ∷ for_in 0 (target_expr (dot o (codes "x"))) (literal (has_value (codes "a") (num 1) no_properties)) (empty 0) ∷ shows (dot o (codes "x"))) (codes "a")
  pub no_keys : Prints (joined_keys (null 0) (shows (plus (text (codes "none")) (named (codes "s"))))) (codes "none")
  pub keys_of_a_number : Gives (joined_keys (num 1) []) 200 (prints_and [] (halted (left (codes "wrapper"))))

pub record BaseRows : Type 0 where
  -- undefined[print("pub", 1)] and undefined.x = print("pub", 1)
  pub base_behind_key : Gives (does (at (named (codes "undefined")) (prints_on (codes "pub") (num 1))) ∷ []) 200 (prints_and (line (codes "pub") (codes "1") ∷ []) (threw type_error_thrown))
  pub base_before_value : Gives (does (puts (dot (named (codes "undefined")) (codes "x")) (prints_on (codes "pub") (num 1))) ∷ []) 200 (prints_and [] (threw type_error_thrown))
  pub member_of_text : Gives (does (dot (text (codes "a")) (codes "x")) ∷ []) 200 (prints_and [] done)
  pub in_no_object : Gives (does (is_in (text (codes "a")) (num 1)) ∷ []) 200 (prints_and [] (threw type_error_thrown))

pub record VariableRows : Type 0 where
  -- the variables of the outermost code are properties of `this`, which can't be deleted
  pub variable : Prints (var_is (codes "x") (num 1) ∷ does (puts (dot (this 0) (codes "x")) (num 2)) ∷ shows (named (codes "x"))) (codes "2")
  pub variable_stays : Gives (var_is (codes "x") (num 1) ∷ does (deletes (dot (this 0) (codes "x"))) ∷ []) 200 (prints_and [] (threw type_error_thrown))
  pub variables_in_order : Prints (var_is (codes "b") (num 1) ∷ joined_keys (this 0) (shows (named (codes "s")))) (codes "bsk")
  -- x = (this.x = 1); the name is resolved before its value is there
  pub resolved_before : Gives (does (sets (codes "x") (paren 0 (puts (dot (this 0) (codes "x")) (num 1)))) ∷ []) 200 (prints_and [] (threw (codes "object Error ReferenceError")))
  -- this.x = 1; x = (delete this.x, 2); a name that was found is given its value
  pub found_and_deleted : Prints (does (puts (dot (this 0) (codes "x")) (num 1)) ∷ does (sets (codes "x") (paren 0 (comma 0 (deletes (dot (this 0) (codes "x"))) (num 2)))) ∷ shows (named (codes "x"))) (codes "2")

pub record OriginRows : Type 0 where
  -- upgs(1, "A"), upgs({}, "Z") and upgs(o, "A")
  pub raises_no_object : Gives (does (calls (named (codes "upgs")) (num 1 ∷ text (codes "A") ∷ [])) ∷ []) 200 (prints_and [] (threw type_error_thrown))
  pub raises_no_origin : Gives (does (calls (named (codes "upgs")) (literal no_properties ∷ text (codes "Z") ∷ [])) ∷ []) 200 (prints_and [] (halted (left (codes "origin"))))
  pub raises_and_answers : Prints (two_properties ∷ shows (calls (named (codes "upgs")) (o ∷ text (codes "A") ∷ []))) (codes "undefined")

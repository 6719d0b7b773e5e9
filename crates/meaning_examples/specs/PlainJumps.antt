-- Small scripts with exceptions and jumps, and what they give, worked out by hand or asked of another engine.
use Rattle.std.specs.Prelude.{List, [], codes, true, ℕ, ◌++◌, ◌∷◌}
use Rattle.js_ast.specs.Trees.{Clauses, Statement, boolean, case, default, first_var, for, if_then, labelled, no_clauses, null, one_declaration, postfix, present, switch, try_both, while}
use Rattle.js_ast.specs.declared.operators.BinaryOperator.TheVariants as binary_operator
use Rattle.js_ast.specs.declared.operators.PostfixOperator.TheVariants as postfix_operator
use Rattle.es_meaning.specs.Outcomes.{halted, left, threw}
use Rattle.meaning_examples.specs.Building.{adds, breaks, breaks_to, calls, continues, continues_to, does, dot, e, f, f_is, ident, in_block, in_braces, list, named, num, op, prints, returns, s, sets, shows, text, throws, tries, tries_and, var_is, with_comma}
use Rattle.meaning_examples.specs.PlainRuns.{Gives, Prints, prints_and}

abbrev pub says : List ℕ → Statement
says t = does (adds (codes "s") (text t))

-- for (var i = 0; i < n; i++) body
abbrev pub counts : List ℕ → ℕ → Statement → Statement
counts i n body = for 0 (first_var (one_declaration (ident i) (present (num 0)))) (present (op (named i) binary_operator.Less (num n))) (present (postfix 0 (named i) postfix_operator.Increment)) body

-- if (i == n) body
abbrev pub where_is : List ℕ → ℕ → Statement → Statement
where_is i n body = if_then 0 (op (named i) binary_operator.Equal (num n)) body

abbrev pub case_of : ℕ → List ℕ → Clauses → Clauses
case_of n t cs = case (num n) (list (says t ∷ [])) cs

abbrev pub Says : List Statement → List ℕ → Type 0
Says script t = Prints ((var_is (codes "s") (text []) ∷ script) ++ shows s) t

pub record TryRows : Type 0 where
  -- try { throw 5; } catch (e) { print("pub", e); }
  pub caught : Prints (tries (throws (num 5) ∷ []) (prints (codes "pub") e ∷ []) ∷ []) (codes "5")
  -- throw "x";
  pub uncaught : Gives (throws (text (codes "x")) ∷ []) 200 (prints_and [] (threw (codes "string x")))
  -- try { null.x; } catch (e) { print("pub", e.name); }
  pub engine_error_caught : Prints (tries (does (dot (null 0) (codes "x")) ∷ []) (prints (codes "pub") (dot e (codes "name")) ∷ []) ∷ []) (codes "TypeError")
  -- try { try { throw 1; } finally { s += "a"; } } catch (e) { s += "b"; } the last part comes before the outer handler
  pub last_comes_first : Says (tries (tries_and (throws (num 1) ∷ []) (says (codes "a") ∷ []) ∷ []) (says (codes "b") ∷ []) ∷ []) (codes "ab")
  -- function f() { try { throw 1; } finally { return 2; } } a jump of the last part replaces the one that waits
  pub replaced : Prints (f_is [] (tries_and (throws (num 1) ∷ []) (returns (num 2) ∷ []) ∷ []) ∷ shows (calls f [])) (codes "2")
  -- function f() { try { return s; } finally { s = "b"; } } var s = "a"; f() + "," + s; the value is there already
  pub returned_before : Prints (var_is (codes "s") (text (codes "a")) ∷ f_is [] (tries_and (returns s ∷ []) (does (sets (codes "s") (text (codes "b"))) ∷ []) ∷ []) ∷ shows (with_comma (calls f []) s)) (codes "a,b")
  -- try { throw 1; } catch (e) { throw 2; } finally { s += "f"; } inside try { } catch (e) { s += e; }
  pub handler_throws : Says (tries (try_both 0 (in_block (throws (num 1) ∷ [])) (ident (codes "e")) (in_block (throws (num 2) ∷ [])) (in_block (says (codes "f") ∷ [])) ∷ []) (does (adds (codes "s") e) ∷ []) ∷ []) (codes "f2")
  -- L: { try { throw 1; } finally { break L; } } the throw is gone
  pub dropped : Says (labelled 0 (codes "L") (in_braces (tries_and (throws (num 1) ∷ []) (breaks_to (codes "L") ∷ []) ∷ [])) ∷ says (codes "ok") ∷ []) (codes "ok")

pub record LoopRows : Type 0 where
  -- for (var i = 0; i < 3; i++) { if (i == 1) continue; s += i; } and with break
  pub continued : Says (counts (codes "i") 3 (in_braces (where_is (codes "i") 1 continues ∷ does (adds (codes "s") (named (codes "i"))) ∷ [])) ∷ []) (codes "02")
  pub broken : Says (counts (codes "i") 3 (in_braces (where_is (codes "i") 1 breaks ∷ does (adds (codes "s") (named (codes "i"))) ∷ [])) ∷ []) (codes "0")
  -- a: b: for (..; i < 3; ..) for (..; j < 2; ..) { if (j == 1) continue a; s += i; } both labels are the outer loop's
  pub continued_outside : Says (labelled 0 (codes "a") (labelled 0 (codes "b") (counts (codes "i") 3 (counts (codes "j") 2 (in_braces (where_is (codes "j") 1 (continues_to (codes "a")) ∷ does (adds (codes "s") (named (codes "i"))) ∷ []))))) ∷ []) (codes "012")
  pub broken_outside : Says (labelled 0 (codes "a") (labelled 0 (codes "b") (counts (codes "i") 3 (counts (codes "j") 2 (in_braces (where_is (codes "j") 1 (breaks_to (codes "b")) ∷ does (adds (codes "s") (named (codes "i"))) ∷ []))))) ∷ []) (codes "0")
  -- while (true) { L: { break; } } a break without a label passes a labelled block
  pub block_is_passed : Says (while 0 (boolean 0 true) (in_braces (labelled 0 (codes "L") (in_braces (breaks ∷ [])) ∷ [])) ∷ says (codes "ok") ∷ []) (codes "ok")
  -- L: while (true) { "flow break @L -"; break L; }
  pub labels_carried : Says (labelled 0 (codes "L") (while 0 (boolean 0 true) (in_braces (does (text (codes "flow break @L -")) ∷ breaks_to (codes "L") ∷ []))) ∷ says (codes "ok") ∷ []) (codes "ok")

pub record SwitchRows : Type 0 where
  -- switch (2) { case 1: s += "1"; default: s += "d"; case 2: s += "2"; case 3: s += "3"; }
  pub falls_through : Says (switch 0 (num 2) (case_of 1 (codes "1") (default (list (says (codes "d") ∷ [])) (case_of 2 (codes "2") (case_of 3 (codes "3") no_clauses)))) ∷ []) (codes "23")
  -- the same with switch (9), and with switch ("1")
  pub default_falls_through : Says (switch 0 (num 9) (case_of 1 (codes "1") (default (list (says (codes "d") ∷ [])) (case_of 2 (codes "2") no_clauses))) ∷ []) (codes "d2")
  pub compared_strictly : Says (switch 0 (text (codes "1")) (case_of 1 (codes "1") no_clauses) ∷ says (codes "ok") ∷ []) (codes "ok")
  pub switch_broken : Says (switch 0 (num 1) (case (num 1) (list (says (codes "1") ∷ breaks ∷ [])) (case_of 2 (codes "2") no_clauses)) ∷ []) (codes "1")

pub record DirectiveRows : Type 0 where
  -- a directive does nothing, and leaves where an origin isn't declared; in parentheses it is none
  pub directive : Says (does (text (codes "flow exc A,B")) ∷ says (codes "ok") ∷ []) (codes "ok")
  pub directive_leaves : Gives (does (text (codes "flow exc Z")) ∷ []) 200 (prints_and [] (halted (left (codes "origin"))))

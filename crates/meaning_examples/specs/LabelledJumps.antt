-- Small scripts with exceptions and jumps under the flow rules, and what they print or by which rule they are stopped, worked out by hand.
use Rattle.std.specs.Prelude.{[], codes, true, ◌∷◌}
use Rattle.flow_frames.specs.declared.faults.Rule.TheVariants.{W1, W10, W12, W9}
use Rattle.js_ast.specs.Trees.{Expr, Statement, boolean, case, default, labelled, no_clauses, null, switch, while}
use Rattle.es_meaning.specs.Outcomes.{threw}
use Rattle.meaning_examples.specs.Building.{breaks, breaks_to, calls, continues, directive, does, dot, e, f, f_is, hidden, in_braces, list, named, num, prints, reads, returns, sets, text, throws, tries, tries_and, var_is, where_one}
use Rattle.meaning_examples.specs.LabelledRuns.{Ends, Gives, Prints, Stops, origin_a}

abbrev pub raise_throws : Statement
raise_throws = directive (codes "flow exc A")

abbrev pub x_is : Expr → Statement
x_is v = does (sets (codes "x") v)

pub record ThrowRows : Type 0 where
  -- try { if (read("pin") == "1") throw 1; } catch (e) {} needs "flow exc A" inside
  pub throw_stops : Stops (tries (where_one (throws (num 1)) ∷ []) [] ∷ []) W9
  pub throw_ends : Ends (tries (raise_throws ∷ where_one (throws (num 1)) ∷ []) [] ∷ [])
  -- behind the statement the context is as before, and its parts behind the directive are hidden
  pub behind_prints : Prints (codes "1") (tries (raise_throws ∷ where_one (throws (num 1)) ∷ []) [] ∷ prints (codes "pub") (num 1) ∷ []) (codes "pub") (codes "1") []
  pub handler_stops : Stops (tries (raise_throws ∷ where_one (throws (num 1)) ∷ []) (prints (codes "pub") (num 1) ∷ []) ∷ []) W12
  pub last_stops : Stops (tries_and (raise_throws ∷ []) (prints (codes "pub") (num 1) ∷ []) ∷ []) W12
  -- what is caught has its label and the context: var x = lbl(0, "A"); .. catch (e) { x = e; } print("all", x);
  pub caught_prints : Prints (codes "1") (var_is (codes "x") (hidden (num 0)) ∷ tries (raise_throws ∷ where_one (throws (num 1)) ∷ []) (x_is e ∷ []) ∷ prints (codes "all") (named (codes "x")) ∷ []) (codes "all") (codes "1") origin_a
  -- a throw at a visible place may take a hidden value along; what is shown isn't asked for
  pub hidden_value_is_thrown : Gives (codes "1") (throws (hidden (num 5)) ∷ []) (record { lines = []; ending = threw (codes "number 5") })

pub record WaitingRows : Type 0 where
  -- a throw that waited is asked again behind the last part: the outer statement isn't raised
  pub waiting_throw_stops : Stops (tries (tries_and (raise_throws ∷ where_one (throws (num 1)) ∷ []) [] ∷ []) [] ∷ []) W9
  pub waiting_throw_ends : Ends (tries (raise_throws ∷ tries_and (raise_throws ∷ where_one (throws (num 1)) ∷ []) [] ∷ []) [] ∷ [])
  -- and so is a return: function f() { "flow ret A"; try { if (read("pin") == "1") return 1; } finally {} return 2; }
  pub return_stops : Stops (f_is [] (directive (codes "flow ret A") ∷ tries_and (where_one (returns (num 1)) ∷ []) [] ∷ returns (num 2) ∷ []) ∷ prints (codes "all") (calls f []) ∷ []) W9
  pub return_prints : Prints (codes "1") (f_is [] (directive (codes "flow ret A") ∷ tries_and (raise_throws ∷ where_one (returns (num 1)) ∷ []) [] ∷ returns (num 2) ∷ []) ∷ prints (codes "all") (calls f []) ∷ []) (codes "all") (codes "1") origin_a

pub record HandlerRows : Type 0 where
  -- in a handler behind which nothing is done last, a throw and a directive speak of what is outside
  pub handler_throw_stops : Stops (tries (throws (num 0) ∷ []) (where_one (throws (num 1)) ∷ []) ∷ []) W9
  pub handler_directive : Ends (tries (tries (throws (num 0) ∷ []) (raise_throws ∷ where_one (throws (num 1)) ∷ []) ∷ []) [] ∷ [])
  -- if (read("pin") == "1") { "flow exc A"; }
  pub directive_stops : Stops (where_one (raise_throws) ∷ []) W10
  -- the Root is raised: "flow exc A"; print("pub", 1);
  pub root_stops : Stops (raise_throws ∷ prints (codes "pub") (num 1) ∷ []) W12

pub record LoopRows : Type 0 where
  -- while (true) { if (read("pin") == "1") break; break; }
  pub break_stops : Stops (while 0 (boolean 0 true) (in_braces (where_one breaks ∷ breaks ∷ [])) ∷ []) W9
  pub break_ends : Ends (while 0 (boolean 0 true) (in_braces (directive (codes "flow break A") ∷ where_one breaks ∷ breaks ∷ [])) ∷ [])
  pub labelled_break_ends : Ends (labelled 0 (codes "L") (while 0 (boolean 0 true) (in_braces (directive (codes "flow break @L A") ∷ while 0 (boolean 0 true) (in_braces (where_one (breaks_to (codes "L")) ∷ breaks ∷ [])) ∷ breaks ∷ []))) ∷ [])
  pub inner_directive_stops : Stops (labelled 0 (codes "L") (while 0 (boolean 0 true) (in_braces (while 0 (boolean 0 true) (in_braces (directive (codes "flow break A") ∷ where_one (breaks_to (codes "L")) ∷ breaks ∷ [])) ∷ breaks ∷ []))) ∷ []) W9
  -- and a continue
  pub continue_stops : Stops (while 0 (boolean 0 true) (in_braces (where_one continues ∷ breaks ∷ [])) ∷ []) W9

pub record SwitchRows : Type 0 where
  -- switch (read("pin")) { case "1": x = 1; } and its default
  pub switch_stops : Stops (var_is (codes "x") (num 0) ∷ switch 0 (reads (codes "pin")) (case (text (codes "1")) (list (x_is (num 1) ∷ [])) no_clauses) ∷ []) W1
  pub default_stops : Stops (var_is (codes "x") (num 0) ∷ switch 0 (hidden (num 1)) (default (list (x_is (num 1) ∷ [])) no_clauses) ∷ []) W1
  -- a labelled case in front of the one that is equal raises the frame, and one behind it doesn't
  pub tested_case_stops : Stops (var_is (codes "x") (num 0) ∷ switch 0 (num 1) (case (hidden (num 2)) (list []) (case (num 1) (list (x_is (num 1) ∷ [])) no_clauses)) ∷ []) W1
  pub later_case : Prints (codes "1") (switch 0 (num 1) (case (num 1) (list (prints (codes "pub") (num 1) ∷ breaks ∷ [])) (case (hidden (num 2)) (list []) no_clauses)) ∷ []) (codes "pub") (codes "1") []

pub record EngineRows : Type 0 where
  -- an error of the engine in a hidden branch is a hidden object: its cause and its context
  pub engine_error_stops : Stops (tries (where_one (does (dot (null 0) (codes "x"))) ∷ []) [] ∷ []) W9
  pub engine_error_prints : Prints (codes "1") (var_is (codes "x") (hidden (num 0)) ∷ tries (raise_throws ∷ where_one (does (dot (null 0) (codes "x"))) ∷ []) (x_is (dot e (codes "name")) ∷ []) ∷ prints (codes "all") (named (codes "x")) ∷ []) (codes "all") (codes "TypeError") origin_a

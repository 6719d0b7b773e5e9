-- Small scripts with objects under the flow rules, and what they print or by which rule they are stopped, worked out by hand.
use Rattle.std.specs.Prelude.{[], codes, ◌∷◌}
use Rattle.flow_frames.specs.declared.faults.Rule.TheVariants.{W1, W12, W2, W3, W4, W5, W7, W8, W9}
use Rattle.js_ast.specs.Trees.{Expr, Statement, empty, for_in, no_properties, target_var, this}
use Rattle.es_meaning.specs.Outcomes.{threw}
use Rattle.meaning_examples.specs.Building.{at, deletes, does, dot, e, has_value, ident, is_in, labels, literal, named, num, o, prints, puts, raises_existence, raises_structure, sets, text, var_is, where_one}
use Rattle.meaning_examples.specs.LabelledRuns.{Gives, Prints, Stops, origin_a}

-- var o = {p: 1};
abbrev pub one_property : Statement
one_property = var_is (codes "o") (literal (has_value (codes "p") (num 1) no_properties))

abbrev pub p : Expr
p = dot o (codes "p")

-- if (read("pin") == "1") e;
abbrev pub where_one_does : Expr → Statement
where_one_does e = where_one (does e)

pub record ChangeRows : Type 0 where
  pub write_stops : Stops (one_property ∷ where_one_does (puts p (num 2)) ∷ []) W2
  pub add_stops : Stops (one_property ∷ where_one_does (puts (dot o (codes "q")) (num 2)) ∷ []) W3
  pub delete_stops : Stops (one_property ∷ where_one_does (deletes p) ∷ []) W4
  -- upge(o, "p", "A"); delete o.p
  pub delete_stops_at_the_object : Stops (one_property ∷ does (raises_existence o (codes "p")) ∷ where_one_does (deletes p) ∷ []) W5
  pub structure_stops : Stops (one_property ∷ where_one (raises_structure o) ∷ []) W7
  pub existence_stops : Stops (one_property ∷ where_one_does (raises_existence o (codes "p")) ∷ []) W8
  pub variable_stops : Stops (var_is (codes "x") (num 1) ∷ where_one_does (sets (codes "x") (num 2)) ∷ []) W1
  pub refused_put_stops : Stops (where_one_does (sets (codes "undefined") (num 2)) ∷ []) W9

pub record StructureRows : Type 0 where
  -- upgs(o, "A"); if (read("pin") == "1") o.q = 5; o.q = 6; print("all", o.q);
  pub raised_prints : Prints (codes "1") (one_property ∷ raises_structure o ∷ where_one_does (puts (dot o (codes "q")) (num 5)) ∷ does (puts (dot o (codes "q")) (num 6)) ∷ prints (codes "all") (dot o (codes "q")) ∷ []) (codes "all") (codes "6") origin_a
  pub raised_prints_too : Prints (codes "2") (one_property ∷ raises_structure o ∷ where_one_does (puts (dot o (codes "q")) (num 5)) ∷ does (puts (dot o (codes "q")) (num 6)) ∷ prints (codes "all") (dot o (codes "q")) ∷ []) (codes "all") (codes "6") origin_a
  -- an absent property has the structure label, and a present one its existence label
  pub absent_stops : Stops (one_property ∷ raises_structure o ∷ prints (codes "pub") (dot o (codes "q")) ∷ []) W12
  pub present_prints : Prints (codes "1") (one_property ∷ raises_structure o ∷ prints (codes "pub") p ∷ []) (codes "pub") (codes "1") []
  pub existing_stops : Stops (one_property ∷ does (raises_existence o (codes "p")) ∷ prints (codes "pub") p ∷ []) W12
  pub in_stops : Stops (one_property ∷ raises_structure o ∷ prints (codes "pub") (is_in (text (codes "q")) o) ∷ []) W12

pub record AccessRows : Type 0 where
  -- base, key and value have their labels
  pub base_stops : Stops (one_property ∷ prints (codes "pub") (dot (labels o (codes "A")) (codes "p")) ∷ []) W12
  pub key_stops : Stops (one_property ∷ prints (codes "pub") (at o (labels (text (codes "p")) (codes "A"))) ∷ []) W12
  pub value_stops : Stops (one_property ∷ does (puts p (labels (num 1) (codes "A"))) ∷ prints (codes "pub") p ∷ []) W12
  -- a labelled undefined is the cause of the exception, and a labelled key is none
  pub base_throws : Stops (does (dot (labels (named (codes "undefined")) (codes "A")) (codes "p")) ∷ []) W9
  pub key_throws : Gives (codes "1") (does (at (named (codes "undefined")) (labels (text (codes "p")) (codes "A"))) ∷ []) (record { lines = []; ending = threw (codes "object Error TypeError") })

pub record WalkRows : Type 0 where
  -- the keys raise the loop: for (var k in lbl(o, "A")) ;
  pub loop_stops : Stops (one_property ∷ for_in 0 (target_var (ident (codes "k"))) (labels o (codes "A")) (empty 0) ∷ []) W1
  -- a global name depends on the walk along the global object
  pub name_stops : Stops (var_is (codes "x") (num 1) ∷ does (raises_existence (this 0) (codes "x")) ∷ prints (codes "pub") (named (codes "x")) ∷ []) W12
  pub unbound_stops : Stops (raises_structure (this 0) ∷ does (named (codes "nothing")) ∷ []) W9

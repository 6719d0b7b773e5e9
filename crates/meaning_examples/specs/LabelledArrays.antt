-- Small scripts with arrays and properties of primitive values under the flow rules, worked out by hand.
use Rattle.std.specs.Prelude.{List, [], codes, ◌∷◌}
use Rattle.js_ast.specs.Trees.{item, no_items}
use Rattle.flow_frames.specs.declared.faults.Rule.TheVariants.{W2, W3, W4, W6}
use Rattle.meaning_examples.specs.Building.{at, calls, does, hidden, named, num, o, prints, puts, raises_structure, text, var_is, where_one}
use Rattle.meaning_examples.specs.LabelledRequests.{Prints as PrintsBy, Stops as StopsBy}
use Rattle.meaning_examples.specs.LabelledRuns.{Prints, Stops, origin_a}
use Rattle.meaning_examples.specs.PlainArrays.{fixed, length_of, list_of, three_items}

pub record ArrayRows : Type 0 where
  -- under a test of A: o[5] = 1
  pub element_stops : Stops (three_items ∷ where_one (does (puts (at o (num 5)) (num 1))) ∷ []) W3
  -- and behind upgs(o, "A"): its `length` is next
  pub stretch_stops : Stops (three_items ∷ raises_structure o ∷ where_one (does (puts (at o (num 5)) (num 1))) ∷ []) W2
  -- under a test of A: o.length = 1 deletes, and o.length = 9 doesn't
  pub deletion_stops : Stops (three_items ∷ where_one (does (puts (length_of o) (num 1))) ∷ []) W4
  pub length_stops : Stops (three_items ∷ where_one (does (puts (length_of o) (num 9))) ∷ []) W2
  -- o.length = lbl(1, "A")
  pub labelled_length_stops : Stops (three_items ∷ does (puts (length_of o) (hidden (num 1))) ∷ []) W4
  -- upgs(o, "A"); o.length = 9; o.length has the structure label
  pub length_depends : Prints (codes "1") (three_items ∷ raises_structure o ∷ does (puts (length_of o) (num 9)) ∷ prints (codes "all") (length_of o) ∷ []) (codes "all") (codes "9") origin_a
  -- o = [lbl(1, "A")]; o[0] depends on A, and o.length doesn't
  pub labelled_element : Prints (codes "1") (var_is (codes "o") (list_of (item (hidden (num 1)) no_items)) ∷ prints (codes "all") (at o (num 0)) ∷ []) (codes "all") (codes "1") origin_a
  pub length_of_labelled : Prints (codes "1") (var_is (codes "o") (list_of (item (hidden (num 1)) no_items)) ∷ prints (codes "pub") (length_of o) ∷ []) (codes "pub") (codes "1") []
  -- lbl("abc", "A").length
  pub length_of_text : Prints (codes "1") (prints (codes "all") (length_of (hidden (text (codes "abc")))) ∷ []) (codes "all") (codes "3") origin_a

pub record DefinedArrayRows : Type 0 where
  -- fix(o, "length", lbl(1, "A")): the definition is first
  pub definition_stops : StopsBy (three_items ∷ fixed (codes "length") (hidden (num 1)) ∷ []) W6
  -- upgs(o, "A"); keys(o) depends on A
  pub keys_depend : PrintsBy (codes "1") (three_items ∷ raises_structure o ∷ prints (codes "all") (length_of (calls (named (codes "keys")) (o ∷ []))) ∷ []) (codes "all") (codes "3") origin_a

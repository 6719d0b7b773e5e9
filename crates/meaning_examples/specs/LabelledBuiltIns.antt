-- Small scripts that call the five functions of channels under the flow rules, and what they print or by which rule they are stopped, worked out by hand.
use Rattle.std.specs.Prelude.{[], codes, ◌∷◌}
use Rattle.flow_frames.specs.declared.faults.Rule.TheVariants.{W1, W11, W12, W7, W8, W9}
use Rattle.js_ast.specs.Trees.{conditional, no_properties, paren, this}
use Rattle.es_meaning.specs.Outcomes.{done, halted, out_of_turns}
use Rattle.flow_meaning.specs.Scopes.{as_plain, stopped}
use Rattle.meaning_examples.specs.Building.{calls, constructs, does, dot, f, f_is, has_value, hidden, is_one, labels, literal, named, num, prints, sets, text, var_is, where_one}
use Rattle.meaning_examples.specs.LabelledRuns.{Ends, GivesIn, Leaves, Prints, Stops, Throws, both_origins, labelled_line, origin_a, origin_b, prints_and}
use Rattle.meaning_examples.specs.PlainRuns.{type_error_thrown}

pub record PrintRows : Type 0 where
  -- print(lbl("pub", "A"), 1); a look at a hidden name makes the print hidden
  pub name_stops : Stops (does (calls (named (codes "print")) (hidden (text (codes "pub")) ∷ num 1 ∷ [])) ∷ []) W12
  -- print(lbl("all", "A"), 1);
  pub name_prints : Prints (codes "1") (does (calls (named (codes "print")) (hidden (text (codes "all")) ∷ num 1 ∷ [])) ∷ []) (codes "all") (codes "1") origin_a
  -- print(lbl("all", "A"), 1); print("pub", 1);
  pub behind_print : GivesIn (codes "1") (does (calls (named (codes "print")) (hidden (text (codes "all")) ∷ num 1 ∷ []))
      ∷ prints (codes "pub") (num 1) ∷ []) 200 (prints_and (labelled_line (codes "all") (codes "1") origin_a ∷ labelled_line (codes "pub") (codes "1") [] ∷ []) done)
  -- print("all", lbl(1, "A", "B"));
  pub two_origins : Prints (codes "1") (prints (codes "all") (calls (named (codes "lbl")) (num 1 ∷ text (codes "A") ∷ text (codes "B") ∷ [])) ∷ []) (codes "all") (codes "1") both_origins
  -- print("all", lbl(1, lbl("B", "A"))); and a look at a hidden origin the label
  pub origin_is_hidden : Prints (codes "1") (prints (codes "all") (calls (named (codes "lbl")) (num 1 ∷ hidden (text (codes "B")) ∷ [])) ∷ []) (codes "all") (codes "1") both_origins
  -- var p = print; p("pub", 1);
  pub in_a_variable : Prints (codes "1") (var_is (codes "p") (named (codes "print"))
      ∷ does (calls (named (codes "p")) (text (codes "pub") ∷ num 1 ∷ [])) ∷ []) (codes "pub") (codes "1") []
  -- print("pub", "hi"); five parts, two looks, the print and the end
  pub printed_in_nine : GivesIn (codes "1") (prints (codes "pub") (text (codes "hi")) ∷ []) 9 (prints_and (labelled_line (codes "pub") (codes "hi") [] ∷ []) done)
  pub printed_in_eight : GivesIn (codes "1") (prints (codes "pub") (text (codes "hi")) ∷ []) 8 (prints_and (labelled_line (codes "pub") (codes "hi") [] ∷ []) (halted (as_plain out_of_turns)))

pub record CalleeRows : Type 0 where
  -- lbl(print, "A")("pub", 1);
  pub callee_stops : Stops (does (calls (hidden (named (codes "print"))) (text (codes "pub") ∷ num 1 ∷ [])) ∷ []) W12
  -- upge(this, "print", "A"); print("pub", 1);
  pub found_stops : Stops (does (calls (named (codes "upge")) (this 0 ∷ text (codes "print") ∷ text (codes "A") ∷ [])) ∷ prints (codes "pub") (num 1) ∷ []) W12
  -- upgs(this, "A"); print("pub", 1);
  pub found_first : Prints (codes "1") (does (calls (named (codes "upgs")) (this 0 ∷ text (codes "A") ∷ [])) ∷ prints (codes "pub") (num 1) ∷ []) (codes "pub") (codes "1") []
  -- function f() {} (read("pin") == "1" ? print : f)("pub", 1); a hidden callee may be one of them in one run and a function of the script in another
  pub chosen_stops : Stops (f_is [] [] ∷ does (calls (paren 0 (conditional 0 is_one (named (codes "print")) f)) (text (codes "pub") ∷ num 1 ∷ [])) ∷ []) W12
  pub chosen_ends : GivesIn (codes "2") (f_is [] []
      ∷ does (calls (paren 0 (conditional 0 is_one (named (codes "print")) f)) (text (codes "pub") ∷ num 1 ∷ [])) ∷ []) 200 (prints_and [] done)
  -- new (lbl(print, "A"))("pub", 1);
  pub construction_stops : Stops (does (constructs (paren 0 (hidden (named (codes "print")))) (text (codes "pub") ∷ num 1 ∷ [])) ∷ []) W9
  -- if (read("pin") == "1") print = 1;
  pub replaced_stops : Stops (where_one (does (sets (codes "print") (num 1))) ∷ []) W1
  -- if (read("pin") == "1") print("zzz", 1);
  pub left_inside : Leaves (where_one (prints (codes "zzz") (num 1)) ∷ []) (codes "channel")
  -- function f() {} f.caller;
  pub caller : Leaves (f_is [] [] ∷ does (dot f (codes "caller")) ∷ []) (codes "caller")

pub record LookRows : Type 0 where
  -- print("all", read(lbl("pin", "A")));
  pub read_by_hidden_name : Prints (codes "1") (prints (codes "all") (calls (named (codes "read")) (hidden (text (codes "pin")) ∷ [])) ∷ []) (codes "all") (codes "1") origin_a
  -- read(lbl("pin", "B"));
  pub read_stops : GivesIn (codes "1") (does (calls (named (codes "read")) (labels (text (codes "pin")) (codes "B") ∷ [])) ∷ []) 200 (prints_and [] (halted (stopped W11 origin_b origin_a)))
  -- upgs(lbl(1, "A"), "A");
  pub no_object_stops : Stops (does (calls (named (codes "upgs")) (hidden (num 1) ∷ text (codes "A") ∷ [])) ∷ []) W9
  -- upgs(1, "A");
  pub no_object : Throws (does (calls (named (codes "upgs")) (num 1 ∷ text (codes "A") ∷ [])) ∷ []) type_error_thrown
  -- upgs(lbl({}, "A"), "A");
  pub object_stops : Stops (does (calls (named (codes "upgs")) (hidden (literal no_properties) ∷ text (codes "A") ∷ [])) ∷ []) W7
  -- upgs({}, lbl("A", "A"));
  pub origin_stops : Stops (does (calls (named (codes "upgs")) (literal no_properties ∷ hidden (text (codes "A")) ∷ [])) ∷ []) W7
  -- upge({p: 1}, lbl("p", "A"), "A");
  pub key_stops : Stops (does (calls (named (codes "upge")) (literal (has_value (codes "p") (num 1) no_properties) ∷ hidden (text (codes "p")) ∷ text (codes "A") ∷ [])) ∷ []) W8
  -- upge({}, lbl("p", "A"), "A");
  pub absent_key : Ends (does (calls (named (codes "upge")) (literal no_properties ∷ hidden (text (codes "p")) ∷ text (codes "A") ∷ [])) ∷ [])
  -- lbl(1, "Z");
  pub no_origin : Leaves (does (labels (num 1) (codes "Z")) ∷ []) (codes "origin")

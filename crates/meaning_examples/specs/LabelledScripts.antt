-- Small scripts under the flow rules, and what they print or by which rule they are stopped, worked out by hand.
use Rattle.std.specs.Prelude.{List, [], codes, ◌∷◌, ◌≡◌}
use Rattle.flow_frames.specs.declared.faults.Rule.TheVariants.{W1, W11, W12, W9}
use Rattle.js_ast.specs.Trees.{Statement, conditional, if_then, while}
use Rattle.js_ast.specs.declared.operators.BinaryOperator.TheVariants as binary_operator
use Rattle.es_meaning.specs.Outcomes.{done, halted, left, out_of_turns, threw}
use Rattle.flow_meaning.specs.Scopes.{as_plain, stopped}
use Rattle.flow_meaning.specs.Written.{written}
use Rattle.meaning_examples.specs.Building.{does, is_one, labels, named, num, op, prints, reads, sets, var_is}
use Rattle.meaning_examples.specs.LabelledRuns.{Gives, Prints, Stops, origin_a}
use Rattle.meaning_examples.specs.PlainRuns.{line, tables}

-- print("pub", read("pin"));
abbrev pub told : List Statement
told = prints (codes "pub") (reads (codes "pin")) ∷ []

-- var x = 0; if (read("pin") == "1") x = 1; print("pub", x);
abbrev pub upgrade : List Statement
upgrade = var_is (codes "x") (num 0) ∷ if_then 0 is_one (does (sets (codes "x") (num 1))) ∷ prints (codes "pub") (named (codes "x")) ∷ []

-- var x = lbl(0, "A"); if (read("pin") == "1") x = 1; print("all", x);
abbrev pub prepared : List Statement
prepared = var_is (codes "x") (labels (num 0) (codes "A")) ∷ if_then 0 is_one (does (sets (codes "x") (num 1))) ∷ prints (codes "all") (named (codes "x")) ∷ []

pub record UpgradeRows : Type 0 where
  pub told_stops : Stops told W12
  pub upgrade_stops : Stops upgrade W1
  pub upgrade_prints : Prints (codes "2") upgrade (codes "pub") (codes "0") []
  pub prepared_prints : Prints (codes "1") prepared (codes "all") (codes "1") origin_a
  pub prepared_prints_too : Prints (codes "2") prepared (codes "all") (codes "0") origin_a

pub record ContextRows : Type 0 where
  -- if (read("pin") == "1") read("note"); and the same with print("pub", 1), and with a name that isn't bound
  pub read_stops : Stops (if_then 0 is_one (does (reads (codes "note"))) ∷ []) W11
  pub print_stops : Stops (if_then 0 is_one (prints (codes "pub") (num 1)) ∷ []) W12
  pub throw_stops : Stops (if_then 0 is_one (does (named (codes "nothing"))) ∷ []) W9
  -- print("pub", 1); nothing; in a seen context an error leaves the script
  pub throw_leaves : Gives (codes "1") (prints (codes "pub") (num 1) ∷ does (named (codes "nothing")) ∷ []) (record { lines = record { line = line (codes "pub") (codes "1"); label = [] } ∷ []; ending = threw (codes "object Error ReferenceError") })

pub record BranchRows : Type 0 where
  -- var x = 0; while (read("pin") == "1") x = 1;
  pub loop_stops : Stops (var_is (codes "x") (num 0) ∷ while 0 is_one (does (sets (codes "x") (num 1))) ∷ []) W1
  -- print("pub", read("pin") == "1" ? 1 : 2); and var x = 0; read("pin") == "1" && (x = 1);
  pub conditional_stops : Stops (prints (codes "pub") (conditional 0 is_one (num 1) (num 2)) ∷ []) W12
  pub and_stops : Stops (var_is (codes "x") (num 0) ∷ does (op is_one binary_operator.And (sets (codes "x") (num 1))) ∷ []) W1
  -- if (read("pin") == "1") {}; print("pub", 1); behind a branch its label is gone
  pub behind_branch_prints : Prints (codes "1") (if_then 0 is_one (does (num 1)) ∷ prints (codes "pub") (num 1) ∷ []) (codes "pub") (codes "1") []

pub record WrittenRows : Type 0 where
  -- what a run writes: its lines, and behind them its report
  pub written_done : written tables (record { lines = record { line = line (codes "pub") (codes "hi"); label = [] } ∷ []; ending = done }) ≡ codes "pub hi\n! done\n"
  pub written_stop : written tables (record { lines = []; ending = halted (stopped W12 (0 ∷ 1 ∷ []) []) }) ≡ codes "! stopped W12 need A,B have -\n"
  pub written_throw : written tables (record { lines = []; ending = threw (codes "object Error TypeError") }) ≡ codes "! threw object Error TypeError\n"
  pub written_left : written tables (record { lines = []; ending = halted (as_plain (left (codes "channel"))) }) ≡ codes "! left channel\n"
  pub written_turns : written tables (record { lines = []; ending = halted (as_plain out_of_turns) }) ≡ codes "! out of turns\n"

use Rattle.std.proofs.Common.{sym, ap, ◌∙◌, rules}
use Rattle.js_ast.specs.Functions.{functions_of_statements}
use Rattle.js_ast.specs.Views.{view_stmts}
use Rattle.js_ast.specs.Nodes.{nodes_of}
use Rattle.js_functions.proofs.Numbered.{after_zero}
use Rattle.js_functions.proofs.program.marked_program.Goals as goal

-- src/program.rt:15:1
pub returns-clause-marks : goal.returns-clause-marks
returns-clause-marks c = record {
  strict = search (rules, c.prologue_strict-strict.ensures, c.items.ensures, c.in_ok-function_count.ensures.kept);
  functions = search (rules, c.prologue_strict-strict.ensures, c.items.ensures, c.in_ok-function_count.ensures.kept, c.in_ok-function_count.ensures.marks);
  count = search (rules, after_zero, c.prologue_strict-strict.ensures, c.items.ensures, c.in_ok-function_count.ensures.kept, c.in_ok-function_count.ensures.count);
}

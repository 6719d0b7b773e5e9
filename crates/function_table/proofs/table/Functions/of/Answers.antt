use Rattle.js_ast.specs.Functions.{functions_of}
use Rattle.js_ast.specs.Views.{view_program}
use Rattle.function_table.proofs.TableLaws.{listed}
use Rattle.function_table.proofs.table.Functions.of.Goals as goal

pub returns : goal.returns
returns c = listed (λ f. f.now) c.in_ok-list.list.items (functions_of (view_program c.args.program.now)) c.in_ok-list.ensures

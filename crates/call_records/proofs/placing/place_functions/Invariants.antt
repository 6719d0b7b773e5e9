use Rattle.std.proofs.Common.{drop}
use Rattle.js_ast.specs.Views.{view_stmts}
use Rattle.es_meaning.specs.Declared.{declared_functions}
use Rattle.call_records.specs.Planned.{function_names}
use Rattle.call_records.proofs.NameLaws.{Leads}
use Rattle.call_records.proofs.placing.place_functions.Given as goal

abbrev pub invariant-statements : goal.invariant-statements
invariant-statements l = Leads (function_names (declared_functions (view_stmts (drop l.s-index l.s-items)))) (function_names (declared_functions (view_stmts l.s-items))) l.layout l.initial.layout l.places.items l.initial.places.items

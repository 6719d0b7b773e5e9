use Rattle.std.proofs.Common.{refl, length}
use Rattle.js_ast.specs.Views.{view_stmt}
use Rattle.call_records.specs.Declarations.{declared_by}
use Rattle.function_table.specs.Tables.{table}
use Rattle.function_entry.proofs.DeclaringLaws.{none_makes, none_refers, none_behind}
use Rattle.function_entry.proofs.declaring.make_by_statement.Goals as goal

pub returns-in-None-clause-makes : goal.returns-in-None-clause-makes
returns-in-None-clause-makes g c = none_makes g.L.Labels.made g.L.Labels.meaning (table c.args.functions.now) c.args.labels.now c.args.context c.args.own.0 (declared_by (view_stmt c.args.s.now)) (c.in-None.ensures.none refl) c.args.heap.now

pub returns-in-None-clause-references : goal.returns-in-None-clause-references
returns-in-None-clause-references g c = none_refers c.args.context (length c.args.heap.now) (declared_by (view_stmt c.args.s.now)) (c.in-None.ensures.none refl) c.args.references.now.items

pub returns-in-None-clause-length : goal.returns-in-None-clause-length
returns-in-None-clause-length g c = none_behind (length c.args.heap.now) (declared_by (view_stmt c.args.s.now)) (c.in-None.ensures.none refl)

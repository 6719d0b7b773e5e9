use Rattle.std.proofs.Common.{length}
use Rattle.js_ast.specs.Views.{view_function}
use Rattle.function_table.specs.Tables.{table}
use Rattle.function_entry.proofs.DeclaringLaws.{Makes-same, one_objects, one_reference, one_behind}
use Rattle.function_entry.proofs.declaring.make_one.Goals as goal

pub returns-clause-makes : goal.returns-clause-makes
returns-clause-makes g c =
    Makes-same g.L.Labels.made g.L.Labels.meaning c.make_objects.new.labels c.args.context _ _ c.args.heap.now c.make_objects.new.heap
    (one_objects (table c.args.functions.now) (length c.args.heap.now) c.args.own.0 c.number_of-number.result c.in_ok-count.count (view_function c.args.f.now) c.number_of-number.ensures c.in_ok-count.ensures)
    c.in_ok-o.ensures.makes

pub returns-clause-reference : goal.returns-clause-reference
returns-clause-reference g c = one_reference c.args.context (length c.args.heap.now) c.in_ok-o.o (view_function c.args.f.now) c.in_ok-o.ensures.number

pub returns-clause-length : goal.returns-clause-length
returns-clause-length g c = one_behind (length c.args.heap.now) (length c.make_objects.new.heap) (view_function c.args.f.now) c.in_ok-o.ensures.length

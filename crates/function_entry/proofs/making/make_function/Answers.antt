use Rattle.std.proofs.Common.{ap}
use Rattle.js_ast.specs.declared.trees.Function.{out-Function}
use Rattle.js_ast.specs.Trees.{name_of}
use Rattle.js_ast.specs.Views.{view_function, view_name}
use Rattle.js_ast.proofs.ViewLaws.{parts_function}
use Rattle.function_table.specs.Tables.{table}
use Rattle.function_entry.proofs.FunctionLaws.{both_belong, more_objects_belong, function_made}
use Rattle.function_entry.proofs.making.make_function.Goals as goal

pub returns-in_err-o-clause-belongs : goal.returns-in_err-o-clause-belongs
returns-in_err-o-clause-belongs g c = more_objects_belong g.L.Labels.made g.L.Labels.meaning g.L.Labels.room g.L.Labels.firm c.args.labels.now c.make_objects.new.labels c.make_objects.ensures.kept g.met.L.Labels.rising c.args.world.now c.requires c.make_objects.new.heap c.make_objects.ensures.belongs c.make_objects.ensures.grows

pub returns-in_err-bind_own_name-clause-belongs : goal.returns-in_err-bind_own_name-clause-belongs
returns-in_err-bind_own_name-clause-belongs g c = both_belong g.L.Labels.made g.L.Labels.meaning g.L.Labels.room g.L.Labels.firm c.args.labels.now c.make_objects.new.labels c.make_objects.ensures.kept g.met.L.Labels.rising c.args.world.now c.requires c.make_objects.new.heap c.bind_own_name.new.records c.make_objects.ensures.belongs c.make_objects.ensures.grows c.bind_own_name.ensures.belongs

pub returns-clause-gives : goal.returns-clause-gives
returns-clause-gives g c =
    function_made g.L.Labels.made g.L.Labels.meaning g.L.Labels.room g.L.Labels.firm c.args.labels.now c.make_objects.new.labels c.make_objects.ensures.kept g.met.L.Labels.rising c.args.world.now c.requires
    (table c.args.functions.now) (view_function c.args.f.now) c.args.place c.closes_over-env.result c.number_of-number.result c.in_ok-count.count c.in_ok-o.o c.context-context.result c.context-context.ensures.made c.context-context.ensures.meaning (view_name (out-Function c.args.f.now).name) (ap name_of (parts_function c.args.f.now))
    c.make_objects.new.heap c.bind_own_name.new.records c.number_of-number.ensures c.in_ok-count.ensures (rw c.len-2.ensures at c.closes_over-env.ensures) c.in_ok-o.ensures.number c.in_ok-o.ensures.makes c.in_ok-bind_own_name.ensures.binds

pub returns-clause-belongs : goal.returns-clause-belongs
returns-clause-belongs g c = both_belong g.L.Labels.made g.L.Labels.meaning g.L.Labels.room g.L.Labels.firm c.args.labels.now c.make_objects.new.labels c.make_objects.ensures.kept g.met.L.Labels.rising c.args.world.now c.requires c.make_objects.new.heap c.bind_own_name.new.records c.make_objects.ensures.belongs c.make_objects.ensures.grows c.bind_own_name.ensures.belongs

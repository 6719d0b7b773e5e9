use Rattle.std.proofs.Common.{ap, length, refl}
use Rattle.flow_frames.specs.declared.kind.Kind.TheVariants as kind
use Rattle.js_ast.specs.Views.{view_function}
use Rattle.js_values.proofs.ReadingLaws.{IsReading-earlier}
use Rattle.es_meaning.specs.Functions.{empty_callee, not_callable, of_built_in, of_script}
use Rattle.function_table.specs.Callees.{callee_of}
use Rattle.function_table.specs.Tables.{table}
use Rattle.step_calling.proofs.CallLaws.{built_in_constructor, construction_of, empty_constructor, no_constructor, refused_construction}
use Rattle.step_calling.proofs.constructions.go_in.Goals as goal

pub returns-in-NotCallable-clause-constructs : goal.returns-in-NotCallable-clause-constructs
returns-in-NotCallable-clause-constructs g c tables inputs set ns =
    construction_of g.L.Labels.made g.L.Labels.meaning c.refuse.new.labels tables inputs set (table c.args.functions.now) ns c.args.what not_callable c.args.label c.args.o.0 (length c.args.world.now.heap) c.args.depth c.args.stack.now c.refuse.new.stack c.args.world.now c.refuse.new.world c.refuse.result (ap callee_of c.in-NotCallable.is)
    (refused_construction g.L.Labels.made g.L.Labels.meaning c.refuse.new.labels tables inputs set (table c.args.functions.now) ns c.args.labels.now
    (λ reading read. IsReading-earlier g.L.Labels.made g.L.Labels.meaning g.L.Labels.room g.L.Labels.firm c.args.labels.now c.refuse.new.labels reading c.refuse.ensures.kept read)
    kind.Call refl c.args.stack.now c.args.world.now c.args.count c.args.depth c.args.label c.requires.begun not_callable c.args.o.0 (length c.args.world.now.heap) c.refuse.new.stack c.refuse.new.world c.refuse.result
    (λ l vs s. no_constructor (table c.args.functions.now) l c.args.o.0 vs _ c.args.depth s) (c.refuse.ensures.refuses tables inputs set (table c.args.functions.now) ns))

pub returns-in-Empty-clause-constructs : goal.returns-in-Empty-clause-constructs
returns-in-Empty-clause-constructs g c tables inputs set ns =
    construction_of g.L.Labels.made g.L.Labels.meaning c.refuse-in-Empty.new.labels tables inputs set (table c.args.functions.now) ns c.args.what empty_callee c.args.label c.args.o.0 (length c.args.world.now.heap) c.args.depth c.args.stack.now c.refuse-in-Empty.new.stack c.args.world.now c.refuse-in-Empty.new.world c.refuse-in-Empty.result (ap callee_of c.in-Empty.is)
    (refused_construction g.L.Labels.made g.L.Labels.meaning c.refuse-in-Empty.new.labels tables inputs set (table c.args.functions.now) ns c.args.labels.now
    (λ reading read. IsReading-earlier g.L.Labels.made g.L.Labels.meaning g.L.Labels.room g.L.Labels.firm c.args.labels.now c.refuse-in-Empty.new.labels reading c.refuse-in-Empty.ensures.kept read)
    kind.Call refl c.args.stack.now c.args.world.now c.args.count c.args.depth c.args.label c.requires.begun empty_callee c.args.o.0 (length c.args.world.now.heap) c.refuse-in-Empty.new.stack c.refuse-in-Empty.new.world c.refuse-in-Empty.result
    (λ l vs s. empty_constructor (table c.args.functions.now) l c.args.o.0 vs _ c.args.depth s) (c.refuse-in-Empty.ensures.refuses tables inputs set (table c.args.functions.now) ns))

pub returns-in-Native-clause-constructs : goal.returns-in-Native-clause-constructs
returns-in-Native-clause-constructs g c tables inputs set ns =
    construction_of g.L.Labels.made g.L.Labels.meaning c.refuse-in-Native.new.labels tables inputs set (table c.args.functions.now) ns c.args.what (of_built_in c.in-Native.which) c.args.label c.args.o.0 (length c.args.world.now.heap) c.args.depth c.args.stack.now c.refuse-in-Native.new.stack c.args.world.now c.refuse-in-Native.new.world c.refuse-in-Native.result (ap callee_of c.in-Native.is)
    (refused_construction g.L.Labels.made g.L.Labels.meaning c.refuse-in-Native.new.labels tables inputs set (table c.args.functions.now) ns c.args.labels.now
    (λ reading read. IsReading-earlier g.L.Labels.made g.L.Labels.meaning g.L.Labels.room g.L.Labels.firm c.args.labels.now c.refuse-in-Native.new.labels reading c.refuse-in-Native.ensures.kept read)
    kind.Call refl c.args.stack.now c.args.world.now c.args.count c.args.depth c.args.label c.requires.begun (of_built_in c.in-Native.which) c.args.o.0 (length c.args.world.now.heap) c.refuse-in-Native.new.stack c.refuse-in-Native.new.world c.refuse-in-Native.result
    (λ l vs s. built_in_constructor (table c.args.functions.now) c.in-Native.which l c.args.o.0 vs _ c.args.depth s) (c.refuse-in-Native.ensures.refuses tables inputs set (table c.args.functions.now) ns))

pub returns-in-Script-clause-constructs : goal.returns-in-Script-clause-constructs
returns-in-Script-clause-constructs g c tables inputs set ns =
    construction_of g.L.Labels.made g.L.Labels.meaning c.construct_script.new.labels tables inputs set (table c.args.functions.now) ns c.args.what (of_script c.in-Script.number (view_function c.in-Script.function.now) c.in-Script.place.0) c.args.label c.args.o.0 (length c.args.world.now.heap) c.args.depth c.args.stack.now c.construct_script.new.stack c.args.world.now c.construct_script.new.world c.construct_script.result (ap callee_of c.in-Script.is)
    (c.construct_script.ensures.constructs tables inputs set ns)

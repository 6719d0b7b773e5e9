use Rattle.std.proofs.Common.{ap, refl}
use Rattle.flow_frames.specs.declared.kind.Kind.TheVariants as kind
use Rattle.js_ast.specs.Views.{view_function}
use Rattle.js_values.proofs.ReadingLaws.{IsReading-earlier}
use Rattle.es_meaning.specs.Functions.{empty_callee, not_callable, of_built_in, of_script}
use Rattle.function_table.specs.Callees.{callee_of}
use Rattle.function_table.specs.Tables.{table}
use Rattle.step_calling.proofs.CallLaws.{built_in_refused, call_of, not_callable_refused, refused_call}
use Rattle.step_calling.proofs.calls.go_in.Goals as goal

pub returns-in-NotCallable-clause-calls : goal.returns-in-NotCallable-clause-calls
returns-in-NotCallable-clause-calls g c tables inputs set ns =
    call_of g.L.Labels.made g.L.Labels.meaning c.refuse.new.labels tables inputs set (table c.args.functions.now) ns c.args.what not_callable c.args.label c.args.depth c.args.stack.now c.refuse.new.stack c.args.world.now c.refuse.new.world c.refuse.result (ap callee_of c.in-NotCallable.is)
    (refused_call g.L.Labels.made g.L.Labels.meaning c.refuse.new.labels tables inputs set (table c.args.functions.now) ns c.args.labels.now
    (λ reading read. IsReading-earlier g.L.Labels.made g.L.Labels.meaning g.L.Labels.room g.L.Labels.firm c.args.labels.now c.refuse.new.labels reading c.refuse.ensures.kept read)
    kind.Call refl c.args.stack.now c.args.world.now c.args.count c.args.depth c.args.label c.requires.begun not_callable c.refuse.new.stack c.refuse.new.world c.refuse.result
    (λ l this vs s. not_callable_refused (table c.args.functions.now) l this vs _ c.args.depth s) (c.refuse.ensures.refuses tables inputs set (table c.args.functions.now) ns))

pub returns-in-Empty-clause-calls : goal.returns-in-Empty-clause-calls
returns-in-Empty-clause-calls g c tables inputs set ns =
    call_of g.L.Labels.made g.L.Labels.meaning c.args.labels.now tables inputs set (table c.args.functions.now) ns c.args.what empty_callee c.args.label c.args.depth c.args.stack.now c.give_nothing.new.stack c.args.world.now c.give_nothing.new.world c.give_nothing.result (ap callee_of c.in-Empty.is)
    (c.give_nothing.ensures.gives tables inputs set (table c.args.functions.now) ns)

pub returns-in-Native-clause-calls : goal.returns-in-Native-clause-calls
returns-in-Native-clause-calls g c tables inputs set ns =
    call_of g.L.Labels.made g.L.Labels.meaning c.refuse-in-Native.new.labels tables inputs set (table c.args.functions.now) ns c.args.what (of_built_in c.in-Native.which) c.args.label c.args.depth c.args.stack.now c.refuse-in-Native.new.stack c.args.world.now c.refuse-in-Native.new.world c.refuse-in-Native.result (ap callee_of c.in-Native.is)
    (refused_call g.L.Labels.made g.L.Labels.meaning c.refuse-in-Native.new.labels tables inputs set (table c.args.functions.now) ns c.args.labels.now
    (λ reading read. IsReading-earlier g.L.Labels.made g.L.Labels.meaning g.L.Labels.room g.L.Labels.firm c.args.labels.now c.refuse-in-Native.new.labels reading c.refuse-in-Native.ensures.kept read)
    kind.Call refl c.args.stack.now c.args.world.now c.args.count c.args.depth c.args.label c.requires.begun (of_built_in c.in-Native.which) c.refuse-in-Native.new.stack c.refuse-in-Native.new.world c.refuse-in-Native.result
    (λ l this vs s. built_in_refused (table c.args.functions.now) c.in-Native.which l this vs _ c.args.depth s) (c.refuse-in-Native.ensures.refuses tables inputs set (table c.args.functions.now) ns))

pub returns-in-Script-clause-calls : goal.returns-in-Script-clause-calls
returns-in-Script-clause-calls g c tables inputs set ns =
    call_of g.L.Labels.made g.L.Labels.meaning c.enter_script.new.labels tables inputs set (table c.args.functions.now) ns c.args.what (of_script c.in-Script.number (view_function c.in-Script.function.now) c.in-Script.place.0) c.args.label c.args.depth c.args.stack.now c.enter_script.new.stack c.args.world.now c.enter_script.new.world c.enter_script.result (ap callee_of c.in-Script.is)
    (c.enter_script.ensures.calls tables inputs set ns)

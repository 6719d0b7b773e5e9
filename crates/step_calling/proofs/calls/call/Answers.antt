use Rattle.std.proofs.Common.{arith, drop, refl, sym, ◌∙◌}
use Rattle.es_meaning.specs.BuiltIns.{built_ins_of}
use Rattle.es_meaning.specs.Functions.{not_callable}
use Rattle.flow_meaning.specs.Planned.{call_by}
use Rattle.function_table.specs.Tables.{table}
use Rattle.js_values.specs.Readings.{HasValue}
use Rattle.step_natives.specs.States.{waiting_steps}
use Rattle.continuations.specs.Kept.{kept_operands}
use Rattle.continuations.specs.Settings.{entrance}
use Rattle.continuations.specs.Shapes.{nth}
use Rattle.step_calling.specs.Calling.{lying}
use Rattle.step_calling.proofs.CalleeLaws.{call_begins, refused_begins}
use Rattle.step_calling.proofs.NativeLaws.{quiet_comes}
use Rattle.step_natives.specs.Framed.{steps_behind}
use Rattle.step_natives.proofs.ValueLists.{leading_has}
use Rattle.step_calling.proofs.calls.call.Goals as goal

pub call_function-requires-clause-label : goal.call_function-requires-clause-label
call_function-requires-clause-label g c = leading_has (HasValue (g.L.Labels.made c.args.labels.now)) 1 (kept_operands c.args.stack.now.tasks) c.args.stack.now.loose c.second-called.result.now c.second-called.ensures c.requires.standing.operands

pub call_object-requires-clause-label : goal.call_object-requires-clause-label
call_object-requires-clause-label g c = leading_has (HasValue (g.L.Labels.made c.args.labels.now)) 1 (kept_operands c.args.stack.now.tasks) c.args.stack.now.loose c.second-called.result.now c.second-called.ensures c.requires.standing.operands

pub returns-in-None-clause-begins : goal.returns-in-None-clause-begins
returns-in-None-clause-begins g c tables inputs =
    refused_begins g.L.Labels.made g.L.Labels.meaning c.call_function.new.labels tables inputs (built_ins_of (g.N.Natives.entries c.args.natives.now) (g.N.Natives.begin c.args.natives.now) (g.N.Natives.after c.args.natives.now) (g.N.Natives.asks c.args.natives.now)) (table c.args.functions.now) (waiting_steps (g.N.Natives.after c.args.natives.now) (g.N.Natives.asks c.args.natives.now) c.args.states.now) (steps_behind (g.N.Natives.after c.args.natives.now) (g.N.Natives.asks c.args.natives.now) c.args.states.now c.call_function.result) c.args.stack.now c.call_function.new.stack c.args.world.now c.call_function.new.world c.call_function.result c.args.count
    c.second-called.result.now (omega (arith, c.requires.standing.values)) c.second-called.ensures (sym c.object_in.ensures ∙ c.in-None.is)
    (quiet_comes g.L.Labels.made g.L.Labels.meaning c.call_function.new.labels tables inputs (built_ins_of (g.N.Natives.entries c.args.natives.now) (g.N.Natives.begin c.args.natives.now) (g.N.Natives.after c.args.natives.now) (g.N.Natives.asks c.args.natives.now)) (table c.args.functions.now) (g.N.Natives.after c.args.natives.now) (g.N.Natives.asks c.args.natives.now) c.args.states.now c.args.states.now
    (λ reading s. call_by (table c.args.functions.now) not_callable (reading c.second-called.result.now.label) 0 (nth 0 (lying reading c.args.stack.now)) (drop 2 (lying reading c.args.stack.now)) (entrance tables inputs (built_ins_of (g.N.Natives.entries c.args.natives.now) (g.N.Natives.begin c.args.natives.now) (g.N.Natives.after c.args.natives.now) (g.N.Natives.asks c.args.natives.now)) (table c.args.functions.now)) s)
    c.args.stack.now c.call_function.new.stack c.args.world.now c.call_function.new.world c.call_function.result refl c.call_function.ensures.quiet
    (c.call_function.ensures.calls tables inputs (built_ins_of (g.N.Natives.entries c.args.natives.now) (g.N.Natives.begin c.args.natives.now) (g.N.Natives.after c.args.natives.now) (g.N.Natives.asks c.args.natives.now)) (waiting_steps (g.N.Natives.after c.args.natives.now) (g.N.Natives.asks c.args.natives.now) c.args.states.now)))

pub returns-in-Some-clause-begins : goal.returns-in-Some-clause-begins
returns-in-Some-clause-begins g c tables inputs =
    call_begins g.L.Labels.made g.L.Labels.meaning c.call_object.new.labels tables inputs (built_ins_of (g.N.Natives.entries c.args.natives.now) (g.N.Natives.begin c.args.natives.now) (g.N.Natives.after c.args.natives.now) (g.N.Natives.asks c.args.natives.now)) (table c.args.functions.now) (waiting_steps (g.N.Natives.after c.args.natives.now) (g.N.Natives.asks c.args.natives.now) c.args.states.now) (steps_behind (g.N.Natives.after c.args.natives.now) (g.N.Natives.asks c.args.natives.now) c.call_object.new.states c.call_object.result) c.args.stack.now c.call_object.new.stack c.args.world.now c.call_object.new.world c.call_object.result c.args.count
    c.second-called.result.now c.in-Some.f (omega (arith, c.requires.standing.values)) c.second-called.ensures (sym c.object_in.ensures ∙ c.in-Some.is) (c.call_object.ensures.calls tables inputs)

use Rattle.std.proofs.Common.{drop, refl, subst, sym, ◌∙◌}
use Rattle.es_meaning.specs.BuiltIns.{built_ins_of}
use Rattle.es_meaning.specs.Functions.{Callee}
use Rattle.flow_meaning.specs.Planned.{call_by}
use Rattle.function_table.specs.Callees.{callee_of}
use Rattle.function_table.specs.Tables.{table}
use Rattle.step_natives.specs.States.{waiting_steps}
use Rattle.continuations.specs.Settings.{entrance}
use Rattle.continuations.specs.Shapes.{nth}
use Rattle.step_calling.specs.Calling.{CallsBy, lying}
use Rattle.step_calling.proofs.NativeLaws.{native_so, quiet_comes}
use Rattle.step_natives.specs.Framed.{steps_behind}
use Rattle.step_calling.proofs.calls.call_reached.Goals as goal

pub returns-in-Some-clause-calls : goal.returns-in-Some-clause-calls
returns-in-Some-clause-calls g c tables inputs =
    subst (λ (w : Callee). CallsBy g.L.Labels.made g.L.Labels.meaning c.call_native.new.labels tables inputs (built_ins_of (g.N.Natives.entries c.args.natives.now) (g.N.Natives.begin c.args.natives.now) (g.N.Natives.after c.args.natives.now) (g.N.Natives.asks c.args.natives.now)) (table c.args.functions.now) (waiting_steps (g.N.Natives.after c.args.natives.now) (g.N.Natives.asks c.args.natives.now) c.args.states.now) (steps_behind (g.N.Natives.after c.args.natives.now) (g.N.Natives.asks c.args.natives.now) c.call_native.new.states c.call_native.result) w c.args.label c.args.o.0 c.args.stack.now c.call_native.new.stack c.args.world.now c.call_native.new.world c.call_native.result)
    (sym (native_so (callee_of c.args.what) c.in-Some.which (sym c.native_in.ensures ∙ c.in-Some.is))) (c.call_native.ensures.calls tables inputs (table c.args.functions.now))

pub returns-in-None-clause-calls : goal.returns-in-None-clause-calls
returns-in-None-clause-calls g c tables inputs =
    quiet_comes g.L.Labels.made g.L.Labels.meaning c.call_function.new.labels tables inputs (built_ins_of (g.N.Natives.entries c.args.natives.now) (g.N.Natives.begin c.args.natives.now) (g.N.Natives.after c.args.natives.now) (g.N.Natives.asks c.args.natives.now)) (table c.args.functions.now) (g.N.Natives.after c.args.natives.now) (g.N.Natives.asks c.args.natives.now) c.args.states.now c.args.states.now
    (λ reading s. call_by (table c.args.functions.now) (callee_of c.args.what) (reading c.args.label) c.args.o.0 (nth 0 (lying reading c.args.stack.now)) (drop 2 (lying reading c.args.stack.now)) (entrance tables inputs (built_ins_of (g.N.Natives.entries c.args.natives.now) (g.N.Natives.begin c.args.natives.now) (g.N.Natives.after c.args.natives.now) (g.N.Natives.asks c.args.natives.now)) (table c.args.functions.now)) s)
    c.args.stack.now c.call_function.new.stack c.args.world.now c.call_function.new.world c.call_function.result refl c.call_function.ensures.quiet
    (c.call_function.ensures.calls tables inputs (built_ins_of (g.N.Natives.entries c.args.natives.now) (g.N.Natives.begin c.args.natives.now) (g.N.Natives.after c.args.natives.now) (g.N.Natives.asks c.args.natives.now)) (waiting_steps (g.N.Natives.after c.args.natives.now) (g.N.Natives.asks c.args.natives.now) c.args.states.now))

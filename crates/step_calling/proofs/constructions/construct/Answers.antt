use Rattle.std.proofs.Common.{drop, refl, sym, ◌∙◌}
use Rattle.es_meaning.specs.BuiltIns.{built_ins_of}
use Rattle.es_meaning.specs.Functions.{not_callable}
use Rattle.flow_meaning.specs.Planned.{construct_by}
use Rattle.function_table.specs.Tables.{table}
use Rattle.js_values.specs.Readings.{HasValue}
use Rattle.step_natives.specs.States.{waiting_steps}
use Rattle.continuations.specs.Kept.{kept_operands}
use Rattle.continuations.specs.Settings.{entrance}
use Rattle.step_calling.specs.Calling.{lying}
use Rattle.step_calling.proofs.CalleeLaws.{construction_begins, no_construction_begins}
use Rattle.step_calling.proofs.NativeLaws.{quiet_comes}
use Rattle.step_natives.specs.Framed.{steps_behind}
use Rattle.step_natives.proofs.ValueLists.{leading_has}
use Rattle.step_calling.proofs.constructions.construct.Goals as goal

pub construct_function-requires-clause-label : goal.construct_function-requires-clause-label
construct_function-requires-clause-label g c = leading_has (HasValue (g.L.Labels.made c.args.labels.now)) 0 (kept_operands c.args.stack.now.tasks) c.args.stack.now.loose c.leading-called.result.now c.leading-called.ensures c.requires.standing.operands

pub construct_object-requires-clause-label : goal.construct_object-requires-clause-label
construct_object-requires-clause-label g c = leading_has (HasValue (g.L.Labels.made c.args.labels.now)) 0 (kept_operands c.args.stack.now.tasks) c.args.stack.now.loose c.leading-called.result.now c.leading-called.ensures c.requires.standing.operands

pub returns-in-None-clause-begins : goal.returns-in-None-clause-begins
returns-in-None-clause-begins g c tables inputs =
    no_construction_begins g.L.Labels.made g.L.Labels.meaning c.construct_function.new.labels tables inputs (built_ins_of (g.N.Natives.entries c.args.natives.now) (g.N.Natives.begin c.args.natives.now) (g.N.Natives.after c.args.natives.now) (g.N.Natives.asks c.args.natives.now)) (table c.args.functions.now) (waiting_steps (g.N.Natives.after c.args.natives.now) (g.N.Natives.asks c.args.natives.now) c.args.states.now) (steps_behind (g.N.Natives.after c.args.natives.now) (g.N.Natives.asks c.args.natives.now) c.args.states.now c.construct_function.result) c.args.stack.now c.construct_function.new.stack c.args.world.now c.construct_function.new.world c.construct_function.result c.args.count
    c.leading-called.result.now c.leading-called.ensures (sym c.object_in.ensures ∙ c.in-None.is)
    (quiet_comes g.L.Labels.made g.L.Labels.meaning c.construct_function.new.labels tables inputs (built_ins_of (g.N.Natives.entries c.args.natives.now) (g.N.Natives.begin c.args.natives.now) (g.N.Natives.after c.args.natives.now) (g.N.Natives.asks c.args.natives.now)) (table c.args.functions.now) (g.N.Natives.after c.args.natives.now) (g.N.Natives.asks c.args.natives.now) c.args.states.now c.args.states.now
    (λ reading s. construct_by (built_ins_of (g.N.Natives.entries c.args.natives.now) (g.N.Natives.begin c.args.natives.now) (g.N.Natives.after c.args.natives.now) (g.N.Natives.asks c.args.natives.now)) (table c.args.functions.now) not_callable (reading c.leading-called.result.now.label) 0 (drop 1 (lying reading c.args.stack.now)) (entrance tables inputs (built_ins_of (g.N.Natives.entries c.args.natives.now) (g.N.Natives.begin c.args.natives.now) (g.N.Natives.after c.args.natives.now) (g.N.Natives.asks c.args.natives.now)) (table c.args.functions.now)) s)
    c.args.stack.now c.construct_function.new.stack c.args.world.now c.construct_function.new.world c.construct_function.result refl c.construct_function.ensures.quiet
    (c.construct_function.ensures.constructs tables inputs (built_ins_of (g.N.Natives.entries c.args.natives.now) (g.N.Natives.begin c.args.natives.now) (g.N.Natives.after c.args.natives.now) (g.N.Natives.asks c.args.natives.now)) (waiting_steps (g.N.Natives.after c.args.natives.now) (g.N.Natives.asks c.args.natives.now) c.args.states.now)))

pub returns-in-Some-clause-begins : goal.returns-in-Some-clause-begins
returns-in-Some-clause-begins g c tables inputs =
    construction_begins g.L.Labels.made g.L.Labels.meaning c.construct_object.new.labels tables inputs (built_ins_of (g.N.Natives.entries c.args.natives.now) (g.N.Natives.begin c.args.natives.now) (g.N.Natives.after c.args.natives.now) (g.N.Natives.asks c.args.natives.now)) (table c.args.functions.now) (waiting_steps (g.N.Natives.after c.args.natives.now) (g.N.Natives.asks c.args.natives.now) c.args.states.now) (steps_behind (g.N.Natives.after c.args.natives.now) (g.N.Natives.asks c.args.natives.now) c.construct_object.new.states c.construct_object.result) c.args.stack.now c.construct_object.new.stack c.args.world.now c.construct_object.new.world c.construct_object.result c.args.count
    c.leading-called.result.now c.in-Some.f c.leading-called.ensures (sym c.object_in.ensures ∙ c.in-Some.is) (c.construct_object.ensures.constructs tables inputs)

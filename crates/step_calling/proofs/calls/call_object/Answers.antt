use Rattle.es_meaning.specs.BuiltIns.{built_ins_of}
use Rattle.function_table.specs.Callees.{callee_of}
use Rattle.function_table.specs.Tables.{table}
use Rattle.js_values.proofs.ReadingLaws.{IsReading-earlier}
use Rattle.step_natives.specs.States.{waiting_steps}
use Rattle.run_state.proofs.ActLaws.{Belongs-later}
use Rattle.step_calling.proofs.CalleeLaws.{reached_called}
use Rattle.step_calling.proofs.StandingLaws.{stands_reached}
use Rattle.step_natives.specs.Framed.{steps_behind}
use Rattle.step_calling.proofs.calls.call_object.Goals as goal

pub call_reached-requires-clause-standing : goal.call_reached-requires-clause-standing
call_reached-requires-clause-standing g c =
    stands_reached g.L.Labels.made g.L.Labels.meaning g.L.Labels.room g.L.Labels.firm c.args.labels.now c.reach_call.new.labels c.in_ok-reached.ensures.kept c.args.stack.now c.reach_call.new.stack c.args.world.now c.args.count _ 2 c.in_ok-reached.reached c.requires.standing
    (Belongs-later g.L.Labels.made g.L.Labels.meaning g.L.Labels.room g.L.Labels.firm c.args.labels.now c.reach_call.new.labels c.in_ok-reached.ensures.kept g.met.L.Labels.rising c.args.world.now c.requires.standing.belongs) c.in_ok-reached.ensures.reaches.laid

pub returns-clause-calls : goal.returns-clause-calls
returns-clause-calls g c tables inputs =
    reached_called g.L.Labels.made g.L.Labels.meaning c.call_reached.new.labels tables inputs (built_ins_of (g.N.Natives.entries c.args.natives.now) (g.N.Natives.begin c.args.natives.now) (g.N.Natives.after c.args.natives.now) (g.N.Natives.asks c.args.natives.now)) (table c.args.functions.now) (waiting_steps (g.N.Natives.after c.args.natives.now) (g.N.Natives.asks c.args.natives.now) c.args.states.now) (steps_behind (g.N.Natives.after c.args.natives.now) (g.N.Natives.asks c.args.natives.now) c.call_reached.new.states c.call_reached.result) c.args.stack.now c.call_reached.new.stack c.args.world.now c.call_reached.new.world c.call_reached.result
    c.reach_call.new.labels (λ reading read. IsReading-earlier g.L.Labels.made g.L.Labels.meaning g.L.Labels.room g.L.Labels.firm c.reach_call.new.labels c.call_reached.new.labels reading c.call_reached.ensures.kept read) c.reach_call.new.stack c.args.f c.args.label c.in_ok-reached.reached (callee_of c.callee-what.result) c.callee-what.ensures.is c.in_ok-reached.ensures.reaches (c.call_reached.ensures.calls tables inputs)

use Rattle.es_meaning.specs.BuiltIns.{built_ins_of}
use Rattle.function_table.specs.Tables.{table}
use Rattle.step_core.proofs.StepLaws.{called_steps, calls_still}
use Rattle.step_core.proofs.stepping.begin_call.Goals as goal

pub returns-clause-stepped : goal.returns-clause-stepped
returns-clause-stepped g c tables inputs =
    let N = g.N.Natives in
    let natives = c.args.natives.now in
    called_steps g.L.Labels.made g.L.Labels.meaning c.begin_calling-moved.new.labels tables inputs (built_ins_of (N.entries natives) (N.begin natives) (N.after natives) (N.asks natives)) (table c.args.functions.now) (N.after natives) (N.asks natives) c.args.progress.now c.args.next
    c.begin_calling-moved.new.stack c.begin_calling-moved.new.world c.begin_calling-moved.new.states c.begin_calling-moved.result c.step_of.result c.step_of.ensures (calls_still c.args.next c.requires.calls)
    (c.begin_calling-moved.ensures.begins tables inputs) c.begin_calling-moved.ensures.standing c.begin_calling-moved.ensures.lowers c.begin_calling-moved.ensures.stopped

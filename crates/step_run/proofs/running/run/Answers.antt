use Rattle.std.proofs.Common.{length}
use Rattle.js_ast.specs.Views.{view_program}
use Rattle.es_meaning.specs.BuiltIns.{built_ins_of}
use Rattle.flow_meaning.specs.Tracked.{tracked_run}
use Rattle.step_run.proofs.ToldLaws.{ran_declared, ran_broken, ran_isolated, ran_labelled, ran_viewed}
use Rattle.step_run.proofs.Fronts.{ran_fronts}
use Rattle.step_run.proofs.running.run.Goals as goal

pub returns-clause-isolation : goal.returns-clause-isolation
returns-clause-isolation g c =
    let N = g.N.Natives in
    let set = built_ins_of (N.entries c.args.natives.now) (N.begin c.args.natives.now) (N.after c.args.natives.now) (N.asks c.args.natives.now) in
    ran_isolated set c.args.policy.now c.args.show.now c.args.inputs.now (view_program c.args.program.now) c.args.turns (g.K.Sink.taken c.args.sink.now) (g.K.Sink.taken c.put_run.new.sink) c.two_runs.ensures c.put_run.result c.put_run.ensures.ran

pub returns-clause-own_labels : goal.returns-clause-own_labels
returns-clause-own_labels g c =
    let N = g.N.Natives in
    let set = built_ins_of (N.entries c.args.natives.now) (N.begin c.args.natives.now) (N.after c.args.natives.now) (N.asks c.args.natives.now) in
    ran_labelled set c.args.policy.now c.args.show.now c.args.inputs.now (view_program c.args.program.now) c.args.turns (g.K.Sink.taken c.args.sink.now) (g.K.Sink.taken c.put_run.new.sink) c.two_runs.ensures c.put_run.result c.put_run.ensures.ran

pub returns-clause-view : goal.returns-clause-view
returns-clause-view g c =
    let N = g.N.Natives in
    let set = built_ins_of (N.entries c.args.natives.now) (N.begin c.args.natives.now) (N.after c.args.natives.now) (N.asks c.args.natives.now) in
    let old = g.K.Sink.taken c.args.sink.now in
    let new = g.K.Sink.taken c.put_run.new.sink in
    let program = view_program c.args.program.now in
    let isolates = ran_isolated set c.args.policy.now c.args.show.now c.args.inputs.now program c.args.turns old new c.two_runs.ensures c.put_run.result c.put_run.ensures.ran in
    ran_viewed set c.args.policy.now c.origins-formed.ensures.formed c.args.show.now c.args.inputs.now program c.args.turns old new c.put_run.result c.put_run.ensures.ran isolates

pub returns-clause-fronts : goal.returns-clause-fronts
returns-clause-fronts g c =
    let N = g.N.Natives in
    let set = built_ins_of (N.entries c.args.natives.now) (N.begin c.args.natives.now) (N.after c.args.natives.now) (N.asks c.args.natives.now) in
    ran_fronts set c.args.policy.now c.origins-formed.ensures.formed c.args.show.now c.args.inputs.now (view_program c.args.program.now) c.args.turns (g.K.Sink.taken c.args.sink.now) (g.K.Sink.taken c.put_run.new.sink) c.put_run.result c.two_runs.ensures c.put_run.ensures.ran

pub returns-clause-declared : goal.returns-clause-declared
returns-clause-declared g c =
    let N = g.N.Natives in
    let set = built_ins_of (N.entries c.args.natives.now) (N.begin c.args.natives.now) (N.after c.args.natives.now) (N.asks c.args.natives.now) in
    let run = tracked_run set c.args.policy.now c.args.inputs.now (view_program c.args.program.now) c.args.turns in
    ran_declared c.args.policy.now c.args.show.now run (g.K.Sink.taken c.args.sink.now) (g.K.Sink.taken c.put_run.new.sink) (length c.args.policy.now.origins) c.put_run.result c.put_run.ensures.ran
    (c.declared.ensures set c.args.policy.now c.args.inputs.now (view_program c.args.program.now) c.args.turns c.origins-formed.ensures.formed).ending

pub returns-clause-broken : goal.returns-clause-broken
returns-clause-broken g c =
    let N = g.N.Natives in
    let set = built_ins_of (N.entries c.args.natives.now) (N.begin c.args.natives.now) (N.after c.args.natives.now) (N.asks c.args.natives.now) in
    ran_broken set c.args.policy.now c.args.show.now c.args.inputs.now (view_program c.args.program.now) c.args.turns (g.K.Sink.taken c.args.sink.now) (g.K.Sink.taken c.put_run.new.sink) c.erasure.ensures c.put_run.result c.put_run.ensures.ran

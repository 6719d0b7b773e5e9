use Rattle.std.proofs.Common.{Ok, Err, refl, sym, ap, subst, ◌∙◌, length}
use Rattle.std.proofs.lemmas.Bool.{false≢true}
use Rattle.js_ast.specs.Views.{view_program}
use Rattle.es_meaning.specs.BuiltIns.{built_ins_of}
use Rattle.js_values.proofs.ReadingLaws.{IsReading-earlier}
use Rattle.flow_meaning.specs.Tracked.{Run, tracked_run}
use Rattle.low_equal.specs.Declared.{EndsDeclared}
use Rattle.step_core.specs.Machines.{ending_of}
use Rattle.step_run.specs.declared.putting.Cut.TheVariants as cut
use Rattle.step_run.specs.Puts.{PutsRun}
use Rattle.step_run.specs.Ran.{is_write_fault}
use Rattle.step_run.proofs.ToldLaws.{ran_ended, stop_declared, tells_no_fault}
use Rattle.step_run.proofs.running.put_run.Goals as goal

pub told-requires-clause-declared : goal.told-requires-clause-declared
told-requires-clause-declared g c =
    let L = g.L.Labels in
    let N = g.N.Natives in
    let set = built_ins_of (N.entries c.args.natives.now) (N.begin c.args.natives.now) (N.after c.args.natives.now) (N.asks c.args.natives.now) in
    let tells = N.after c.args.natives.now in
    let asks = N.asks c.args.natives.now in
    let reading = L.meaning c.put_lines.new.labels in
    let starts = c.in-Ok.ensures.starts reading (IsReading-earlier L.made L.meaning L.room L.firm c.new.new.labels c.put_lines.new.labels reading c.put_lines.ensures.kept (record { agrees = λ label m. refl })) in
    let puts = c.in-Ok-put_lines.ensures.puts reading (record { agrees = λ label m. refl }) in
    let run = c.declared.ensures set c.args.policy.now c.args.inputs.now (view_program c.args.program.now) c.args.turns c.origins-formed.ensures.formed in
    stop_declared set tells asks (length c.args.policy.now.origins) reading c.put_lines.new.machine c.in-Ok-put_lines.ending
    (subst (EndsDeclared (length c.args.policy.now.origins)) (ap (λ (r : Run). r.ending) (sym starts) ∙ puts.0) run.ending)

pub returns-in-Ok-put_lines-clause-ran : goal.returns-in-Ok-put_lines-clause-ran
returns-in-Ok-put_lines-clause-ran g c =
    let L = g.L.Labels in
    let N = g.N.Natives in
    let set = built_ins_of (N.entries c.args.natives.now) (N.begin c.args.natives.now) (N.after c.args.natives.now) (N.asks c.args.natives.now) in
    let tells = N.after c.args.natives.now in
    let asks = N.asks c.args.natives.now in
    let reading = L.meaning c.put_lines.new.labels in
    let starts = c.in-Ok.ensures.starts reading (IsReading-earlier L.made L.meaning L.room L.firm c.new.new.labels c.put_lines.new.labels reading c.put_lines.ensures.kept (record { agrees = λ label m. refl })) in
    let ends = ending_of set tells asks reading c.put_lines.new.machine in
    let old = g.K.Sink.taken c.args.sink.now in
    let new = g.K.Sink.taken c.put_lines.new.sink in
    let puts = subst (λ (r : Run). PutsRun c.args.show.now c.args.policy.now r ends old new (Ok c.in-Ok-put_lines.ending)) starts (c.in-Ok-put_lines.ensures.puts reading (record { agrees = λ label m. refl })) in
    ran_ended c.args.policy.now c.args.show.now (tracked_run set c.args.policy.now c.args.inputs.now (view_program c.args.program.now) c.args.turns) old new ends c.in-Ok-put_lines.ending c.told.result puts (c.told.ensures set tells asks)

pub returns-in-Ok-put_lines-clause-shut : goal.returns-in-Ok-put_lines-clause-shut
returns-in-Ok-put_lines-clause-shut g c =
    let N = g.N.Natives in
    let set = built_ins_of (N.entries c.args.natives.now) (N.begin c.args.natives.now) (N.after c.args.natives.now) (N.asks c.args.natives.now) in
    let told = c.told.ensures set (N.after c.args.natives.now) (N.asks c.args.natives.now) in
    c.in-Ok-put_lines.ensures.shut ∙ sym (tells_no_fault _ c.told.result told)

pub returns-in-Ok-put_lines-clause-failed : goal.returns-in-Ok-put_lines-clause-failed
returns-in-Ok-put_lines-clause-failed g c =
    let N = g.N.Natives in
    let set = built_ins_of (N.entries c.args.natives.now) (N.begin c.args.natives.now) (N.after c.args.natives.now) (N.asks c.args.natives.now) in
    let told = c.told.ensures set (N.after c.args.natives.now) (N.asks c.args.natives.now) in
    λ is. absurd (false≢true (sym (tells_no_fault _ c.told.result told) ∙ ap is_write_fault is))

pub returns-in-Err-WriteFault-clause-ran : goal.returns-in-Err-WriteFault-clause-ran
returns-in-Err-WriteFault-clause-ran g c =
    let L = g.L.Labels in
    let N = g.N.Natives in
    let set = built_ins_of (N.entries c.args.natives.now) (N.begin c.args.natives.now) (N.after c.args.natives.now) (N.asks c.args.natives.now) in
    let tells = N.after c.args.natives.now in
    let asks = N.asks c.args.natives.now in
    let reading = L.meaning c.put_lines.new.labels in
    let starts = c.in-Ok.ensures.starts reading (IsReading-earlier L.made L.meaning L.room L.firm c.new.new.labels c.put_lines.new.labels reading c.put_lines.ensures.kept (record { agrees = λ label m. refl })) in
    let ends = ending_of set tells asks reading c.put_lines.new.machine in
    subst (λ (r : Run). PutsRun c.args.show.now c.args.policy.now r ends (g.K.Sink.taken c.args.sink.now) (g.K.Sink.taken c.put_lines.new.sink) (Err cut.WriteFault)) starts (c.in-Err-WriteFault.ensures.puts reading (record { agrees = λ label m. refl }))

pub returns-in-Err-WriteFault-clause-failed : goal.returns-in-Err-WriteFault-clause-failed
returns-in-Err-WriteFault-clause-failed g c = λ is. c.put_lines.ensures.failed (rw c.in-Err-WriteFault.field-0-is at c.in-Err-WriteFault.is)

pub returns-clause-ran : goal.returns-clause-ran
returns-clause-ran g c =
    let L = g.L.Labels in
    let N = g.N.Natives in
    let set = built_ins_of (N.entries c.args.natives.now) (N.begin c.args.natives.now) (N.after c.args.natives.now) (N.asks c.args.natives.now) in
    let tells = N.after c.args.natives.now in
    let asks = N.asks c.args.natives.now in
    let reading = L.meaning c.put_lines.new.labels in
    let starts = c.in-Ok.ensures.starts reading (IsReading-earlier L.made L.meaning L.room L.firm c.new.new.labels c.put_lines.new.labels reading c.put_lines.ensures.kept (record { agrees = λ label m. refl })) in
    let ends = ending_of set tells asks reading c.put_lines.new.machine in
    subst (λ (r : Run). PutsRun c.args.show.now c.args.policy.now r ends (g.K.Sink.taken c.args.sink.now) (g.K.Sink.taken c.put_lines.new.sink) (Err cut.OutOfMemory)) starts (c.in-Err-OutOfMemory.ensures.puts reading (record { agrees = λ label m. refl }))

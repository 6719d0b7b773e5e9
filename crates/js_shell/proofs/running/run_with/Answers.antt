use Rattle.std.proofs.Common.{sym, subst, ◌∙◌}
use Rattle.flow_meaning.specs.Tracked.{Run}
use Rattle.run_files.specs.Seen.{seen_task}
use Rattle.step_run.specs.declared.ending.Show.{Show}
use Rattle.step_run.specs.Ran as step
use Rattle.step_run.proofs.Kept.{named}
use Rattle.js_shell.specs.Replies.{built_ins, tracked_run, run_reply}
use Rattle.js_shell.proofs.PutLaws.{puts_nothing}
use Rattle.js_shell.proofs.Reported.{over_open, ended_shut, ended_failed, report_over, ran_with, unreported_puts, reported_puts}
use Rattle.js_shell.proofs.running.run_with.Goals as goal

pub returns-in_default-clause-puts : goal.returns-in_default-clause-puts
returns-in_default-clause-puts g c = puts_nothing (run_reply c.args.turns (seen_task c.args.task.now)) (g.K.Sink.taken c.args.sink.now)

pub returns-in_default-shown_lines-clause-puts : goal.returns-in_default-shown_lines-clause-puts
returns-in_default-shown_lines-clause-puts g c = puts_nothing (run_reply c.args.turns (seen_task c.args.task.now)) (g.K.Sink.taken c.args.sink.now)

pub returns-then-not-has_report-clause-puts : goal.returns-then-not-has_report-clause-puts
returns-then-not-has_report-clause-puts g c =
    let task = seen_task c.args.task.now in
    let run : Run = tracked_run c.args.turns task in
    let ran = ran_with c.in-Ok-shown_lines.show task.tables task.given task.program c.args.turns (g.K.Sink.taken c.args.sink.now) (g.K.Sink.taken c.run-ending.new.sink) c.run-ending.result _ c.in-Ok.ensures c.run-ending.ensures.ran in
    let put = subst (λ (s : Show). step.Ran task.tables s run (g.K.Sink.taken c.args.sink.now) (g.K.Sink.taken c.run-ending.new.sink) c.run-ending.result) c.in-Ok-shown_lines.ensures ran in
    rw c.status_of.ensures
    (unreported_puts task.tables run (g.K.Sink.taken c.args.sink.now) (g.K.Sink.taken c.run-ending.new.sink) c.origins-formed.ensures.formed (named (built_ins task.tables) task.tables task.given task.program c.args.turns)
    task.observer c.run-ending.result (sym c.if-not-has_report.ensures) put)

pub returns-then-not-has_report-clause-shut : goal.returns-then-not-has_report-clause-shut
returns-then-not-has_report-clause-shut g c = rw c.status_of.ensures (c.run-ending.ensures.shut ∙ sym (ended_shut c.run-ending.result))

pub returns-then-not-has_report-clause-failed : goal.returns-then-not-has_report-clause-failed
returns-then-not-has_report-clause-failed g c = λ e. c.run-ending.ensures.failed (ended_failed c.run-ending.result (sym c.status_of.ensures ∙ e))

pub put_report-requires-clause-over : goal.put_report-requires-clause-over
put_report-requires-clause-over g c = report_over c.args.task.now.observer c.run-ending.result (sym c.if-not-has_report.ensures)

pub put_report-requires-clause-open : goal.put_report-requires-clause-open
put_report-requires-clause-open g c = c.run-ending.ensures.shut ∙ over_open c.run-ending.result (report_over c.args.task.now.observer c.run-ending.result (sym c.if-not-has_report.ensures))

pub returns-clause-puts : goal.returns-clause-puts
returns-clause-puts g c =
    let task = seen_task c.args.task.now in
    let run : Run = tracked_run c.args.turns task in
    let ran = ran_with c.in-Ok-shown_lines.show task.tables task.given task.program c.args.turns (g.K.Sink.taken c.args.sink.now) (g.K.Sink.taken c.run-ending.new.sink) c.run-ending.result _ c.in-Ok.ensures c.run-ending.ensures.ran in
    let put = subst (λ (s : Show). step.Ran task.tables s run (g.K.Sink.taken c.args.sink.now) (g.K.Sink.taken c.run-ending.new.sink) c.run-ending.result) c.in-Ok-shown_lines.ensures ran in
    reported_puts task.tables run (g.K.Sink.taken c.args.sink.now) (g.K.Sink.taken c.run-ending.new.sink) task.observer c.run-ending.result c.put_report.result (g.K.Sink.taken c.put_report.new.sink) (sym c.if-not-has_report.ensures) put c.put_report.ensures.puts

use Rattle.std.proofs.Common.{◌≡◌, ℕ, List, [], Option, Some, refl, sym, subst}
use Rattle.flow_meaning.specs.Tracked.{Run}
use Rattle.run_files.specs.Seen.{seen_task}
use Rattle.command_line.specs.Commands.{default_turns}
use Rattle.step_run.specs.declared.ending.Show.TheVariants as show
use Rattle.step_run.specs.Ran as step
use Rattle.step_run.proofs.Kept.{named}
use Rattle.js_shell.specs.Replies.{built_ins, tracked_run, trial_of}
use Rattle.js_shell.proofs.PutLaws.{puts_nothing}
use Rattle.js_shell.proofs.Reported.{ran_with}
use Rattle.js_shell.proofs.Tried.{tried_puts}
use Rattle.js_shell.proofs.trying.try_with.Goals as goal

pub returns-in_default-clause-puts : goal.returns-in_default-clause-puts
returns-in_default-clause-puts g c = puts_nothing (trial_of c.args.made default_turns (seen_task c.args.task.now)) (g.K.Sink.taken c.args.sink.now)

pub returns-then-not-is_over-clause-puts : goal.returns-then-not-is_over-clause-puts
returns-then-not-is_over-clause-puts g c = puts_nothing (trial_of c.args.made default_turns (seen_task c.args.task.now)) (g.K.Sink.taken c.args.sink.now)

pub returns-clause-puts : goal.returns-clause-puts
returns-clause-puts g c = puts_nothing (trial_of c.args.made default_turns (seen_task c.args.task.now)) (g.K.Sink.taken c.args.sink.now)

pub returns-in-Ok-summary-clause-puts : goal.returns-in-Ok-summary-clause-puts
returns-in-Ok-summary-clause-puts g c =
    let task = seen_task c.args.task.now in
    let run : Run = tracked_run default_turns task in
    let empty : ◌≡◌ {A = Option (List ℕ)} (Some c.new-written.result.taken) (Some []) = rw c.new-written.ensures refl in
    let put = ran_with show.All task.tables task.given task.program default_turns (Some c.new-written.result.taken) (Some c.run-ending.new.sink.taken) c.run-ending.result _ c.in-Ok.ensures c.run-ending.ensures.ran in
    let ran = subst (λ (o : Option (List ℕ)). step.Ran task.tables show.All run o (Some c.run-ending.new.sink.taken) c.run-ending.result) empty put in
    let told = rw c.taken.ensures at (rw c.line_count-lines.ensures at c.in-Ok-summary.ensures) in
    tried_puts task.tables c.origins-formed.ensures.formed run (named (built_ins task.tables) task.tables task.given task.program default_turns) c.args.made c.run-ending.new.sink.taken c.in-Ok-summary.report.items c.run-ending.result
    (sym c.if-not-is_over.ensures) ran told c.put_reply.result (g.K.Sink.taken c.args.sink.now) (g.K.Sink.taken c.put_reply.new.sink)
    (rw c.status_of.ensures at (rw c.deref.ensures.value at c.put_reply.ensures.puts))

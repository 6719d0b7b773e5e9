use Rattle.std.proofs.Common.{ℕ, List, length, Some, Err, ap, refl, subst, ◌∙◌}
use Rattle.run_files.specs.Seen.{seen_task}
use Rattle.command_line.specs.Commands.{default_turns}
use Rattle.js_shell.specs.declared.status.Status.TheVariants as status
use Rattle.js_shell.specs.Answering.{Puts, no_memory}
use Rattle.js_shell.specs.Replies.{trial_of, trial_files_of, tracked_run}
use Rattle.js_shell.proofs.Answering.{trial_done, trial_refused, trial_asked, refusal_unused, ending_used}
use Rattle.js_shell.proofs.PutLaws.{puts_isnt}
use Rattle.js_shell.proofs.commands.try_script.Goals as goal

pub accept_task-requires : goal.accept_task-requires
accept_task-requires g c = record { asked = λ path h. trial_asked c.args.number c.in-Ok-trial_store.store.files (c.in-Ok-trial_store.ensures ∙ ap trial_files_of c.in-Ok.ensures.bytes) (Some c.in-Ok-trial_store.store.files) path h }

pub returns-in_default-clause-answers : goal.returns-in_default-clause-answers
returns-in_default-clause-answers g c = no_memory refl refl

pub returns-in_default-trial_store-clause-answers : goal.returns-in_default-trial_store-clause-answers
returns-in_default-trial_store-clause-answers g c = no_memory refl refl

pub returns-in-Ok-accept_task-clause-used : goal.returns-in-Ok-accept_task-clause-used
returns-in-Ok-accept_task-clause-used g c = puts_isnt (trial_of c.len-made.result default_turns (seen_task c.in-Ok-accept_task.task)) c.try_task.result status.Usage (g.K.Sink.taken c.args.sink.now) (g.K.Sink.taken c.try_task.new.sink) c.try_task.ensures.puts (ending_used (tracked_run default_turns (seen_task c.in-Ok-accept_task.task)).ending) refl

pub returns-in-Ok-accept_task-clause-answers : goal.returns-in-Ok-accept_task-clause-answers
returns-in-Ok-accept_task-clause-answers g c =
    trial_done c.args.number c.in-Ok-trial_store.store.files (c.in-Ok-trial_store.ensures ∙ ap trial_files_of c.in-Ok.ensures.bytes) (g.K.Sink.taken c.args.sink.now) (g.K.Sink.taken c.try_task.new.sink) c.try_task.result
    (seen_task c.in-Ok-accept_task.task) c.in-Ok-accept_task.ensures.accepts
    (subst (λ (n : ℕ). Puts (trial_of n default_turns (seen_task c.in-Ok-accept_task.task)) c.try_task.result (g.K.Sink.taken c.args.sink.now) (g.K.Sink.taken c.try_task.new.sink)) (c.len-made.ensures ∙ c.in-Ok.script.ok.0 ∙ ap (λ (b : List ℕ). length b) c.in-Ok.ensures.bytes) c.try_task.ensures.puts)

pub returns-clause-answers : goal.returns-clause-answers
returns-clause-answers g c =
    trial_refused c.args.number c.in-Ok-trial_store.store.files (c.in-Ok-trial_store.ensures ∙ ap trial_files_of c.in-Ok.ensures.bytes) (g.K.Sink.taken c.args.sink.now) (g.K.Sink.taken c.refuse.new.sink) c.refuse.result
    c.in-Err.refusal c.in-Err.ensures.accepts (λ e. c.in-Err.ensures.read_fault (ap Err e)) c.refuse.ensures.refuses

pub returns-clause-used : goal.returns-clause-used
returns-clause-used g c = refusal_unused c.refuse.result (g.K.Sink.taken c.args.sink.now) (g.K.Sink.taken c.refuse.new.sink) c.in-Err.refusal c.refuse.ensures.refuses

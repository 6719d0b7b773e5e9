use Rattle.std.proofs.Common.{◌≡◌, Err, ap, refl}
use Rattle.flow_io.specs.Files.{Rose}
use Rattle.command_line.specs.Reading.{pair_seen}
use Rattle.run_files.specs.Seen.{seen_task}
use Rattle.js_shell.specs.Replies.{pairs, pair_plan}
use Rattle.js_shell.proofs.Answering.{plan_done, plan_refused, work_unused, refusal_unused, refused_unless_early}
use Rattle.js_shell.proofs.StatusLaws.{unless_early}
use Rattle.js_shell.proofs.commands.run_two.Goals as goal

pub returns-in-Ok-clause-answers : goal.returns-in-Ok-clause-answers
returns-in-Ok-clause-answers g c =
    plan_done (g.F.Store.contents c.args.store.now) (Rose (g.F.Store.faults c.args.store.now) (g.F.Store.faults c.accept_task.new.store)) (g.K.Sink.taken c.args.sink.now) (g.K.Sink.taken c.compare.new.sink)
    c.compare.result (pair_plan (pair_seen c.args.words.now)) (λ files. refl) (seen_task c.in-Ok.task) c.in-Ok.ensures.accepts c.compare.ensures.puts

pub returns-in-Err-clause-answers : goal.returns-in-Err-clause-answers
returns-in-Err-clause-answers g c =
    plan_refused (g.F.Store.contents c.args.store.now) (Rose (g.F.Store.faults c.args.store.now) (g.F.Store.faults c.accept_task.new.store)) (g.K.Sink.taken c.args.sink.now) (g.K.Sink.taken c.refuse.new.sink)
    c.refuse.result (pair_plan (pair_seen c.args.words.now)) (λ files. refl) c.in-Err.refusal c.in-Err.ensures.accepts (λ e. c.in-Err.ensures.read_fault (ap Err e)) c.refuse.ensures.refuses

pub returns-in-Ok-clause-no_read_fault : goal.returns-in-Ok-clause-no_read_fault
returns-in-Ok-clause-no_read_fault g c = unless_early c.compare.result (g.F.Store.faults c.accept_task.new.store ≡ g.F.Store.faults c.args.store.now) (c.in-Ok.ensures.no_fault (λ e. cc))

pub returns-in-Err-clause-no_read_fault : goal.returns-in-Err-clause-no_read_fault
returns-in-Err-clause-no_read_fault g c =
    refused_unless_early c.refuse.result (g.K.Sink.taken c.args.sink.now) (g.K.Sink.taken c.refuse.new.sink) (g.F.Store.faults c.accept_task.new.store ≡ g.F.Store.faults c.args.store.now)
    c.in-Err.refusal c.in-Err.ensures.no_fault c.refuse.ensures.refuses

pub returns-in-Ok-clause-used : goal.returns-in-Ok-clause-used
returns-in-Ok-clause-used g c = work_unused c.compare.result (g.K.Sink.taken c.args.sink.now) (g.K.Sink.taken c.compare.new.sink) pairs c.args.words.now.turns (seen_task c.in-Ok.task) c.compare.ensures.puts

pub returns-in-Err-clause-used : goal.returns-in-Err-clause-used
returns-in-Err-clause-used g c = refusal_unused c.refuse.result (g.K.Sink.taken c.args.sink.now) (g.K.Sink.taken c.refuse.new.sink) c.in-Err.refusal c.refuse.ensures.refuses

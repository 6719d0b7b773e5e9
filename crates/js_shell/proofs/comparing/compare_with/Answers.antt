use Rattle.std.proofs.Common.{Some, inl, inr}
use Rattle.run_files.specs.Seen.{seen_task}
use Rattle.js_shell.specs.Replies.{tracked_run, tracked_with, pair_reply}
use Rattle.js_shell.proofs.Compared.{end_channel, paired_with, paired_puts}
use Rattle.js_shell.proofs.PutLaws.{puts_nothing, rose_then}
use Rattle.js_shell.proofs.comparing.compare_with.Goals as goal

pub returns-in_default-clause-puts : goal.returns-in_default-clause-puts
returns-in_default-clause-puts g c = puts_nothing (pair_reply c.args.turns (seen_task c.args.task.now) (Some c.args.observer) (Some c.args.second.now)) (g.K.Sink.taken c.args.sink.now)

pub put_end-requires-clause-channel : goal.put_end-requires-clause-channel
put_end-requires-clause-channel g c =
    let task = seen_task c.args.task.now in
    end_channel task.tables c.args.observer task.given c.args.second.now (tracked_run c.args.turns task) (tracked_with c.args.turns task c.args.second.now) (g.K.Sink.taken c.args.sink.now) (g.K.Sink.taken c.pair-end.new.sink) c.pair-end.result
    (paired_with c.args.observer task.tables task.given c.args.second.now task.program c.args.turns (g.K.Sink.taken c.args.sink.now) (g.K.Sink.taken c.pair-end.new.sink) c.pair-end.result _ c.in-Ok.ensures c.pair-end.ensures.paired)

pub returns-clause-puts : goal.returns-clause-puts
returns-clause-puts g c =
    let task = seen_task c.args.task.now in
    paired_puts c.args.turns task c.args.observer c.args.second.now c.origins-formed.ensures.formed c.put_end.result (g.K.Sink.taken c.args.sink.now) (g.K.Sink.taken c.pair-end.new.sink) (g.K.Sink.taken c.put_end.new.sink) c.pair-end.result
    (paired_with c.args.observer task.tables task.given c.args.second.now task.program c.args.turns (g.K.Sink.taken c.args.sink.now) (g.K.Sink.taken c.pair-end.new.sink) c.pair-end.result _ c.in-Ok.ensures c.pair-end.ensures.paired)
    c.put_end.ensures.puts

pub returns-clause-failed : goal.returns-clause-failed
returns-clause-failed g c = λ e.
    rose_then (g.K.Sink.faults c.args.sink.now) (g.K.Sink.faults c.pair-end.new.sink) (g.K.Sink.faults c.put_end.new.sink) c.pair-end.ensures.faults_stay c.put_end.ensures.faults_stay
    (elim (c.put_end.ensures.failed e) [
      | inl cut ↦ inl (c.pair-end.ensures.failed cut)
      | inr rose ↦ inr rose
    ])

use Rattle.std.proofs.Common.{◌≡◌, Err, ap, refl}
use Rattle.flow_io.specs.Files.{Rose}
use Rattle.js_shell.specs.declared.status.Status.TheVariants as status
use Rattle.js_shell.specs.Replies.{accepted_reply}
use Rattle.js_shell.proofs.Answering.{check_accepted, check_refused, refusal_unused, refused_unless_early}
use Rattle.js_shell.proofs.PutLaws.{puts_isnt}
use Rattle.js_shell.proofs.StatusLaws.{unless_early}
use Rattle.js_shell.proofs.commands.check.Goals as goal

pub returns-in-Ok-clause-answers : goal.returns-in-Ok-clause-answers
returns-in-Ok-clause-answers g c =
    check_accepted (g.F.Store.contents c.args.store.now) (Rose (g.F.Store.faults c.args.store.now) (g.F.Store.faults c.accept_program.new.store)) (g.K.Sink.taken c.args.sink.now) (g.K.Sink.taken c.put_reply.new.sink)
    c.put_reply.result c.args.script.now _ c.in-Ok.ensures.accepts c.put_reply.ensures.puts

pub returns-in-Err-clause-answers : goal.returns-in-Err-clause-answers
returns-in-Err-clause-answers g c =
    check_refused (g.F.Store.contents c.args.store.now) (Rose (g.F.Store.faults c.args.store.now) (g.F.Store.faults c.accept_program.new.store)) (g.K.Sink.taken c.args.sink.now) (g.K.Sink.taken c.refuse.new.sink)
    c.refuse.result c.args.script.now c.in-Err.refusal c.in-Err.ensures.accepts (λ e. c.in-Err.ensures.read_fault (ap Err e)) c.refuse.ensures.refuses

pub returns-in-Ok-clause-no_read_fault : goal.returns-in-Ok-clause-no_read_fault
returns-in-Ok-clause-no_read_fault g c = unless_early c.put_reply.result (g.F.Store.faults c.accept_program.new.store ≡ g.F.Store.faults c.args.store.now) (c.in-Ok.ensures.no_fault (λ e. cc))

pub returns-in-Err-clause-no_read_fault : goal.returns-in-Err-clause-no_read_fault
returns-in-Err-clause-no_read_fault g c =
    refused_unless_early c.refuse.result (g.K.Sink.taken c.args.sink.now) (g.K.Sink.taken c.refuse.new.sink) (g.F.Store.faults c.accept_program.new.store ≡ g.F.Store.faults c.args.store.now)
    c.in-Err.refusal c.in-Err.ensures.no_fault c.refuse.ensures.refuses

pub returns-in-Ok-clause-used : goal.returns-in-Ok-clause-used
returns-in-Ok-clause-used g c = puts_isnt accepted_reply c.put_reply.result status.Usage (g.K.Sink.taken c.args.sink.now) (g.K.Sink.taken c.put_reply.new.sink) c.put_reply.ensures.puts (λ e. cc) refl

pub returns-in-Err-clause-used : goal.returns-in-Err-clause-used
returns-in-Err-clause-used g c = refusal_unused c.refuse.result (g.K.Sink.taken c.args.sink.now) (g.K.Sink.taken c.refuse.new.sink) c.in-Err.refusal c.refuse.ensures.refuses

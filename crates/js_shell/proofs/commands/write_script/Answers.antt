use Rattle.std.proofs.Common.{ℕ, List, ap, refl, ◌∙◌}
use Rattle.js_shell.specs.declared.status.Status.TheVariants as status
use Rattle.js_shell.specs.Replies.{made_reply}
use Rattle.js_shell.proofs.PutLaws.{puts_nothing, puts_same, puts_isnt}
use Rattle.js_shell.proofs.commands.write_script.Goals as goal

pub returns-in-Ok-clause-puts : goal.returns-in-Ok-clause-puts
returns-in-Ok-clause-puts g c =
    puts_same (record { bytes = c.deref.result.now; status = status.Done }) (made_reply c.args.number) c.put_reply.result (g.K.Sink.taken c.args.sink.now) (g.K.Sink.taken c.put_reply.new.sink)
    (ap (λ (b : List ℕ). record { bytes = b; status = status.Done }) (c.deref.ensures.value ∙ c.in-Ok.ensures.bytes)) c.put_reply.ensures.puts

pub returns-in-Err-clause-puts : goal.returns-in-Err-clause-puts
returns-in-Err-clause-puts g c = puts_nothing (made_reply c.args.number) (g.K.Sink.taken c.args.sink.now)

pub returns-in-Ok-clause-used : goal.returns-in-Ok-clause-used
returns-in-Ok-clause-used g c = puts_isnt (record { bytes = c.deref.result.now; status = status.Done }) c.put_reply.result status.Usage (g.K.Sink.taken c.args.sink.now) (g.K.Sink.taken c.put_reply.new.sink) c.put_reply.ensures.puts (λ e. cc) refl

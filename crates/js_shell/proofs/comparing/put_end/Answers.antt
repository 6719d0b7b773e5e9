use Rattle.std.proofs.Common.{ℕ, List, subst}
use Rattle.js_shell.specs.declared.status.Status.TheVariants as status
use Rattle.js_shell.specs.Answering.{Puts}
use Rattle.js_shell.proofs.Compared.{unfinished_told}
use Rattle.js_shell.proofs.comparing.put_end.Goals as goal

pub returns-in-Ok-clause-puts : goal.returns-in-Ok-clause-puts
returns-in-Ok-clause-puts g c =
    rw c.in-Unfinished.is
    (unfinished_told c.args.policy.now _ _ c.in-Ok.report.items c.put_reply-in-Ok.result (g.K.Sink.taken c.args.sink.now) (g.K.Sink.taken c.put_reply-in-Ok.new.sink) c.in-Ok.ensures (rw c.deref.ensures.value at c.put_reply-in-Ok.ensures.puts))

pub returns-in-Ok-disagree_bytes-clause-puts : goal.returns-in-Ok-disagree_bytes-clause-puts
returns-in-Ok-disagree_bytes-clause-puts g c =
    rw c.in-Disagree.is
    (subst (λ (b : List ℕ). Puts (record { bytes = b; status = status.Policy }) c.put_reply-in-Ok-disagree_bytes.result (g.K.Sink.taken c.args.sink.now) (g.K.Sink.taken c.put_reply-in-Ok-disagree_bytes.new.sink)) c.in-Ok-disagree_bytes.ensures
    (rw c.deref-in-Ok-disagree_bytes.ensures.value at c.put_reply-in-Ok-disagree_bytes.ensures.puts))

use Rattle.std.proofs.Common.{◌≡◌, false, sym, subst}
use Rattle.js_shell.specs.declared.status.Status.{Status}
use Rattle.js_shell.specs.Answering.{is_cut_status}
use Rattle.js_shell.proofs.Refused.{refuses_nothing, refusal_uncut, refusal_put}
use Rattle.js_shell.proofs.putting.refuse.Goals as goal

pub returns-in_default-clause-refuses : goal.returns-in_default-clause-refuses
returns-in_default-clause-refuses g c = refuses_nothing c.args.refusal.now (g.K.Sink.taken c.args.sink.now)

pub put_reply-requires-clause-whole : goal.put_reply-requires-clause-whole
put_reply-requires-clause-whole g c = subst (λ (s : Status). is_cut_status s ≡ false) (sym c.status_of.ensures) (refusal_uncut c.args.refusal.now c.in-Ok.report.items c.in-Ok.ensures)

pub returns-clause-refuses : goal.returns-clause-refuses
returns-clause-refuses g c =
    refusal_put c.in-Ok.report.items c.put_reply.result (g.K.Sink.taken c.args.sink.now) (g.K.Sink.taken c.put_reply.new.sink) c.args.refusal.now c.in-Ok.ensures
    (rw c.status_of.ensures at (rw c.deref.ensures.value at c.put_reply.ensures.puts))

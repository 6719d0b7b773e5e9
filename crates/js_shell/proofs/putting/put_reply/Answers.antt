use Rattle.std.proofs.Common.{refl, sym, ◌∙◌}
use Rattle.js_shell.proofs.PutLaws.{puts_whole}
use Rattle.js_shell.proofs.StatusLaws.{uncut_open, uncut_failed}
use Rattle.js_shell.proofs.putting.put_reply.Goals as goal

pub returns-in-Ok-clause-puts : goal.returns-in-Ok-clause-puts
returns-in-Ok-clause-puts g c = puts_whole (record { bytes = c.args.bytes.now; status = c.args.status }) c.args.status (g.K.Sink.taken c.args.sink.now) (g.K.Sink.taken c.put.new.self) refl c.in-Ok.ensures.ok

pub returns-in-Ok-clause-shut : goal.returns-in-Ok-clause-shut
returns-in-Ok-clause-shut g c = c.in-Ok.ensures.shut ∙ sym (uncut_open c.args.status c.requires.whole)

pub returns-in-Ok-clause-failed : goal.returns-in-Ok-clause-failed
returns-in-Ok-clause-failed g c = λ e. absurd (uncut_failed c.args.status c.requires.whole e)

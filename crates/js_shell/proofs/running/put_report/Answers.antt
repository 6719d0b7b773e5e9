use Rattle.std.proofs.Common.{◌≡◌, ℕ, List, false, sym, subst}
use Rattle.flow_meaning.specs.Written.{report}
use Rattle.step_run.specs.Ran.{told_by}
use Rattle.js_shell.specs.declared.status.Status.{Status}
use Rattle.js_shell.specs.Answering.{Puts, is_cut_status}
use Rattle.js_shell.specs.Ran.{ended}
use Rattle.js_shell.proofs.Answering.{some_map, some_always}
use Rattle.js_shell.proofs.PutLaws.{puts_nothing}
use Rattle.js_shell.proofs.Reported.{over_uncut}
use Rattle.js_shell.proofs.running.put_report.Goals as goal

pub returns-in_default-clause-puts : goal.returns-in_default-clause-puts
returns-in_default-clause-puts g c = some_always (told_by c.args.ending.now) _ (λ e. puts_nothing (record { bytes = report c.args.policy.now e; status = ended c.args.ending.now }) (g.K.Sink.taken c.args.sink.now))

pub put_reply-requires-clause-whole : goal.put_reply-requires-clause-whole
put_reply-requires-clause-whole g c = subst (λ (s : Status). is_cut_status s ≡ false) (sym c.status_of.ensures) (over_uncut c.args.ending.now c.requires.over)

pub returns-clause-puts : goal.returns-clause-puts
returns-clause-puts g c =
    some_map (told_by c.args.ending.now) (λ told. c.in-Ok.report.items ≡ report c.args.policy.now told)
    (λ told. Puts (record { bytes = report c.args.policy.now told; status = ended c.args.ending.now }) c.put_reply.result (g.K.Sink.taken c.args.sink.now) (g.K.Sink.taken c.put_reply.new.sink))
    (λ told is. subst (λ (b : List ℕ). Puts (record { bytes = b; status = ended c.args.ending.now }) c.put_reply.result (g.K.Sink.taken c.args.sink.now) (g.K.Sink.taken c.put_reply.new.sink)) is
    (rw c.status_of.ensures at (rw c.deref.ensures.value at c.put_reply.ensures.puts))) c.in-Ok.ensures

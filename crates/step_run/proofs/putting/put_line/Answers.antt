use Rattle.std.proofs.Common.{sym, subst}
use Rattle.flow_io.specs.Sinks.{Appends, AppendsFront}
use Rattle.step_run.proofs.Appending.{appends_nothing}
use Rattle.step_run.proofs.Shown.{channel_at, printed_shown, printed_hidden}
use Rattle.step_run.proofs.putting.put_line.Goals as goal

pub returns-then-not-is_shown-clause-puts : goal.returns-then-not-is_shown-clause-puts
returns-then-not-is_shown-clause-puts g c =
    let taken = g.K.Sink.taken c.args.sink.now in
    let here = channel_at c.args.policy.now.outputs c.outputs.result.now c.args.printed.now.channel c.index-outputs-printed.result c.outputs.ensures.outputs c.requires.channel c.index-outputs-printed.is in
    λ reading. subst (Appends taken taken) (sym (printed_hidden c.args.show.now c.args.policy.now reading c.args.printed.now c.outputs.ensures.formed c.index-outputs-printed.result here (sym c.if-not-is_shown.ensures))) (appends_nothing taken)

pub returns-in-Ok-put-clause-puts : goal.returns-in-Ok-put-clause-puts
returns-in-Ok-put-clause-puts g c =
    let here = channel_at c.args.policy.now.outputs c.outputs.result.now c.args.printed.now.channel c.index-outputs-printed.result c.outputs.ensures.outputs c.requires.channel c.index-outputs-printed.is in
    let put = rw (c.deref.ensures.value, c.in-Ok.ensures) at c.in-Ok-put.ensures.ok in
    λ reading. subst (Appends (g.K.Sink.taken c.args.sink.now) (g.K.Sink.taken c.put.new.self)) (sym (printed_shown c.args.show.now c.args.policy.now reading c.args.printed.now c.outputs.ensures.formed c.index-outputs-printed.result here (sym c.if-not-is_shown.ensures))) put

pub returns-clause-puts : goal.returns-clause-puts
returns-clause-puts g c =
    let here = channel_at c.args.policy.now.outputs c.outputs.result.now c.args.printed.now.channel c.index-outputs-printed.result c.outputs.ensures.outputs c.requires.channel c.index-outputs-printed.is in
    let put = rw (c.deref.ensures.value, c.in-Ok.ensures) at c.in-Err.ensures.err in
    λ reading. subst (AppendsFront (g.K.Sink.taken c.args.sink.now) (g.K.Sink.taken c.put.new.self)) (sym (printed_shown c.args.show.now c.args.policy.now reading c.args.printed.now c.outputs.ensures.formed c.index-outputs-printed.result here (sym c.if-not-is_shown.ensures))) put

use Rattle.std.proofs.Common.{arith, ◌-◌, ap, ◌∙◌}
use Rattle.std.proofs.lemmas.Result.{IfOk-weaker}
use Rattle.step_natives.specs.States.{state_after, state_asks}
use Rattle.step_natives.proofs.StateLaws.{next_asks}
use Rattle.step_natives.proofs.states.NativeStates.next.Goals as goal

pub returns-clause-asks : goal.returns-clause-asks
returns-clause-asks g c =
    let some = rw (← c.self.view_is) at c.requires in
    rw (← c.self.view_is)
    (IfOk-weaker c.next.result _ _ (λ request is front steps e.
    next_asks (g.N.Natives.after c.args.natives.now) (g.N.Natives.asks c.args.natives.now) (record { states = c.self.inside.states.items; answer = c.self.inside.answer }) (c.len-last.result - 1) c.index_mut.result.now request front steps (omega (arith, some, c.len-last.ensures)) c.index_mut.ensures.value (is ∙ ap (λ a. state_asks (g.N.Natives.asks c.args.natives.now) (state_after (g.N.Natives.after c.args.natives.now) c.index_mut.result.now a)) c.replace-answer.ensures.value) e) c.next.ensures.asks)

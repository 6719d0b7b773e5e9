use Rattle.std.proofs.Common.{ap, length}
use Rattle.continuations.specs.Kept.{Kept}
use Rattle.step_requests.proofs.Done.{gives_length, length_rests}
use Rattle.step_requests.proofs.entering.enter_length.Goals as goal

pub begin_length-requires : goal.begin_length-requires
begin_length-requires g c = ap (λ (k : Kept _). length k.loose) c.in_ok-push.ensures.ok

pub returns-clause-gives : goal.returns-clause-gives
returns-clause-gives g c = gives_length g.L.Labels.made g.L.Labels.meaning c.args._labels.now c.args.stack.now c.begin_length.new.stack c.args.count c.args.how c.args.label c.args.array c.args.value c.push.new.self c.in_ok-next.next (ap (λ (k : Kept _). k.tasks) c.in_ok-push.ensures.ok) (rw c.called.ensures at c.in_ok-next.ensures.goes_on)

pub returns-clause-rests : goal.returns-clause-rests
returns-clause-rests g c = length_rests (g.L.Labels.made c.args._labels.now) c.args.how _ c.args.value c.args.stack.now c.push.new.self c.begin_length.new.stack c.in_ok-next.next (ap (λ (k : Kept _). k.loose) c.in_ok-push.ensures.ok) c.in_ok-push.ensures.scopes c.in_ok-push.ensures.natives c.in_ok-push.ensures.operands c.in_ok-push.ensures.load c.requires.made c.requires.label c.requires.value (rw c.called.ensures at c.in_ok-next.ensures.goes_on) c.in_ok-next.ensures.adds

use Rattle.flow_policy.proofs.InputLaws.{added_at}
use Rattle.flow_policy.proofs.inputs.Inputs.add.Goals as goal

pub returns : goal.returns
returns c = rw (← c.self.view_is) (added_at (λ lines. lines.items) c.self.inside.channels.items c.args.channel c.index_mut.result.now c.push.new.self c.args.text (rw c.self.view_is c.requires) c.index_mut.ensures.value c.in_ok-push.ensures.items)

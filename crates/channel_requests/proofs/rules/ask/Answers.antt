use Rattle.std.proofs.Common.{sym, subst, ℕ}
use Rattle.flow_policy.specs.Policies.{IsChannel}
use Rattle.channel_requests.proofs.rules.ask.Goals as goal

pub channel_label-requires : goal.channel_label-requires
channel_label-requires g c = subst (λ (n : ℕ). IsChannel n c.args.channel.now) (sym c.in_ok-need.ensures.kept.same_room) c.requires.channel

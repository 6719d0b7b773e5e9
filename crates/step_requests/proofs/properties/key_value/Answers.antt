use Rattle.std.proofs.Common.{◌∙◌}
use Rattle.step_requests.proofs.Based.{key_holds}
use Rattle.step_requests.proofs.properties.key_value.Goals as goal

pub returns : goal.returns
returns g c = key_holds g.L.Labels.made g.L.Labels.meaning c.args.labels.now c.args.key.now c.in_ok-text.text c.bottom.result (c.in_ok-text.ensures ∙ c.text.ensures) c.bottom.ensures.made c.bottom.ensures.meaning

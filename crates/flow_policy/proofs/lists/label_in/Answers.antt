use Rattle.std.proofs.Common.{◌∙◌}
use Rattle.flow_policy.proofs.Marks.{label_done}
use Rattle.flow_policy.proofs.lists.label_in.Goals as goal

pub returns : goal.returns
returns c = (c.in_ok-marks.ensures.0, label_done c.args.origins.now c.args.list.now c.in_ok-marked.field-0 c.in_ok-marked.ensures.label (λ k. c.in_ok-marked.ensures.members k ∙ c.in_ok-marks.ensures.1 k))

use Rattle.std.proofs.Common.{arith, ◌<◌, ◌^◌}
use Rattle.origin_labels.proofs.MaskLaws.{within-and}
use Rattle.origin_labels.proofs.masks.MasksLabels.within.Goals as goal

pub returns : goal.returns
returns c = within-and c.args.a.0 c.args.b.0 (let fits : c.args.a.0 < 2 ^ 64 = omega arith in fits)

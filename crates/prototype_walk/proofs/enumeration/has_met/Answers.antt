use Rattle.std.proofs.Common.{◌∙◌}
use Rattle.prototype_walk.proofs.MetLaws.{set_has}
use Rattle.prototype_walk.proofs.enumeration.has_met.Goals as goal

pub returns : goal.returns
returns c = c.contains.ensures ∙ set_has c.args.key.now c.args.met.now.keys

use Rattle.std.proofs.Common.{refl}
use Rattle.property_access.proofs.MeansLaws.{need_means}
use Rattle.property_requests.proofs.parts.need_of.Goals as goal

pub returns-clause-means : goal.returns-clause-means
returns-clause-means g c =
    need_means g.L.Labels.made g.L.Labels.meaning g.L.Labels.room g.L.Labels.firm c.args.labels.now c.join.new.labels c.in_ok-need.ensures.kept c.args.frames.now.frames c.context-context.result c.args.label c.in_ok-need.need (λ reading. reading c.args.label)
    c.requires.belongs c.context-context.ensures.made c.context-context.ensures.meaning (record { belongs = c.requires.label; is = λ reading read. refl }) c.in_ok-need.ensures.means

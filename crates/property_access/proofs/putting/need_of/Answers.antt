use Rattle.origin_labels.specs.Label.{union}
use Rattle.flow_frames.proofs.StandingLaws.{Belong-kept}
use Rattle.property_access.proofs.MeansLaws.{need_means}
use Rattle.property_access.proofs.putting.need_of.Goals as goal

pub context-context-requires : goal.context-context-requires
context-context-requires g c = Belong-kept g.L.Labels.made g.L.Labels.meaning g.met.L.Labels.rising g.L.Labels.room g.L.Labels.firm c.args.labels.now c.join.new.labels c.args.frames.now.frames c.join.ensures.kept c.requires.belongs

pub returns-clause-means : goal.returns-clause-means
returns-clause-means g c =
    need_means g.L.Labels.made g.L.Labels.meaning g.L.Labels.room g.L.Labels.firm c.join.new.labels c.join-2.new.labels c.join-2.ensures.kept c.args.frames.now.frames c.context-context.result c.in_ok-place.place c.in_ok-need.need (λ reading. union (reading c.args.label) (reading c.args.walk))
    (Belong-kept g.L.Labels.made g.L.Labels.meaning g.met.L.Labels.rising g.L.Labels.room g.L.Labels.firm c.args.labels.now c.join.new.labels c.args.frames.now.frames c.join.ensures.kept c.requires.belongs) c.context-context.ensures.made c.context-context.ensures.meaning c.in_ok-place.ensures.means c.in_ok-need.ensures.means

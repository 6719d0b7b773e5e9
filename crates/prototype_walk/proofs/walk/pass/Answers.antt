use Rattle.prototype_walk.proofs.WalkLaws.{means_union, means_passed}
use Rattle.prototype_walk.proofs.walk.pass.Goals as goal

pub returns-clause-means : goal.returns-clause-means
returns-clause-means g c =
    means_passed g.L.Labels.made g.L.Labels.meaning g.L.Labels.room g.L.Labels.firm c.args.labels.now c.join.new.self c.join-2.new.self c.args.walk c.args.shape.structure c.in_ok-passed.passed c.args.shape.link c.join-2.ensures.kept c.in_ok-passed.ensures.kept
    (means_union g.L.Labels.made g.L.Labels.meaning g.L.Labels.room g.L.Labels.firm c.args.labels.now c.join.new.self c.args.walk c.args.shape.structure c.in_ok-passed.passed c.in_ok-passed.ensures.kept c.requires.walk c.requires.structure c.in_ok-passed.ensures.made c.in_ok-passed.ensures.meaning)
    c.requires.link c.join-2.result c.join-2.ensures.made c.join-2.ensures.meaning

use Rattle.property_access.proofs.MeansLaws.{means_later}
use Rattle.property_requests.proofs.MeansLaws.{means_itself, means_union}
use Rattle.property_requests.proofs.binding.length_depends.Goals as goal

pub returns-clause-means : goal.returns-clause-means
returns-clause-means g c =
    means_union g.L.Labels.made g.L.Labels.meaning c.join.new.labels c.args.label c.in_ok-known.known c.in_ok-depends.depends (λ reading. reading c.args.label) _
    (means_itself g.L.Labels.made g.L.Labels.meaning c.join.new.labels c.args.label (c.in_ok-depends.ensures.kept.labels c.args.label (c.in_ok-known.ensures.kept.labels c.args.label c.requires.label).0).0)
    (means_later g.L.Labels.made g.L.Labels.meaning g.L.Labels.room g.L.Labels.firm c.own_label.new.labels c.join.new.labels c.in_ok-depends.ensures.kept c.in_ok-known.known _ c.in_ok-known.ensures.means) c.in_ok-depends.ensures.means

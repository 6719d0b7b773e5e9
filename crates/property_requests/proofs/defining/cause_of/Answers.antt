use Rattle.origin_labels.specs.Label.{union}
use Rattle.property_access.proofs.MeansLaws.{means_later}
use Rattle.property_requests.proofs.MeansLaws.{means_union}
use Rattle.property_requests.proofs.defining.cause_of.Goals as goal

pub returns-clause-means : goal.returns-clause-means
returns-clause-means g c =
    let site = c.args.site.now in
    means_union g.L.Labels.made g.L.Labels.meaning c.join-2.new.labels c.in_ok-decided.decided c.held_label-held.result c.in_ok-cause.cause (λ reading. union (reading site.place) (reading site.given)) _
    (means_later g.L.Labels.made g.L.Labels.meaning g.L.Labels.room g.L.Labels.firm c.join.new.labels c.join-2.new.labels c.in_ok-cause.ensures.kept c.in_ok-decided.decided _ c.in_ok-decided.ensures.means)
    (means_later g.L.Labels.made g.L.Labels.meaning g.L.Labels.room g.L.Labels.firm c.join.new.labels c.join-2.new.labels c.in_ok-cause.ensures.kept c.held_label-held.result _ (means_later g.L.Labels.made g.L.Labels.meaning g.L.Labels.room g.L.Labels.firm c.args.labels.now c.join.new.labels c.in_ok-decided.ensures.kept c.held_label-held.result _ c.held_label-held.ensures))
    c.in_ok-cause.ensures.means

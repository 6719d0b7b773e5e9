use Rattle.origin_labels.specs.Label.{union}
use Rattle.property_access.proofs.MeansLaws.{means_later}
use Rattle.property_requests.specs.Defining.{given_in}
use Rattle.property_requests.proofs.MeansLaws.{means_union}
use Rattle.property_requests.proofs.descriptor.given_label.Goals as goal

pub returns-clause-means : goal.returns-clause-means
returns-clause-means g c =
    let made = g.L.Labels.made in
    let meaning = g.L.Labels.meaning in
    let d = c.args.descriptor.now in
    let first = c.in_ok-accessors.ensures.kept in
    let second = c.in_ok-all.ensures.kept in
    let middle = c.join.new.labels in
    let last = c.join-2.new.labels in
    let accessors = means_union made meaning middle c.label_of-get.result c.label_of-set.result c.in_ok-accessors.accessors (λ reading. (given_in reading d.get).label) (λ reading. (given_in reading d.set).label)
    (means_later made meaning g.L.Labels.room g.L.Labels.firm c.args.labels.now middle first c.label_of-get.result _ c.label_of-get.ensures) (means_later made meaning g.L.Labels.room g.L.Labels.firm c.args.labels.now middle first c.label_of-set.result _ c.label_of-set.ensures) c.in_ok-accessors.ensures.means in
    means_union made meaning last c.label_of-value.result c.in_ok-accessors.accessors c.in_ok-all.all (λ reading. (given_in reading d.value).label) (λ reading. union (given_in reading d.get).label (given_in reading d.set).label)
    (means_later made meaning g.L.Labels.room g.L.Labels.firm middle last second c.label_of-value.result _ (means_later made meaning g.L.Labels.room g.L.Labels.firm c.args.labels.now middle first c.label_of-value.result _ c.label_of-value.ensures))
    (means_later made meaning g.L.Labels.room g.L.Labels.firm middle last second c.in_ok-accessors.accessors _ accessors) c.in_ok-all.ensures.means

use Rattle.std.proofs.Common.{refl}
use Rattle.channel_requests.proofs.MeansLaws.{means_made}
use Rattle.channel_requests.proofs.origins.label_of.Goals as goal

pub returns-clause-means : goal.returns-clause-means
returns-clause-means g c = means_made g.L.Labels.made g.L.Labels.meaning c.join_all.new.labels c.join_all.result _ _ c.join_all.ensures.made c.join_all.ensures.meaning refl

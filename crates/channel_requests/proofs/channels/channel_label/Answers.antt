use Rattle.origin_labels.proofs.LabelLaws.{label_of-label}
use Rattle.channel_requests.proofs.MeansLaws.{means_made}
use Rattle.channel_requests.proofs.channels.channel_label.Goals as goal

pub returns-clause-means : goal.returns-clause-means
returns-clause-means g c = means_made g.L.Labels.made g.L.Labels.meaning c.join_all.new.labels c.join_all.result _ c.args.channel.now.label c.join_all.ensures.made c.join_all.ensures.meaning (label_of-label c.args.channel.now.label c.requires.label)

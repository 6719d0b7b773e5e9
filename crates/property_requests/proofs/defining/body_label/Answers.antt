use Rattle.property_requests.proofs.ChangingLaws.{label_given, label_both}
use Rattle.property_requests.proofs.defining.body_label.Goals as goal

pub returns-then-not-keeps-clause-means : goal.returns-then-not-keeps-clause-means
returns-then-not-keeps-clause-means g c = label_given g.L.Labels.made g.L.Labels.meaning c.args.labels.now c.args.keeps c.args.given c.args.old c.if-not-keeps.true c.requires.given

pub returns-clause-means : goal.returns-clause-means
returns-clause-means g c = label_both g.L.Labels.made g.L.Labels.meaning c.join.new.labels c.args.keeps c.args.given c.args.old c.if-not-keeps.false c.join.result c.join.ensures.means

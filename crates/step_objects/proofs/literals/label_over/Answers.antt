use Rattle.std.proofs.Common.{refl}
use Rattle.step_objects.specs.declared.literals.Part.TheVariants as part
use Rattle.step_objects.proofs.LiteralLaws.{over_means, over_means_if}
use Rattle.step_objects.proofs.literals.label_over.Goals as goal

pub returns-in-Value-clause-means : goal.returns-in-Value-clause-means
returns-in-Value-clause-means g c = over_means g.L.Labels.made g.L.Labels.meaning c.args.labels.now c.args.given c.args.given c.args.old c.args.part part.Value c.in-Value.is (record { belongs = c.requires.given; is = λ reading read. refl })

pub returns-in-Getter-clause-means : goal.returns-in-Getter-clause-means
returns-in-Getter-clause-means g c = over_means_if g.L.Labels.made g.L.Labels.meaning c.join.new.labels c.args.given c.args.old c.args.part part.Getter c.in-Getter.is c.join.result c.join.ensures.means

pub returns-in-Setter-clause-means : goal.returns-in-Setter-clause-means
returns-in-Setter-clause-means g c = over_means_if g.L.Labels.made g.L.Labels.meaning c.join-in-Setter.new.labels c.args.given c.args.old c.args.part part.Setter c.in-Setter.is c.join-in-Setter.result c.join-in-Setter.ensures.means

use Rattle.js_values.specs.declared.value.Value.TheVariants as value
use Rattle.flow_meaning.specs.Erased.{unlabelled}
use Rattle.step_requests.proofs.Based.{at_once, unlabelled_holds}
use Rattle.step_requests.proofs.making.make.Goals as goal

pub returns-clause-acts : goal.returns-clause-acts
returns-clause-acts g c = λ tables inputs registers. at_once g.L.Labels.made g.L.Labels.meaning c.args.labels.now (λ reading. unlabelled (value.Primitive c.args.value)) _ c.args.world.now (unlabelled_holds g.L.Labels.made g.L.Labels.meaning c.args.labels.now c.args.value c.bottom.result c.bottom.ensures.made c.bottom.ensures.meaning)

use Rattle.step_objects.proofs.Ones.{adds_one}
use Rattle.step_objects.proofs.operators.one_more.Goals as goal

pub returns-clause-acts : goal.returns-clause-acts
returns-clause-acts g c = λ tables inputs set functions world.
    adds_one g.L.Labels.made g.L.Labels.meaning g.L.Labels.room g.L.Labels.firm c.args.labels.now c.binary.new.labels c.binary.ensures.kept tables inputs set functions c.args.operator c.args.number.now c.one.result c.bottom.result
    c.one.ensures c.bottom.ensures.made c.bottom.ensures.meaning world c.binary.result (c.binary.ensures.acts tables inputs set functions world)

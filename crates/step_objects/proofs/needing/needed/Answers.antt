use Rattle.js_values.specs.Readings.{read_value}
use Rattle.es_meaning.specs.Operations.{Value}
use Rattle.step_objects.proofs.NeedingLaws.{need_met, need_failed}
use Rattle.step_objects.proofs.needing.needed.Goals as goal

pub returns-then-holds-clause-acts : goal.returns-then-holds-clause-acts
returns-then-holds-clause-acts g c = need_met g.L.Labels.made g.L.Labels.meaning c.args.labels.now c.args.world.now c.args.value c.args.holds c.if-holds.true

pub returns-clause-acts : goal.returns-clause-acts
returns-clause-acts g c =
    need_failed g.L.Labels.made g.L.Labels.meaning c.throw_error.new.labels c.args.world.now c.args.value c.args.holds c.throw_error.new.world c.throw_error.result c.if-holds.false
    (c.throw_error.ensures.acts Value (λ reading. read_value reading))

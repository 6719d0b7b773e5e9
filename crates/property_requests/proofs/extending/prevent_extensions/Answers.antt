use Rattle.js_values.specs.Readings.{read_value}
use Rattle.es_meaning.specs.Operations.{Value}
use Rattle.flow_meaning.specs.Tracked.{act, prevent}
use Rattle.property_requests.proofs.FindingLaws.{base_throws, base_is}
use Rattle.property_requests.proofs.extending.prevent_extensions.Goals as goal

pub returns-in_default-clause-acts : goal.returns-in_default-clause-acts
unfolding act
returns-in_default-clause-acts g c = λ tables inputs.
    base_throws g.L.Labels.made g.L.Labels.meaning c.throw_error.new.labels c.args.world.now c.args.base.now (λ reading. read_value reading) (λ reading o s. prevent (reading c.args.base.now.label) o s)
    c.throw_error.new.world c.throw_error.result c.in_default.field-0 c.in_default.is (c.throw_error.ensures.acts Value (λ reading. read_value reading))

pub returns-clause-acts : goal.returns-clause-acts
unfolding act
returns-clause-acts g c = λ tables inputs.
    base_is g.L.Labels.made g.L.Labels.meaning c.prevent.new.labels c.args.world.now c.args.base.now (λ reading. read_value reading) (λ reading o s. prevent (reading c.args.base.now.label) o s)
    c.prevent.new.world c.prevent.result c.in-Object.o c.in-Object.is c.prevent.ensures.acts

use Rattle.std.proofs.Common.{sym, ◌∙◌}
use Rattle.js_values.specs.Readings.{read_value}
use Rattle.es_meaning.specs.Operations.{Value}
use Rattle.property_requests.proofs.BindingLaws.{primitive_refused, object_refused, function_bound}
use Rattle.property_requests.proofs.DescriptorLaws.{function_there}
use Rattle.property_requests.proofs.binding.bind.Goals as goal

pub returns-in_default-clause-acts : goal.returns-in_default-clause-acts
returns-in_default-clause-acts g c = λ tables inputs.
    primitive_refused g.L.Labels.made g.L.Labels.meaning c.throw_error.new.labels c.args.world.now tables inputs c.args.target.now c.args.this.now c.args.args.now c.throw_error.new.world c.throw_error.result c.in_default.field-0 c.in_default.is (c.throw_error.ensures.acts Value (λ reading. read_value reading))

pub returns-then-not-is_callable-clause-acts : goal.returns-then-not-is_callable-clause-acts
returns-then-not-is_callable-clause-acts g c = λ tables inputs.
    object_refused g.L.Labels.made g.L.Labels.meaning c.throw_error-then-not-is_callable.new.labels c.args.world.now tables inputs c.args.target.now c.args.this.now c.args.args.now c.throw_error-then-not-is_callable.new.world c.throw_error-then-not-is_callable.result c.in-Object.o c.in-Object.is (sym c.is_callable.ensures ∙ c.if-not-is_callable.true) (c.throw_error-then-not-is_callable.ensures.acts Value (λ reading. read_value reading))

pub bind_object-requires-clause-there : goal.bind_object-requires-clause-there
bind_object-requires-clause-there g c = function_there c.args.world.now.heap c.in-Object.o.0 (sym c.is_callable.ensures ∙ c.if-not-is_callable.false)

pub returns-clause-acts : goal.returns-clause-acts
returns-clause-acts g c = λ tables inputs.
    function_bound g.L.Labels.made g.L.Labels.meaning c.bind_object.new.labels c.args.world.now tables inputs c.args.target.now c.args.this.now c.args.args.now c.bind_object.new.world c.bind_object.result c.in-Object.o c.in-Object.is (sym c.is_callable.ensures ∙ c.if-not-is_callable.false) c.bind_object.ensures.acts

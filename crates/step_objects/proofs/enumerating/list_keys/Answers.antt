use Rattle.std.proofs.Common.{sym, ◌∙◌}
use Rattle.step_objects.proofs.TakingLaws.{wrapped_listed, empty_listed}
use Rattle.step_objects.proofs.enumerating.list_keys.Goals as goal

pub returns-in-Primitive-clause-listed : goal.returns-in-Primitive-clause-listed
returns-in-Primitive-clause-listed g c = wrapped_listed g.L.Labels.made g.L.Labels.meaning c.args.labels.now c.args.world.now.heap c.args.value.now c.in-Primitive.field-0 c.in-Primitive.is (sym c.is_coercible.ensures ∙ c.if-is_coercible.true)

pub returns-in-Primitive-2-clause-listed : goal.returns-in-Primitive-2-clause-listed
returns-in-Primitive-2-clause-listed g c = empty_listed g.L.Labels.made g.L.Labels.meaning c.args.labels.now c.args.world.now.heap c.args.value.now c.in-Primitive-2.field-0 c.in-Primitive-2.is c.no_keys-list.result c.no_keys-list.ensures.keys c.no_keys-list.ensures.made c.no_keys-list.ensures.meaning (sym c.is_coercible.ensures ∙ c.if-is_coercible.false)

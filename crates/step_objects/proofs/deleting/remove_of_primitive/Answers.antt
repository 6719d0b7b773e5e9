use Rattle.std.proofs.Common.{ap, sym, is_some, ◌∙◌}
use Rattle.js_values.specs.Readings.{read_value}
use Rattle.es_meaning.specs.Operations.{Value}
use Rattle.es_meaning.specs.Primitives.{own_value_of}
use Rattle.step_objects.proofs.DeletingLaws.{stays, none_deleted}
use Rattle.step_objects.proofs.deleting.remove_of_primitive.Goals as goal

pub returns-then-has_own-clause-acts : goal.returns-then-has_own-clause-acts
returns-then-has_own-clause-acts g c =
    stays g.L.Labels.made g.L.Labels.meaning c.throw_error.new.labels c.args.world.now (own_value_of c.args.value.now c.args.key.now) c.args.label c.throw_error.new.world c.throw_error.result
    (ap (λ k. is_some (own_value_of c.args.value.now k)) (sym c.text.ensures) ∙ sym c.has_own.ensures ∙ c.if-has_own.true)
    (c.throw_error.ensures.acts Value (λ reading. read_value reading))

pub returns-clause-acts : goal.returns-clause-acts
returns-clause-acts g c =
    none_deleted g.L.Labels.made g.L.Labels.meaning c.args.labels.now c.args.world.now (own_value_of c.args.value.now c.args.key.now) c.args.label c.yes.result c.yes.ensures
    (ap (λ k. is_some (own_value_of c.args.value.now k)) (sym c.text.ensures) ∙ sym c.has_own.ensures ∙ c.if-has_own.false)

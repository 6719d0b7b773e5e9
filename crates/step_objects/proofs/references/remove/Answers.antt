use Rattle.std.proofs.Common.{◌∙◌}
use Rattle.origin_labels.specs.Label.{bottom}
use Rattle.js_values.specs.Readings.{read_value}
use Rattle.es_meaning.specs.Operations.{Value}
use Rattle.property_access.proofs.MeansLaws.{means_later}
use Rattle.step_objects.proofs.DeletingLaws.{deletes_name}
use Rattle.step_objects.proofs.references.remove.Goals as goal

pub returns-in-Name-clause-acts : goal.returns-in-Name-clause-acts
returns-in-Name-clause-acts g c =
    let means = means_later g.L.Labels.made g.L.Labels.meaning g.L.Labels.room g.L.Labels.firm c.args.labels.now c.throw_error.new.labels c.throw_error.ensures.kept c.bottom-none.result (λ reading. bottom) (record { belongs = c.bottom-none.ensures.made; is = λ reading read. read.agrees c.bottom-none.result c.bottom-none.ensures.made ∙ c.bottom-none.ensures.meaning }) in
    rw c.in-Name.is (deletes_name g.L.Labels.made g.L.Labels.meaning c.throw_error.new.labels c.args.world.now _ _ _ c.bottom-none.result means c.throw_error.new.world c.throw_error.result (c.throw_error.ensures.acts Value (λ reading. read_value reading)))

pub returns-in-Property-clause-acts : goal.returns-in-Property-clause-acts
returns-in-Property-clause-acts g c = rw c.in-Property.is c.remove_property.ensures.acts

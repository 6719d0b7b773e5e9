use Rattle.step_objects.proofs.LiteralLaws.{still_present, redefine_stops, redefine_goes}
use Rattle.step_objects.proofs.literals.redefine.Goals as goal

pub returns-in_err-set_attributes-clause-does : goal.returns-in_err-set_attributes-clause-does
returns-in_err-set_attributes-clause-does g c =
    redefine_stops g.L.Labels.made g.L.Labels.meaning c.args.heap.now c.set_attributes.new.self c.set_attributes.new.self c.args.o.0 c.args.key.now c.args.context c.args.marks c.args.body c.args.label c.set_attributes.new.labels c.set_attributes.result c.in_err-set_attributes.field-0.0 c.from_residual.result c.in_err-set_attributes.was c.from_residual.ensures.1 c.set_attributes.ensures.acts

pub set_body-requires-clause-present : goal.set_body-requires-clause-present
set_body-requires-clause-present g c = still_present g.L.Labels.made g.L.Labels.meaning c.args.heap.now c.set_attributes.new.self c.set_attributes.new.self c.args.o.0 c.args.key.now c.args.context c.args.marks c.set_attributes.new.labels c.set_attributes.result c.in_ok-set_attributes.was c.set_attributes.ensures.acts c.requires.present

pub returns-clause-does : goal.returns-clause-does
returns-clause-does g c =
    redefine_goes g.L.Labels.made g.L.Labels.meaning c.args.heap.now c.set_attributes.new.self c.set_body.new.self c.args.o.0 c.args.key.now c.args.context c.args.marks c.args.body c.args.label g.L.Labels.room g.L.Labels.firm c.set_attributes.new.labels c.set_body.new.labels c.set_body.ensures.kept c.set_attributes.result c.in_ok-set_attributes.was c.set_attributes.ensures.acts c.set_body.result c.set_body.ensures.acts

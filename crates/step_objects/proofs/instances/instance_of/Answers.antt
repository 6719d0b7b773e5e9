use Rattle.js_values.specs.Readings.{read_value}
use Rattle.es_meaning.specs.Operations.{Value}
use Rattle.origin_labels.specs.Label.{union}
use Rattle.run_state.proofs.ActLaws.{Belongs-later}
use Rattle.property_access.proofs.MeansLaws.{means_later}
use Rattle.step_objects.proofs.InstanceLaws.{instance_among, instance_refused}
use Rattle.step_objects.proofs.instances.instance_of.Goals as goal

pub returns-in_err-depends-clause-belongs : goal.returns-in_err-depends-clause-belongs
returns-in_err-depends-clause-belongs g c = Belongs-later g.L.Labels.made g.L.Labels.meaning g.L.Labels.room g.L.Labels.firm c.args.labels.now c.join.new.labels c.join.ensures.kept g.met.L.Labels.rising c.args.world.now c.requires.belongs

pub throw_error-requires-clause-belongs : goal.throw_error-requires-clause-belongs
throw_error-requires-clause-belongs g c = Belongs-later g.L.Labels.made g.L.Labels.meaning g.L.Labels.room g.L.Labels.firm c.args.labels.now c.join.new.labels c.join.ensures.kept g.met.L.Labels.rising c.args.world.now c.requires.belongs

pub returns-in_default-clause-acts : goal.returns-in_default-clause-acts
returns-in_default-clause-acts g c = instance_refused g.L.Labels.made g.L.Labels.meaning c.throw_error.new.labels c.args.world.now c.args.object.0 c.args.label c.in_ok-depends.depends c.args.proto (means_later g.L.Labels.made g.L.Labels.meaning g.L.Labels.room g.L.Labels.firm c.join.new.labels c.throw_error.new.labels c.throw_error.ensures.kept c.in_ok-depends.depends (λ reading. union (reading c.args.label) (reading c.args.proto.label)) c.in_ok-depends.ensures.means) c.throw_error.new.world c.throw_error.result c.in_default.field-0 c.in_default.is (c.throw_error.ensures.acts Value (λ reading. read_value reading))

pub has_prototype-requires-clause-belongs : goal.has_prototype-requires-clause-belongs
has_prototype-requires-clause-belongs g c = Belongs-later g.L.Labels.made g.L.Labels.meaning g.L.Labels.room g.L.Labels.firm c.args.labels.now c.join.new.labels c.join.ensures.kept g.met.L.Labels.rising c.args.world.now c.requires.belongs

pub returns-clause-acts : goal.returns-clause-acts
returns-clause-acts g c = instance_among g.L.Labels.made g.L.Labels.meaning c.has_prototype.new.labels c.args.world.now c.args.object.0 c.args.label c.in_ok-depends.depends c.args.proto (means_later g.L.Labels.made g.L.Labels.meaning g.L.Labels.room g.L.Labels.firm c.join.new.labels c.has_prototype.new.labels c.has_prototype.ensures.kept c.in_ok-depends.depends (λ reading. union (reading c.args.label) (reading c.args.proto.label)) c.in_ok-depends.ensures.means) c.has_prototype.result c.in-Object.p c.in-Object.is c.has_prototype.ensures.acts

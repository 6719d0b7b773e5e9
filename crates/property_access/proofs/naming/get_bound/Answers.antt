use Rattle.std.proofs.Common.{[]}
use Rattle.native_protocol.specs.declared.request.ErrorKind.TheVariants as kinds
use Rattle.es_meaning.specs.Operations.{One}
use Rattle.run_state.specs.Accesses.{read_access}
use Rattle.property_access.proofs.ThrowLaws.{error_recast}
use Rattle.property_access.proofs.NameLaws.{name_has, name_read, name_unbound}
use Rattle.property_access.proofs.naming.get_bound.Goals as goal

pub returns-in-Some-clause-acts : goal.returns-in-Some-clause-acts
returns-in-Some-clause-acts g c = name_read g.L.Labels.made g.L.Labels.meaning c.args.labels.now c.args.world.now c.args.e.0 c.args.name.now c.in-Some.value (rw c.in-Some.is at c.in_ok-value.ensures)

pub returns-in-Some-clause-made : goal.returns-in-Some-clause-made
returns-in-Some-clause-made g c = name_has (g.L.Labels.made c.args.labels.now) c.args.world.now.records c.args.e.0 c.args.name.now c.in-Some.value c.requires.belongs.records (rw c.in-Some.is at c.in_ok-value.ensures)

pub returns-in-None-clause-acts : goal.returns-in-None-clause-acts
returns-in-None-clause-acts g c = name_unbound g.L.Labels.made g.L.Labels.meaning c.throw_without_cause.new.labels c.args.world.now c.args.e.0 c.args.name.now c.throw_without_cause.new.world c.throw_without_cause.result (rw c.in-None.is at c.in_ok-value.ensures) (error_recast g.L.Labels.made g.L.Labels.meaning c.throw_without_cause.new.labels (λ reading x. tt) (λ reading. read_access reading) kinds.ReferenceError (λ reading. []) c.args.world.now c.throw_without_cause.new.world c.throw_without_cause.result c.throw_without_cause.ensures.made (c.throw_without_cause.ensures.acts One (λ reading x. tt)))

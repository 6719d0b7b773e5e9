use Rattle.native_protocol.specs.declared.request.ErrorKind.TheVariants as kinds
use Rattle.es_meaning.specs.Operations.{One}
use Rattle.run_state.specs.Accesses.{read_putting}
use Rattle.property_access.proofs.ObjectLaws.{setter_is, no_setter}
use Rattle.property_access.proofs.ThrowLaws.{error_recast}
use Rattle.property_access.proofs.putting.enter_setter.Goals as goal

pub returns-in-Some-clause-acts : goal.returns-in-Some-clause-acts
returns-in-Some-clause-acts g c = setter_is g.L.Labels.made g.L.Labels.meaning c.args.labels.now c.args.world.now c.args.label c.args.this c.args.set c.in-Some.function c.in-Some.is

pub returns-in-None-clause-acts : goal.returns-in-None-clause-acts
returns-in-None-clause-acts g c =
    no_setter g.L.Labels.made g.L.Labels.meaning c.throw_error.new.labels c.args.world.now c.args.label c.args.this c.args.set c.throw_error.new.world c.throw_error.result c.in-None.is
    (error_recast g.L.Labels.made g.L.Labels.meaning c.throw_error.new.labels (λ reading x. tt) (λ reading. read_putting reading) kinds.TypeError (λ reading. reading c.args.label) c.args.world.now c.throw_error.new.world c.throw_error.result c.throw_error.ensures.made (c.throw_error.ensures.acts One (λ reading x. tt)))

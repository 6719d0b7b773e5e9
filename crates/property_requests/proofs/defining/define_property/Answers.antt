use Rattle.std.specs.List.{slice_get}
use Rattle.es_meaning.specs.Operations.{One}
use Rattle.flow_meaning.specs.Tracked as tracked
use Rattle.native_protocol.specs.declared.request.ErrorKind.TheVariants as kinds
use Rattle.run_state.specs.Accesses.{read_defining}
use Rattle.property_access.proofs.ThrowLaws.{error_recast}
use Rattle.flow_meaning.specs.Tracked.{define_in, defining}
use Rattle.property_requests.specs.Defining.{given_in, shape_of}
use Rattle.property_requests.proofs.FindingLaws.{base_refuses, base_acts}
use Rattle.property_requests.proofs.defining.define_property.Goals as goal

pub returns-in_default-clause-acts : goal.returns-in_default-clause-acts
unfolding defining
returns-in_default-clause-acts g c =
    let d = c.args.descriptor in
    base_refuses g.L.Labels.made g.L.Labels.meaning c.throw_error.new.labels c.args.world.now c.args.base.now (λ reading. read_defining reading)
    (λ reading o s. define_in (slice_get s.heap o) (reading c.args.base.now.label) o c.args.key d.marks (shape_of d) (given_in reading d.value) (given_in reading d.get) (given_in reading d.set) s)
    c.throw_error.new.world c.throw_error.result c.in_default.field-0 c.in_default.is (error_recast {Z = tracked.Defining} g.L.Labels.made g.L.Labels.meaning c.throw_error.new.labels (λ reading x. tt) (λ reading. read_defining reading) kinds.TypeError _ c.args.world.now c.throw_error.new.world c.throw_error.result c.throw_error.ensures.made (c.throw_error.ensures.acts One (λ reading x. tt)))

pub returns-clause-acts : goal.returns-clause-acts
unfolding defining
returns-clause-acts g c =
    let d = c.args.descriptor in
    base_acts g.L.Labels.made g.L.Labels.meaning c.define_on.new.labels c.args.world.now c.args.base.now (λ reading. read_defining reading)
    (λ reading o s. define_in (slice_get s.heap o) (reading c.args.base.now.label) o c.args.key d.marks (shape_of d) (given_in reading d.value) (given_in reading d.get) (given_in reading d.set) s)
    c.define_on.new.world c.define_on.result c.in-Object.o c.in-Object.is c.define_on.ensures.acts

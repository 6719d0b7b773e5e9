use Rattle.es_meaning.specs.Operations.{One}
use Rattle.flow_meaning.specs.Tracked as tracked
use Rattle.native_protocol.specs.declared.request.ErrorKind.TheVariants as kinds
use Rattle.run_state.specs.Accesses.{read_defining}
use Rattle.property_access.proofs.ThrowLaws.{error_recast}
use Rattle.std.specs.List.{slice_get}
use Rattle.object_heap.specs.Formed.{own_in}
use Rattle.property_requests.proofs.DefiningLaws.{absent_refused, absent_added}
use Rattle.property_requests.proofs.defining.define_absent.Goals as goal

pub returns-then-not-allowed-clause-acts : goal.returns-then-not-allowed-clause-acts
returns-then-not-allowed-clause-acts g c =
    absent_refused g.L.Labels.made g.L.Labels.meaning c.refuse.new.labels c.args.world.now c.refuse.new.world c.refuse.result c.args.site.object.0 c.args.site.key c.args.site.place c.args.site.given c.args.definition (own_in c.args.site.key (slice_get c.args.world.now.heap c.args.site.object.0)) c.requires.absent c.args.allowed c.if-not-allowed.true
    (error_recast {Z = tracked.Defining} g.L.Labels.made g.L.Labels.meaning c.refuse.new.labels (λ reading x. tt) (λ reading. read_defining reading) kinds.TypeError _ c.args.world.now c.refuse.new.world c.refuse.result c.refuse.ensures.made (c.refuse.ensures.acts One (λ reading x. tt)))

pub returns-clause-acts : goal.returns-clause-acts
returns-clause-acts g c =
    absent_added g.L.Labels.made g.L.Labels.meaning c.add_new.new.labels c.args.world.now c.add_new.new.world c.add_new.result c.args.site.object.0 c.args.site.key c.args.site.place c.args.site.given c.args.definition c.args.allowed c.if-not-allowed.false
    c.add_new.ensures.acts

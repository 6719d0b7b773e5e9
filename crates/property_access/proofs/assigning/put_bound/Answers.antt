use Rattle.std.proofs.Common.{ap, not, ◌∙◌, []}
use Rattle.std.specs.List.{slice_get}
use Rattle.js_values.specs.Records.{bound_in}
use Rattle.native_protocol.specs.declared.request.ErrorKind.TheVariants as kinds
use Rattle.es_meaning.specs.Operations.{One}
use Rattle.run_state.specs.Accesses.{read_putting}
use Rattle.property_access.proofs.ThrowLaws.{error_recast}
use Rattle.run_state.specs.declared.outcome.Place.TheVariants.{Record}
use Rattle.property_access.proofs.PutLaws.{put_absent, unbound_there}
use Rattle.property_access.proofs.assigning.put_bound.Goals as goal

pub returns-then-is_none-clause-acts : goal.returns-then-is_none-clause-acts
returns-then-is_none-clause-acts g c =
    λ walk.
    put_absent g.L.Labels.made g.L.Labels.meaning c.throw_without_cause.new.labels c.args.world.now c.throw_without_cause.new.world (Record c.args.e) c.args.name.now walk c.args.value c.throw_without_cause.result c.args.e.0
    (unbound_there (λ v. v.now) (λ b. b.value) c.own.result (bound_in c.args.name.now (slice_get c.args.world.now.records c.args.e.0)) c.own.ensures (c.is_none.ensures ∙ ap not c.if-is_none.true))
    (error_recast g.L.Labels.made g.L.Labels.meaning c.throw_without_cause.new.labels (λ reading x. tt) (λ reading. read_putting reading) kinds.ReferenceError (λ reading. []) c.args.world.now c.throw_without_cause.new.world c.throw_without_cause.result c.throw_without_cause.ensures.made (c.throw_without_cause.ensures.acts One (λ reading x. tt)))

use Rattle.std.proofs.Common.{sym, ◌∙◌}
use Rattle.native_protocol.specs.declared.request.ErrorKind.TheVariants as kinds
use Rattle.es_meaning.specs.Operations.{One}
use Rattle.run_state.specs.Accesses.{read_putting}
use Rattle.property_access.proofs.ObjectLaws.{put_owned, put_unowned}
use Rattle.property_access.proofs.ThrowLaws.{error_recast}
use Rattle.property_access.proofs.primitives.put_on_primitive.Goals as goal

pub returns-then-has_own-clause-acts : goal.returns-then-has_own-clause-acts
returns-then-has_own-clause-acts g c =
    put_owned g.L.Labels.made g.L.Labels.meaning c.throw_error.new.labels c.args.world.now c.throw_error.new.world c.args.value.now c.args.key.now c.args.label c.args.this_label c.throw_error.result (sym c.has_own.ensures ∙ c.if-has_own.true)
    (error_recast g.L.Labels.made g.L.Labels.meaning c.throw_error.new.labels (λ reading x. tt) (λ reading. read_putting reading) kinds.TypeError (λ reading. reading c.args.label) c.args.world.now c.throw_error.new.world c.throw_error.result c.throw_error.ensures.made (c.throw_error.ensures.acts One (λ reading x. tt)))

pub returns-clause-acts : goal.returns-clause-acts
returns-clause-acts g c =
    put_unowned g.L.Labels.made g.L.Labels.meaning c.put_beyond.new.labels c.args.world.now c.put_beyond.new.world c.args.value.now c.args.key.now c.args.label c.args.this_label c.put_beyond.result (sym c.has_own.ensures ∙ c.if-has_own.false) c.put_beyond.ensures.acts

use Rattle.native_protocol.specs.declared.request.ErrorKind.TheVariants as kinds
use Rattle.es_meaning.specs.Operations.{One}
use Rattle.run_state.specs.Accesses.{read_putting}
use Rattle.property_access.proofs.ThrowLaws.{error_recast}
use Rattle.run_state.specs.declared.outcome.Place.TheVariants.{Record, Global}
use Rattle.property_access.proofs.PutLaws.{put_there, put_nowhere}
use Rattle.property_access.proofs.assigning.put_name.Goals as goal

pub returns-in-Record-clause-acts : goal.returns-in-Record-clause-acts
returns-in-Record-clause-acts g c = put_there g.L.Labels.made g.L.Labels.meaning c.put_bound.new.labels c.args.world.now c.put_bound.new.world c.args.named.place c.args.named.name.now c.args.named.walk c.args.value c.put_bound.result (Record c.in-Record.e) c.in-Record.is (c.put_bound.ensures.acts c.args.named.walk)

pub returns-in-Global-clause-acts : goal.returns-in-Global-clause-acts
returns-in-Global-clause-acts g c = put_there g.L.Labels.made g.L.Labels.meaning c.put_global.new.labels c.args.world.now c.put_global.new.world c.args.named.place c.args.named.name.now c.args.named.walk c.args.value c.put_global.result Global c.in-Global.is (c.put_global.ensures.acts c.args.named.walk)

pub returns-in-Nowhere-clause-acts : goal.returns-in-Nowhere-clause-acts
returns-in-Nowhere-clause-acts g c = put_nowhere g.L.Labels.made g.L.Labels.meaning c.throw_error.new.labels c.args.world.now c.throw_error.new.world c.args.named.place c.args.named.name.now c.args.named.walk c.args.value c.throw_error.result c.in-Nowhere.is (error_recast g.L.Labels.made g.L.Labels.meaning c.throw_error.new.labels (λ reading x. tt) (λ reading. read_putting reading) kinds.ReferenceError (λ reading. reading c.args.named.walk) c.args.world.now c.throw_error.new.world c.throw_error.result c.throw_error.ensures.made (c.throw_error.ensures.acts One (λ reading x. tt)))

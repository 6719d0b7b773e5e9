use Rattle.native_protocol.specs.declared.request.ErrorKind.TheVariants as kinds
use Rattle.es_meaning.specs.Operations.{One}
use Rattle.run_state.specs.Accesses.{read_access}
use Rattle.property_access.proofs.ThrowLaws.{error_recast}
use Rattle.property_access.proofs.NameLaws.{got_inside, got_globally, got_nowhere}
use Rattle.property_access.proofs.naming.get_name.Goals as goal

pub returns-in-Record-clause-acts : goal.returns-in-Record-clause-acts
returns-in-Record-clause-acts g c = got_inside g.L.Labels.made g.L.Labels.meaning c.get_bound.new.labels c.args.world.now c.get_bound.new.world c.get_bound.result c.args.named.place c.args.named.name.now c.args.named.walk c.in-Record.e c.in-Record.is c.get_bound.ensures.acts

pub returns-in-Global-clause-acts : goal.returns-in-Global-clause-acts
returns-in-Global-clause-acts g c = got_globally g.L.Labels.made g.L.Labels.meaning c.get_global.new.labels c.args.world.now c.get_global.new.world c.get_global.result c.args.named.place c.args.named.name.now c.args.named.walk c.in-Global.is c.get_global.ensures.acts

pub returns-in-Nowhere-clause-acts : goal.returns-in-Nowhere-clause-acts
returns-in-Nowhere-clause-acts g c = got_nowhere g.L.Labels.made g.L.Labels.meaning c.throw_error.new.labels c.args.world.now c.throw_error.new.world c.throw_error.result c.args.named.place c.args.named.name.now c.args.named.walk c.in-Nowhere.is (error_recast g.L.Labels.made g.L.Labels.meaning c.throw_error.new.labels (λ reading x. tt) (λ reading. read_access reading) kinds.ReferenceError (λ reading. reading c.args.named.walk) c.args.world.now c.throw_error.new.world c.throw_error.result c.throw_error.ensures.made (c.throw_error.ensures.acts One (λ reading x. tt)))

use Rattle.std.proofs.Common.{[]}
use Rattle.native_protocol.specs.declared.request.ErrorKind.TheVariants as kinds
use Rattle.es_meaning.specs.Operations.{One}
use Rattle.run_state.specs.Accesses.{read_putting}
use Rattle.property_access.proofs.ThrowLaws.{error_recast}
use Rattle.property_access.proofs.PutLaws.{with_records, Belongs-records, put_done, put_stopped, put_immutable}
use Rattle.property_access.proofs.assigning.assign.Goals as goal

pub throw_without_cause-requires : goal.throw_without_cause-requires
throw_without_cause-requires g c = Belongs-records g.L.Labels.made g.L.Labels.meaning g.L.Labels.room g.L.Labels.firm c.args.labels.now c.assign.new.labels c.assign.ensures.kept c.args.world.now c.requires.belongs g.met.L.Labels.rising c.assign.new.self c.assign.ensures.belongs

pub returns-in-Ok-clause-belongs : goal.returns-in-Ok-clause-belongs
returns-in-Ok-clause-belongs g c = Belongs-records g.L.Labels.made g.L.Labels.meaning g.L.Labels.room g.L.Labels.firm c.args.labels.now c.assign.new.labels c.assign.ensures.kept c.args.world.now c.requires.belongs g.met.L.Labels.rising c.assign.new.self c.assign.ensures.belongs

pub returns-in-Err-Stop-clause-belongs : goal.returns-in-Err-Stop-clause-belongs
returns-in-Err-Stop-clause-belongs g c = Belongs-records g.L.Labels.made g.L.Labels.meaning g.L.Labels.room g.L.Labels.firm c.args.labels.now c.assign.new.labels c.assign.ensures.kept c.args.world.now c.requires.belongs g.met.L.Labels.rising c.assign.new.self c.assign.ensures.belongs

pub returns-in-Err-OutOfMemory-clause-belongs : goal.returns-in-Err-OutOfMemory-clause-belongs
returns-in-Err-OutOfMemory-clause-belongs g c = Belongs-records g.L.Labels.made g.L.Labels.meaning g.L.Labels.room g.L.Labels.firm c.args.labels.now c.assign.new.labels c.assign.ensures.kept c.args.world.now c.requires.belongs g.met.L.Labels.rising c.assign.new.self c.assign.ensures.belongs

pub returns-in-Ok-clause-acts : goal.returns-in-Ok-clause-acts
returns-in-Ok-clause-acts g c = λ walk. put_done g.L.Labels.made g.L.Labels.meaning g.L.Labels.room g.L.Labels.firm c.args.labels.now c.assign.new.labels c.assign.ensures.kept c.args.world.now c.requires.belongs c.context-context.result c.context-context.ensures.made c.context-context.ensures.meaning c.args.e.0 c.args.name.now walk c.args.value c.requires.bound c.assign.new.self c.in-Ok.ensures.assigns.does

pub returns-in-Err-Stop-clause-acts : goal.returns-in-Err-Stop-clause-acts
returns-in-Err-Stop-clause-acts g c =
    λ walk.
    let refused = rw c.in-Err-Stop.field-0-is at c.in-Err-Stop.ensures.assigns.refused in
    put_stopped g.L.Labels.made g.L.Labels.meaning g.L.Labels.room g.L.Labels.firm c.args.labels.now c.assign.new.labels c.assign.ensures.kept c.args.world.now c.requires.belongs c.context-context.result c.context-context.ensures.made c.context-context.ensures.meaning c.args.e.0 c.args.name.now walk c.args.value c.requires.bound c.in-Err-Stop.stop c.assign.new.self c.in-Err-Stop.ensures.assigns.unchanged refused.2

pub returns-in-Err-Immutable-clause-acts : goal.returns-in-Err-Immutable-clause-acts
returns-in-Err-Immutable-clause-acts g c =
    λ walk.
    let refused = rw c.in-Err-Immutable.field-0-is at c.in-Err-Immutable.ensures.assigns.refused in
    put_immutable g.L.Labels.made g.L.Labels.meaning g.L.Labels.room g.L.Labels.firm c.args.labels.now c.assign.new.labels c.assign.ensures.kept c.args.world.now c.requires.belongs c.context-context.result c.context-context.ensures.made c.context-context.ensures.meaning c.args.e.0 c.args.name.now walk c.args.value c.requires.bound c.throw_without_cause.new.labels c.throw_without_cause.ensures.kept c.assign.new.self c.throw_without_cause.new.world c.throw_without_cause.result c.in-Err-Immutable.ensures.assigns.unchanged refused (error_recast g.L.Labels.made g.L.Labels.meaning c.throw_without_cause.new.labels (λ reading x. tt) (λ reading. read_putting reading) kinds.TypeError (λ reading. []) (with_records c.assign.new.self c.args.world.now) c.throw_without_cause.new.world c.throw_without_cause.result c.throw_without_cause.ensures.made (c.throw_without_cause.ensures.acts One (λ reading x. tt)))

use Rattle.origin_labels.specs.Label.{union}
use Rattle.native_protocol.specs.declared.request.ErrorKind.TheVariants as kinds
use Rattle.es_meaning.specs.Operations.{One}
use Rattle.run_state.specs.Accesses.{read_putting}
use Rattle.run_state.proofs.ActLaws.{Belongs-later}
use Rattle.property_access.proofs.MeansLaws.{means_later}
use Rattle.property_access.proofs.ObjectLaws.{put_refused}
use Rattle.property_access.proofs.ThrowLaws.{error_recast}
use Rattle.property_access.proofs.putting.refuse.Goals as goal

pub returns-in_err-cause-clause-belongs : goal.returns-in_err-cause-clause-belongs
returns-in_err-cause-clause-belongs g c = Belongs-later g.L.Labels.made g.L.Labels.meaning g.L.Labels.room g.L.Labels.firm c.args.labels.now c.join.new.labels c.join.ensures.kept g.met.L.Labels.rising c.args.world.now c.requires.belongs

pub throw_error-requires-clause-belongs : goal.throw_error-requires-clause-belongs
throw_error-requires-clause-belongs g c = Belongs-later g.L.Labels.made g.L.Labels.meaning g.L.Labels.room g.L.Labels.firm c.args.labels.now c.join.new.labels c.join.ensures.kept g.met.L.Labels.rising c.args.world.now c.requires.belongs

pub returns-clause-acts : goal.returns-clause-acts
returns-clause-acts g c =
    λ rule o key base value.
    put_refused g.L.Labels.made g.L.Labels.meaning c.throw_error.new.labels c.args.world.now rule key o c.args.label c.args.walk c.in_ok-cause.cause base value c.throw_error.new.world c.throw_error.result
    (means_later g.L.Labels.made g.L.Labels.meaning g.L.Labels.room g.L.Labels.firm c.join.new.labels c.throw_error.new.labels c.throw_error.ensures.kept c.in_ok-cause.cause (λ reading. union (reading c.args.label) (reading c.args.walk)) c.in_ok-cause.ensures.means)
    (error_recast g.L.Labels.made g.L.Labels.meaning c.throw_error.new.labels (λ reading x. tt) (λ reading. read_putting reading) kinds.TypeError (λ reading. reading c.in_ok-cause.cause) c.args.world.now c.throw_error.new.world c.throw_error.result c.throw_error.ensures.made (c.throw_error.ensures.acts One (λ reading x. tt)))

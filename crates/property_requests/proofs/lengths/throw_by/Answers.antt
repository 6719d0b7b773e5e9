use Rattle.js_values.specs.Readings.{read_value}
use Rattle.es_meaning.specs.Operations.{Value}
use Rattle.run_state.proofs.ActLaws.{Belongs-later}
use Rattle.property_access.proofs.MeansLaws.{means_later}
use Rattle.property_requests.proofs.LengthLaws.{throws_both}
use Rattle.property_requests.proofs.lengths.throw_by.Goals as goal

pub returns-in_err-cause-clause-belongs : goal.returns-in_err-cause-clause-belongs
returns-in_err-cause-clause-belongs g c = Belongs-later g.L.Labels.made g.L.Labels.meaning g.L.Labels.room g.L.Labels.firm c.args.labels.now c.join.new.labels c.join.ensures.kept g.met.L.Labels.rising c.args.world.now c.requires.belongs

pub throw_error-requires-clause-belongs : goal.throw_error-requires-clause-belongs
throw_error-requires-clause-belongs g c = Belongs-later g.L.Labels.made g.L.Labels.meaning g.L.Labels.room g.L.Labels.firm c.args.labels.now c.join.new.labels c.in_ok-cause.ensures.kept g.met.L.Labels.rising c.args.world.now c.requires.belongs

pub returns-clause-acts : goal.returns-clause-acts
returns-clause-acts g c =
    throws_both g.L.Labels.made g.L.Labels.meaning c.throw_error.new.labels c.args.world.now c.throw_error.new.world c.args.first c.args.second c.in_ok-cause.cause c.throw_error.result
    (means_later g.L.Labels.made g.L.Labels.meaning g.L.Labels.room g.L.Labels.firm c.join.new.labels c.throw_error.new.labels c.throw_error.ensures.kept c.in_ok-cause.cause _ c.in_ok-cause.ensures.means)
    (c.throw_error.ensures.acts Value (λ reading. read_value reading))

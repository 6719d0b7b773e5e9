use Rattle.run_state.proofs.ActLaws.{Belongs-later}
use Rattle.property_access.proofs.MeansLaws.{means_later}
use Rattle.property_requests.proofs.DefiningLaws.{refused_as}
use Rattle.property_requests.proofs.defining.refuse.Goals as goal

pub returns-in_err-cause-clause-belongs : goal.returns-in_err-cause-clause-belongs
returns-in_err-cause-clause-belongs g c = Belongs-later g.L.Labels.made g.L.Labels.meaning g.L.Labels.room g.L.Labels.firm c.args.labels.now c.cause_of.new.labels c.cause_of.ensures.kept g.met.L.Labels.rising c.args.world.now c.requires.belongs

pub throw_error-requires-clause-belongs : goal.throw_error-requires-clause-belongs
throw_error-requires-clause-belongs g c = Belongs-later g.L.Labels.made g.L.Labels.meaning g.L.Labels.room g.L.Labels.firm c.args.labels.now c.cause_of.new.labels c.in_ok-cause.ensures.kept g.met.L.Labels.rising c.args.world.now c.requires.belongs

pub returns-clause-acts : goal.returns-clause-acts
returns-clause-acts g c = λ t read.
    refused_as g.L.Labels.made g.L.Labels.meaning c.throw_error.new.labels c.args.world.now c.throw_error.new.world c.throw_error.result read c.in_ok-cause.cause _
    (means_later g.L.Labels.made g.L.Labels.meaning g.L.Labels.room g.L.Labels.firm c.cause_of.new.labels c.throw_error.new.labels c.throw_error.ensures.kept c.in_ok-cause.cause _ c.in_ok-cause.ensures.means)
    (c.throw_error.ensures.acts t read)

use Rattle.step_core.proofs.Continued.{resumes_prepared}
use Rattle.step_core.proofs.resuming.resume_leading.Goals as goal

pub returns-clause-resumes : goal.returns-clause-resumes
returns-clause-resumes g c tables inputs set functions natives =
    resumes_prepared g.L.Labels.made g.L.Labels.meaning c.lead_on.new.labels g.L.Labels.room g.L.Labels.firm c.args.labels.now c.args.work c.args.stack.now c.prepare.new.stack c.lead_on.new.stack c.args.world.now c.lead_on.new.world c.lead_on.result
    c.lead_on.ensures.kept c.prepare.ensures.tasks c.in_ok-prepare.ensures.same tables inputs set functions natives (c.lead_on.ensures.resumes tables inputs set functions natives)

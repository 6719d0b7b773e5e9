use Rattle.step_core.proofs.Continued.{resumes_prepared}
use Rattle.step_core.proofs.resuming.resume_scoped.Goals as goal

pub returns-clause-resumes : goal.returns-clause-resumes
returns-clause-resumes g c tables inputs set functions natives =
    resumes_prepared g.L.Labels.made g.L.Labels.meaning c.go_on_scoped.new.labels g.L.Labels.room g.L.Labels.firm c.args.labels.now c.args.work c.args.stack.now c.prepare.new.stack c.go_on_scoped.new.stack c.args.world.now c.go_on_scoped.new.world c.go_on_scoped.result
    c.go_on_scoped.ensures.kept c.prepare.ensures.tasks c.in_ok-prepare.ensures.same tables inputs set functions natives (c.go_on_scoped.ensures.resumes tables inputs set functions natives)

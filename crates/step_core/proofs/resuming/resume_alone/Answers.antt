use Rattle.origin_labels.proofs.StoreLaws.{IsKept-refl}
use Rattle.step_core.proofs.Continued.{resumes_prepared}
use Rattle.step_core.proofs.resuming.resume_alone.Goals as goal

pub returns-clause-resumes : goal.returns-clause-resumes
returns-clause-resumes g c tables inputs set functions natives =
    resumes_prepared g.L.Labels.made g.L.Labels.meaning c.args.labels.now g.L.Labels.room g.L.Labels.firm c.args.labels.now c.args.work c.args.stack.now c.prepare.new.stack c.go_on_quietly.new.stack c.args.world.now c.args.world.now c.go_on_quietly.result
    (IsKept-refl g.L.Labels.made g.L.Labels.meaning g.L.Labels.room g.L.Labels.firm c.args.labels.now) c.prepare.ensures.tasks c.in_ok-prepare.ensures.same tables inputs set functions natives (c.go_on_quietly.ensures.resumes tables inputs set functions natives)

use Rattle.std.proofs.Common.{subst, ap, ◌∙◌, IfOk}
use Rattle.step_core.specs.RemainingRun.{ahead, remaining_run}
use Rattle.step_core.specs.Stepping.{Stepped, handed}
use Rattle.step_core.proofs.StepLaws.{handed_is}
use Rattle.step_core.proofs.stepping.hand_on.Goals as goal

pub returns-clause-stepped : goal.returns-clause-stepped
returns-clause-stepped g c inputs set functions tells asks =
    let old = c.args.progress.now in
    subst (λ move. IfOk c.go_on.result (Stepped g.L.Labels.made g.L.Labels.meaning c.go_on.new.labels c.args.policy.now inputs set functions tells asks (λ reading. remaining_run c.args.policy.now inputs set functions tells asks reading old move) (ahead old move) c.go_on.new.progress))
    (ap handed c.gives_value.ensures ∙ handed_is c.args.next c.requires.hands) (c.go_on.ensures.stepped inputs set functions tells asks)

use Rattle.std.proofs.Common.{ap, ◌∙◌}
use Rattle.std.proofs.Common.{sym}
use Rattle.es_meaning.specs.Outcomes.{halted, left}
use Rattle.flow_meaning.specs.Scopes.{as_plain}
use Rattle.continuations.specs.declared.continuation.Control.TheVariants as control
use Rattle.step_core.specs.declared.steps.Ending.TheVariants as ending
use Rattle.step_core.specs.RemainingRun.{ahead, remaining_run}
use Rattle.step_core.proofs.StepLaws.{ends_steps, left_alone}
use Rattle.step_core.proofs.leaving.leave.Goals as goal

pub returns-clause-stepped : goal.returns-clause-stepped
returns-clause-stepped g c tables inputs set functions tells asks =
    let old = c.args.progress.now in
    ends_steps g.L.Labels.made g.L.Labels.meaning c.args._labels.now tables inputs set functions tells asks (λ reading told. remaining_run tables inputs set functions tells asks reading old (control.Leave c.args.why) told) (record old { stack = c.leaving.new.stack }) (ahead old (control.Leave c.args.why)) (ending.Left c.in_ok-why.why) tt
    (λ reading told. left_alone tables inputs set functions tells asks reading old c.args.why told ∙ ap (λ name. record { lines = told; ending = halted (as_plain (left name)) }) (sym (c.in_ok-why.ensures reading)))

use Rattle.std.proofs.Common.{◌-◌, length}
use Rattle.js_values.specs.Readings.{HasValue}
use Rattle.continuations.specs.Kept.{kept_operands}
use Rattle.step_core.proofs.Asking.{asked_steps, unasked}
use Rattle.step_core.proofs.Parts.{behind_all}
use Rattle.step_core.proofs.Requested.{asked_standing}
use Rattle.step_core.proofs.StepLaws.{one_less}
use Rattle.step_core.proofs.requesting.request_next.Goals as goal

pub request-moved-requires-clause-made : goal.request-moved-requires-clause-made
request-moved-requires-clause-made g c = let old = c.args.progress.now in behind_all (HasValue (g.L.Labels.made c.args.labels.now)) (kept_operands old.stack.tasks) old.stack.loose c.requires.standing.operands

pub returns-then-progress-eq0-clause-stepped : goal.returns-then-progress-eq0-clause-stepped
returns-then-progress-eq0-clause-stepped g c set functions =
    let N = g.N.Natives in
    let natives = c.args.natives.now in
    unasked g.L.Labels.made g.L.Labels.meaning c.args.labels.now c.args.policy.now c.args.inputs.now set functions (N.after natives) (N.asks natives) c.args.progress.now c.args.count c.requires.standing.natives c.if-progress-eq0.true

pub returns-clause-stepped : goal.returns-clause-stepped
returns-clause-stepped g c set functions =
    let N = g.N.Natives in
    let natives = c.args.natives.now in
    let old = c.args.progress.now in
    let later = c.request-moved.new in
    asked_steps g.L.Labels.made g.L.Labels.meaning later.labels c.args.policy.now c.args.inputs.now set functions (N.after natives) (N.asks natives) old c.args.count c.requires.standing.natives (old.turns - 1) (one_less old.turns c.if-progress-eq0.false) later.stack later.world later.states c.request-moved.result c.asked_step.result c.asked_step.ensures
    c.request-moved.ensures.goes_on
    (asked_standing g.L.Labels.made g.L.Labels.meaning g.L.Labels.room g.L.Labels.firm c.args.labels.now later.labels c.request-moved.ensures.kept old.stack later.stack old.world later.world c.args.count (length old.natives.states) (length later.states.states) c.request-moved.result c.requires.standing c.request-moved.ensures.rests c.request-moved.ensures.stands c.request-moved.ensures.belongs c.request-moved.ensures.grows)
    c.request-moved.ensures.adds c.request-moved.ensures.printed c.request-moved.ensures.stopped

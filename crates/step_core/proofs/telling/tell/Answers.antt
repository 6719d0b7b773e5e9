use Rattle.std.proofs.Common.{◌+◌}
use Rattle.js_values.specs.Readings.{HasValue}
use Rattle.continuations.specs.Kept.{kept_operands}
use Rattle.continuations.specs.Invariant.{given}
use Rattle.step_core.proofs.Asking.{last_of, told_steps}
use Rattle.step_core.proofs.Parts.{behind_all}
use Rattle.step_core.proofs.telling.tell.Goals as goal

pub answered-requires-clause-made : goal.answered-requires-clause-made
answered-requires-clause-made g c = behind_all (HasValue (g.L.Labels.made c.args.labels.now)) (kept_operands c.prepare.new.stack.tasks) c.prepare.new.stack.loose (c.in_ok-prepare.ensures.made c.requires.standing.operands)

pub returns-clause-stepped : goal.returns-clause-stepped
returns-clause-stepped g c tables inputs set functions tells asks =
    let old = c.args.progress.now in
    let last = last_of c.prepare.new.stack.loose c.args.count c.in_ok-prepare.ensures.loose in
    told_steps g.L.Labels.made g.L.Labels.meaning c.args.labels.now tables inputs set functions tells asks old c.args.count c.args.to c.prepare.new.stack c.answered.new.stack c.tell.new.self last.0 last.1 c.in-Request.count (c.args.count + given c.args.gave)
    c.requires.standing c.requires.natives c.prepare.ensures.tasks last.2 last.3
    (λ reading e s read. c.in_ok-prepare.ensures.same tables inputs set functions reading e s read)
    (rw c.in-Request.is at c.in_ok-count.ensures.goes_on) c.answered.ensures.tasks (rw c.in-Request.is at c.in_ok-count.ensures.values) c.in_ok-count.ensures.made
    c.tell.ensures.states (c.tell.ensures.told tells asks)

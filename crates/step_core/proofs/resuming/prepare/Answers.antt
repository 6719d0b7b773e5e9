use Rattle.std.proofs.Common.{sym, ap, ◌∙◌, ◌+◌}
use Rattle.es_meaning.specs.Plain.{undefined}
use Rattle.continuations.specs.Pending.{owns}
use Rattle.continuations.specs.Invariant.{given}
use Rattle.step_core.proofs.Continued.{forgotten}
use Rattle.step_core.proofs.Resumed.{operands_below, operands_laid}
use Rattle.step_core.proofs.resuming.prepare.Goals as goal

pub returns-in_ok-lay-clause-made : goal.returns-in_ok-lay-clause-made
returns-in_ok-lay-clause-made g c all =
    operands_laid (g.L.Labels.made c.args.labels.now) c.args.stack.now c.lay.new.self (record { value = undefined; label = c.bottom.result }) c.lay.ensures.tasks c.in_ok-lay.ensures.laid c.bottom.ensures.made all

pub returns-then-gave-2-clause-same : goal.returns-then-gave-2-clause-same
returns-then-gave-2-clause-same g c tables inputs set functions reading e s read =
    forgotten tables inputs set functions reading c.args.work c.args.stack.now.loose c.forget.new.self.loose e s (sym c.waits_for_a_value.ensures ∙ ap given c.if-waits_for_a_value.false) (c.requires.loose ∙ ap (λ b. owns c.args.work + given b) c.if-gave-2.true) c.forget.ensures.rest

pub returns-then-gave-2-clause-made : goal.returns-then-gave-2-clause-made
returns-then-gave-2-clause-made g c all =
    operands_below (g.L.Labels.made c.args.labels.now) c.args.stack.now c.forget.new.self _ c.forget.ensures.tasks c.forget.ensures.rest all

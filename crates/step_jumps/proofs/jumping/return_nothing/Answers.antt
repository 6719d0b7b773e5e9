use Rattle.std.proofs.Common.{◌∙◌}
use Rattle.continuations.specs.declared.continuation.Jump.TheVariants as jumps
use Rattle.continuations.specs.declared.continuation.Control.TheVariants as control
use Rattle.continuations.specs.Going.{here}
use Rattle.continuations.specs.Pending.{setting_above}
use Rattle.continuations.specs.Settings.{setting_of}
use Rattle.step_jumps.proofs.Places.{call_is}
use Rattle.step_jumps.proofs.Moved.{begins_laid, reads_later, returns_to, standing_laid}
use Rattle.step_jumps.proofs.jumping.return_nothing.Goals as goal

pub issue-requires : goal.issue-requires
issue-requires g c = record { standing = standing_laid g.L.Labels.made g.L.Labels.meaning c.args.labels.now c.args.stack.now c.lay_nothing.new.stack c.args.world.now control.Return (λ frames scopes framed. framed) c.requires.standing c.lay_nothing.ensures.tasks c.in_ok-lay_nothing.ensures.laid }

pub returns-clause-begins : goal.returns-clause-begins
returns-clause-begins g c = λ tables inputs set functions natives.
    begins_laid g.L.Labels.made g.L.Labels.meaning c.issue.new.labels tables inputs set functions natives (jumps.Returns c.args.to) control.Return c.args.stack.now c.lay_nothing.new.stack c.args.world.now c.issue.new.world c.issue.result
    c.lay_nothing.ensures.tasks (reads_later g.L.Labels.made g.L.Labels.meaning g.L.Labels.room g.L.Labels.firm c.args.labels.now c.issue.new.labels c.issue.ensures.kept c.lay_nothing.new.stack.loose c.in_ok-lay_nothing.ensures.laid)
    (returns_to g.L.Labels.made g.L.Labels.meaning c.issue.new.labels tables inputs set functions natives c.args.to (setting_above c.args.stack.now.tasks (setting_of natives here)) (call_is c.args.stack.now.tasks natives ∙ c.requires.aim))
    (c.issue.ensures.issues tables inputs set functions natives)

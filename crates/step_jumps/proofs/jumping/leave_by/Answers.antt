use Rattle.std.proofs.Common.{sym, ap, ◌∙◌, map}
use Rattle.js_ast.specs.Views.{view_name}
use Rattle.js_values.specs.Readings.{read_value}
use Rattle.es_meaning.specs.Evaluation.{text_of_label}
use Rattle.run_state.specs.Worlds.{state_of}
use Rattle.continuations.specs.declared.continuation.Jump.TheVariants as jumps
use Rattle.continuations.specs.declared.continuation.Control.TheVariants as control
use Rattle.continuations.specs.Going.{here}
use Rattle.continuations.specs.Pending.{behind, setting_above}
use Rattle.continuations.specs.Settings.{setting_of}
use Rattle.step_jumps.proofs.Places.{around_is}
use Rattle.step_jumps.proofs.Moved.{begins_laid, reads_later, leaves_nothing, leaves_to, standing_laid}
use Rattle.step_jumps.proofs.jumping.leave_by.Goals as goal

pub returns-in_default-clause-begins : goal.returns-in_default-clause-begins
returns-in_default-clause-begins g c = λ tables inputs set functions natives reading told turns is.
    let old = c.args.stack.now in
    let vs = map (read_value reading) old.loose in
    ap (behind tables inputs set functions reading old.tasks (setting_of natives here)) (leaves_nothing g.L.Labels.made g.L.Labels.meaning c.args.labels.now tables inputs set functions natives c.args.turn c.args.label (setting_above old.tasks (setting_of natives here)) (around_is old.tasks natives c.args.turn (text_of_label (view_name c.args.label.now)) ∙ sym c.requires.aim ∙ c.in_default.is) vs vs (state_of reading c.args.world.now told turns))

pub issue-requires : goal.issue-requires
issue-requires g c = record { standing = standing_laid g.L.Labels.made g.L.Labels.meaning c.args.labels.now c.args.stack.now c.lay_nothing.new.stack c.args.world.now (control.Break c.args.turn c.args.label) (λ frames scopes framed. framed) c.requires.standing c.lay_nothing.ensures.tasks c.in_ok-lay_nothing.ensures.laid }

pub returns-clause-begins : goal.returns-clause-begins
returns-clause-begins g c = λ tables inputs set functions natives.
    begins_laid g.L.Labels.made g.L.Labels.meaning c.issue.new.labels tables inputs set functions natives (jumps.Leaves c.in-Some.count c.in-Some.to) (control.Break c.args.turn c.args.label) c.args.stack.now c.lay_nothing.new.stack c.args.world.now c.issue.new.world c.issue.result
    c.lay_nothing.ensures.tasks (reads_later g.L.Labels.made g.L.Labels.meaning g.L.Labels.room g.L.Labels.firm c.args.labels.now c.issue.new.labels c.issue.ensures.kept c.lay_nothing.new.stack.loose c.in_ok-lay_nothing.ensures.laid)
    (leaves_to g.L.Labels.made g.L.Labels.meaning c.issue.new.labels tables inputs set functions natives c.args.turn c.args.label c.in-Some.count c.in-Some.to (setting_above c.args.stack.now.tasks (setting_of natives here)) (around_is c.args.stack.now.tasks natives c.args.turn (text_of_label (view_name c.args.label.now)) ∙ sym c.requires.aim ∙ c.in-Some.is))
    (c.issue.ensures.issues tables inputs set functions natives)

use Rattle.std.proofs.Common.{refl, [], map}
use Rattle.js_values.specs.Readings.{read_value}
use Rattle.continuations.specs.declared.continuation.Control.TheVariants as control
use Rattle.continuations.specs.Kept.{scopes_of}
use Rattle.continuations.specs.Pending.{setting_above, next_plan}
use Rattle.continuations.specs.Going.{here}
use Rattle.continuations.specs.Settings.{setting_of}
use Rattle.step_core.proofs.Begun.{comes_anywhere}
use Rattle.step_core.proofs.Stood.{standing_stays, standing_whole}
use Rattle.step_core.proofs.entering.begin_text.Goals as goal

pub returns-clause-begins : goal.returns-clause-begins
returns-clause-begins g c tables inputs set functions natives =
    comes_anywhere g.L.Labels.made g.L.Labels.meaning c.args.labels.now tables inputs set functions natives (λ tables inputs set functions e. next_plan tables inputs set functions (control.Text c.args.units) [] e)
    (λ reading s. next_plan tables inputs set functions (control.Text c.args.units) (map (read_value reading) c.args.stack.now.loose) (setting_above c.args.stack.now.tasks (setting_of natives here)) s) c.args.stack.now c.text.new.stack c.args._world.now c.in_ok-next.next (λ reading s. refl) c.in_ok-next.ensures.goes_on

pub returns-clause-standing : goal.returns-clause-standing
returns-clause-standing g c =
    standing_stays g.L.Labels.made g.L.Labels.meaning g.L.Labels.room g.L.Labels.firm c.args.labels.now c.args.stack.now c.text.new.stack c.args._world.now c.in_ok-next.next (standing_whole g.L.Labels.made g.L.Labels.meaning c.args.labels.now c.args.stack.now c.args._world.now (scopes_of c.args.stack.now.tasks) (control.Text c.args.units) (λ frames scopes whole. whole) refl c.requires.standing) c.in_ok-next.ensures.rests

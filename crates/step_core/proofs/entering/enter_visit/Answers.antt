use Rattle.std.proofs.Common.{refl, map, Ok}
use Rattle.js_values.specs.Readings.{read_value}
use Rattle.flow_meaning.specs.Planned.{a_visit, plan}
use Rattle.run_state.specs.Worlds.{state_of}
use Rattle.continuations.specs.declared.continuation.Control.TheVariants as control
use Rattle.continuations.specs.Kept.{scopes_of}
use Rattle.continuations.specs.Pending.{setting_above, visit_of}
use Rattle.continuations.specs.Going.{here}
use Rattle.continuations.specs.Settings.{setting_of}
use Rattle.step_core.proofs.Begun.{entered_by}
use Rattle.step_core.proofs.Stood.{standing_opened, standing_whole}
use Rattle.step_core.proofs.entering.enter_visit.Goals as goal

pub returns-clause-enters : goal.returns-clause-enters
unfolding plan
returns-clause-enters g c tables inputs set functions natives part is =
    let stack = c.args.stack.now in
    entered_by g.L.Labels.made g.L.Labels.meaning c.begin_visit.new.labels tables inputs set functions natives stack c.begin_visit.new.stack c.args.world.now (record c.args.world.now { frames = c.begin_visit.new.frames }) (control.Visit c.args.enumeration c.args.count)
    (λ reading. a_visit (visit_of c.args.enumeration c.args.count (map (read_value reading) stack.loose)) (setting_above stack.tasks (setting_of natives here)).env) part (Ok c.in_ok-next.next) (λ reading. refl) is
    (λ reading told turns read. c.in_ok-next.ensures.goes_on tables inputs set functions reading (setting_of natives here) (state_of reading c.args.world.now told turns) read)

pub returns-clause-standing : goal.returns-clause-standing
returns-clause-standing g c =
    standing_opened g.L.Labels.made g.L.Labels.meaning g.L.Labels.room g.L.Labels.firm c.args.labels.now c.begin_visit.new.labels c.begin_visit.ensures.kept c.args.stack.now c.begin_visit.new.stack c.args.world.now c.begin_visit.new.frames c.in_ok-next.next
    (standing_whole g.L.Labels.made g.L.Labels.meaning c.args.labels.now c.args.stack.now c.args.world.now (scopes_of c.args.stack.now.tasks) (control.Visit c.args.enumeration c.args.count) (λ frames scopes whole. whole) refl c.requires.standing) c.in_ok-next.ensures.opened c.begin_visit.ensures.belongs c.len-depth.ensures.catch

use Rattle.std.proofs.Common.{refl, Ok}
use Rattle.es_meaning.specs.Evaluation.{turn_step}
use Rattle.flow_meaning.specs.Planned.{a_turn, asking, plan, planned}
use Rattle.continuations.specs.declared.continuation.Control.TheVariants as control
use Rattle.continuations.specs.Kept.{scopes_of}
use Rattle.continuations.specs.Pending.{setting_above}
use Rattle.continuations.specs.Shapes.{round_of}
use Rattle.continuations.specs.Going.{here}
use Rattle.continuations.specs.Settings.{entrance, setting_of}
use Rattle.step_core.proofs.Begun.{comes_in, entered_by}
use Rattle.step_core.proofs.Stood.{standing_opened, standing_whole}
use Rattle.step_core.proofs.entering.enter_turn.Goals as goal

pub returns-clause-enters : goal.returns-clause-enters
unfolding plan
returns-clause-enters g c tables inputs set functions natives part is =
    entered_by g.L.Labels.made g.L.Labels.meaning c.begin_turn.new.labels tables inputs set functions natives c.args.stack.now c.begin_turn.new.stack c.args.world.now (record c.args.world.now { frames = c.begin_turn.new.frames }) (control.Turn c.args.round) (λ reading. a_turn (round_of c.args.round) (setting_above c.args.stack.now.tasks (setting_of natives here)).env) part (Ok c.in_ok-next.next) (λ reading. refl) is
    (comes_in g.L.Labels.made g.L.Labels.meaning c.begin_turn.new.labels tables inputs set functions natives (λ tables inputs set functions e. turn_step (planned tables inputs set functions) (entrance tables inputs set functions) (asking tables inputs set functions) (round_of c.args.round) e.env)
    (λ reading s. plan tables inputs set functions (a_turn (round_of c.args.round) (setting_above c.args.stack.now.tasks (setting_of natives here)).env) s) c.args.stack.now c.begin_turn.new.stack c.args.world.now c.begin_turn.new.frames c.in_ok-next.next (λ reading s. refl) c.requires.standing.values c.in_ok-next.ensures.goes_on)

pub returns-clause-standing : goal.returns-clause-standing
returns-clause-standing g c =
    standing_opened g.L.Labels.made g.L.Labels.meaning g.L.Labels.room g.L.Labels.firm c.args.labels.now c.begin_turn.new.labels c.begin_turn.ensures.kept c.args.stack.now c.begin_turn.new.stack c.args.world.now c.begin_turn.new.frames c.in_ok-next.next
    (standing_whole g.L.Labels.made g.L.Labels.meaning c.args.labels.now c.args.stack.now c.args.world.now (scopes_of c.args.stack.now.tasks) (control.Turn c.args.round) (λ frames scopes whole. whole) refl c.requires.standing) c.in_ok-next.ensures.opened c.begin_turn.ensures.belongs c.len-depth.ensures.catch

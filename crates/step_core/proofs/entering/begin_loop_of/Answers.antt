use Rattle.std.proofs.Common.{refl, map}
use Rattle.js_values.specs.Readings.{read_value}
use Rattle.flow_meaning.specs.Planned.{asking, planned}
use Rattle.continuations.specs.declared.continuation.Control.TheVariants as control
use Rattle.es_meaning.specs.Evaluation.{loop}
use Rattle.continuations.specs.Kept.{scopes_of}
use Rattle.continuations.specs.Pending.{setting_above, next_plan}
use Rattle.continuations.specs.Shapes.{round_of}
use Rattle.continuations.specs.Going.{here}
use Rattle.continuations.specs.Settings.{entrance, setting_of}
use Rattle.step_core.proofs.Begun.{comes_in}
use Rattle.step_core.proofs.Stood.{standing_opened, standing_whole}
use Rattle.step_core.proofs.entering.begin_loop_of.Goals as goal

pub returns-clause-begins : goal.returns-clause-begins
returns-clause-begins g c tables inputs set functions natives =
    comes_in g.L.Labels.made g.L.Labels.meaning c.begin_loop.new.labels tables inputs set functions natives (λ tables inputs set functions e. loop (planned tables inputs set functions) (entrance tables inputs set functions) (asking tables inputs set functions) (round_of c.args.round) e.env)
    (λ reading s. next_plan tables inputs set functions (control.Loop c.args.round) (map (read_value reading) c.args.stack.now.loose) (setting_above c.args.stack.now.tasks (setting_of natives here)) s) c.args.stack.now c.begin_loop.new.stack c.args.world.now c.begin_loop.new.frames c.in_ok-next.next (λ reading s. refl) c.requires.standing.values c.in_ok-next.ensures.goes_on

pub returns-clause-standing : goal.returns-clause-standing
returns-clause-standing g c =
    standing_opened g.L.Labels.made g.L.Labels.meaning g.L.Labels.room g.L.Labels.firm c.args.labels.now c.begin_loop.new.labels c.begin_loop.ensures.kept c.args.stack.now c.begin_loop.new.stack c.args.world.now c.begin_loop.new.frames c.in_ok-next.next
    (standing_whole g.L.Labels.made g.L.Labels.meaning c.args.labels.now c.args.stack.now c.args.world.now (scopes_of c.args.stack.now.tasks) (control.Loop c.args.round) (λ frames scopes whole. whole) refl c.requires.standing) c.in_ok-next.ensures.opened c.begin_loop.ensures.belongs c.len-depth.ensures.catch

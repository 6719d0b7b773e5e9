use Rattle.std.proofs.Common.{refl, map, arith}
use Rattle.js_ast.specs.Views.{view_expr}
use Rattle.js_values.specs.Readings.{HasValue, read_value}
use Rattle.flow_meaning.specs.Planned.{a_use, plan}
use Rattle.continuations.specs.declared.continuation.Control.TheVariants as control
use Rattle.continuations.specs.Kept.{kept_operands, scopes_of}
use Rattle.continuations.specs.Pending.{setting_above}
use Rattle.continuations.specs.Shapes.{use_of}
use Rattle.continuations.specs.Going.{here}
use Rattle.continuations.specs.Settings.{setting_of}
use Rattle.step_core.proofs.Continued.{place_present}
use Rattle.step_core.proofs.Begun.{entered_by}
use Rattle.step_core.proofs.Parts.{behind_all}
use Rattle.step_core.proofs.Moves.{adds_moved, standing_moved}
use Rattle.step_core.proofs.Stood.{standing_whole}
use Rattle.step_core.proofs.entering.enter_use.Goals as goal

pub begin_use-requires-clause-made : goal.begin_use-requires-clause-made
begin_use-requires-clause-made g c = behind_all (HasValue (g.L.Labels.made c.args.labels.now)) (kept_operands c.args.stack.now.tasks) c.args.stack.now.loose c.requires.standing.operands

pub returns-clause-enters : goal.returns-clause-enters
unfolding plan
returns-clause-enters g c tables inputs set functions natives part is =
    let stack = c.args.stack.now in
    entered_by g.L.Labels.made g.L.Labels.meaning c.begin_use.new.labels tables inputs set functions natives stack c.begin_use.new.stack c.args.world.now c.begin_use.new.world (control.Use c.args.how c.args.target)
    (λ reading. a_use (use_of c.args.how (map (read_value reading) stack.loose)) (view_expr c.args.target.now) (setting_above stack.tasks (setting_of natives here)).env.place) part c.begin_use.result (λ reading. refl) is
    (λ reading told turns read. c.begin_use.ensures.goes_on.begins tables inputs set functions reading (setting_of natives here) told turns read (place_present c.args.stack.now.tasks natives c.in_ok-place.place.0 c.in_ok-place.ensures.place))

pub returns-clause-standing : goal.returns-clause-standing
returns-clause-standing g c =
    standing_moved g.L.Labels.made g.L.Labels.meaning g.L.Labels.room g.L.Labels.firm c.args.labels.now c.begin_use.new.labels c.begin_use.ensures.kept 16 c.args.stack.now c.begin_use.new.stack c.args.world.now c.begin_use.new.world c.begin_use.result
    (standing_whole g.L.Labels.made g.L.Labels.meaning c.args.labels.now c.args.stack.now c.args.world.now (scopes_of c.args.stack.now.tasks) (control.Use c.args.how c.args.target) (λ frames scopes whole. whole) refl c.requires.standing) c.begin_use.ensures.moved c.begin_use.ensures.belongs c.begin_use.ensures.grows

pub returns-clause-adds : goal.returns-clause-adds
returns-clause-adds g c = adds_moved (g.L.Labels.made c.begin_use.new.labels) 16 c.args.stack.now c.begin_use.new.stack c.args.world.now c.begin_use.new.world 17 c.begin_use.result (omega arith) c.begin_use.ensures.moved

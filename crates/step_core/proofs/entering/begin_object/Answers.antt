use Rattle.std.proofs.Common.{refl, arith}
use Rattle.js_values.specs.Readings.{HasValue}
use Rattle.continuations.specs.declared.continuation.Control.TheVariants as control
use Rattle.continuations.specs.Going.{here}
use Rattle.continuations.specs.Kept.{kept_operands, scopes_of}
use Rattle.continuations.specs.Settings.{setting_of}
use Rattle.step_core.proofs.Continued.{place_present}
use Rattle.step_core.proofs.Moves.{lowers_moved, standing_moved}
use Rattle.step_core.proofs.Parts.{behind_all}
use Rattle.step_core.proofs.Stood.{standing_whole}
use Rattle.step_core.proofs.entering.begin_object.Goals as goal

pub object-requires-clause-made : goal.object-requires-clause-made
object-requires-clause-made g c = behind_all (HasValue (g.L.Labels.made c.args.labels.now)) (kept_operands c.args.stack.now.tasks) c.args.stack.now.loose c.requires.standing.operands

pub returns-clause-begins : goal.returns-clause-begins
returns-clause-begins g c tables inputs set natives reading told turns read = c.object.ensures.goes_on.builds tables inputs set reading (setting_of natives here) told turns read (place_present c.args.stack.now.tasks natives c.in_ok-place.place.0 c.in_ok-place.ensures.place)

pub returns-clause-standing : goal.returns-clause-standing
returns-clause-standing g c =
    standing_moved g.L.Labels.made g.L.Labels.meaning g.L.Labels.room g.L.Labels.firm c.args.labels.now c.object.new.labels c.object.ensures.kept 6 c.args.stack.now c.object.new.stack c.args.world.now c.object.new.world c.object.result
    (standing_whole g.L.Labels.made g.L.Labels.meaning c.args.labels.now c.args.stack.now c.args.world.now (scopes_of c.args.stack.now.tasks) (control.Object c.args.list c.args.count) (λ frames scopes whole. whole) refl c.requires.standing) c.object.ensures.moved c.object.ensures.belongs c.object.ensures.grows

pub returns-clause-lowers : goal.returns-clause-lowers
returns-clause-lowers g c = lowers_moved (g.L.Labels.made c.object.new.labels) 6 c.args.stack.now c.object.new.stack c.args.world.now c.object.new.world (control.Object c.args.list c.args.count) c.object.result (omega arith) c.object.ensures.moved

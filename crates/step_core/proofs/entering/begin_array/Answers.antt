use Rattle.std.proofs.Common.{refl, arith}
use Rattle.js_values.specs.Readings.{HasValue}
use Rattle.continuations.specs.declared.continuation.Control.TheVariants as control
use Rattle.continuations.specs.Going.{here}
use Rattle.continuations.specs.Kept.{kept_operands, scopes_of}
use Rattle.continuations.specs.Settings.{setting_of}
use Rattle.step_core.proofs.Moves.{lowers_moved, standing_moved}
use Rattle.step_core.proofs.Parts.{behind_all}
use Rattle.step_core.proofs.Stood.{standing_whole}
use Rattle.step_core.proofs.entering.begin_array.Goals as goal

pub array-requires-clause-made : goal.array-requires-clause-made
array-requires-clause-made g c = behind_all (HasValue (g.L.Labels.made c.args.labels.now)) (kept_operands c.args.stack.now.tasks) c.args.stack.now.loose c.requires.standing.operands

pub returns-clause-begins : goal.returns-clause-begins
returns-clause-begins g c tables inputs set functions natives reading told turns read = c.array.ensures.goes_on.begins tables inputs set functions reading (setting_of natives here) told turns read

pub returns-clause-standing : goal.returns-clause-standing
returns-clause-standing g c =
    standing_moved g.L.Labels.made g.L.Labels.meaning g.L.Labels.room g.L.Labels.firm c.args.labels.now c.array.new.labels c.array.ensures.kept 6 c.args.stack.now c.array.new.stack c.args.world.now c.array.new.world c.array.result
    (standing_whole g.L.Labels.made g.L.Labels.meaning c.args.labels.now c.args.stack.now c.args.world.now (scopes_of c.args.stack.now.tasks) (control.Array c.args.list c.args.count) (λ frames scopes whole. whole) refl c.requires.standing) c.array.ensures.moved c.array.ensures.belongs c.array.ensures.grows

pub returns-clause-lowers : goal.returns-clause-lowers
returns-clause-lowers g c = lowers_moved (g.L.Labels.made c.array.new.labels) 6 c.args.stack.now c.array.new.stack c.args.world.now c.array.new.world (control.Array c.args.list c.args.count) c.array.result (omega arith) c.array.ensures.moved

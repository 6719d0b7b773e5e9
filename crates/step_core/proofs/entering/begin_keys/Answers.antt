use Rattle.std.proofs.Common.{refl, arith}
use Rattle.js_values.specs.Readings.{HasValue}
use Rattle.continuations.specs.declared.continuation.Control.TheVariants as control
use Rattle.continuations.specs.Kept.{kept_operands, scopes_of}
use Rattle.continuations.specs.Going.{here}
use Rattle.continuations.specs.Settings.{setting_of}
use Rattle.step_core.proofs.Begun.{lowers}
use Rattle.step_core.proofs.Parts.{behind_all}
use Rattle.step_core.proofs.Stood.{standing_acts, standing_whole}
use Rattle.step_core.proofs.entering.begin_keys.Goals as goal

pub take_keys-requires-clause-made : goal.take_keys-requires-clause-made
take_keys-requires-clause-made g c = behind_all (HasValue (g.L.Labels.made c.args.labels.now)) (kept_operands c.args.stack.now.tasks) c.args.stack.now.loose c.requires.standing.operands

pub returns-clause-begins : goal.returns-clause-begins
returns-clause-begins g c tables inputs set functions natives reading told turns read = c.take_keys.ensures.goes_on tables inputs set functions reading (setting_of natives here) told turns read

pub returns-clause-standing : goal.returns-clause-standing
returns-clause-standing g c =
    standing_acts g.L.Labels.made g.L.Labels.meaning g.L.Labels.room g.L.Labels.firm c.args.labels.now c.take_keys.new.labels c.take_keys.ensures.kept c.args.stack.now c.take_keys.new.stack c.args.world.now c.take_keys.new.world c.take_keys.result
    (standing_whole g.L.Labels.made g.L.Labels.meaning c.args.labels.now c.args.stack.now c.args.world.now (scopes_of c.args.stack.now.tasks) (control.Keys c.args.enumeration) (λ frames scopes whole. whole) refl c.requires.standing) c.take_keys.ensures.rests c.take_keys.ensures.stands c.take_keys.ensures.belongs c.take_keys.ensures.grows

pub returns-clause-lowers : goal.returns-clause-lowers
returns-clause-lowers g c = lowers c.args.stack.now c.take_keys.new.stack (control.Keys c.args.enumeration) 7 c.take_keys.result (omega arith) c.take_keys.ensures.adds

use Rattle.std.proofs.Common.{refl, arith}
use Rattle.js_values.specs.Readings.{HasValue}
use Rattle.continuations.specs.declared.continuation.Control.TheVariants as control
use Rattle.continuations.specs.Kept.{kept_operands, scopes_of}
use Rattle.continuations.specs.Going.{here}
use Rattle.continuations.specs.Settings.{setting_of}
use Rattle.step_core.proofs.Begun.{lowers}
use Rattle.step_core.proofs.Parts.{behind_all}
use Rattle.step_core.proofs.Stood.{standing_acts, standing_whole}
use Rattle.step_core.proofs.entering.begin_visits.Goals as goal

pub next_visit-requires-clause-made : goal.next_visit-requires-clause-made
next_visit-requires-clause-made g c = behind_all (HasValue (g.L.Labels.made c.args.labels.now)) (kept_operands c.args.stack.now.tasks) c.args.stack.now.loose c.requires.standing.operands

pub returns-clause-begins : goal.returns-clause-begins
returns-clause-begins g c tables inputs set functions natives reading told turns read = c.next_visit.ensures.goes_on tables inputs set functions reading (setting_of natives here) told turns read

pub returns-clause-standing : goal.returns-clause-standing
returns-clause-standing g c =
    standing_acts g.L.Labels.made g.L.Labels.meaning g.L.Labels.room g.L.Labels.firm c.args.labels.now c.next_visit.new.labels c.next_visit.ensures.kept c.args.stack.now c.next_visit.new.stack c.args.world.now c.next_visit.new.world c.next_visit.result
    (standing_whole g.L.Labels.made g.L.Labels.meaning c.args.labels.now c.args.stack.now c.args.world.now (scopes_of c.args.stack.now.tasks) (control.Visits c.args.enumeration c.args.count) (λ frames scopes whole. whole) refl c.requires.standing) c.next_visit.ensures.rests c.next_visit.ensures.stands c.next_visit.ensures.belongs c.next_visit.ensures.grows

pub returns-clause-lowers : goal.returns-clause-lowers
returns-clause-lowers g c = lowers c.args.stack.now c.next_visit.new.stack (control.Visits c.args.enumeration c.args.count) 6 c.next_visit.result (omega arith) c.next_visit.ensures.adds

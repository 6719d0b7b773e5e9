use Rattle.std.proofs.Common.{refl, arith}
use Rattle.continuations.specs.declared.continuation.Control.TheVariants as control
use Rattle.continuations.specs.Kept.{scopes_of}
use Rattle.continuations.specs.Going.{here}
use Rattle.continuations.specs.Settings.{setting_of}
use Rattle.step_core.proofs.Continued.{place_present}
use Rattle.step_core.proofs.Moves.{lowers_moved, standing_moved}
use Rattle.step_core.proofs.Stood.{standing_whole}
use Rattle.run_state.proofs.ActLaws.{Grows-refl}
use Rattle.step_core.proofs.entering.begin_variables.Goals as goal

pub returns-clause-begins : goal.returns-clause-begins
returns-clause-begins g c tables inputs set functions natives reading told turns read = c.declare.ensures.goes_on.begins tables inputs set functions reading (setting_of natives here) told turns read (place_present c.args.stack.now.tasks natives c.in_ok-place.place.0 c.in_ok-place.ensures.place)

pub returns-clause-standing : goal.returns-clause-standing
returns-clause-standing g c =
    standing_moved g.L.Labels.made g.L.Labels.meaning g.L.Labels.room g.L.Labels.firm c.args.labels.now c.declare.new.labels c.declare.ensures.kept 6 c.args.stack.now c.declare.new.stack c.args.world.now c.args.world.now c.declare.result
    (standing_whole g.L.Labels.made g.L.Labels.meaning c.args.labels.now c.args.stack.now c.args.world.now (scopes_of c.args.stack.now.tasks) (control.Variables c.args.list) (λ frames scopes whole. whole) refl c.requires.standing) c.declare.ensures.moved c.declare.ensures.belongs (Grows-refl c.args.world.now)

pub returns-clause-lowers : goal.returns-clause-lowers
returns-clause-lowers g c = lowers_moved (g.L.Labels.made c.declare.new.labels) 6 c.args.stack.now c.declare.new.stack c.args.world.now c.args.world.now (control.Variables c.args.list) c.declare.result (omega arith) c.declare.ensures.moved

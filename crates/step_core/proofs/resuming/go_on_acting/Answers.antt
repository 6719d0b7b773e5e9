use Rattle.std.proofs.Common.{arith, ◌+◌}
use Rattle.js_values.specs.Readings.{HasValue}
use Rattle.continuations.specs.Kept.{kept_operands, waiting}
use Rattle.continuations.specs.Loads.{weight}
use Rattle.continuations.specs.Pending.{owns}
use Rattle.continuations.specs.Invariant.{awaits}
use Rattle.step_core.proofs.Continued.{goes_acting}
use Rattle.step_core.proofs.Moves.{adds_moved, rests_of, stands_of}
use Rattle.step_core.proofs.Parts.{behind_all}
use Rattle.step_core.proofs.Resumed.{stands_acting}
use Rattle.step_core.proofs.resuming.go_on_acting.Goals as goal

pub act-requires-clause-made : goal.act-requires-clause-made
act-requires-clause-made g c = behind_all (HasValue (g.L.Labels.made c.args.labels.now)) (kept_operands c.args.stack.now.tasks) c.args.stack.now.loose c.requires.standing.operands

pub returns-clause-resumes : goal.returns-clause-resumes
returns-clause-resumes g c tables inputs set functions natives reading told turns read =
    goes_acting g.L.Labels.made g.L.Labels.meaning c.act.new.labels c.args.work c.args.stack.now c.act.new.stack c.args.world.now c.act.new.world c.act.result c.requires.acts c.requires.standing.values c.act.ensures.goes_on tables inputs set functions natives reading told turns read

pub returns-clause-standing : goal.returns-clause-standing
returns-clause-standing g c =
    stands_acting g.L.Labels.made g.L.Labels.meaning g.L.Labels.room g.L.Labels.firm c.args.labels.now c.act.new.labels c.act.ensures.kept c.args.work c.args.stack.now c.act.new.stack c.args.world.now c.act.new.world (owns c.args.work + awaits c.args.work) (waiting c.args.stack.now.tasks) c.act.result
    c.requires.acts c.requires.standing c.act.ensures.belongs c.act.ensures.grows.records (rests_of (g.L.Labels.made c.act.new.labels) (weight c.args.work + 5) c.args.stack.now c.act.new.stack c.args.world.now c.act.new.world c.act.result c.act.ensures.moved) (stands_of (g.L.Labels.made c.act.new.labels) (weight c.args.work + 5) c.args.stack.now c.act.new.stack c.args.world.now c.act.new.world c.act.result c.act.ensures.moved)

pub returns-clause-adds : goal.returns-clause-adds
returns-clause-adds g c = adds_moved (g.L.Labels.made c.act.new.labels) (weight c.args.work + 5) c.args.stack.now c.act.new.stack c.args.world.now c.act.new.world (weight c.args.work + 5) c.act.result (omega arith) c.act.ensures.moved

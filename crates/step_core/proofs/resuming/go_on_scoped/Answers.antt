use Rattle.std.proofs.Common.{arith, ◌+◌}
use Rattle.js_values.specs.Readings.{HasValue}
use Rattle.js_values.proofs.ReadingLaws.{HasHeap-kept, HasRecords-kept}
use Rattle.run_state.specs.Worlds.{state_of}
use Rattle.continuations.specs.Kept.{kept_operands, waiting}
use Rattle.continuations.specs.Pending.{owns}
use Rattle.continuations.specs.Going.{here}
use Rattle.continuations.specs.Settings.{setting_of}
use Rattle.continuations.specs.Invariant.{awaits}
use Rattle.step_core.proofs.Continued.{goes_in}
use Rattle.step_core.proofs.Parts.{behind_all}
use Rattle.step_core.proofs.Resumed.{at_depth, stands_in}
use Rattle.step_core.proofs.resuming.go_on_scoped.Goals as goal

pub go_on_in_frames-requires-clause-made : goal.go_on_in_frames-requires-clause-made
go_on_in_frames-requires-clause-made g c = behind_all (HasValue (g.L.Labels.made c.args.labels.now)) (kept_operands c.args.stack.now.tasks) c.args.stack.now.loose c.requires.standing.operands

pub go_on_in_frames-requires-clause-ends : goal.go_on_in_frames-requires-clause-ends
go_on_in_frames-requires-clause-ends g c depth is = at_depth g.L.Labels.made g.L.Labels.meaning c.args.labels.now c.args.work c.args.stack.now c.args.world.now (owns c.args.work + awaits c.args.work) (waiting c.args.stack.now.tasks) c.requires.standing depth is

pub returns-clause-resumes : goal.returns-clause-resumes
returns-clause-resumes g c tables inputs set functions natives reading told turns read =
    goes_in g.L.Labels.made g.L.Labels.meaning c.go_on_in_frames.new.labels c.args.work c.args.stack.now c.go_on_in_frames.new.stack c.args.world.now.frames.frames c.go_on_in_frames.new.frames.frames c.in_ok-next.next
    c.requires.scoped c.requires.standing.values c.in_ok-next.ensures.goes_on tables inputs set functions reading (setting_of natives here) (state_of reading c.args.world.now told turns) read

pub returns-clause-standing : goal.returns-clause-standing
returns-clause-standing g c =
    let world = c.args.world.now in
    let kept = c.go_on_in_frames.ensures.kept in
    let belongs = c.requires.standing.belongs in
    stands_in g.L.Labels.made g.L.Labels.meaning g.L.Labels.room g.L.Labels.firm c.args.labels.now c.go_on_in_frames.new.labels kept c.args.work c.args.stack.now c.go_on_in_frames.new.stack world (record world { frames = c.go_on_in_frames.new.frames }) (owns c.args.work + awaits c.args.work) (waiting c.args.stack.now.tasks) c.in_ok-next.next
    c.requires.scoped c.requires.standing
    (record {
      frames = c.go_on_in_frames.ensures.belongs;
      catch = c.len-depth.ensures.catch;
      heap = HasHeap-kept g.L.Labels.made g.L.Labels.meaning g.L.Labels.room g.L.Labels.firm c.args.labels.now c.go_on_in_frames.new.labels kept world.heap belongs.heap;
      records = HasRecords-kept g.L.Labels.made g.L.Labels.meaning g.L.Labels.room g.L.Labels.firm c.args.labels.now c.go_on_in_frames.new.labels kept world.records belongs.records;
      started = belongs.started;
    })
    (omega arith) c.in_ok-next.ensures.leaves c.go_on_in_frames.ensures.still c.in_ok-next.ensures.made

use Rattle.std.proofs.Common.{refl, arith, ◌+◌}
use Rattle.origin_labels.proofs.StoreLaws.{IsKept-refl}
use Rattle.run_state.specs.Worlds.{state_of}
use Rattle.continuations.specs.Kept.{waiting}
use Rattle.continuations.specs.Pending.{owns}
use Rattle.continuations.specs.Going.{here}
use Rattle.continuations.specs.Settings.{setting_of}
use Rattle.continuations.specs.Invariant.{awaits}
use Rattle.step_core.proofs.Continued.{goes_alone}
use Rattle.step_core.proofs.Resumed.{stands_alone}
use Rattle.step_core.proofs.resuming.go_on_quietly.Goals as goal

pub returns-clause-resumes : goal.returns-clause-resumes
returns-clause-resumes g c tables inputs set functions natives reading told turns read =
    goes_alone c.args.work c.args.stack.now c.go_on_alone.new.stack c.in_ok-next.next c.requires.acts c.requires.scoped c.requires.leads c.requires.obeys c.requires.asks c.requires.standing.values c.in_ok-next.ensures.goes_on tables inputs set functions reading (setting_of natives here) (state_of reading c.args._world.now told turns)

pub returns-clause-standing : goal.returns-clause-standing
returns-clause-standing g c =
    let kept = IsKept-refl g.L.Labels.made g.L.Labels.meaning g.L.Labels.room g.L.Labels.firm c.args._labels.now in
    stands_alone g.L.Labels.made g.L.Labels.meaning g.L.Labels.room g.L.Labels.firm c.args._labels.now c.args._labels.now kept c.args.work c.args.stack.now c.go_on_alone.new.stack c.args._world.now c.args._world.now (owns c.args.work + awaits c.args.work) (waiting c.args.stack.now.tasks) c.in_ok-next.next
    c.requires.standing c.requires.standing.belongs (omega arith) c.requires.scoped c.requires.leads refl c.in_ok-next.ensures.keeps
